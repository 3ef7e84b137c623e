use Rattle.label.proofs.Composed.{composed}
use Rattle.label.specs.Field.{set_of}
use Rattle.label.proofs.field.set_of.Goals as goal

pub returns : goal.returns
unfolding set_of
returns c = search composed
