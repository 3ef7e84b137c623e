use Rattle.label.proofs.Composed.{composed}
use Rattle.label.specs.Field.{count_of}
use Rattle.label.proofs.field.count_of.Goals as goal

pub returns : goal.returns
unfolding count_of
returns c = search composed
