use Rattle.label.proofs.Composed.{composed}
use Rattle.label.specs.Field.{volume_of}
use Rattle.label.proofs.field.volume_of.Goals as goal

pub returns : goal.returns
unfolding volume_of
returns c = search composed
