use Rattle.label.proofs.Composed.{composed}
use Rattle.label.specs.Field.{sequence_of}
use Rattle.label.proofs.field.sequence_of.Goals as goal

pub returns : goal.returns
unfolding sequence_of
returns c = search composed
