use Rattle.label.proofs.Composed.{composed}
use Rattle.label.specs.Field.{offset_of}
use Rattle.label.proofs.field.offset_length.Goals as goal

pub returns : goal.returns
unfolding offset_of
returns c = search composed
