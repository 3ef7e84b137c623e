use Rattle.label.proofs.Composed.{composed}
use Rattle.label.specs.Field.{record_length_of}
use Rattle.label.proofs.field.record_length.Goals as goal

pub returns : goal.returns
unfolding record_length_of
returns c = search composed
