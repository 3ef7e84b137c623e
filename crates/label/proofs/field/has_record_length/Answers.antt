use Rattle.label.proofs.Composed.{composed}
use Rattle.label.specs.Field.{has_record_length}
use Rattle.label.proofs.field.has_record_length.Goals as goal

pub returns : goal.returns
unfolding has_record_length
returns c = search composed
