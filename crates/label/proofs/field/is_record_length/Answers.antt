use Rattle.label.proofs.Composed.{composed}
use Rattle.label.proofs.field.is_record_length.Goals as goal

pub returns-in-Some : goal.returns-in-Some
returns-in-Some c = search composed

pub returns-in-None : goal.returns-in-None
returns-in-None c = search composed
