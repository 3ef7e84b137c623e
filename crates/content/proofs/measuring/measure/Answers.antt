use Rattle.content.proofs.Wholes.{wholes}
use Rattle.content.proofs.measuring.measure.Goals as goal

pub overflow_add-result : goal.overflow_add-result
overflow_add-result c = search wholes

pub overflow_sub-result : goal.overflow_sub-result
overflow_sub-result c = search wholes

pub overflow_add-v : goal.overflow_add-v
overflow_add-v c = search wholes

pub overflow_sub-v : goal.overflow_sub-v
overflow_sub-v c = search wholes

pub returns-then-k-ne0 : goal.returns-then-k-ne0
returns-then-k-ne0 c = search wholes
