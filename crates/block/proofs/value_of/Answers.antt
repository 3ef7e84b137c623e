use Rattle.block.proofs.Places.{digit}
use Rattle.block.proofs.value_of.Goals as goal

pub overflow_sub-result : goal.overflow_sub-result
overflow_sub-result c = search digit

pub overflow_cast-result : goal.overflow_cast-result
overflow_cast-result c = search digit

pub returns : goal.returns
returns c = search digit
