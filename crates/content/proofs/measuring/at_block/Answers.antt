use Rattle.content.proofs.Wholes.{heads}
use Rattle.content.proofs.measuring.at_block.Goals as goal

pub returns-then-w-ne0 : goal.returns-then-w-ne0
returns-then-w-ne0 c = search heads

pub returns-then-n-w : goal.returns-then-n-w
returns-then-n-w c = search heads

pub overflow_add-w : goal.overflow_add-w
overflow_add-w c = search heads

pub overflow_add-w-in-Block : goal.overflow_add-w-in-Block
overflow_add-w-in-Block c = search heads

pub returns-else-n-w : goal.returns-else-n-w
returns-else-n-w c = search heads

pub returns-in_default : goal.returns-in_default
returns-in_default c = search heads
