use Rattle.block.proofs.Blocks.{variables}
use Rattle.block.proofs.is_variable_block.Goals as goal

pub returns-then-block-s : goal.returns-then-block-s
returns-then-block-s c = search variables

pub variable_length-n-requires : goal.variable_length-n-requires
variable_length-n-requires c = search variables

pub returns-then-n-eq0 : goal.returns-then-n-eq0
returns-then-n-eq0 c = search variables

pub overflow_add-at : goal.overflow_add-at
overflow_add-at c = search variables

pub returns-then-s-at : goal.returns-then-s-at
returns-then-s-at c = search variables

pub variable_rest-requires : goal.variable_rest-requires
variable_rest-requires c = search variables

pub returns : goal.returns
returns c = search variables
