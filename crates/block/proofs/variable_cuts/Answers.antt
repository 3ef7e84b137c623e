use Rattle.block.proofs.Loops.{restings}
use Rattle.block.proofs.variable_cuts.Goals as goal

pub variable_length-n-requires : goal.variable_length-n-requires
variable_length-n-requires c = search restings

pub returns-then-n-eq0 : goal.returns-then-n-eq0
returns-then-n-eq0 c = search restings

pub overflow_add-from : goal.overflow_add-from
overflow_add-from c = search restings

pub variable_rest-requires : goal.variable_rest-requires
variable_rest-requires c = search restings

pub returns : goal.returns
returns c = search restings
