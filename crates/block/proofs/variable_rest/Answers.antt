use Rattle.block.proofs.Loops.{restings}
use Rattle.block.proofs.variable_rest.Goals as goal

pub loop-record_length-init : goal.loop-record_length-init
loop-record_length-init c = search restings

pub variable_length-n-requires : goal.variable_length-n-requires
variable_length-n-requires c = search restings

pub padding_from-requires : goal.padding_from-requires
padding_from-requires c = search restings

pub returns-then-n-eq0 : goal.returns-then-n-eq0
returns-then-n-eq0 c = search restings

pub overflow_add-at : goal.overflow_add-at
overflow_add-at c = search restings

pub loop-record_length-smaller : goal.loop-record_length-smaller
loop-record_length-smaller c = search restings

pub loop-record_length-preserved : goal.loop-record_length-preserved
loop-record_length-preserved c = search restings
