use Rattle.content.proofs.Measures.{restings}
use Rattle.content.proofs.measuring.rest_length.Goals as goal

pub unit_next-requires : goal.unit_next-requires
unit_next-requires c = search restings

pub overflow_add-result : goal.overflow_add-result
overflow_add-result c = search restings

pub overflow_add-total : goal.overflow_add-total
overflow_add-total c = search restings

pub loop-unit-preserved : goal.loop-unit-preserved
loop-unit-preserved c = search restings

pub loop-unit-init : goal.loop-unit-init
loop-unit-init c = search restings

pub loop-unit-smaller : goal.loop-unit-smaller
loop-unit-smaller c = search restings

pub returns : goal.returns
returns c = search restings

pub returns-then-room-unit : goal.returns-then-room-unit
returns-then-room-unit c = search restings

pub returns-then-unit-eq3 : goal.returns-then-unit-eq3
returns-then-unit-eq3 c = search restings

pub returns-then-unit-ne2 : goal.returns-then-unit-ne2
returns-then-unit-ne2 c = search restings
