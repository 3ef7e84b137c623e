use Rattle.content.proofs.Joins.{joinings}
use Rattle.content.proofs.join.copy_rest.Goals as goal

pub returns-then-unit-eq3 : goal.returns-then-unit-eq3
returns-then-unit-eq3 c = search joinings

pub overflow_add-at : goal.overflow_add-at
overflow_add-at c = search joinings

pub loop-unit-smaller : goal.loop-unit-smaller
loop-unit-smaller c = search joinings

pub loop-unit-preserved : goal.loop-unit-preserved
loop-unit-preserved c = search joinings

pub returns : goal.returns
returns c = search joinings
