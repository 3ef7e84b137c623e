use Rattle.label.proofs.Walk.{walked_more, pieces}
use Rattle.label.proofs.rows.first_bad.Goals as goal

pub loop-i-init : goal.loop-i-init
loop-i-init c = search pieces

pub overflow_add-i : goal.overflow_add-i
overflow_add-i c = search pieces

pub bounds-table-i : goal.bounds-table-i
bounds-table-i c = search pieces

pub wide-w-requires : goal.wide-w-requires
wide-w-requires c = search pieces

pub overflow_add-i-in-loop-i : goal.overflow_add-i-in-loop-i
overflow_add-i-in-loop-i c = search pieces

pub bounds-table-i-in-loop-i : goal.bounds-table-i-in-loop-i
bounds-table-i-in-loop-i c = search pieces

pub overflow_add-i-in-loop-i-2 : goal.overflow_add-i-in-loop-i-2
overflow_add-i-in-loop-i-2 c = search pieces

pub bounds-table-i-in-loop-i-2 : goal.bounds-table-i-in-loop-i-2
bounds-table-i-in-loop-i-2 c = search pieces

pub holds-requires : goal.holds-requires
holds-requires c = search pieces

pub overflow_add-at : goal.overflow_add-at
overflow_add-at c = search pieces

pub overflow_add-i-then-holds : goal.overflow_add-i-then-holds
overflow_add-i-then-holds c = search pieces

pub loop-i-smaller : goal.loop-i-smaller
loop-i-smaller c = search pieces

pub loop-i-preserved : goal.loop-i-preserved
loop-i-preserved c =
    let width = c.wide-w.ensures in
    walked_more _ _ _ _ _ _ c.loop-i.invariant c.loop-i-test.true width.0 width.1 c.holds.ensures
    c.if-holds.true

pub overflow_cast-result : goal.overflow_cast-result
overflow_cast-result c = search pieces

pub overflow_add-result : goal.overflow_add-result
overflow_add-result c = search pieces

pub returns-else-holds : goal.returns-else-holds
returns-else-holds c = search pieces

pub returns : goal.returns
returns c = search pieces
