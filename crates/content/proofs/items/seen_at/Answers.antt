use Rattle.content.proofs.Places.{seens}
use Rattle.content.proofs.items.seen_at.Goals as goal

pub returns-then-datum : goal.returns-then-datum
returns-then-datum c = search seens

pub overflow_add-start : goal.overflow_add-start
overflow_add-start c = search seens

pub overflow_add-end : goal.overflow_add-end
overflow_add-end c = search seens

pub slice_bounds-kind-end : goal.slice_bounds-kind-end
slice_bounds-kind-end c = search seens

pub returns-else-datum : goal.returns-else-datum
returns-else-datum c = search seens

pub returns-in-Mark : goal.returns-in-Mark
returns-in-Mark c = search seens

pub returns-in-ReelEnd : goal.returns-in-ReelEnd
returns-in-ReelEnd c = search seens

pub returns-in-Broken : goal.returns-in-Broken
returns-in-Broken c = search seens
