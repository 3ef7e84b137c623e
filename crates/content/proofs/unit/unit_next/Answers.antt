use Rattle.content.proofs.Segments.{next_segments}
use Rattle.content.proofs.unit.unit_next.Goals as goal

pub bounds-image-at : goal.bounds-image-at
bounds-image-at c = search next_segments

pub overflow_sub-result : goal.overflow_sub-result
overflow_sub-result c = search next_segments

pub overflow_add-result : goal.overflow_add-result
overflow_add-result c = search next_segments

pub overflow_sub-result-then-k-ne0 : goal.overflow_sub-result-then-k-ne0
overflow_sub-result-then-k-ne0 c = search next_segments

pub overflow_add-at : goal.overflow_add-at
overflow_add-at c = search next_segments

pub overflow_sub-v : goal.overflow_sub-v
overflow_sub-v c = search next_segments

pub returns-then-k-ne0 : goal.returns-then-k-ne0
returns-then-k-ne0 c = search next_segments
