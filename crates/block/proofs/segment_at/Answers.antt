use Rattle.block.proofs.Lengths.{segments_of_lem}
use Rattle.block.proofs.segment_at.Goals as goal

pub segment_length-n-requires : goal.segment_length-n-requires
segment_length-n-requires c = search segments_of_lem

pub returns-then-n-eq0 : goal.returns-then-n-eq0
returns-then-n-eq0 c = search segments_of_lem

pub bounds-s-at : goal.bounds-s-at
bounds-s-at c = search segments_of_lem

pub overflow_sub-result : goal.overflow_sub-result
overflow_sub-result c = search segments_of_lem

pub overflow_cast-result : goal.overflow_cast-result
overflow_cast-result c = search segments_of_lem

pub overflow_sub-result-2 : goal.overflow_sub-result-2
overflow_sub-result-2 c = search segments_of_lem

pub returns : goal.returns
returns c = search segments_of_lem
