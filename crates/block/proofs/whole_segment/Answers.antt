use Rattle.block.proofs.Wholes.{whole_segments}
use Rattle.block.proofs.whole_segment.Goals as goal

pub segment_length-n-requires : goal.segment_length-n-requires
segment_length-n-requires c = search whole_segments

pub returns-then-n-eq0 : goal.returns-then-n-eq0
returns-then-n-eq0 c = search whole_segments

pub bounds-s-at : goal.bounds-s-at
bounds-s-at c = search whole_segments

pub returns-then-s-at-ne48 : goal.returns-then-s-at-ne48
returns-then-s-at-ne48 c = search whole_segments

pub overflow_sub-n : goal.overflow_sub-n
overflow_sub-n c = search whole_segments

pub returns-then-most-n : goal.returns-then-most-n
returns-then-most-n c = search whole_segments

pub returns : goal.returns
returns c = search whole_segments
