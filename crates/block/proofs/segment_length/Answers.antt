use Rattle.block.proofs.Places.{segments}
use Rattle.block.proofs.segment_length.Goals as goal

pub left_of-left-requires : goal.left_of-left-requires
left_of-left-requires c = search segments

pub returns-then-left-lt5 : goal.returns-then-left-lt5
returns-then-left-lt5 c = search segments

pub bounds-s-at : goal.bounds-s-at
bounds-s-at c = search segments

pub returns-then-i-lt48 : goal.returns-then-i-lt48
returns-then-i-lt48 c = search segments

pub returns-then-i-gt51 : goal.returns-then-i-gt51
returns-then-i-gt51 c = search segments

pub overflow_add-at : goal.overflow_add-at
overflow_add-at c = search segments

pub bounds-s-at-2 : goal.bounds-s-at-2
bounds-s-at-2 c = search segments

pub overflow_add-at-2 : goal.overflow_add-at-2
overflow_add-at-2 c = search segments

pub bounds-s-at-3 : goal.bounds-s-at-3
bounds-s-at-3 c = search segments

pub overflow_add-at-3 : goal.overflow_add-at-3
overflow_add-at-3 c = search segments

pub bounds-s-at-4 : goal.bounds-s-at-4
bounds-s-at-4 c = search segments

pub overflow_add-at-4 : goal.overflow_add-at-4
overflow_add-at-4 c = search segments

pub bounds-s-at-5 : goal.bounds-s-at-5
bounds-s-at-5 c = search segments

pub measured_length-requires : goal.measured_length-requires
measured_length-requires c = search segments

pub four_digits-requires : goal.four_digits-requires
four_digits-requires c = search segments

pub returns-in-None : goal.returns-in-None
returns-in-None c = search segments

pub returns-in-Some : goal.returns-in-Some
returns-in-Some c = search segments
