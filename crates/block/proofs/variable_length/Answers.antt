use Rattle.block.proofs.Places.{variables}
use Rattle.block.proofs.variable_length.Goals as goal

pub left_of-left-requires : goal.left_of-left-requires
left_of-left-requires c = search variables

pub returns-then-left-lt4 : goal.returns-then-left-lt4
returns-then-left-lt4 c = search variables

pub bounds-s-at : goal.bounds-s-at
bounds-s-at c = search variables

pub overflow_add-at : goal.overflow_add-at
overflow_add-at c = search variables

pub bounds-s-at-2 : goal.bounds-s-at-2
bounds-s-at-2 c = search variables

pub overflow_add-at-2 : goal.overflow_add-at-2
overflow_add-at-2 c = search variables

pub bounds-s-at-3 : goal.bounds-s-at-3
bounds-s-at-3 c = search variables

pub overflow_add-at-3 : goal.overflow_add-at-3
overflow_add-at-3 c = search variables

pub bounds-s-at-4 : goal.bounds-s-at-4
bounds-s-at-4 c = search variables

pub measured_length-requires : goal.measured_length-requires
measured_length-requires c = search variables

pub four_digits-requires : goal.four_digits-requires
four_digits-requires c = search variables

pub returns-in-None : goal.returns-in-None
returns-in-None c = search variables

pub returns-in-Some : goal.returns-in-Some
returns-in-Some c = search variables
