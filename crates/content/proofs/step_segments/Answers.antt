use Rattle.content.proofs.Stepping.{steps_begun}
use Rattle.content.proofs.step_segments.Goals as goal

pub overflow_sub-n : goal.overflow_sub-n
overflow_sub-n c = search steps_begun

pub overflow_cast-most : goal.overflow_cast-most
overflow_cast-most c = search steps_begun

pub overflow_add-v : goal.overflow_add-v
overflow_add-v c = search steps_begun

pub overflow_sub-v : goal.overflow_sub-v
overflow_sub-v c = search steps_begun

pub moved-u-requires : goal.moved-u-requires
moved-u-requires c = search steps_begun

pub overflow_sub-most : goal.overflow_sub-most
overflow_sub-most c = search steps_begun

pub rest_length-requires : goal.rest_length-requires
rest_length-requires c = search steps_begun

pub enum_told-1 : goal.enum_told-1
enum_told-1 c = search steps_begun

pub join_from-requires : goal.join_from-requires
join_from-requires c = record { n_in_bounds = search steps_begun; rest_fits = search steps_begun }

pub shape_of-join : goal.shape_of-join
shape_of-join c = search steps_begun

pub returns : goal.returns
returns c = search steps_begun

pub returns-in_default : goal.returns-in_default
returns-in_default c = search steps_begun

pub overflow_add-v-2 : goal.overflow_add-v-2
overflow_add-v-2 c = search steps_begun

pub overflow_add-len : goal.overflow_add-len
overflow_add-len c = search steps_begun

pub returns-then-join-len-clause-value : goal.returns-then-join-len-clause-value
returns-then-join-len-clause-value c = search steps_begun

pub returns-then-join-len-clause-join_after : goal.returns-then-join-len-clause-join_after
returns-then-join-len-clause-join_after c = search steps_begun
