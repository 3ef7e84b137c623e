use borrow.Author.Rules.{rules}
use Rattle.content.proofs.Pairs.{two_at, begins_two}
use Rattle.content.proofs.step_begun.Goals as goal

pub overflow_sub-n : goal.overflow_sub-n
overflow_sub-n c = search begins_two

pub overflow_cast-most : goal.overflow_cast-most
overflow_cast-most c = search begins_two

pub overflow_add-v : goal.overflow_add-v
overflow_add-v c = search begins_two

pub overflow_sub-v : goal.overflow_sub-v
overflow_sub-v c = search begins_two

pub moved-u-requires : goal.moved-u-requires
moved-u-requires c = search begins_two

pub at_block-h-requires : goal.at_block-h-requires
at_block-h-requires c = search begins_two

pub overflow_sub-most : goal.overflow_sub-most
overflow_sub-most c = search begins_two

pub turn_in-j-requires : goal.turn_in-j-requires
turn_in-j-requires c = search begins_two

pub step_segments-requires : goal.step_segments-requires
step_segments-requires c = search begins_two

pub shape_of-join-then-j-eq0 : goal.shape_of-join-then-j-eq0
shape_of-join-then-j-eq0 c = search begins_two

pub returns-then-j-eq0 : goal.returns-then-j-eq0
returns-then-j-eq0 c = search begins_two

pub step_two-requires : goal.step_two-requires
step_two-requires c =
    two_at _ _ _ _ _ _ (search rules) c.moved-u.ensures
    c.at_block-h.ensures
    c.turn_in-j.ensures c.if-j-eq0.false

pub shape_of-join : goal.shape_of-join
shape_of-join c = search begins_two

pub returns : goal.returns
returns c = search begins_two
