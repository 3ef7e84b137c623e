use Rattle.order.specs.Due.{due_after, dues, choose}
use Rattle.order.proofs.Laws.{choose_rest, nexts, choose_two}
use Rattle.order.proofs.after_header.Goals as goal

pub is_next-requires : goal.is_next-requires
is_next-requires c = search nexts

pub overflow_add-result : goal.overflow_add-result
overflow_add-result c = search nexts

pub returns-then-is_next : goal.returns-then-is_next
unfolding due_after dues
returns-then-is_next c = search nexts

pub either-mark-requires : goal.either-mark-requires
either-mark-requires c = search nexts

pub either-requires : goal.either-requires
either-requires c = search nexts

pub returns : goal.returns
unfolding due_after dues choose
returns c =
    choose_rest _ _ _ _ _ c.is_next.result _ (search nexts) (search nexts) (search choose_two)
