use Rattle.order.specs.Due.{due_after, dues, choose}
use Rattle.order.proofs.Laws.{nexts}
use Rattle.order.proofs.after_user_volume.Goals as goal

pub is_next-requires : goal.is_next-requires
is_next-requires c = search nexts

pub overflow_add-result : goal.overflow_add-result
overflow_add-result c = search nexts

pub returns-then-is_next : goal.returns-then-is_next
unfolding due_after dues
returns-then-is_next c = search nexts

pub either-requires : goal.either-requires
either-requires c = search nexts

pub returns : goal.returns
unfolding due_after dues choose
returns c = search nexts
