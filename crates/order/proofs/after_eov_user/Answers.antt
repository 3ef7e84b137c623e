use Rattle.order.specs.Due.{due_after, dues, choose}
use Rattle.order.proofs.Laws.{nexts}
use Rattle.order.proofs.after_eov_user.Goals as goal

pub is_user-requires : goal.is_user-requires
is_user-requires c = search nexts

pub overflow_add-result : goal.overflow_add-result
overflow_add-result c = search nexts

pub returns-then-is_user : goal.returns-then-is_user
unfolding due_after dues
returns-then-is_user c = search nexts

pub either-requires : goal.either-requires
either-requires c = search nexts

pub returns : goal.returns
unfolding due_after dues choose
returns c = search nexts
