use Rattle.order.specs.Kind.{is_kind}
use Rattle.order.proofs.Laws.{ands}
use Rattle.order.proofs.is.Goals as goal

pub returns-then-k-family : goal.returns-then-k-family
unfolding is_kind
returns-then-k-family c = search ands

pub returns-else-k-family : goal.returns-else-k-family
unfolding is_kind
returns-else-k-family c = search ands
