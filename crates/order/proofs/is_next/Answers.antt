use Rattle.order.proofs.Laws.{ands}
use Rattle.order.proofs.is_next.Goals as goal

pub returns-then-n-lt9 : goal.returns-then-n-lt9
returns-then-n-lt9 c = search ands

pub returns-else-n-lt9 : goal.returns-else-n-lt9
returns-else-n-lt9 c = search ands
