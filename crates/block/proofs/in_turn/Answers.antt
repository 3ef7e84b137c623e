use Rattle.block.proofs.Turns.{turns}
use Rattle.block.proofs.in_turn.Goals as goal

pub returns-then-pending-ne0 : goal.returns-then-pending-ne0
returns-then-pending-ne0 c = search turns

pub returns-then-indicator-le1 : goal.returns-then-indicator-le1
returns-then-indicator-le1 c = search turns

pub returns-then-not-head : goal.returns-then-not-head
returns-then-not-head c = search turns

pub returns-then-pending-eq0 : goal.returns-then-pending-eq0
returns-then-pending-eq0 c = search turns

pub returns-then-most-n : goal.returns-then-most-n
returns-then-most-n c = search turns

pub overflow_sub-result : goal.overflow_sub-result
overflow_sub-result c = search turns

pub returns : goal.returns
returns c = search turns
