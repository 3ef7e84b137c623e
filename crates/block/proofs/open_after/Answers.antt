use Rattle.base.proofs.Rules.{ifs}
use Rattle.block.specs.Turn.{open_after}
use Rattle.block.proofs.open_after.Goals as goal

pub overflow_add-result : goal.overflow_add-result
overflow_add-result c = search ifs

pub returns-then-indicator-eq1 : goal.returns-then-indicator-eq1
unfolding open_after
returns-then-indicator-eq1 c = search ifs

pub overflow_add-result-then-indicator-eq2 : goal.overflow_add-result-then-indicator-eq2
overflow_add-result-then-indicator-eq2 c = search ifs

pub returns-then-indicator-eq2 : goal.returns-then-indicator-eq2
unfolding open_after
returns-then-indicator-eq2 c = search ifs

pub returns : goal.returns
unfolding open_after
returns c = search ifs
