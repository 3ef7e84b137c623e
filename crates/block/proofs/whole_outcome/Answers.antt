use Rattle.base.proofs.Rules.{ifs}
use Rattle.block.proofs.whole_outcome.Goals as goal

pub answer-requires : goal.answer-requires
answer-requires c = search ifs

pub returns-then-pending-eq0 : goal.returns-then-pending-eq0
returns-then-pending-eq0 c = search ifs

pub answer-requires-then-cuts : goal.answer-requires-then-cuts
answer-requires-then-cuts c = search ifs

pub returns-then-cuts : goal.returns-then-cuts
returns-then-cuts c = search ifs

pub answer-requires-2 : goal.answer-requires-2
answer-requires-2 c = search ifs

pub returns : goal.returns
returns c = search ifs
