use Rattle.base.proofs.Rules.{ifs}
use Rattle.order.specs.Group.{group_after}
use Rattle.order.proofs.group_after.Goals as goal

pub returns-then-group-eq-AMONG_HEADERS : goal.returns-then-group-eq-AMONG_HEADERS
unfolding group_after
returns-then-group-eq-AMONG_HEADERS c = search ifs

pub returns-then-family-eq-TAPE_MARK : goal.returns-then-family-eq-TAPE_MARK
unfolding group_after
returns-then-family-eq-TAPE_MARK c = search ifs

pub returns-then-family-eq-DATA_BLOCK : goal.returns-then-family-eq-DATA_BLOCK
unfolding group_after
returns-then-family-eq-DATA_BLOCK c = search ifs

pub returns-then-family-eq-HDR : goal.returns-then-family-eq-HDR
unfolding group_after
returns-then-family-eq-HDR c = search ifs

pub returns-then-family-eq-UHL : goal.returns-then-family-eq-UHL
unfolding group_after
returns-then-family-eq-UHL c = search ifs

pub returns : goal.returns
unfolding group_after
returns c = search ifs
