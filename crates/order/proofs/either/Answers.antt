use Rattle.base.proofs.Rules.{ifs}
use Rattle.order.proofs.either.Goals as goal

pub is-requires : goal.is-requires
is-requires c = search ifs

pub returns-then-is : goal.returns-then-is
returns-then-is c = search ifs

pub returns-else-is : goal.returns-else-is
returns-else-is c = search ifs
