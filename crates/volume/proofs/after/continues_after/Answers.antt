use Rattle.base.proofs.Rules.{ifs}
use Rattle.volume.proofs.after.continues_after.Goals as goal

pub returns-then-is : goal.returns-then-is
returns-then-is c = search ifs

pub returns-then-is-2 : goal.returns-then-is-2
returns-then-is-2 c = search ifs

pub returns : goal.returns
returns c = search ifs
