use Rattle.base.specs.Answer.{or_else}
use Rattle.base.proofs.Rules.{ifs}
use Rattle.volume.proofs.fault.or_else.Goals as goal

pub returns-then-f-eq0 : goal.returns-then-f-eq0
unfolding or_else
returns-then-f-eq0 c = search ifs

pub returns : goal.returns
unfolding or_else
returns c = search ifs
