use Rattle.volume.specs.Fault.{crossed}
use Rattle.base.proofs.Rules.{ifs}
use Rattle.base.specs.Answer.{fault}
use Rattle.volume.proofs.fault.crossed.Goals as goal

pub returns-then-bp-eq0 : goal.returns-then-bp-eq0
unfolding crossed fault
returns-then-bp-eq0 c = search ifs

pub returns : goal.returns
unfolding crossed fault
returns c = search ifs
