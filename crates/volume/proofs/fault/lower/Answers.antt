use Rattle.volume.specs.Fault.{lower}
use Rattle.base.proofs.Rules.{ifs}
use Rattle.volume.proofs.fault.lower.Goals as goal

pub returns-then-a-eq0 : goal.returns-then-a-eq0
unfolding lower
returns-then-a-eq0 c = search ifs

pub returns-then-b-eq0 : goal.returns-then-b-eq0
unfolding lower
returns-then-b-eq0 c = search ifs

pub returns-then-a-b : goal.returns-then-a-b
unfolding lower
returns-then-a-b c = search ifs

pub returns : goal.returns
unfolding lower
returns c = search ifs
