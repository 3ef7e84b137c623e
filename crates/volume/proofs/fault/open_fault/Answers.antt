use Rattle.volume.specs.Fault.{open_fault}
use Rattle.base.proofs.Rules.{ifs}
use Rattle.base.specs.Answer.{fault}
use Rattle.volume.proofs.fault.open_fault.Goals as goal

pub returns-then-pending-eq0 : goal.returns-then-pending-eq0
unfolding open_fault fault
returns-then-pending-eq0 c = search ifs

pub returns : goal.returns
unfolding open_fault fault
returns c = search ifs
