use Rattle.volume.proofs.Composed.{composed}
use Rattle.volume.proofs.Faults.{is_then}
use Rattle.volume.specs.Fault.{hdr2_fault}
use Rattle.base.proofs.Rules.{ifs}
use Rattle.base.specs.Answer.{fault}
use Rattle.volume.proofs.fault.hdr2_fault.Goals as goal

pub returns-then-continues : goal.returns-then-continues
unfolding hdr2_fault fault
returns-then-continues c = is_then _ _ _ _ (search) (search composed)

pub returns : goal.returns
unfolding hdr2_fault fault
returns c = search ifs
