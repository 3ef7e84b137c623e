use Rattle.volume.proofs.Composed.{composed}
use Rattle.volume.proofs.Faults.{is_then, is_else}
use Rattle.volume.specs.Fault.{hdr1_fault}
use Rattle.volume.proofs.fault.hdr1_fault.Goals as goal

pub returns-then-continues : goal.returns-then-continues
unfolding hdr1_fault
returns-then-continues c = is_then _ _ _ _ (search) (search composed)

pub returns : goal.returns
unfolding hdr1_fault
returns c = is_else _ _ _ _ (search) (search composed)
