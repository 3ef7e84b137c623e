use Rattle.volume.proofs.Composed.{composed}
use Rattle.volume.specs.Fault.{trailer1_fault}
use Rattle.volume.proofs.fault.trailer1_fault.Goals as goal

pub returns : goal.returns
unfolding trailer1_fault
returns c = search composed
