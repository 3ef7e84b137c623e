use Rattle.volume.proofs.Composed.{composed}
use Rattle.volume.specs.Fault.{trailer2_fault}
use Rattle.volume.proofs.fault.trailer2_fault.Goals as goal

pub returns : goal.returns
unfolding trailer2_fault
returns c = search composed
