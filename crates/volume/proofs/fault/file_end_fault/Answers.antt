use Rattle.volume.proofs.Composed.{composed}
use Rattle.volume.specs.Fault.{file_end_fault}
use Rattle.volume.proofs.fault.file_end_fault.Goals as goal

pub returns : goal.returns
unfolding file_end_fault
returns c = search composed
