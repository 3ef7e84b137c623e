use Rattle.volume.proofs.Composed.{composed}
use Rattle.volume.specs.Fault.{block_fault}
use Rattle.base.specs.Answer.{fault}
use Rattle.volume.proofs.fault.block_fault.Goals as goal

pub returns : goal.returns
unfolding block_fault fault
returns c = search composed
