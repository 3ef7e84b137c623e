use Rattle.volume.proofs.Composed.{composed}
use Rattle.volume.proofs.fault.item_fault.Goals as goal

pub returns : goal.returns
returns c = search composed
