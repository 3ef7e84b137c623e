use Rattle.volume.proofs.Composed.{composed}
use Rattle.volume.specs.Fault.{later_place}
use Rattle.volume.proofs.fault.later_place.Goals as goal

pub returns : goal.returns
unfolding later_place
returns c = search composed
