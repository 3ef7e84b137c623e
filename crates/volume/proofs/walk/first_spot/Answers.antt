use Rattle.volume.proofs.WholeWalks.{walks}
use Rattle.volume.proofs.walk.first_spot.Goals as goal

pub returns : goal.returns
returns c = search walks
