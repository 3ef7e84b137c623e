use Rattle.volume.proofs.WholeWalks.{pasts}
use Rattle.volume.proofs.walk.past_data.Goals as goal

pub returns : goal.returns
returns c = search pasts
