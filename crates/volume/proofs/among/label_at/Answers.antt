use Rattle.volume.specs.Code.Place.{label_at}
use Rattle.volume.proofs.among.label_at.Goals as goal

pub returns : goal.returns
unfolding label_at
returns c = search
