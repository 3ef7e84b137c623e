use Rattle.volume.proofs.Composed.{composed}
use Rattle.volume.proofs.walk.lengths_of.Goals as goal

pub returns : goal.returns
returns c = record { format = search; block = search composed; record_length = search composed; offset = search composed }
