use Rattle.reader.proofs.Places.{places}
use Rattle.reader.proofs.begin_at.Goals as goal

pub returns : goal.returns
returns c = search places
