use Rattle.reader.proofs.Places.{places}
use Rattle.reader.proofs.count.Goals as goal

pub returns : goal.returns
returns c = search places
