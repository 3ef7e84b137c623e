use Rattle.output.proofs.Writing.{writes}
use Rattle.listing.proofs.page.put.Goals as goal

pub returns : goal.returns
returns c = search writes
