use Rattle.listing.proofs.Lines.{describing}
use Rattle.listing.proofs.line.put_file.Goals as goal

pub returns : goal.returns
returns c = search describing
