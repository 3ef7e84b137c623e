use Rattle.listing.proofs.Fitting.{texts}
use Rattle.listing.proofs.listing.Goals as goal

pub returns-then-v-ne0 : goal.returns-then-v-ne0
returns-then-v-ne0 c = search texts

pub returns : goal.returns
returns c = search texts
