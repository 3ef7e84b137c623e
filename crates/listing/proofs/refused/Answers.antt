use Rattle.listing.proofs.Fitting.{fitting}
use Rattle.listing.proofs.refused.Goals as goal

pub returns-then-out-size : goal.returns-then-out-size
returns-then-out-size c = search fitting

pub returns : goal.returns
returns c = search fitting
