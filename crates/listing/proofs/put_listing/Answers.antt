use Rattle.listing.proofs.Lines.{lining}
use Rattle.listing.proofs.put_listing.Goals as goal

pub loop-next-init : goal.loop-next-init
loop-next-init c = search lining

pub loop-next-smaller : goal.loop-next-smaller
loop-next-smaller c = search lining

pub loop-next-preserved : goal.loop-next-preserved
loop-next-preserved c = search lining

pub returns : goal.returns
returns c = search lining
