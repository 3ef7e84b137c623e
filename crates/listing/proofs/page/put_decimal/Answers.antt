use Rattle.listing.proofs.Decimals.{spelling}
use Rattle.listing.proofs.page.put_decimal.Goals as goal

pub loop-rest-preserved : goal.loop-rest-preserved
loop-rest-preserved c = search spelling

pub returns : goal.returns
returns c = search spelling
