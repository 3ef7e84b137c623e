use Rattle.output.proofs.Writing.{writes}
use Rattle.output.specs.Text.{bytes}
use Rattle.listing.specs.Text.{counted}
use Rattle.listing.proofs.line.put_counts.Goals as goal

pub put_number-first-requires : goal.put_number-first-requires
put_number-first-requires c = search writes

pub put_number-second-requires : goal.put_number-second-requires
put_number-second-requires c = search writes

pub put-requires : goal.put-requires
put-requires c = search writes

pub shape_of-out : goal.shape_of-out
shape_of-out c = search writes

pub returns : goal.returns
unfolding counted bytes
returns c = search writes
