use Rattle.output.proofs.Writing.{writes}
use Rattle.output.specs.Text.{bytes}
use Rattle.listing.specs.Text.{heading}
use Rattle.listing.proofs.line.put_heading.Goals as goal

pub put-requires : goal.put-requires
put-requires c = search writes

pub shape_of-out : goal.shape_of-out
shape_of-out c = search writes

pub returns : goal.returns
unfolding heading bytes
returns c = search writes
