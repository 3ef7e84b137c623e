use Rattle.output.proofs.Writing.{writes, wrote_four}
use Rattle.output.specs.Text.{bytes}
use Rattle.listing.specs.Text.{named}
use Rattle.listing.proofs.line.put_names.Goals as goal

pub put-first-requires : goal.put-first-requires
put-first-requires c = search writes

pub put-behind-requires : goal.put-behind-requires
put-behind-requires c = search writes

pub put-second-requires : goal.put-second-requires
put-second-requires c = search writes

pub put-requires : goal.put-requires
put-requires c = search writes

pub shape_of-out : goal.shape_of-out
shape_of-out c = search writes

pub returns : goal.returns
unfolding named bytes
returns c = search wrote_four
