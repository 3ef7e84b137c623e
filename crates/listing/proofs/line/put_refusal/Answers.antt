use Rattle.output.proofs.Writing.{writes}
use Rattle.output.specs.Text.{bytes}
use Rattle.listing.specs.Text.{refusal_line}
use Rattle.listing.proofs.line.put_refusal.Goals as goal

pub overflow_cast-v : goal.overflow_cast-v
overflow_cast-v c = search writes

pub put_number-behind-requires : goal.put_number-behind-requires
put_number-behind-requires c = search writes

pub overflow_cast-v-2 : goal.overflow_cast-v-2
overflow_cast-v-2 c = search writes

pub overflow_cast-v-3 : goal.overflow_cast-v-3
overflow_cast-v-3 c = search writes

pub put_place-requires : goal.put_place-requires
put_place-requires c = search writes

pub shape_of-out : goal.shape_of-out
shape_of-out c = search writes

pub returns : goal.returns
unfolding refusal_line bytes
returns c = search writes
