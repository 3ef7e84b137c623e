use Rattle.content.proofs.Segments.{turn_numbers}
use Rattle.content.proofs.measuring.turn_in.Goals as goal

pub returns-then-k-eq0 : goal.returns-then-k-eq0
returns-then-k-eq0 c = search turn_numbers

pub bounds-image-at : goal.bounds-image-at
bounds-image-at c = search turn_numbers

pub returns-then-image-at : goal.returns-then-image-at
returns-then-image-at c = search turn_numbers

pub overflow_sub-k : goal.overflow_sub-k
overflow_sub-k c = search turn_numbers

pub returns-then-most-k : goal.returns-then-most-k
returns-then-most-k c = search turn_numbers

pub returns : goal.returns
returns c = search turn_numbers
