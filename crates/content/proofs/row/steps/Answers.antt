use Rattle.content.proofs.Rows.{rows}
use Rattle.content.proofs.row.steps.Goals as goal

pub word_of-word-requires : goal.word_of-word-requires
word_of-word-requires c = search rows

pub loop-i-init : goal.loop-i-init
loop-i-init c = search rows

pub row_to-requires : goal.row_to-requires
row_to-requires c = search rows

pub shape_of-places-then-lengths-i : goal.shape_of-places-then-lengths-i
shape_of-places-then-lengths-i c = search rows

pub shape_of-lengths-then-lengths-i : goal.shape_of-lengths-then-lengths-i
shape_of-lengths-then-lengths-i c = search rows

pub returns-then-lengths-i : goal.returns-then-lengths-i
returns-then-lengths-i c = search rows

pub at_block-v-requires : goal.at_block-v-requires
at_block-v-requires c = search rows

pub whole_at-k-requires : goal.whole_at-k-requires
whole_at-k-requires c = search rows

pub overflow_add-places : goal.overflow_add-places
overflow_add-places c = search rows

pub offset_bounds-places-i : goal.offset_bounds-places-i
offset_bounds-places-i c = search rows

pub bounds-places-i : goal.bounds-places-i
bounds-places-i c = search rows

pub overflow_sub-lengths : goal.overflow_sub-lengths
overflow_sub-lengths c = search rows

pub offset_bounds-lengths-i : goal.offset_bounds-lengths-i
offset_bounds-lengths-i c = search rows

pub bounds-lengths-i : goal.bounds-lengths-i
bounds-lengths-i c = search rows

pub overflow_add-i : goal.overflow_add-i
overflow_add-i c = search rows

pub overflow_add-v : goal.overflow_add-v
overflow_add-v c = search rows

pub overflow_sub-v : goal.overflow_sub-v
overflow_sub-v c = search rows

pub moved-w-requires : goal.moved-w-requires
moved-w-requires c = search rows

pub loop-i-smaller-then-k-ne0 : goal.loop-i-smaller-then-k-ne0
loop-i-smaller-then-k-ne0 c = search rows

pub loop-i-preserved-then-k-ne0 : goal.loop-i-preserved-then-k-ne0
loop-i-preserved-then-k-ne0 c = search rows

pub whole_from-requires : goal.whole_from-requires
whole_from-requires c = search rows

pub enum_told-1 : goal.enum_told-1
enum_told-1 c = search rows

pub row_to-requires-in-None : goal.row_to-requires-in-None
row_to-requires-in-None c = search rows

pub shape_of-places-in-None : goal.shape_of-places-in-None
shape_of-places-in-None c = search rows

pub shape_of-lengths-in-None : goal.shape_of-lengths-in-None
shape_of-lengths-in-None c = search rows

pub returns-in-None : goal.returns-in-None
returns-in-None c = record { value = search rows; places_after = search rows; lengths_after = search rows }

pub offset_bounds-places-i-in-Some : goal.offset_bounds-places-i-in-Some
offset_bounds-places-i-in-Some c = search rows

pub bounds-places-i-in-Some : goal.bounds-places-i-in-Some
bounds-places-i-in-Some c = search rows

pub offset_bounds-lengths-i-in-Some : goal.offset_bounds-lengths-i-in-Some
offset_bounds-lengths-i-in-Some c = search rows

pub bounds-lengths-i-in-Some : goal.bounds-lengths-i-in-Some
bounds-lengths-i-in-Some c = search rows

pub overflow_add-i-in-Some : goal.overflow_add-i-in-Some
overflow_add-i-in-Some c = search rows

pub loop-i-smaller : goal.loop-i-smaller
loop-i-smaller c = search rows

pub loop-i-preserved : goal.loop-i-preserved
loop-i-preserved c = search rows

pub row_to-requires-2 : goal.row_to-requires-2
row_to-requires-2 c = search rows

pub shape_of-places : goal.shape_of-places
shape_of-places c = search rows

pub shape_of-lengths : goal.shape_of-lengths
shape_of-lengths c = search rows

pub returns : goal.returns
returns c = search rows
