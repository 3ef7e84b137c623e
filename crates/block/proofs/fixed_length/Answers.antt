use Rattle.block.proofs.Places.{fixeds}
use Rattle.block.proofs.fixed_length.Goals as goal

pub returns-then-record_length-eq0 : goal.returns-then-record_length-eq0
returns-then-record_length-eq0 c = search fixeds

pub left_of-requires : goal.left_of-requires
left_of-requires c = search fixeds

pub returns-then-left_of-n : goal.returns-then-left_of-n
returns-then-left_of-n c = search fixeds

pub bounds-s-at : goal.bounds-s-at
bounds-s-at c = search fixeds

pub returns-then-s-at-ne-PAD : goal.returns-then-s-at-ne-PAD
returns-then-s-at-ne-PAD c = search fixeds

pub overflow_add-end : goal.overflow_add-end
overflow_add-end c = search fixeds

pub slice_bounds-chunks_are_padding-count : goal.slice_bounds-chunks_are_padding-count
slice_bounds-chunks_are_padding-count c = search fixeds

pub slice_bounds-chunks_are_padding-start : goal.slice_bounds-chunks_are_padding-start
slice_bounds-chunks_are_padding-start c = search fixeds

pub slice_bounds-chunks_are_padding-end : goal.slice_bounds-chunks_are_padding-end
slice_bounds-chunks_are_padding-end c = search fixeds

pub chunks_are_padding-requires : goal.chunks_are_padding-requires
chunks_are_padding-requires c = search fixeds

pub returns-then-chunks_are_padding : goal.returns-then-chunks_are_padding
returns-then-chunks_are_padding c = search fixeds

pub returns : goal.returns
returns c = search fixeds
