use Rattle.block.proofs.Padding.{looking}
use Rattle.block.proofs.chunks_are_padding.Goals as goal

pub loop-at-init : goal.loop-at-init
loop-at-init c = search looking

pub overflow_sub-s : goal.overflow_sub-s
overflow_sub-s c = search looking

pub overflow_add-end : goal.overflow_add-end
overflow_add-end c = search looking

pub slice_bounds-chunk_is_padding-count : goal.slice_bounds-chunk_is_padding-count
slice_bounds-chunk_is_padding-count c = search looking

pub slice_bounds-chunk_is_padding-start : goal.slice_bounds-chunk_is_padding-start
slice_bounds-chunk_is_padding-start c = search looking

pub slice_bounds-chunk_is_padding-end : goal.slice_bounds-chunk_is_padding-end
slice_bounds-chunk_is_padding-end c = search looking

pub chunk_is_padding-requires : goal.chunk_is_padding-requires
chunk_is_padding-requires c = search looking

pub returns-then-not-chunk_is_padding : goal.returns-then-not-chunk_is_padding
returns-then-not-chunk_is_padding c = search looking

pub loop-at-smaller : goal.loop-at-smaller
loop-at-smaller c = search looking

pub loop-at-preserved : goal.loop-at-preserved
loop-at-preserved c = search looking

pub slice_bounds-chunk_is_padding-count-2 : goal.slice_bounds-chunk_is_padding-count-2
slice_bounds-chunk_is_padding-count-2 c = search looking

pub slice_bounds-chunk_is_padding-start-2 : goal.slice_bounds-chunk_is_padding-start-2
slice_bounds-chunk_is_padding-start-2 c = search looking

pub slice_bounds-chunk_is_padding-end-2 : goal.slice_bounds-chunk_is_padding-end-2
slice_bounds-chunk_is_padding-end-2 c = search looking

pub chunk_is_padding-requires-2 : goal.chunk_is_padding-requires-2
chunk_is_padding-requires-2 c = search looking

pub returns : goal.returns
returns c = search looking
