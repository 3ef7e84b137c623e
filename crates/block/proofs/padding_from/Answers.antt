use Rattle.block.proofs.Padding.{paddings}
use Rattle.block.proofs.padding_from.Goals as goal

pub returns-then-s-at : goal.returns-then-s-at
returns-then-s-at c = search paddings

pub slice_bounds-all_padding-count : goal.slice_bounds-all_padding-count
slice_bounds-all_padding-count c = search paddings

pub slice_bounds-all_padding-start : goal.slice_bounds-all_padding-start
slice_bounds-all_padding-start c = search paddings

pub slice_bounds-all_padding-end : goal.slice_bounds-all_padding-end
slice_bounds-all_padding-end c = search paddings

pub all_padding-requires : goal.all_padding-requires
all_padding-requires c = search paddings

pub returns : goal.returns
returns c = search paddings
