use Rattle.content.proofs.Helds.{summings}
use Rattle.content.proofs.holding.file_held.Goals as goal

pub loop-block-init : goal.loop-block-init
loop-block-init c = search summings

pub overflow_add-end : goal.overflow_add-end
overflow_add-end c = search summings

pub slice_bounds-block_held-end : goal.slice_bounds-block_held-end
slice_bounds-block_held-end c = search summings

pub plus-held-requires : goal.plus-held-requires
plus-held-requires c = search summings

pub loop-block-smaller : goal.loop-block-smaller
loop-block-smaller c = search summings

pub loop-block-preserved : goal.loop-block-preserved
loop-block-preserved c = search summings

pub returns : goal.returns
returns c = search summings
