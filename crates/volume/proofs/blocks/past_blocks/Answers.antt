use Rattle.volume.proofs.Bodies.{skips}
use Rattle.volume.proofs.blocks.past_blocks.Goals as goal

pub overflow_add-end : goal.overflow_add-end
overflow_add-end c = search skips

pub slice_bounds-outcome_of-end : goal.slice_bounds-outcome_of-end
slice_bounds-outcome_of-end c = search skips

pub loop-h-preserved : goal.loop-h-preserved
loop-h-preserved c = search skips
