use Rattle.simh.proofs.Storing.{stores}
use Rattle.simh.proofs.import.put_reels.Goals as goal

pub loop-n-init : goal.loop-n-init
loop-n-init c = search stores

pub overflow_add-end : goal.overflow_add-end
overflow_add-end c = search stores

pub slice_bounds-put_reel-end : goal.slice_bounds-put_reel-end
slice_bounds-put_reel-end c = search stores

pub put_reel-to-requires : goal.put_reel-to-requires
put_reel-to-requires c = search stores

pub loop-n-preserved : goal.loop-n-preserved
loop-n-preserved c = search stores
