use Rattle.base.proofs.Parts.{counted}
use Rattle.volume.proofs.WholeWalks.{walks}
use Rattle.volume.proofs.walk.walk.Goals as goal

pub first_spot-x-requires : goal.first_spot-x-requires
first_spot-x-requires c = search walks

pub loop-t-init : goal.loop-t-init
loop-t-init c = search walks

pub slice_bounds-volumes-end : goal.slice_bounds-volumes-end
slice_bounds-volumes-end c = search walks

pub slice_bounds-take_turn-end : goal.slice_bounds-take_turn-end
slice_bounds-take_turn-end c = counted _ _ (search walks)

pub past-requires : goal.past-requires
past-requires c = search walks

pub take_turn-t-requires : goal.take_turn-t-requires
take_turn-t-requires c = search walks

pub offset_bounds-volumes-reels : goal.offset_bounds-volumes-reels
offset_bounds-volumes-reels c = search walks

pub bounds-volumes-reels : goal.bounds-volumes-reels
bounds-volumes-reels c = search walks

pub overflow_add-reels : goal.overflow_add-reels
overflow_add-reels c = search walks

pub loop-t-smaller-then-t-2 : goal.loop-t-smaller-then-t-2
loop-t-smaller-then-t-2 c = search walks

pub loop-t-preserved-then-t-2 : goal.loop-t-preserved-then-t-2
loop-t-preserved-then-t-2 c = search walks

pub loop-t-smaller : goal.loop-t-smaller
loop-t-smaller c = search walks

pub loop-t-preserved : goal.loop-t-preserved
loop-t-preserved c = search walks

pub slice_bounds-volumes-end-else-t : goal.slice_bounds-volumes-end-else-t
slice_bounds-volumes-end-else-t c = search walks

pub slice_bounds-ended-end : goal.slice_bounds-ended-end
slice_bounds-ended-end c = counted _ _ (search walks)

pub ended-requires : goal.ended-requires
ended-requires c = search walks

pub returns-else-t : goal.returns-else-t
returns-else-t c = search walks
