use Rattle.block.proofs.Rooms.{entering}
use Rattle.block.proofs.room.taken.Goals as goal

pub room-requires : goal.room-requires
room-requires c = search entering

pub smaller-requires : goal.smaller-requires
smaller-requires c = search entering

pub smaller-requires-then-f-eq-SEGMENTED : goal.smaller-requires-then-f-eq-SEGMENTED
smaller-requires-then-f-eq-SEGMENTED c = search entering

pub returns-then-f-eq-SEGMENTED : goal.returns-then-f-eq-SEGMENTED
returns-then-f-eq-SEGMENTED c = search entering

pub returns : goal.returns
returns c = search entering
