use Rattle.block.proofs.Rooms.{entering}
use Rattle.block.proofs.room.enters.Goals as goal

pub smaller-requires : goal.smaller-requires
smaller-requires c = search entering

pub has_room-requires : goal.has_room-requires
has_room-requires c = search entering

pub returns-then-f-eq-SEGMENTED : goal.returns-then-f-eq-SEGMENTED
returns-then-f-eq-SEGMENTED c = search entering

pub word_of-requires : goal.word_of-requires
word_of-requires c = search entering

pub has_room-requires-2 : goal.has_room-requires-2
has_room-requires-2 c = search entering

pub returns : goal.returns
returns c = search entering
