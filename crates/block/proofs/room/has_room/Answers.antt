use Rattle.block.proofs.Rooms.{rooms}
use Rattle.block.proofs.room.has_room.Goals as goal

pub returns-then-b-u : goal.returns-then-b-u
returns-then-b-u c = search rooms

pub returns-then-b-u-2 : goal.returns-then-b-u-2
returns-then-b-u-2 c = search rooms

pub overflow_sub-b-3 : goal.overflow_sub-b-3
overflow_sub-b-3 c = search rooms

pub returns-then-b-u-3 : goal.returns-then-b-u-3
returns-then-b-u-3 c = search rooms

pub returns : goal.returns
returns c = search rooms
