use Rattle.block.proofs.Rooms.{room_for, fives, words}
use Rattle.block.proofs.word.put_word.Goals as goal

pub returns-then-f-eq-FIXED : goal.returns-then-f-eq-FIXED
returns-then-f-eq-FIXED c = search words

pub has_room-requires : goal.has_room-requires
has_room-requires c = search words

pub put_four-requires : goal.put_four-requires
put_four-requires c =
    room_for 4 _ _ _ c.has_room.ensures c.if-has_room.true

pub shape_of-out-then-f-eq-VARIABLE : goal.shape_of-out-then-f-eq-VARIABLE
shape_of-out-then-f-eq-VARIABLE c = search words

pub returns-then-has_room : goal.returns-then-has_room
returns-then-has_room c = search words

pub returns-else-has_room : goal.returns-else-has_room
returns-else-has_room c = search words

pub has_room-requires-2 : goal.has_room-requires-2
has_room-requires-2 c = search words

pub bounds-out-at : goal.bounds-out-at
bounds-out-at c = search fives

pub overflow_add-at : goal.overflow_add-at
overflow_add-at c = search fives

pub put_four-requires-then-has_room-2 : goal.put_four-requires-then-has_room-2
put_four-requires-then-has_room-2 c = search fives

pub shape_of-out : goal.shape_of-out
shape_of-out c = search words

pub returns-then-has_room-2 : goal.returns-then-has_room-2
returns-then-has_room-2 c = search words

pub returns-else-has_room-2 : goal.returns-else-has_room-2
returns-else-has_room-2 c = search words
