use Rattle.writer.proofs.NextBlocks.{closable, closed_shut, closed_ready, here_kept, opens_here, next_kept, next_short, next_room, next_few, opens_next}
use Rattle.writer.proofs.pen.next_block.Goals as goal

pub close-c-requires : goal.close-c-requires
close-c-requires c =
    closable _ _ _ _ c.requires

pub shape_of-out-then-c-ne0 : goal.shape_of-out-then-c-ne0
shape_of-out-then-c-ne0 c =
    here_kept _ _ _ _ c.requires _ _
    c.close-c.ensures

pub returns-then-c-ne0 : goal.returns-then-c-ne0
returns-then-c-ne0 c =
    opens_here _ _ _ _ c.requires _ _
    c.close-c.ensures _ c.if-c-ne0.true c.opened.ensures

pub change-d-requires : goal.change-d-requires
change-d-requires c = record {
  on_value = closed_shut _ _ _ _ c.requires _ _ c.close-c.ensures;
  room_value = c.if-c-ne0.false;
  can_open = closed_ready _ _ _ _ c.requires _ _ c.close-c.ensures;
}

pub shape_of-out-then-d : goal.shape_of-out-then-d
shape_of-out-then-d c =
    next_kept _ _ _ _ c.requires _ _ c.close-c.ensures _ _ c.change-d.ensures

pub returns-then-d : goal.returns-then-d
returns-then-d c =
    next_short _ _ _ _ c.requires _ _ c.close-c.ensures _ _ c.change-d.ensures c.if-d.true

pub opened-requires-2 : goal.opened-requires-2
opened-requires-2 c = record {
  le_room = next_room _ _ _ _ c.requires _ _ c.close-c.ensures _ _ c.change-d.ensures c.if-d.false;
  count_bound = next_few _ _ _ _ c.requires _ _ c.close-c.ensures _ _ c.change-d.ensures;
}

pub shape_of-out : goal.shape_of-out
shape_of-out c =
    next_kept _ _ _ _ c.requires _ _ c.close-c.ensures _ _ c.change-d.ensures

pub returns : goal.returns
returns c =
    opens_next _ _ _ _ c.requires _ _ c.close-c.ensures _ _ c.change-d.ensures _ c.if-d.false c.opened-2.ensures
