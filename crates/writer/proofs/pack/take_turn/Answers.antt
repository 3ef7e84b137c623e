use Rattle.writer.proofs.Packs.{turn_partable, turn_in, turn_in_kept, turn_headable, turn_head_kept, turn_head, turn_ready, turn_open_kept, turn_open}
use Rattle.writer.proofs.pack.take_turn.Goals as goal

pub put_part-requires : goal.put_part-requires
put_part-requires c =
    turn_partable _ _ _ _ _ _ _ c.requires c.if-s.true

pub shape_of-out-then-s : goal.shape_of-out-then-s
shape_of-out-then-s c =
    turn_in_kept _ _ _ _ _ _ _ c.requires _ _ c.put_part.ensures

pub returns-then-s : goal.returns-then-s
returns-then-s c =
    turn_in _ _ _ _ _ _ _ c.requires _ _ c.if-s.true c.put_part.ensures

pub put_head-requires : goal.put_head-requires
put_head-requires c =
    turn_headable _ _ _ _ _ _ _ c.requires
    c.if-s.false _ c.enters_on.ensures c.if-enters_on.true

pub shape_of-out-then-enters_on : goal.shape_of-out-then-enters_on
shape_of-out-then-enters_on c =
    turn_head_kept _ _ _ _ _ _ _ c.requires
    c.if-s.false _
    c.enters_on.ensures c.if-enters_on.true _ _
    c.put_head.ensures

pub returns-then-enters_on : goal.returns-then-enters_on
returns-then-enters_on c =
    turn_head _ _ _ _ _ _ _ c.requires
    c.if-s.false _
    c.enters_on.ensures c.if-enters_on.true _ _
    c.put_head.ensures

pub next_block-pen-requires : goal.next_block-pen-requires
next_block-pen-requires c =
    turn_ready _ _ _ _ _ _ _ c.requires
    c.if-s.false _ c.enters_on.ensures c.if-enters_on.false

pub shape_of-out : goal.shape_of-out
shape_of-out c =
    turn_open_kept _ _ _ _ _ _ _
    c.requires
    c.if-s.false _
    c.enters_on.ensures
    c.if-enters_on.false _ _ c.next_block-pen.ensures

pub returns : goal.returns
returns c =
    turn_open _ _ _ _ _ _ _
    c.requires
    c.if-s.false _
    c.enters_on.ensures
    c.if-enters_on.false _ _ c.next_block-pen.ensures
