use Rattle.writer.proofs.Steps.{part_closable, spelled_kept, part_over, part_in, part_kept, part_closed}
use Rattle.writer.proofs.pack.put_part.Goals as goal

pub close-pen-requires : goal.close-pen-requires
close-pen-requires c =
    part_closable _ _ _ _
    c.requires _ _
    c.spell-t.ensures

pub shape_of-out-then-t-gt0 : goal.shape_of-out-then-t-gt0
shape_of-out-then-t-gt0 c =
    part_kept _ _ _ _ c.requires _ _ c.spell-t.ensures _ _ c.close-pen.ensures

pub returns-then-t-gt0 : goal.returns-then-t-gt0
returns-then-t-gt0 c =
    part_closed _ _ _ _ c.requires _ _ c.spell-t.ensures _ _ c.close-pen.ensures c.if-t-eq0.true c.if-t-gt0.true

pub shape_of-out-else-t-gt0 : goal.shape_of-out-else-t-gt0
shape_of-out-else-t-gt0 c =
    spelled_kept _ _ _ _ c.requires _ _
    c.spell-t.ensures

pub returns-else-t-gt0 : goal.returns-else-t-gt0
returns-else-t-gt0 c =
    part_over _ _ _ _ c.requires _ _
    c.spell-t.ensures c.if-t-gt0.false

pub shape_of-out-else-t-eq0 : goal.shape_of-out-else-t-eq0
shape_of-out-else-t-eq0 c =
    spelled_kept _ _ _ _ c.requires _ _
    c.spell-t.ensures

pub returns-else-t-eq0 : goal.returns-else-t-eq0
returns-else-t-eq0 c =
    part_in _ _ _ _ c.requires _ _ c.spell-t.ensures c.if-t-eq0.false
