use Rattle.writer.proofs.Bodies.{writing_all, writing_takable, writing_more, writing_short}
use Rattle.writer.proofs.body.put_records.Goals as goal

pub returns : goal.returns
returns c = writing_all _ _ _ _ _ _ _ _ _ _ _ _ c.loop-r.invariant c.in_default.ensures _ c.stop_of.ensures

pub put_record-pen-requires : goal.put_record-pen-requires
put_record-pen-requires c = writing_takable _ _ _ _ _ _ _ _ _ _ _ _ c.loop-r.invariant _ c.in-Some.ensures

pub returns-then-pen : goal.returns-then-pen
returns-then-pen c =
    writing_short _ _ _ _ _ _ _ _ _ _ _ _ c.loop-r.invariant _ c.in-Some.ensures _ _ c.put_record-pen.ensures c.if-pen.true

pub loop-r-preserved : goal.loop-r-preserved
loop-r-preserved c =
    writing_more _ _ _ _ _ _ _ _ _ _ _ _ c.loop-r.invariant _ c.in-Some.ensures _ _ c.put_record-pen.ensures _ c.if-pen.false c.moved_to-c.ensures
