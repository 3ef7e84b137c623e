use Rattle.sheet.proofs.Files.{left_more}
use Rattle.sheet.proofs.file.are_legal.Goals as goal

pub loop-count-preserved : goal.loop-count-preserved
loop-count-preserved c =
    left_more _ _ _ _ _ _ _ _ _ _ _ c.loop-count.invariant c.loop-count-test.true c.if-entries-eq0.false c.smaller-size.ensures c.smaller-n.ensures _
    c.in-Some.ensures
