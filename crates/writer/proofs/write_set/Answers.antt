use borrow.Author.Rules.{rules}
use Rattle.writer.proofs.Answering.{answering, measured_ready, measured_kept, answers_lacking, answers_over, answers_short}
use Rattle.writer.proofs.write_set.Goals as goal

pub shape_of-out-then-m : goal.shape_of-out-then-m
shape_of-out-then-m c =
    measured_kept _ _ _ _ _ c.lay_set-m.ensures

pub returns-then-m : goal.returns-then-m
returns-then-m c =
    answers_lacking _ _ _ _ _ c.lay_set-m.ensures _ c.if-m.true
    c.refusal.ensures

pub shape_of-out-then-end-ge-OVER_LONG : goal.shape_of-out-then-end-ge-OVER_LONG
shape_of-out-then-end-ge-OVER_LONG c =
    measured_kept _ _ _ _ _ c.lay_set-m.ensures

pub returns-then-end-ge-OVER_LONG : goal.returns-then-end-ge-OVER_LONG
returns-then-end-ge-OVER_LONG c =
    answers_over _ _ _ _ _ c.lay_set-m.ensures c.if-m.false _
    c.if-end-ge-OVER_LONG.true c.refusal-then-end-ge-OVER_LONG.ensures

pub shape_of-out-then-out-end : goal.shape_of-out-then-out-end
shape_of-out-then-out-end c =
    measured_kept _ _ _ _ _ c.lay_set-m.ensures

pub returns-then-out-end : goal.returns-then-out-end
returns-then-out-end c =
    search (answers_short _ _ _ _ _ c.lay_set-m.ensures
    c.if-m.false c.if-end-ge-OVER_LONG.false)

pub lay_set-requires : goal.lay_set-requires
lay_set-requires c =
    measured_ready _ _ _ _ _ c.lay_set-m.ensures
    c.if-m.false c.if-end-ge-OVER_LONG.false (search rules)
    c.requires

pub returns : goal.returns
returns c = search answering
