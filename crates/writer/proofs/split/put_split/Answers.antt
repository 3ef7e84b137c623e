use Rattle.writer.proofs.Splits.{splits_goes, splits_more, splits_packable, splits_on, splits_kept_on, splits_short, splits_last, splits_fall}
use Rattle.writer.proofs.split.put_split.Goals as goal

pub put_pieces-t-requires : goal.put_pieces-t-requires
put_pieces-t-requires c = record {
  can_pack = splits_packable _ _ _ _ _ _ _ _ _ _ _ c.loop-c.invariant;
  on_value = splits_on _ _ _ _ _ _ _ _ _ _ _ c.loop-c.invariant;
}

pub shape_of-out-then-pen : goal.shape_of-out-then-pen
shape_of-out-then-pen c =
    splits_kept_on _ _ _ _ _ _ _ _ _ _ _ c.loop-c.invariant _ _
    c.put_pieces-t.ensures

pub returns-then-pen : goal.returns-then-pen
returns-then-pen c =
    splits_short _ _ _ _ _ _ _ _ _ _ _ c.loop-c.invariant _ _
    c.put_pieces-t.ensures c.if-pen.true

pub shape_of-out-then-t-eq0 : goal.shape_of-out-then-t-eq0
shape_of-out-then-t-eq0 c =
    splits_kept_on _ _ _ _ _ _ _ _ _ _ _
    c.loop-c.invariant _ _
    c.put_pieces-t.ensures

pub returns-then-t-eq0 : goal.returns-then-t-eq0
returns-then-t-eq0 c =
    splits_last _ _ _ _ _ _ _ _ _ _ _
    c.loop-c.invariant _ _
    c.put_pieces-t.ensures c.if-pen.false c.if-t-eq0.true

pub next_of-g-requires : goal.next_of-g-requires
next_of-g-requires c =
    splits_goes _ _ _ _ _ _ _ _ _ _ _
    c.loop-c.invariant _ _
    c.put_pieces-t.ensures c.if-pen.false c.if-t-eq0.false

pub loop-c-smaller : goal.loop-c-smaller
loop-c-smaller c =
    splits_fall _ _ _ _ _ _ _ _ _ _ _
    c.loop-c.invariant _ _
    c.put_pieces-t.ensures c.if-pen.false
    c.if-t-eq0.false _ c.next_of-g.ensures.did_segment c.next_of-g.ensures.at_lt_at

pub loop-c-preserved : goal.loop-c-preserved
loop-c-preserved c =
    splits_more _ _ _ _ _ _ _ _ _ _ _
    c.loop-c.invariant _ _
    c.put_pieces-t.ensures c.if-pen.false
    c.if-t-eq0.false _ c.next_of-g.ensures.did_segment
