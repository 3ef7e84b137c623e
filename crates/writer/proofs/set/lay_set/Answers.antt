use Rattle.writer.proofs.Sets.{along_closing, along_sheeted, begun_along, along_all_kept}
use Rattle.writer.proofs.Origins.{turn_small, turn_countable, turn_enterable, turn_ready, turn_more, turn_falls}
use Rattle.writer.proofs.set.lay_set.Goals as goal

pub loop-g-init : goal.loop-g-init
loop-g-init c =
    begun_along _ _ _ _ _ _ _ _ _ _ c.requires _ _
    (c.begin_set-pen.ensures.value, c.begin_set-pen.ensures.out_after)

pub cursor_at-c-requires : goal.cursor_at-c-requires
cursor_at-c-requires c =
    turn_countable _ _ _ _ _ _ _ _ _ _ _ _ _ _ c.loop-g.invariant c.loop-g-test.true

pub entered-made-requires : goal.entered-made-requires
entered-made-requires c =
    turn_enterable _ _ _ _ _ _ _ _ _ _ _ _ _ _ c.loop-g.invariant c.loop-g-test.true

pub put_file-x-requires : goal.put_file-x-requires
put_file-x-requires c =
    turn_ready _ _ _ _ _ _ _ _ _ _ _ _ _ _ c.loop-g.invariant
    c.loop-g-test.true _ c.cursor_at-c.ensures _
    c.entered-made.ensures

pub behind-g-requires : goal.behind-g-requires
behind-g-requires c =
    turn_small _ _ _ _ _ _ _ _ _ _ _ _ _ _ c.loop-g.invariant
    c.loop-g-test.true

pub loop-g-smaller : goal.loop-g-smaller
loop-g-smaller c =
    turn_falls _ _ _ _ _ _ _ _ _ _ _ _ _ _
    c.loop-g.invariant
    c.loop-g-test.true _
    c.cursor_at-c.ensures _
    c.entered-made.ensures _ _
    c.put_file-x.ensures _ c.behind-g.ensures

pub loop-g-preserved : goal.loop-g-preserved
loop-g-preserved c =
    turn_more _ _ _ _ _ _ _ _ _ _ _ _ _ _
    c.loop-g.invariant
    c.loop-g-test.true _
    c.cursor_at-c.ensures _
    c.entered-made.ensures _ _
    c.put_file-x.ensures _ c.behind-g.ensures

pub end_set-requires : goal.end_set-requires
end_set-requires c =
    along_closing _ _ _ _ _ _ _ _ _ _
    c.requires _ _
    (c.begin_set-pen.ensures.value, c.begin_set-pen.ensures.out_after) _ _ c.loop-g.invariant
    c.loop-g-test.false

pub shape_of-out : goal.shape_of-out
shape_of-out c =
    along_all_kept _ _ _ _ _ _ _ _ _ _
    c.requires _ _ (c.begin_set-pen.ensures.value, c.begin_set-pen.ensures.out_after) _ _ c.loop-g.invariant c.loop-g-test.false _ _ c.end_set.ensures

pub returns : goal.returns
returns c =
    along_sheeted _ _ _ _ _ _ _ _ _ _
    c.requires _ _ (c.begin_set-pen.ensures.value, c.begin_set-pen.ensures.out_after) _ _ c.loop-g.invariant c.loop-g-test.false _ _ c.end_set.ensures
