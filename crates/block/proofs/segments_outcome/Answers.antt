use Rattle.block.proofs.Turns.{turnings}
use Rattle.block.proofs.segments_outcome.Goals as goal

pub loop-indicator-init : goal.loop-indicator-init
loop-indicator-init c = search turnings

pub segment_at-unit-requires : goal.segment_at-unit-requires
segment_at-unit-requires c = search turnings

pub enum_known-unit : goal.enum_known-unit
enum_known-unit c = search turnings

pub in_turn-requires : goal.in_turn-requires
in_turn-requires c = search turnings

pub segments_cut-requires : goal.segments_cut-requires
segments_cut-requires c = search turnings

pub answer-requires : goal.answer-requires
answer-requires c = search turnings

pub returns-then-segments_cut : goal.returns-then-segments_cut
returns-then-segments_cut c = search turnings

pub answer-requires-then-not-in_turn : goal.answer-requires-then-not-in_turn
answer-requires-then-not-in_turn c = search turnings

pub returns-then-not-in_turn : goal.returns-then-not-in_turn
returns-then-not-in_turn c = search turnings

pub open_after-held-requires : goal.open_after-held-requires
open_after-held-requires c = search turnings

pub overflow_add-at : goal.overflow_add-at
overflow_add-at c = search turnings

pub overflow_add-at-in-Some : goal.overflow_add-at-in-Some
overflow_add-at-in-Some c = search turnings

pub loop-indicator-smaller : goal.loop-indicator-smaller
loop-indicator-smaller c = search turnings

pub loop-indicator-preserved : goal.loop-indicator-preserved
loop-indicator-preserved c = search turnings

pub answer-requires-then-at-from : goal.answer-requires-then-at-from
answer-requires-then-at-from c = search turnings

pub returns-then-at-from : goal.returns-then-at-from
returns-then-at-from c = search turnings

pub padding_from-requires : goal.padding_from-requires
padding_from-requires c = search turnings

pub answer-requires-then-padding_from : goal.answer-requires-then-padding_from
answer-requires-then-padding_from c = search turnings

pub returns-then-padding_from : goal.returns-then-padding_from
returns-then-padding_from c = search turnings

pub answer-requires-in-None : goal.answer-requires-in-None
answer-requires-in-None c = search turnings

pub returns-in-None : goal.returns-in-None
returns-in-None c = search turnings
