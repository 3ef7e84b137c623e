use Rattle.block.proofs.Blocks.{segmented}
use Rattle.block.proofs.segmented_outcome.Goals as goal

pub answer-requires : goal.answer-requires
answer-requires c = search segmented

pub returns-then-block-s : goal.returns-then-block-s
returns-then-block-s c = search segmented

pub segment_at-unit-requires : goal.segment_at-unit-requires
segment_at-unit-requires c = search segmented

pub enum_known-unit : goal.enum_known-unit
enum_known-unit c = search segmented

pub in_turn-requires : goal.in_turn-requires
in_turn-requires c = search segmented

pub open_after-held-requires : goal.open_after-held-requires
open_after-held-requires c = search segmented

pub overflow_add-at : goal.overflow_add-at
overflow_add-at c = search segmented

pub overflow_add-at-then-in_turn : goal.overflow_add-at-then-in_turn
overflow_add-at-then-in_turn c = search segmented

pub answer-requires-then-s-at : goal.answer-requires-then-s-at
answer-requires-then-s-at c = search segmented

pub returns-then-s-at : goal.returns-then-s-at
returns-then-s-at c = search segmented

pub segments_outcome-requires : goal.segments_outcome-requires
segments_outcome-requires c = search segmented

pub returns-then-in_turn : goal.returns-then-in_turn
returns-then-in_turn c = search segmented

pub segments_outcome-requires-in-Some : goal.segments_outcome-requires-in-Some
segments_outcome-requires-in-Some c = search segmented

pub answer-requires-in-None : goal.answer-requires-in-None
answer-requires-in-None c = search segmented

pub returns-else-in_turn : goal.returns-else-in_turn
returns-else-in_turn c = search segmented

pub returns-in-None : goal.returns-in-None
returns-in-None c = search segmented
