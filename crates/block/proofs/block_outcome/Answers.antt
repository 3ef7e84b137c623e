use Rattle.block.proofs.Blocks.{blocks}
use Rattle.block.proofs.block_outcome.Goals as goal

pub segments_block-requires : goal.segments_block-requires
segments_block-requires c = search blocks

pub returns-then-format-eq-SEGMENTED : goal.returns-then-format-eq-SEGMENTED
returns-then-format-eq-SEGMENTED c = search blocks

pub answer-requires : goal.answer-requires
answer-requires c = search blocks

pub returns-then-block-s : goal.returns-then-block-s
returns-then-block-s c = search blocks

pub fixed_cuts-requires : goal.fixed_cuts-requires
fixed_cuts-requires c = search blocks

pub whole_outcome-requires : goal.whole_outcome-requires
whole_outcome-requires c = search blocks

pub returns-then-format-eq-FIXED : goal.returns-then-format-eq-FIXED
returns-then-format-eq-FIXED c = search blocks

pub variable_cuts-requires : goal.variable_cuts-requires
variable_cuts-requires c = search blocks

pub whole_outcome-requires-then-format-eq-VARIABLE : goal.whole_outcome-requires-then-format-eq-VARIABLE
whole_outcome-requires-then-format-eq-VARIABLE c = search blocks

pub returns-then-format-eq-VARIABLE : goal.returns-then-format-eq-VARIABLE
returns-then-format-eq-VARIABLE c = search blocks

pub answer-requires-2 : goal.answer-requires-2
answer-requires-2 c = search blocks

pub returns : goal.returns
returns c = search blocks
