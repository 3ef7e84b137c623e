use Rattle.block.proofs.Blocks.{segmented}
use Rattle.block.proofs.segments_block.Goals as goal

pub answer-requires : goal.answer-requires
answer-requires c = search segmented

pub returns-then-block-s : goal.returns-then-block-s
returns-then-block-s c = search segmented

pub segments_outcome-requires : goal.segments_outcome-requires
segments_outcome-requires c = search segmented

pub returns : goal.returns
returns c = search segmented
