use borrow.Author.Rules.{rules}
use Rattle.block.specs.Turn.{outcome}
use Rattle.block.proofs.Blocks.{variable_passes, segments_named}
use Rattle.volume.proofs.blocks.outcome_of.Goals as goal

pub returns-then-is_variable_block : goal.returns-then-is_variable_block
unfolding outcome
returns-then-is_variable_block c = search (variable_passes, rules)

pub returns-then-h-eq-SEGMENTED : goal.returns-then-h-eq-SEGMENTED
returns-then-h-eq-SEGMENTED c = search (segments_named, rules)
