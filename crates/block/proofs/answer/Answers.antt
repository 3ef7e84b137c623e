use borrow.Author.Rules.{rules}
use Rattle.block.specs.Turn.{outcome}
use Rattle.block.proofs.answer.Goals as goal

pub returns : goal.returns
unfolding outcome
returns c = search rules
