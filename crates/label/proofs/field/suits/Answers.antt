use Rattle.label.specs.Field.{suits}
use Rattle.label.proofs.Rules.{matches}
use Rattle.label.proofs.field.suits.Goals as goal

pub returns-then-f-eq-SEGMENTED : goal.returns-then-f-eq-SEGMENTED
unfolding suits
returns-then-f-eq-SEGMENTED c = search matches

pub returns : goal.returns
unfolding suits
returns c = search matches
