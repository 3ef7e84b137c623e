use Rattle.label.specs.Field.{least_record}
use Rattle.label.proofs.Rules.{matches}
use Rattle.label.proofs.field.is_enough.Goals as goal

pub returns-then-f-eq-VARIABLE : goal.returns-then-f-eq-VARIABLE
unfolding least_record
returns-then-f-eq-VARIABLE c = search matches

pub returns : goal.returns
unfolding least_record
returns c = search matches
