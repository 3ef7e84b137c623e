use Rattle.label.specs.Field.{good}
use Rattle.label.proofs.Rules.{matches}
use Rattle.label.proofs.field.suits_rule.Goals as goal

pub returns-then-rule-eq-CHARACTERS : goal.returns-then-rule-eq-CHARACTERS
unfolding good
returns-then-rule-eq-CHARACTERS c = search matches depth 20

pub returns-then-rule-eq-SPACES : goal.returns-then-rule-eq-SPACES
unfolding good
returns-then-rule-eq-SPACES c = search matches depth 20

pub returns-then-rule-eq-DIGITS : goal.returns-then-rule-eq-DIGITS
unfolding good
returns-then-rule-eq-DIGITS c = search matches depth 20

pub returns-then-rule-eq-ZEROS : goal.returns-then-rule-eq-ZEROS
unfolding good
returns-then-rule-eq-ZEROS c = search matches depth 20

pub returns-then-rule-eq-POSITIVE : goal.returns-then-rule-eq-POSITIVE
unfolding good
returns-then-rule-eq-POSITIVE c = search matches depth 20

pub returns-then-rule-eq-DATE : goal.returns-then-rule-eq-DATE
unfolding good
returns-then-rule-eq-DATE c = search matches depth 20

pub returns-then-rule-eq-STANDARD : goal.returns-then-rule-eq-STANDARD
unfolding good
returns-then-rule-eq-STANDARD c = search matches depth 20

pub returns-then-rule-eq-FORMAT : goal.returns-then-rule-eq-FORMAT
unfolding good
returns-then-rule-eq-FORMAT c = search matches depth 20

pub returns-then-rule-eq-RECORD_LENGTH : goal.returns-then-rule-eq-RECORD_LENGTH
unfolding good
returns-then-rule-eq-RECORD_LENGTH c = search matches depth 20

pub returns : goal.returns
unfolding good
returns c = search matches depth 20
