use Rattle.label.proofs.Rules.{either}
use Rattle.label.specs.Field.{is_format}
use Rattle.label.proofs.field.is_format.Goals as goal

pub returns-then-equal : goal.returns-then-equal
unfolding is_format
returns-then-equal c = search either

pub returns-then-equal-2 : goal.returns-then-equal-2
unfolding is_format
returns-then-equal-2 c = search either

pub returns-else-equal-2 : goal.returns-else-equal-2
unfolding is_format
returns-else-equal-2 c = search either
