use Rattle.label.specs.Field.{is_length}
use Rattle.label.proofs.Rules.{calls}
use Rattle.label.proofs.field.is_length.Goals as goal

pub returns-then-is_enough : goal.returns-then-is_enough
unfolding is_length
returns-then-is_enough c = search calls

pub returns : goal.returns
unfolding is_length
returns c = search calls
