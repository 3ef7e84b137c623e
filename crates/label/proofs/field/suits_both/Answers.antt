use Rattle.label.proofs.Composed.{composed}
use Rattle.label.proofs.field.suits_both.Goals as goal

pub returns-in_default : goal.returns-in_default
returns-in_default c = search composed

pub returns-in_default-o : goal.returns-in_default-o
returns-in_default-o c = search composed

pub returns : goal.returns
returns c = search composed
