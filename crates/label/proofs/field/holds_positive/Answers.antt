use Rattle.label.proofs.Composed.{composed}
use Rattle.label.proofs.field.holds_positive.Goals as goal

pub returns : goal.returns
returns c = search composed
