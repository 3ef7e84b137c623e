use Rattle.label.proofs.Composed.{composed}
use Rattle.label.proofs.rows.same_part.Goals as goal

pub returns : goal.returns
returns c = search composed
