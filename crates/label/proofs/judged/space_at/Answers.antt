use Rattle.label.proofs.Composed.{composed}
use Rattle.label.proofs.judged.space_at.Goals as goal

pub returns : goal.returns
returns c = search composed
