use Rattle.label.proofs.Composed.{composed}
use Rattle.label.specs.Judged.{good_at}
use Rattle.label.proofs.field.good_at.Goals as goal

pub returns : goal.returns
unfolding good_at
returns c = search composed
