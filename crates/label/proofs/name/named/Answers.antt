use Rattle.label.proofs.Composed.{composed}
use Rattle.label.specs.Name.{named}
use Rattle.label.proofs.name.named.Goals as goal

pub returns : goal.returns
unfolding named
returns c = search composed
