use Rattle.volume.proofs.Composed.{composed}
use Rattle.volume.specs.Fault.{outcome_in}
use Rattle.volume.proofs.fault.outcome_in.Goals as goal

pub returns : goal.returns
unfolding outcome_in
returns c = search composed
