use Rattle.volume.proofs.Composed.{composed}
use Rattle.volume.proofs.fault.says.Goals as goal

pub returns-in-Some : goal.returns-in-Some
returns-in-Some c = search composed

pub returns-in-None : goal.returns-in-None
returns-in-None c = search composed
