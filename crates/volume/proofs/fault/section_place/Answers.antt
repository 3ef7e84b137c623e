use Rattle.volume.proofs.Composed.{composed}
use Rattle.volume.proofs.fault.section_place.Goals as goal

pub returns-then-says : goal.returns-then-says
returns-then-says c = search composed

pub returns : goal.returns
returns c = search composed
