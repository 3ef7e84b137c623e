use Rattle.volume.proofs.Faults.{fields}
use Rattle.volume.proofs.fault.count_place.Goals as goal

pub returns-then-says : goal.returns-then-says
returns-then-says c = search fields

pub returns : goal.returns
returns c = search fields
