use Rattle.content.proofs.Units.{froms}
use Rattle.content.proofs.unit.unit_from.Goals as goal

pub returns-in-Some : goal.returns-in-Some
returns-in-Some c = search froms

pub returns-in-None : goal.returns-in-None
returns-in-None c = search froms
