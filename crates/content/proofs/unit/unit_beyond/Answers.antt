use Rattle.content.proofs.Units.{froms}
use Rattle.content.proofs.unit.unit_beyond.Goals as goal

pub returns-in_default : goal.returns-in_default
returns-in_default c = search froms

pub returns : goal.returns
returns c = search froms
