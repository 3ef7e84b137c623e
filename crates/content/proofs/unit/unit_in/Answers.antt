use Rattle.content.proofs.Units.{formats}
use Rattle.content.proofs.unit.unit_in.Goals as goal

pub returns : goal.returns
returns c = search formats
