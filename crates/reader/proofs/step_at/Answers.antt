use Rattle.reader.proofs.Places.{places}
use Rattle.reader.proofs.step_at.Goals as goal

pub returns-clause-value : goal.returns-clause-value
returns-clause-value c = search places
