use Rattle.charset.proofs.Ranges.{telling}
use Rattle.charset.proofs.is_between.Goals as goal

pub returns-then-a-b : goal.returns-then-a-b
returns-then-a-b c = search telling

pub returns-else-a-b : goal.returns-else-a-b
returns-else-a-b c = search telling
