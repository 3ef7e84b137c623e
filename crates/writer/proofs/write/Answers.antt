use Rattle.writer.proofs.Quotas.{writes}
use Rattle.writer.proofs.write.Goals as goal

pub returns-then-n-ne0 : goal.returns-then-n-ne0
returns-then-n-ne0 c = search writes

pub returns : goal.returns
returns c = search writes
