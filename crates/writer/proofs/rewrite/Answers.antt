use Rattle.writer.proofs.Quotas.{rewrites}
use Rattle.writer.proofs.rewrite.Goals as goal

pub returns : goal.returns
returns c = search rewrites
