use Rattle.sections.proofs.Filled.{made}
use Rattle.sections.proofs.reel_change.Goals as goal

pub returns : goal.returns
returns c = search made
