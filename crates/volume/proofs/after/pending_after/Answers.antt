use Rattle.volume.proofs.Afters.{behinds}
use Rattle.volume.proofs.after.pending_after.Goals as goal

pub returns-then-is : goal.returns-then-is
returns-then-is c = search behinds

pub returns : goal.returns
returns c = search behinds
