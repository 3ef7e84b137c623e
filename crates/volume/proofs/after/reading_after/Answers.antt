use Rattle.volume.proofs.Afters.{behinds}
use Rattle.volume.proofs.after.reading_after.Goals as goal

pub returns : goal.returns
returns c = search behinds
