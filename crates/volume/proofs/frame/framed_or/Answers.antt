use Rattle.volume.proofs.Walks.{frames}
use Rattle.volume.proofs.frame.framed_or.Goals as goal

pub returns-then-f-eq0 : goal.returns-then-f-eq0
returns-then-f-eq0 c = search frames

pub returns : goal.returns
returns c = search frames
