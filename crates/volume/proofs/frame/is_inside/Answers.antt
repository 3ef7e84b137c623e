use Rattle.volume.proofs.Walks.{frames}
use Rattle.volume.proofs.frame.is_inside.Goals as goal

pub returns-then-is_due : goal.returns-then-is_due
returns-then-is_due c = search frames

pub returns : goal.returns
returns c = search frames
