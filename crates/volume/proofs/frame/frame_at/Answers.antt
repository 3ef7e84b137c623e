use Rattle.volume.proofs.Walks.{frames}
use Rattle.volume.proofs.frame.frame_at.Goals as goal

pub returns-then-reels-eq0 : goal.returns-then-reels-eq0
returns-then-reels-eq0 c = search frames

pub returns-then-is_inside : goal.returns-then-is_inside
returns-then-is_inside c = search frames

pub returns : goal.returns
returns c = search frames
