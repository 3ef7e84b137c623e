use Rattle.volume.proofs.WalkItems.{turns}
use Rattle.volume.proofs.walk.judge.Goals as goal

pub returns-then-f-ne0 : goal.returns-then-f-ne0
returns-then-f-ne0 c = search turns

pub returns : goal.returns
returns c = search turns
