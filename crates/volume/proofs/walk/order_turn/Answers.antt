use Rattle.volume.proofs.WalkItems.{turns}
use Rattle.volume.proofs.walk.order_turn.Goals as goal

pub returns-in-None : goal.returns-in-None
returns-in-None c = search turns

pub returns-in-Some : goal.returns-in-Some
returns-in-Some c = search turns
