use Rattle.volume.proofs.WalkItems.{items}
use Rattle.volume.proofs.walk.bare_turn.Goals as goal

pub returns-in-None : goal.returns-in-None
returns-in-None c = search items

pub returns-in-Some : goal.returns-in-Some
returns-in-Some c = search items
