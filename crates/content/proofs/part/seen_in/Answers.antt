use Rattle.content.proofs.Places.{seens_in}
use Rattle.content.proofs.part.seen_in.Goals as goal

pub returns-in-None : goal.returns-in-None
returns-in-None c = search seens_in

pub returns-in-Some : goal.returns-in-Some
returns-in-Some c = search seens_in
