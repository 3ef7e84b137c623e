use Rattle.base.specs.Answer.{verdict}
use Rattle.volume.proofs.WholeWalks.{walks}
use Rattle.volume.proofs.walk.ended.Goals as goal

pub returns-then-f-eq0 : goal.returns-then-f-eq0
unfolding verdict
returns-then-f-eq0 c = search walks

pub framed_or-requires : goal.framed_or-requires
framed_or-requires c = search walks

pub returns : goal.returns
unfolding verdict
returns c = search walks
