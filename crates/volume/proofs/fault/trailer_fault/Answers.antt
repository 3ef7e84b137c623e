use Rattle.base.specs.Answer.{fault}
use Rattle.label.proofs.Rules.{calls}
use Rattle.volume.proofs.fault.trailer_fault.Goals as goal

pub returns-then-is : goal.returns-then-is
returns-then-is c = search calls depth 20

pub returns-then-is-2 : goal.returns-then-is-2
returns-then-is-2 c = search calls depth 20

pub returns-then-is-3 : goal.returns-then-is-3
returns-then-is-3 c = search calls depth 20

pub returns-then-is-4 : goal.returns-then-is-4
returns-then-is-4 c = search calls depth 20

pub returns : goal.returns
unfolding fault
returns c = search calls depth 20
