use Rattle.label.proofs.Rules.{calls}
use Rattle.volume.specs.Fault.{context_fault}
use Rattle.volume.proofs.fault.context_fault.Goals as goal

pub returns-then-is : goal.returns-then-is
unfolding context_fault
returns-then-is c = search calls depth 20

pub returns-then-is-2 : goal.returns-then-is-2
unfolding context_fault
returns-then-is-2 c = search calls depth 20

pub returns-then-is-3 : goal.returns-then-is-3
unfolding context_fault
returns-then-is-3 c = search calls depth 20

pub returns-then-is-4 : goal.returns-then-is-4
unfolding context_fault
returns-then-is-4 c = search calls depth 20

pub returns : goal.returns
unfolding context_fault
returns c = search calls depth 20
