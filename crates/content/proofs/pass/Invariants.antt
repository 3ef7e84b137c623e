use Rattle.content.proofs.Founds.{RecordsBehind}
use Rattle.content.proofs.pass.Given as goal

abbrev pub invariant-loop-left : goal.invariant-loop-left
invariant-loop-left l = RecordsBehind l.image l.initial.w l.records l.left l.w

abbrev pub decreases-loop-left : goal.decreases-loop-left
decreases-loop-left l = l.left
