use Rattle.label.proofs.Filled.{Filled}
use Rattle.label.proofs.field.all_are.Given as goal

abbrev pub invariant-loop-x : goal.invariant-loop-x
invariant-loop-x l = Filled l.b l.s l.x-index
