use Rattle.base.proofs.Bytes.{Compared}
use Rattle.base.proofs.equal.Given as goal

abbrev pub invariant-loop-i : goal.invariant-loop-i
invariant-loop-i l = Compared l.a l.b l.i
