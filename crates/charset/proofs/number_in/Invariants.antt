use Rattle.charset.proofs.Numbers.{Read}
use Rattle.charset.proofs.number_in.Given as goal

abbrev pub invariant-loop-b : goal.invariant-loop-b
invariant-loop-b l = Read l.s l.n l.b-index
