use Rattle.base.proofs.Sums.{Taken}
use Rattle.base.proofs.add_up_to.Given as goal

abbrev pub invariant-loop-n : goal.invariant-loop-n
invariant-loop-n l = Taken l.numbers l.total l.n-index l.left
