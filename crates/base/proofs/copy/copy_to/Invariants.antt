use Rattle.base.proofs.Copies.{Copying}
use Rattle.base.proofs.copy.copy_to.Given as goal

abbrev pub invariant-loop-i : goal.invariant-loop-i
invariant-loop-i l = Copying l.initial.out l.at l.s l.out l.i
