use Prim.Native.Nat.{◌-◌}
use Rattle.base.specs.Code.Copy.{Chunked}
use Rattle.base.proofs.copy.put_words.Given as goal

abbrev pub invariant-loop-i : goal.invariant-loop-i
invariant-loop-i l = Chunked l.initial.out l.at l.s l.out l.i

abbrev pub decreases-loop-i : goal.decreases-loop-i
decreases-loop-i l = l.behind - l.i
