use Prim.Native.Nat.{◌-◌}
use lib.ListN.{length}
use Rattle.content.proofs.Joins.{Joining}
use Rattle.content.proofs.join.copy_rest.Given as goal

abbrev pub invariant-loop-unit : goal.invariant-loop-unit
invariant-loop-unit l = Joining l.image l.initial.join l.place l.initial.w l.join l.at l.w

abbrev pub decreases-loop-unit : goal.decreases-loop-unit
decreases-loop-unit l = length l.image - l.w.at
