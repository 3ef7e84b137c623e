use Prim.Native.Nat.{◌-◌}
use lib.ListN.{length}
use Rattle.content.proofs.Rows.{Rowing}
use Rattle.content.proofs.row.steps.Given as goal

abbrev pub invariant-loop-i : goal.invariant-loop-i
invariant-loop-i l = Rowing l.image l.initial.places l.initial.lengths l.initial.w l.places l.lengths l.w l.i

abbrev pub decreases-loop-i : goal.decreases-loop-i
decreases-loop-i l = length l.places - l.i
