use Prim.Native.Nat.{◌-◌}
use lib.ListN.{length}
use Rattle.content.proofs.Measures.{RestMeasured}
use Rattle.content.proofs.measuring.rest_length.Given as goal

abbrev pub invariant-loop-unit : goal.invariant-loop-unit
invariant-loop-unit l = RestMeasured l.image l.most l.initial.w l.room l.total l.w

abbrev pub decreases-loop-unit : goal.decreases-loop-unit
decreases-loop-unit l = length l.image - l.w.at
