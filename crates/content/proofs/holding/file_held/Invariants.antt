use Prim.Native.Nat.{◌-◌}
use lib.ListN.{length}
use Rattle.content.proofs.Helds.{Summing}
use Rattle.content.proofs.holding.file_held.Given as goal

abbrev pub invariant-loop-block : goal.invariant-loop-block
invariant-loop-block l = Summing l.image l.w l.held l.at

abbrev pub decreases-loop-block : goal.decreases-loop-block
decreases-loop-block l = length l.image - l.at
