use Prim.Native.Nat.{◌-◌}
use lib.ListN.{length}
use Rattle.block.specs.Code.Loops.{Turning}
use Rattle.block.proofs.segments_outcome.Given as goal

abbrev pub invariant-loop-indicator : goal.invariant-loop-indicator
invariant-loop-indicator l = Turning l.record_length l.s l.pending l.from l.held l.at

abbrev pub decreases-loop-indicator : goal.decreases-loop-indicator
decreases-loop-indicator l = length l.s - l.at
