use Prim.Native.Nat.{◌-◌}
use lib.ListN.{length}
use Rattle.volume.specs.Code.Body.{between, DidSkip}
use Rattle.volume.proofs.blocks.past_blocks.Given as goal

abbrev pub invariant-loop-h : goal.invariant-loop-h
invariant-loop-h l =
    DidSkip l.image l.h (between l.initial.at l.initial.item l.initial.count l.initial.pending) (between l.at l.item l.count l.pending)

abbrev pub decreases-loop-h : goal.decreases-loop-h
decreases-loop-h l = length l.image - l.at
