use Prim.Native.Nat.{◌-◌}
use lib.ListN.{length, drop}
use Rattle.image.specs.Item.{decode}
use Rattle.image.specs.Framing.{framed_from}
use Rattle.image.proofs.Frames.{FramedUpTo}
use Rattle.image.proofs.framed.Given as goal

abbrev pub invariant-loop-at : goal.invariant-loop-at
invariant-loop-at l =
    FramedUpTo l.s (framed_from l.initial.item l.initial.reels l.initial.closed (decode (drop l.initial.at l.s))) l.at l.item l.reels l.closed

abbrev pub decreases-loop-at : goal.decreases-loop-at
decreases-loop-at l = length l.s - l.at
