use Prim.Native.Nat.{◌-◌}
use lib.ListN.{length}
use Rattle.volume.specs.Code.Walk.{Walked}
use Rattle.volume.proofs.walk.walk.Given as goal

abbrev pub invariant-loop-t : goal.invariant-loop-t
invariant-loop-t l = Walked l.image l.volumes l.reels l.x

abbrev pub decreases-loop-t : goal.decreases-loop-t
decreases-loop-t l = length l.image - l.x.at
