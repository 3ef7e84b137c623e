use Prim.Native.Nat.{◌-◌}
use lib.ListN.{length}
use Rattle.simh.proofs.Sizing.{Sizing}
use Rattle.simh.proofs.export.size_of_items.Given as goal

abbrev pub invariant-loop-at : goal.invariant-loop-at
invariant-loop-at l = Sizing l.image l.at l.item l.files l.closed l.len

abbrev pub decreases-loop-at : goal.decreases-loop-at
decreases-loop-at l = length l.image - l.at
