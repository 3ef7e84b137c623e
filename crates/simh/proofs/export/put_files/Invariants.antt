use Prim.Native.Nat.{◌-◌}
use lib.ListN.{length}
use Rattle.simh.proofs.Laying.{Laying}
use Rattle.simh.proofs.export.put_files.Given as goal

abbrev pub invariant-loop-at : goal.invariant-loop-at
invariant-loop-at l =
    Laying l.image l.initial.out l.initial.lengths l.out l.lengths l.at l.to l.from l.file

abbrev pub decreases-loop-at : goal.decreases-loop-at
decreases-loop-at l = length l.image - l.at
