use Prim.Native.Nat.{◌-◌}
use lib.ListN.{length}
use Rattle.content.proofs.Numbered.{Counting}
use Rattle.content.proofs.counting.file_facts.Given as goal

abbrev pub invariant-loop-w : goal.invariant-loop-w
invariant-loop-w l = Counting l.image l.initial.w l.records l.bytes l.w

abbrev pub decreases-loop-w : goal.decreases-loop-w
decreases-loop-w l = length l.image - l.w.at
