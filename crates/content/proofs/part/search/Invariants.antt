use Prim.Native.Nat.{◌-◌}
use lib.ListN.{length}
use Rattle.content.proofs.Parts.{Searching}
use Rattle.content.proofs.part.search.Given as goal

abbrev pub invariant-loop-seen : goal.invariant-loop-seen
invariant-loop-seen l = Searching l.image l.from l.sections l.blocks l.here

abbrev pub decreases-loop-seen : goal.decreases-loop-seen
decreases-loop-seen l = length l.image - l.here.at
