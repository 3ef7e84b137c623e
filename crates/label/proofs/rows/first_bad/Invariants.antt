use Prim.Native.Nat.{◌-◌}
use lib.ListN.{length}
use Rattle.label.specs.Code.Asked.{asked}
use Rattle.label.proofs.Walk.{RowsPassed}
use Rattle.label.proofs.rows.first_bad.Given as goal

abbrev pub invariant-loop-i : goal.invariant-loop-i
invariant-loop-i l = RowsPassed (asked l.ask l.l l.m) l.table l.at l.i

abbrev pub decreases-loop-i : goal.decreases-loop-i
decreases-loop-i l = length l.table - l.i
