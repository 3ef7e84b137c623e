use Prim.Native.Nat.{◌-◌}
use lib.ListN.{length}
use Rattle.block.proofs.Counts.{Tallying}
use Rattle.block.proofs.fixed_held.Given as goal

abbrev pub invariant-loop-record_length : goal.invariant-loop-record_length
invariant-loop-record_length l = Tallying 70 l.record_length l.s l.offset l.at 0 l.units l.units

abbrev pub decreases-loop-record_length : goal.decreases-loop-record_length
decreases-loop-record_length l = length l.s - l.at
