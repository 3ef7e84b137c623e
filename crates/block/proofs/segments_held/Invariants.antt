use Prim.Native.Nat.{◌-◌}
use lib.ListN.{length}
use Rattle.block.proofs.Counts.{Tallying}
use Rattle.block.proofs.segments_held.Given as goal

abbrev pub invariant-loop-record_length : goal.invariant-loop-record_length
invariant-loop-record_length l = Tallying 83 l.record_length l.s l.offset l.at 5 l.units l.records

abbrev pub decreases-loop-record_length : goal.decreases-loop-record_length
decreases-loop-record_length l = length l.s - l.at
