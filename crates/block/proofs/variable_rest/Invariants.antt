use Prim.Native.Nat.{◌-◌}
use lib.ListN.{length}
use Rattle.block.proofs.Loops.{Resting}
use Rattle.block.proofs.variable_rest.Given as goal

abbrev pub invariant-loop-record_length : goal.invariant-loop-record_length
invariant-loop-record_length l = Resting 68 l.record_length l.s l.from l.at

abbrev pub decreases-loop-record_length : goal.decreases-loop-record_length
decreases-loop-record_length l = length l.s - l.at
