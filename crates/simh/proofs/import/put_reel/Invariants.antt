use Prim.Native.Nat.{◌-◌}
use lib.ListN.{length}
use Rattle.simh.proofs.Storing.{Filling}
use Rattle.simh.proofs.import.put_reel.Given as goal

abbrev pub invariant-loop-at : goal.invariant-loop-at
invariant-loop-at l = Filling l.reel l.initial.out l.to l.out l.at l.place

abbrev pub decreases-loop-at : goal.decreases-loop-at
decreases-loop-at l = length l.reel - l.at
