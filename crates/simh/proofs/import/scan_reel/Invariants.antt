use Prim.Native.Nat.{◌-◌}
use lib.ListN.{length}
use Rattle.simh.proofs.Scanning.{Scanning}
use Rattle.simh.proofs.import.scan_reel.Given as goal

abbrev pub invariant-loop-at : goal.invariant-loop-at
invariant-loop-at l = Scanning l.first l.reel l.at l.item l.len

abbrev pub decreases-loop-at : goal.decreases-loop-at
decreases-loop-at l = length l.reel - l.at
