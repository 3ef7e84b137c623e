use Rattle.volume.proofs.Faults.{Searched}
use Rattle.volume.proofs.among.is_among.Given as goal

abbrev pub invariant-loop-i : goal.invariant-loop-i
invariant-loop-i l = Searched l.bytes l.v l.places l.i
