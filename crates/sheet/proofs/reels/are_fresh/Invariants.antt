use Rattle.sheet.proofs.Names.{Fresh}
use Rattle.sheet.proofs.reels.are_fresh.Given as goal

abbrev pub invariant-loop-i : goal.invariant-loop-i
invariant-loop-i l = Fresh l.names l.places l.i
