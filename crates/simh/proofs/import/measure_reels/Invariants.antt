use Rattle.simh.proofs.Measuring.{Measuring}
use Rattle.simh.proofs.import.measure_reels.Given as goal

abbrev pub invariant-loop-n : goal.invariant-loop-n
invariant-loop-n l = Measuring l.tape l.lengths l.from l.item l.len l.n-index
