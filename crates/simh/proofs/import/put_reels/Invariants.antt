use Rattle.simh.proofs.Storing.{Storing}
use Rattle.simh.proofs.import.put_reels.Given as goal

abbrev pub invariant-loop-n : goal.invariant-loop-n
invariant-loop-n l = Storing l.tape l.lengths l.initial.out l.out l.from l.to l.n-index
