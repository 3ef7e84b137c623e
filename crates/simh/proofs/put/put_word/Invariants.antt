use Rattle.base.proofs.Copies.{Copying}
use Rattle.simh.proofs.put.put_word.Given as goal

abbrev pub invariant-loop-i : goal.invariant-loop-i
invariant-loop-i g l = Copying l.initial.out l.at l.word l.out l.i
