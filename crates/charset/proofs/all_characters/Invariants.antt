use Rattle.charset.specs.Class.{all_a}
use Rattle.charset.proofs.Passed.{PassedUpTo}
use Rattle.charset.proofs.all_characters.Given as goal

abbrev pub invariant-loop-i : goal.invariant-loop-i
invariant-loop-i l = PassedUpTo all_a l.s l.i
