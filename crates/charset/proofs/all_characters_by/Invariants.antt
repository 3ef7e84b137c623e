use Rattle.charset.specs.Class.{all_a}
use Rattle.charset.proofs.Passed.{PassedUpTo}
use Rattle.charset.proofs.all_characters_by.Given as goal

abbrev pub invariant-loop-b : goal.invariant-loop-b
invariant-loop-b l = PassedUpTo all_a l.s l.b-index
