use Rattle.base.specs.Digits.{all_digits}
use Rattle.charset.proofs.Passed.{PassedUpTo}
use Rattle.charset.proofs.all_digits.Given as goal

abbrev pub invariant-loop-b : goal.invariant-loop-b
invariant-loop-b l = PassedUpTo all_digits l.s l.b-index
