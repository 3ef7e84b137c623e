use Rattle.base.specs.Digits.{is_digit, all_digits}
use Rattle.charset.proofs.Passed.{passed_other, passed_all, passing}
use Rattle.charset.proofs.all_digits.Goals as goal

pub loop-b-init : goal.loop-b-init
loop-b-init c = search (passed_other is_digit all_digits, passed_all is_digit all_digits, passing)

pub returns-then-not-is_digit : goal.returns-then-not-is_digit
returns-then-not-is_digit c = search (passed_other is_digit all_digits, passed_all is_digit all_digits, passing)

pub loop-b-preserved : goal.loop-b-preserved
loop-b-preserved c = search (passed_other is_digit all_digits, passed_all is_digit all_digits, passing)

pub returns : goal.returns
returns c = search (passed_other is_digit all_digits, passed_all is_digit all_digits, passing)
