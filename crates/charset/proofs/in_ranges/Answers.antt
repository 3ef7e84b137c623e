use Rattle.charset.specs.Code.Table.{in_ranges}
use Rattle.base.proofs.Rules.{ifs}
use Rattle.charset.proofs.in_ranges.Goals as goal

pub is_digit-requires : goal.is_digit-requires
is_digit-requires c = search ifs

pub returns-then-is_digit : goal.returns-then-is_digit
unfolding in_ranges
returns-then-is_digit c = search ifs

pub is_between-requires : goal.is_between-requires
is_between-requires c = search ifs

pub returns-then-is_between : goal.returns-then-is_between
unfolding in_ranges
returns-then-is_between c = search ifs

pub returns : goal.returns
unfolding in_ranges
returns c = search ifs
