use Rattle.charset.proofs.Ranges.{telling}
use Rattle.charset.proofs.class_by.Goals as goal

pub is_digit-requires : goal.is_digit-requires
is_digit-requires c = search telling

pub returns-then-is_digit : goal.returns-then-is_digit
returns-then-is_digit c = search telling

pub in_ranges-requires : goal.in_ranges-requires
in_ranges-requires c = search telling

pub returns-then-in_ranges : goal.returns-then-in_ranges
returns-then-in_ranges c = search telling

pub bounds-table-b : goal.bounds-table-b
bounds-table-b c = search telling

pub returns : goal.returns
returns c = search telling
