use Rattle.block.proofs.Lengths.{units_of}
use Rattle.block.proofs.unit_at.Goals as goal

pub fixed_length-n-requires : goal.fixed_length-n-requires
fixed_length-n-requires c = search units_of

pub returns-then-n-eq0 : goal.returns-then-n-eq0
returns-then-n-eq0 c = search units_of

pub returns-then-format-eq-FIXED : goal.returns-then-format-eq-FIXED
returns-then-format-eq-FIXED c = search units_of

pub variable_length-n-requires : goal.variable_length-n-requires
variable_length-n-requires c = search units_of

pub returns-then-n-eq0-2 : goal.returns-then-n-eq0-2
returns-then-n-eq0-2 c = search units_of

pub overflow_sub-result : goal.overflow_sub-result
overflow_sub-result c = search units_of

pub returns-then-format-eq-VARIABLE : goal.returns-then-format-eq-VARIABLE
returns-then-format-eq-VARIABLE c = search units_of

pub segment_at-requires : goal.segment_at-requires
segment_at-requires c = search units_of

pub returns-then-format-eq-SEGMENTED : goal.returns-then-format-eq-SEGMENTED
returns-then-format-eq-SEGMENTED c = search units_of

pub returns : goal.returns
returns c = search units_of
