use Rattle.block.proofs.Wholes.{wholes}
use Rattle.block.proofs.whole_length.Goals as goal

pub fixed_length-requires : goal.fixed_length-requires
fixed_length-requires c = search wholes

pub returns-then-format-eq-FIXED : goal.returns-then-format-eq-FIXED
returns-then-format-eq-FIXED c = search wholes

pub variable_length-requires : goal.variable_length-requires
variable_length-requires c = search wholes

pub returns-then-format-eq-VARIABLE : goal.returns-then-format-eq-VARIABLE
returns-then-format-eq-VARIABLE c = search wholes

pub whole_segment-requires : goal.whole_segment-requires
whole_segment-requires c = search wholes

pub returns-then-format-eq-SEGMENTED : goal.returns-then-format-eq-SEGMENTED
returns-then-format-eq-SEGMENTED c = search wholes

pub returns : goal.returns
returns c = search wholes
