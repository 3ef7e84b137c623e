use Rattle.block.proofs.Counts.{held_by_format}
use Rattle.block.proofs.block_held.Goals as goal

pub overflow_cast-t-5 : goal.overflow_cast-t-5
overflow_cast-t-5 c = search held_by_format

pub fixed_held-requires : goal.fixed_held-requires
fixed_held-requires c = search held_by_format

pub returns-then-format : goal.returns-then-format
returns-then-format c = search held_by_format

pub overflow_cast-t-5-2 : goal.overflow_cast-t-5-2
overflow_cast-t-5-2 c = search held_by_format

pub variable_held-requires : goal.variable_held-requires
variable_held-requires c = search held_by_format

pub returns-then-format-2 : goal.returns-then-format-2
returns-then-format-2 c = search held_by_format

pub overflow_cast-t-5-3 : goal.overflow_cast-t-5-3
overflow_cast-t-5-3 c = search held_by_format

pub segments_held-requires : goal.segments_held-requires
segments_held-requires c = search held_by_format

pub returns-then-format-3 : goal.returns-then-format-3
returns-then-format-3 c = search held_by_format

pub empty-requires : goal.empty-requires
empty-requires c = search held_by_format

pub returns : goal.returns
returns c = search held_by_format
