use Rattle.block.proofs.Helds.{reaching}
use Rattle.block.proofs.held_up_to.Goals as goal

pub empty-requires : goal.empty-requires
empty-requires c = search reaching

pub returns-then-units-eq0 : goal.returns-then-units-eq0
returns-then-units-eq0 c = search reaching

pub padding_from-requires : goal.padding_from-requires
padding_from-requires c = search reaching

pub overflow_mul-words : goal.overflow_mul-words
overflow_mul-words c = search reaching

pub overflow_sub-result : goal.overflow_sub-result
overflow_sub-result c = search reaching

pub overflow_sub-result-then-padding_from : goal.overflow_sub-result-then-padding_from
overflow_sub-result-then-padding_from c = search reaching

pub overflow_sub-result-then-padding_from-2 : goal.overflow_sub-result-then-padding_from-2
overflow_sub-result-then-padding_from-2 c = search reaching

pub returns-then-padding_from : goal.returns-then-padding_from
returns-then-padding_from c = search reaching

pub empty-requires-2 : goal.empty-requires-2
empty-requires-2 c = search reaching

pub returns : goal.returns
returns c = search reaching
