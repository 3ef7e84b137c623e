use Rattle.writer.proofs.LabelParts.{entering}
use Rattle.writer.proofs.set.entered.Goals as goal

pub with_part-named-requires : goal.with_part-named-requires
with_part-named-requires c = search entering

pub with_part-dated-requires : goal.with_part-dated-requires
with_part-dated-requires c = search entering

pub with_part-requires : goal.with_part-requires
with_part-requires c = search entering

pub returns-then-input : goal.returns-then-input
returns-then-input c = search entering

pub returns : goal.returns
returns c = search entering
