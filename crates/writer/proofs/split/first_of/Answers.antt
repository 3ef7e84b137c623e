use Rattle.writer.proofs.Splits.{firsts}
use Rattle.writer.proofs.split.first_of.Goals as goal

pub returns-in-None : goal.returns-in-None
returns-in-None c = search firsts

pub returns-in-Some : goal.returns-in-Some
returns-in-Some c = search firsts

pub walk_of-requires : goal.walk_of-requires
walk_of-requires c = search firsts

pub first_segment-requires : goal.first_segment-requires
first_segment-requires c = search firsts
