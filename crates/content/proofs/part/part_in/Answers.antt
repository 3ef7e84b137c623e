use Rattle.content.specs.Part.{part_in}
use Rattle.base.proofs.Rules.{ifs}
use Rattle.content.proofs.part.part_in.Goals as goal

pub is-requires : goal.is-requires
is-requires c = search ifs

pub returns-then-is : goal.returns-then-is
unfolding part_in
returns-then-is c = search ifs

pub is-requires-2 : goal.is-requires-2
is-requires-2 c = search ifs

pub returns-then-continues : goal.returns-then-continues
unfolding part_in
returns-then-continues c = search ifs

pub returns-then-is-2 : goal.returns-then-is-2
unfolding part_in
returns-then-is-2 c = search ifs

pub returns : goal.returns
unfolding part_in
returns c = search ifs
