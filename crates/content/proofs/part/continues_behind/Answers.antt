use Rattle.content.specs.Part.{continues_behind}
use Rattle.base.proofs.Rules.{ifs}
use Rattle.content.proofs.part.continues_behind.Goals as goal

pub is-requires : goal.is-requires
is-requires c = search ifs

pub returns-then-is : goal.returns-then-is
unfolding continues_behind
returns-then-is c = search ifs

pub is-requires-2 : goal.is-requires-2
is-requires-2 c = search ifs

pub returns-then-is-2 : goal.returns-then-is-2
unfolding continues_behind
returns-then-is-2 c = search ifs

pub returns : goal.returns
unfolding continues_behind
returns c = search ifs
