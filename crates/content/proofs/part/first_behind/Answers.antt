use Rattle.content.specs.Part.{first_behind}
use Rattle.base.proofs.Rules.{ifs}
use Rattle.content.proofs.part.first_behind.Goals as goal

pub is-requires : goal.is-requires
is-requires c = search ifs

pub returns-then-is : goal.returns-then-is
unfolding first_behind
returns-then-is c = search ifs

pub returns : goal.returns
unfolding first_behind
returns c = search ifs
