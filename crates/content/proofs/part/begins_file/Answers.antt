use Rattle.content.specs.Part.{begins_file}
use Rattle.base.proofs.Rules.{ifs}
use Rattle.content.proofs.part.begins_file.Goals as goal

pub is-requires : goal.is-requires
is-requires c = search ifs

pub returns-then-is : goal.returns-then-is
unfolding begins_file
returns-then-is c = search ifs

pub returns : goal.returns
unfolding begins_file
returns c = search ifs
