use Rattle.base.proofs.Rules.{ifs}
use Rattle.label.specs.Name.{kind_of}
use Rattle.label.proofs.name.kind.Goals as goal

pub returns-then-l-ne80 : goal.returns-then-l-ne80
unfolding kind_of
returns-then-l-ne80 c = search ifs

pub returns : goal.returns
unfolding kind_of
returns c = search ifs
