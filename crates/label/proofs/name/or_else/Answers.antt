use Rattle.label.proofs.Rules.{calls}
use Rattle.label.specs.Name.{or_else}
use Rattle.label.proofs.name.or_else.Goals as goal

pub returns-then-is : goal.returns-then-is
unfolding or_else
returns-then-is c = search calls

pub returns : goal.returns
unfolding or_else
returns c = search calls
