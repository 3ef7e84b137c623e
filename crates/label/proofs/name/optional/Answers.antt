use Rattle.label.proofs.Rules.{calls}
use Rattle.label.specs.Name.{optional}
use Rattle.label.proofs.name.optional.Goals as goal

pub returns-then-equal : goal.returns-then-equal
unfolding optional
returns-then-equal c = search calls depth 20

pub returns-then-equal-2 : goal.returns-then-equal-2
unfolding optional
returns-then-equal-2 c = search calls depth 20

pub returns : goal.returns
unfolding optional
returns c = search calls depth 20
