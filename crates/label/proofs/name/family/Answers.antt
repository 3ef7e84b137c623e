use Rattle.label.proofs.Rules.{calls}
use Rattle.label.specs.Name.{family}
use Rattle.label.proofs.name.family.Goals as goal

pub returns-then-equal : goal.returns-then-equal
unfolding family
returns-then-equal c = search calls depth 20

pub returns-then-equal-2 : goal.returns-then-equal-2
unfolding family
returns-then-equal-2 c = search calls depth 20

pub returns-then-equal-3 : goal.returns-then-equal-3
unfolding family
returns-then-equal-3 c = search calls depth 20

pub returns-then-equal-4 : goal.returns-then-equal-4
unfolding family
returns-then-equal-4 c = search calls depth 20

pub returns-then-equal-5 : goal.returns-then-equal-5
unfolding family
returns-then-equal-5 c = search calls depth 20

pub returns : goal.returns
unfolding family
returns c = search calls depth 20
