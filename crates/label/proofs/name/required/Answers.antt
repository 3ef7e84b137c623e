use Rattle.label.proofs.Rules.{calls}
use Rattle.label.specs.Name.{required}
use Rattle.label.proofs.name.required.Goals as goal

pub returns-then-equal : goal.returns-then-equal
unfolding required
returns-then-equal c = search calls depth 20

pub returns-then-equal-2 : goal.returns-then-equal-2
unfolding required
returns-then-equal-2 c = search calls depth 20

pub returns-then-equal-3 : goal.returns-then-equal-3
unfolding required
returns-then-equal-3 c = search calls depth 20

pub returns-then-equal-4 : goal.returns-then-equal-4
unfolding required
returns-then-equal-4 c = search calls depth 20

pub returns-then-equal-5 : goal.returns-then-equal-5
unfolding required
returns-then-equal-5 c = search calls depth 20

pub returns-then-equal-6 : goal.returns-then-equal-6
unfolding required
returns-then-equal-6 c = search calls depth 20

pub returns-then-equal-7 : goal.returns-then-equal-7
unfolding required
returns-then-equal-7 c = search calls depth 20

pub returns : goal.returns
unfolding required
returns c = search calls depth 20
