use Rattle.label.specs.Judged.{access_of}
use Rattle.label.proofs.Rules.{calls}
use Rattle.label.proofs.judged.access_of.Goals as goal

pub returns-then-is : goal.returns-then-is
unfolding access_of
returns-then-is c = search calls depth 20

pub returns-then-is-2 : goal.returns-then-is-2
unfolding access_of
returns-then-is-2 c = search calls depth 20

pub returns-then-is-3 : goal.returns-then-is-3
unfolding access_of
returns-then-is-3 c = search calls depth 20

pub returns-then-is-4 : goal.returns-then-is-4
unfolding access_of
returns-then-is-4 c = search calls depth 20

pub returns : goal.returns
unfolding access_of
returns c = search calls depth 20
