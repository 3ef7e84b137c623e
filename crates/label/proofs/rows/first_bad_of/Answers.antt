use Rattle.label.specs.Table.{fields_of}
use Rattle.label.proofs.Rules.{calls}
use Rattle.label.proofs.Walk.{bad_none, by_table}
use Rattle.label.proofs.rows.first_bad_of.Goals as goal

pub returns-then-is : goal.returns-then-is
unfolding fields_of
returns-then-is c = search calls depth 20

pub returns-then-is-2 : goal.returns-then-is-2
unfolding fields_of
returns-then-is-2 c = search (by_table, calls) depth 20

pub returns-then-is-3 : goal.returns-then-is-3
unfolding fields_of
returns-then-is-3 c = search (by_table, calls) depth 20

pub returns-then-is-4 : goal.returns-then-is-4
unfolding fields_of
returns-then-is-4 c = search (by_table, calls) depth 20

pub returns-then-is-5 : goal.returns-then-is-5
unfolding fields_of
returns-then-is-5 c = search calls depth 20

pub returns-then-is-6 : goal.returns-then-is-6
unfolding fields_of
returns-then-is-6 c = search calls depth 20

pub returns-then-is-7 : goal.returns-then-is-7
unfolding fields_of
returns-then-is-7 c = search calls depth 20

pub returns-then-is-8 : goal.returns-then-is-8
unfolding fields_of
returns-then-is-8 c = search calls depth 20

pub returns-then-is-9 : goal.returns-then-is-9
unfolding fields_of
returns-then-is-9 c = search calls depth 20

pub returns : goal.returns
unfolding fields_of
returns c = search (bad_none, calls) depth 20
