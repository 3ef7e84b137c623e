use Rattle.label.proofs.Rules.{get_d_within}
use lib.ListN.{get_or-eq_default}
use borrow.Author.Rules.{rules}
use Rattle.label.proofs.field.byte_or.Goals as goal

pub returns-then-at-s : goal.returns-then-at-s
returns-then-at-s c = search get_d_within

pub returns : goal.returns
returns c = search (get_or-eq_default, rules)
