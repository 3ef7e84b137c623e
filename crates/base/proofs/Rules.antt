-- The laws that a return of a function wants whose tests stand in the order of its definition's.
use borrow.Author.Rules.{rules}
use borrow.Author.Tests.{eq-eqb, ne_eqb, le-leb, lt-leb, lt-ltb, le-ltb}
use Rattle.base.proofs.Ifs.{if_true, if_false, so_true, so_false}

-- for a function whose tests stand in the order of its definition's
pub ruleset ifs = (if_true, if_false, eq-eqb, ne_eqb, le-leb, lt-leb, lt-ltb, le-ltb, so_true, so_false, rules)
