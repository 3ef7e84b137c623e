-- The exits of `is_year_day` and `date`, and the dates that document 01 names. Assumes nothing.
use Rattle.std.specs.Prelude.{Option, Some, None}
use mathlib.Core.Path.{◌≡◌, sym, ap, ap₂, ◌∙◌}
use mathlib.Core.Bool.{Bool, true, false, not}
use mathlib.Core.List.{List}
use Prim.Native.Nat.{ℕ, ◌≤◌, ◌<◌}
use borrow.Author.Tests.{eq-eqb, ne_eqb, le-leb, lt-leb, not-true, not-false}
use borrow.Author.Rules.{rules}
use lib.Dec.{leb}
use lib.ListN.{length, get_or}
use Rattle.base.proofs.Ifs.{if_true, if_false}
use Rattle.base.specs.Part.{part}
use Rattle.charset.specs.Number.{number_in}
use Rattle.charset.specs.Date.{is_century, is_year_day, is_date}

pub year_wrong : (all day : Option ℕ) → all ≡ None → false ≡ is_year_day all day
unfolding is_year_day
year_wrong all day e = rw e

pub day_wrong : (all day : Option ℕ) (n : ℕ) → all ≡ Some n → day ≡ None → false ≡ is_year_day all day
unfolding is_year_day
day_wrong all day n e k = rw (e, k)

pub year_zero : (all day : Option ℕ) (n d : ℕ) → all ≡ Some n → day ≡ Some d → n ≡ 0 → true ≡ is_year_day all day
unfolding is_year_day
year_zero all day n d e k z = rw (e, k) (sym (if_true _ _ _ (eq-eqb n 0 z)))

pub day_zero : (all day : Option ℕ) (n d : ℕ) → all ≡ Some n → day ≡ Some d → (n ≡ 0 → ⊥) → d < 1 → false ≡ is_year_day all day
unfolding is_year_day
day_zero all day n d e k z l = rw (e, k) (sym (if_false _ _ _ (ne_eqb n 0 z) ∙ if_false _ _ _ (lt-leb 1 d l)))

pub day_last : (all day : Option ℕ) (n d : ℕ) → all ≡ Some n → day ≡ Some d → (n ≡ 0 → ⊥) → 1 ≤ d → leb d 366 ≡ is_year_day all day
unfolding is_year_day
day_last all day n d e k z l = rw (e, k) (sym (if_false _ _ _ (ne_eqb n 0 z) ∙ if_true _ _ _ (le-leb 1 d l)))

pub date_length : (s : List ℕ) → (length s ≡ 6 → ⊥) → false ≡ is_date s
unfolding is_date
date_length s h = sym (if_false _ _ _ (ne_eqb (length s) 6 h))

pub date_century : (s : List ℕ) (p : Bool) → length s ≡ 6 → p ≡ is_century (get_or s 0 0) → not p ≡ true → false ≡ is_date s
unfolding is_date
date_century s p h e t = sym (if_true _ _ _ (eq-eqb (length s) 6 h) ∙ if_false _ _ _ (sym e ∙ not-true p t))

pub date_year : (s : List ℕ) (p r : Bool) (t u : List ℕ) (all day : Option ℕ) → length s ≡ 6 → p ≡ is_century (get_or s 0 0)
    → not p ≡ false
    → t ≡ part 1 5 s → all ≡ number_in t → u ≡ part 3 3 s → day ≡ number_in u → r ≡ is_year_day all day → r ≡ is_date s
unfolding is_date
date_year s p r t u all day h e f k a l d q =
    q
    ∙ ap₂ is_year_day (a ∙ ap number_in k) (d ∙ ap number_in l)
    ∙ sym (if_true _ _ _ (eq-eqb (length s) 6 h) ∙ if_true _ _ _ (sym e ∙ not-false p f))

pub ruleset dating = (year_wrong, day_wrong, year_zero, day_zero, day_last, date_length, date_century, date_year, rules)
