-- The walk over a table of fields, for whatever is asked of a field. Assumes nothing.
use mathlib.Core.Path.{◌≡◌, refl, sym, ap, ◌∙◌}
use mathlib.Core.Bool.{Bool, true, false}
use mathlib.Core.List.{List, [], ◌∷◌}
use Prim.Native.Nat.{ℕ, suc, ◌+◌, ◌*◌, ◌≤◌, ◌<◌}
use native.Mathlib.Omega.{arith}
use borrow.Author.Rules.{rules}
use lib.ListN.{length, drop, get_or, length-drop}
use lib.Seq.{drop-cons}
use Rattle.base.proofs.Ifs.{if_true, if_false}
use Rattle.label.specs.Judged.{first_bad, good_at, agree_at, ends_before}
use Rattle.label.specs.Code.Asked.{asked}
use Rattle.label.specs.declared.rows.Ask.{Ask}
use Rattle.label.specs.declared.rows.Ask.TheVariants.{Suits, Agrees, Ends}

-- three numbers of the list of what is left are a row: a width, a rule and a scope
pub row : (table : List ℕ) (i : ℕ) → i + 2 < length table
    → drop i table ≡ get_or table i 0 ∷ get_or table (i + 1) 0 ∷ get_or table (i + 2) 0 ∷ drop (i + 3) table
row table i h =
    let one : suc i ≡ i + 1 = omega arith in
    let two : suc (i + 1) ≡ i + 2 = omega arith in
    let three : suc (i + 2) ≡ i + 3 = omega arith in
    drop-cons table i 0 (omega arith)
    ∙ ap (λ (k : ℕ). get_or table i 0 ∷ drop k table) one
    ∙ ap (λ (l : List ℕ). get_or table i 0 ∷ l) (drop-cons table (i + 1) 0 (omega arith))
    ∙ ap (λ (k : ℕ). get_or table i 0 ∷ get_or table (i + 1) 0 ∷ drop k table) two
    ∙ ap (λ (l : List ℕ). get_or table i 0 ∷ get_or table (i + 1) 0 ∷ l) (drop-cons table (i + 2) 0 h)
    ∙ ap (λ (k : ℕ). get_or table i 0 ∷ get_or table (i + 1) 0 ∷ get_or table (i + 2) 0 ∷ drop k table) three

-- whether the row at place i of the table, of a field at place `at`, is as asked
abbrev pub row_at : (ℕ → ℕ → ℕ → ℕ → Bool) → List ℕ → ℕ → ℕ → Bool
row_at ok table at i = ok (get_or table (i + 1) 0) (get_or table (i + 2) 0) at (get_or table i 0)

pub bad_more : (ok : ℕ → ℕ → ℕ → ℕ → Bool) (table : List ℕ) (at i : ℕ) → i + 2 < length table → row_at ok table at i ≡ true
    → first_bad ok at (drop i table) ≡ first_bad ok (at + get_or table i 0) (drop (i + 3) table)
unfolding first_bad
bad_more ok table at i h e = rw (row table i h) (if_true _ _ _ e)

pub bad_here : (ok : ℕ → ℕ → ℕ → ℕ → Bool) (table : List ℕ) (at i : ℕ) → i + 2 < length table → row_at ok table at i ≡ false
    → first_bad ok at (drop i table) ≡ at + 1
unfolding first_bad
bad_here ok table at i h e = rw (row table i h) (if_false _ _ _ e)

-- a label without a table has no bad field
pub bad_none : (ok : ℕ → ℕ → ℕ → ℕ → Bool) (at : ℕ) → first_bad ok at [] ≡ 0
unfolding first_bad
bad_none ok at = refl

bad_short : (ok : ℕ → ℕ → ℕ → ℕ → Bool) (at : ℕ) (rows : List ℕ) → length rows ≤ 2 → first_bad ok at rows ≡ 0
unfolding first_bad
bad_short ok at [] h = refl
bad_short ok at (w ∷ []) h = refl
bad_short ok at (w ∷ r ∷ []) h = refl
bad_short ok at (w ∷ r ∷ s ∷ rows) h = absurd (omega arith)

pub bad_end : (ok : ℕ → ℕ → ℕ → ℕ → Bool) (table : List ℕ) (at i : ℕ) → length table ≤ i + 2 → first_bad ok at (drop i table) ≡ 0
bad_end ok table at i h = bad_short ok at (drop i table) (simp length-drop (omega arith))

-- ---- the loop: what is left from here has the first bad field of the whole

pub record RowsPassed (ok : ℕ → ℕ → ℕ → ℕ → Bool) (table : List ℕ) (at i : ℕ) : Type 0 where
  pub few : length table ≤ 64
  pub within : i ≤ length table
  pub small : at ≤ 255 * i
  pub left : first_bad ok at (drop i table) ≡ first_bad ok 0 table

pub walked_none : (ok : ℕ → ℕ → ℕ → ℕ → Bool) (table : List ℕ) → length table ≤ 64 → RowsPassed ok table 0 0
walked_none ok table h = record { few = h; within = omega arith; small = omega arith; left = refl }

pub walked_more : (ok : ℕ → ℕ → ℕ → ℕ → Bool) (table : List ℕ) (at i w : ℕ) (p : Bool) → RowsPassed ok table at i
    → i + 2 < length table
    → w ≡ get_or table i 0 → w < 256 → p ≡ ok (get_or table (i + 1) 0) (get_or table (i + 2) 0) at w → p ≡ true
    → RowsPassed ok table (at + w) (i + 3)
walked_more ok table at i w p c h e s q t =
    let here : row_at ok table at i ≡ true = ap (ok (get_or table (i + 1) 0) (get_or table (i + 2) 0) at) (sym e) ∙ sym q ∙ t in
    record {
      few = c.few;
      within = omega arith;
      small = omega (arith, c.small);
      left = ap (λ (k : ℕ). first_bad ok (at + k) (drop (i + 3) table)) e ∙ sym (bad_more ok table at i h here) ∙ c.left;
    }

pub walked_bad : (ok : ℕ → ℕ → ℕ → ℕ → Bool) (table : List ℕ) (at i w : ℕ) (p : Bool) → RowsPassed ok table at i
    → i + 2 < length table
    → w ≡ get_or table i 0 → p ≡ ok (get_or table (i + 1) 0) (get_or table (i + 2) 0) at w → p ≡ false → at + 1 ≡ first_bad ok 0 table
walked_bad ok table at i w p c h e q t =
    sym (bad_here ok table at i h (ap (ok (get_or table (i + 1) 0) (get_or table (i + 2) 0) at) (sym e) ∙ sym q ∙ t)) ∙ c.left

pub walked_all : (ok : ℕ → ℕ → ℕ → ℕ → Bool) (table : List ℕ) (at i : ℕ) → RowsPassed ok table at i → length table ≤ i + 2
    → 0 ≡ first_bad ok 0 table
walked_all ok table at i c h = sym (bad_end ok table at i h) ∙ c.left

-- that a place in the table is small enough for a sum
pub walked_small : (ok : ℕ → ℕ → ℕ → ℕ → Bool) (table : List ℕ) (at i : ℕ) → RowsPassed ok table at i → at ≤ 16384
walked_small ok table at i c = omega (arith, c.few, c.within, c.small)

pub ruleset pieces = (walked_none, walked_more, walked_bad, walked_all, walked_small, rules)

-- a table that a function made
pub by_table : (ok : ℕ → ℕ → ℕ → ℕ → Bool) (n : ℕ) (t rows : List ℕ) → n ≡ first_bad ok 0 t → t ≡ rows → n ≡ first_bad ok 0 rows
by_table ok n t rows e h = e ∙ ap (first_bad ok 0) h

-- ---- what is asked of a field

pub asked_suits : (t : Bool) (a : Ask) (l m : List ℕ) (r s at w : ℕ) → t ≡ good_at l r s at w → a ≡ Suits
    → t ≡ asked a l m r s at w
unfolding asked
asked_suits t a l m r s at w e h = e ∙ ap (λ (x : Ask). asked x l m r s at w) (sym h)

pub asked_agrees : (t : Bool) (a : Ask) (n : ℕ) (l m : List ℕ) (r s at w : ℕ) → t ≡ agree_at n l m r s at w → a ≡ Agrees n
    → t ≡ asked a l m r s at w
unfolding asked
asked_agrees t a n l m r s at w e h = e ∙ ap (λ (x : Ask). asked x l m r s at w) (sym h)

pub asked_ends : (t : Bool) (a : Ask) (b : ℕ) (l m : List ℕ) (r s at w : ℕ) → t ≡ ends_before b r s at w → a ≡ Ends b
    → t ≡ asked a l m r s at w
unfolding asked
asked_ends t a b l m r s at w e h = e ∙ ap (λ (x : Ask). asked x l m r s at w) (sym h)

pub ruleset asking = (asked_suits, asked_agrees, asked_ends, rules)
