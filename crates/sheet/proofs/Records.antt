-- Laws of one record, and of records cut one behind the other, as a loop over their lengths wants them. Assumes nothing.
use mathlib.Core.Path.{◌≡◌, refl, sym, ap, ◌∙◌}
use mathlib.Core.Bool.{Bool, true, false, not}
use mathlib.Core.List.{List, []}
use Prim.Native.Nat.{ℕ, ◌+◌, ◌-◌, ◌≤◌, ◌<◌, min}
use native.Mathlib.Omega.{arith}
use native.Mathlib.Numerals.{add-one}
use borrow.Author.Rules.{rules}
use borrow.Author.Tests.{ne_eqb, leb-true, le-leb, lt-leb, not-true, not-false}
use mir.Val.{Fits}
use mir.Syntax.{w64}
use lib.Dec.{eqb, leb}
use lib.ListN.{length, take, drop, get_or, drop_of_length-le}
use lib.Seq.{drop-cons, drop-drop}
use Rattle.base.specs.If.{if_b}
use Rattle.base.proofs.Ifs.{if_true, if_false, if_case}
use Rattle.base.specs.Part.{part}
use Rattle.reading.specs.Legal.{legal_record, legal_records}
use Rattle.sheet.specs.Code.Passing.{passed, too_long}
use Rattle.std.specs.Prelude.{Some, None}
use Rattle.base.specs.Sum.{sum, cut_by}
use Rattle.base.proofs.Parts.{length_part, part_within}
use Rattle.base.proofs.Sums.{sum_at}

-- ---- one record

-- a record of another file than F is legal where it is not too long
module _ (f r : ℕ) (x : List ℕ) (h : f ≡ 70 → ⊥) where
  length_legal : length x < too_long f r → legal_record f r x ≡ true
  unfolding legal_record too_long
  length_legal =
      if_case (λ (t : ℕ). length x < t → legal_record f r x ≡ true) (eqb f 68) (min (r - 3) 9996) (r + 1)
      (λ e l. if_false _ _ _ (ne_eqb f 70 h) ∙ if_true _ _ _ e ∙ if_true _ _ _ (le-leb (length x + 4) r (omega arith))
      ∙ le-leb (length x + 4) 9999 (omega arith))
      (λ e l. if_false _ _ _ (ne_eqb f 70 h) ∙ if_false _ _ _ e ∙ le-leb (length x) r (omega arith))

  length_illegal : too_long f r ≤ length x → legal_record f r x ≡ false
  unfolding legal_record too_long
  length_illegal =
      if_case (λ (t : ℕ). t ≤ length x → legal_record f r x ≡ false) (eqb f 68) (min (r - 3) 9996) (r + 1)
      (λ e l. if_false _ _ _ (ne_eqb f 70 h) ∙ if_true _ _ _ e
      ∙ if_case (λ (b : Bool). b ≡ false) (leb (length x + 4) r) (leb (length x + 4) 9999) false
      (λ k. let room = leb-true (length x + 4) r k in lt-leb (length x + 4) 9999 (omega arith)) (λ _. refl))
      (λ e l. if_false _ _ _ (ne_eqb f 70 h) ∙ if_false _ _ _ e ∙ lt-leb (length x) r (omega arith))

-- ---- the loops over lengths: the records that are left from here decide as all of them

pub record Cut (f r : ℕ) (ls s : List ℕ) (from at i : ℕ) : Type 0 where
  pub within : i ≤ length ls
  pub fits : at + sum (drop i ls) ≤ length s
  pub place : at + sum (drop i ls) ≡ from + sum ls
  pub left : legal_records f r (cut_by (drop i ls) (drop at s)) ≡ legal_records f r (cut_by ls (drop from s))

-- the record at a place, and those behind it
records_at_lem : (f r : ℕ) (ls s : List ℕ) (at i : ℕ) → i < length ls
    → legal_records f r (cut_by (drop i ls) (drop at s))
    ≡ if_b (legal_record f r (part at (get_or ls i 0) s))
    (legal_records f r (cut_by (drop (i + 1) ls) (drop (at + get_or ls i 0) s))) false
unfolding legal_records cut_by part
records_at_lem f r ls s at i h = rw (add-one, drop-cons ls i 0 h, sym (drop-drop (get_or ls i 0) at s))

pub cut_none : (f r : ℕ) (ls s : List ℕ) (from : ℕ) → from + sum ls ≤ length s → Cut f r ls s from from 0
cut_none f r ls s from h = record { within = omega arith; fits = h; place = refl; left = refl }

module _ (f r : ℕ) (ls s : List ℕ) (from at i : ℕ) (c : Cut f r ls s from at i) (h : i < length ls) where
  pub cut_room : at + get_or ls i 0 ≤ length s
  cut_room = omega (arith, c.fits, sum_at ls i h)

  pub cut_fits : length s < 18446744073709551616 → Fits w64 (at + get_or ls i 0)
  cut_fits m = record { fits = omega (arith, cut_room) }

  cut_yes : legal_record f r (part at (get_or ls i 0) s) ≡ true → Cut f r ls s from (at + get_or ls i 0) (i + 1)
  cut_yes e =
      record {
        within = omega arith;
        fits = omega (arith, c.fits, sum_at ls i h);
        place = omega (arith, c.place, sum_at ls i h);
        left = sym (records_at_lem f r ls s at i h ∙ if_true _ _ _ e) ∙ c.left;
      }

  cut_no : legal_record f r (part at (get_or ls i 0) s) ≡ false
      → None ≡ passed (legal_records f r (cut_by ls (drop from s))) ls from
  unfolding passed
  cut_no e = sym (if_false _ _ _ (sym c.left ∙ records_at_lem f r ls s at i h ∙ if_false _ _ _ e))

pub cut_all : (f r : ℕ) (ls s : List ℕ) (from at i : ℕ) → Cut f r ls s from at i → length ls ≤ i
    → Some at ≡ passed (legal_records f r (cut_by ls (drop from s))) ls from
unfolding passed legal_records cut_by sum
cut_all f r ls s from at i c h =
    let e : drop i ls ≡ [] = drop_of_length-le ls h in
    let none : sum (drop i ls) ≡ 0 = ap sum e in
    let place : at ≡ from + sum ls = omega (arith, c.place, none) in
    ap Some place ∙ sym (if_true _ _ _ (sym c.left ∙ ap (λ (l : List ℕ). legal_records f r (cut_by l (drop at s))) e))

-- by the bytes of an F record, as the code takes them
module _ (r : ℕ) (ls s : List ℕ) (from at i : ℕ) (p : Bool) (c : Cut 70 r ls s from at i) (h : i < length ls)
    (e : p ≡ legal_record 70 r (take (at + get_or ls i 0 - at) (drop at s))) where
  pub fixed_more : not p ≡ false → Cut 70 r ls s from (at + get_or ls i 0) (i + 1)
  fixed_more n =
      cut_yes 70 r ls s from at i c h (ap (legal_record 70 r) (sym (part_within at (get_or ls i 0) s)) ∙ sym e ∙ not-false p n)

  pub fixed_wrong : not p ≡ true
      → None ≡ passed (legal_records 70 r (cut_by ls (drop from s))) ls from
  fixed_wrong n =
      cut_no 70 r ls s from at i c h (ap (legal_record 70 r) (sym (part_within at (get_or ls i 0) s)) ∙ sym e ∙ not-true p n)

-- by the length of any other
module _ (f r : ℕ) (ls s : List ℕ) (from at i over : ℕ) (k : f ≡ 70 → ⊥) (e : over ≡ too_long f r) (c : Cut f r ls s from at i)
    (h : i < length ls) where
  long : length (part at (get_or ls i 0) s) ≡ get_or ls i 0
  long = length_part at (get_or ls i 0) s (cut_room f r ls s from at i c h)

  pub length_more : get_or ls i 0 < over → Cut f r ls s from (at + get_or ls i 0) (i + 1)
  length_more l = cut_yes f r ls s from at i c h (length_legal f r (part at (get_or ls i 0) s) k (omega (arith, long, e)))

  pub length_wrong : over ≤ get_or ls i 0
      → None ≡ passed (legal_records f r (cut_by ls (drop from s))) ls from
  length_wrong l = cut_no f r ls s from at i c h (length_illegal f r (part at (get_or ls i 0) s) k (omega (arith, long, e)))

pub ruleset cuts =
    (cut_none, cut_room, cut_fits, cut_all, fixed_more, fixed_wrong, length_more, length_wrong, rules)
