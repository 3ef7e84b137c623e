-- The segments of a block, read backwards: what units they were cut from, what is open behind each, and which record it is a part
-- of. Assumes nothing.
use Rattle.std.specs.Prelude.{Option, Some, None}
use mathlib.Core.Path.{◌≡◌, refl, sym, ap, ◌∙◌}
use mathlib.Core.Bool.{Bool, true, false}
use mathlib.Core.List.{List, [], ◌∷◌}
use Prim.Native.Nat.{ℕ, suc, ◌+◌, ◌-◌, ◌≤◌}
use native.Mathlib.Omega.{arith}
use native.Mathlib.Numerals.{add-one}
use borrow.Author.Tests.{leb-true, eq-eqb, ne_eqb, eqb-false}
use lib.Dec.{leb, eqb}
use lib.ListN.{length, drop}
use Rattle.base.specs.If.{if_b}
use Rattle.base.proofs.Ifs.{if_true, if_false, if_case}
use Rattle.base.specs.Part.{part, all_are}
use Rattle.block.specs.Unit.{unit_of, pad, one_unit}
use Rattle.block.specs.Cut.{Segment, segment_of, onto, cut, some_units, units}
use Rattle.block.specs.Turn.{outcome, is_turn, open_after, turns_from}
use Rattle.block.specs.declared.Unit.{Unit}
use Rattle.block.specs.declared.Outcome.{Outcome}
use Rattle.block.proofs.Cuts.{cut_unit, cut_end}
use Rattle.volume.specs.Meaning.{on_first, joined}

-- ---- cutting, read backwards

pub record CutOne (f r : ℕ) (l : List ℕ) (x : Segment) (xs : List Segment) : Type 0 where
  pub i : ℕ
  pub c : ℕ
  pub n : ℕ
  pub unit : unit_of f r l ≡ one_unit i c n
  pub is : segment_of i (part c n l) ≡ x
  pub rest : cut f r (drop (c + n) l) ≡ Some xs

pub record CutEnd (f r : ℕ) (l : List ℕ) : Type 0 where
  pub unit : unit_of f r l ≡ None
  pub padding : all_are pad l ≡ true

pub cut_one_lem : (f r : ℕ) (l : List ℕ) (x : Segment) (xs : List Segment) → cut f r l ≡ Some (x ∷ xs) → CutOne f r l x xs
unfolding onto
cut_one_lem f r l x xs h = by_unit (unit_of f r l) refl
  where
    by_unit : (u : Option Unit) → unit_of f r l ≡ u → CutOne f r l x xs
    by_unit (Some u) e = by_rest (cut f r (drop (u.word + u.len) l)) refl
      where
        by_rest : (o : Option (List Segment)) → cut f r (drop (u.word + u.len) l) ≡ o → CutOne f r l x xs
        by_rest (Some ys) q =
            let all : Some (segment_of u.indicator (part u.word u.len l) ∷ ys) ≡ Some (x ∷ xs) = sym (cut_unit f r l u.indicator u.word u.len e ∙ ap (onto (segment_of u.indicator (part u.word u.len l))) q) ∙ h in
            let a : segment_of u.indicator (part u.word u.len l) ≡ x = cc in
            let b : ys ≡ xs = cc in
            record { i = u.indicator; c = u.word; n = u.len; unit = e; is = a; rest = q ∙ ap Some b }
        by_rest None q =
            let all : None ≡ Some (x ∷ xs) = sym (cut_unit f r l u.indicator u.word u.len e ∙ ap (onto (segment_of u.indicator (part u.word u.len l))) q) ∙ h in
            let z : ◌≡◌ {A = ℕ} 0 1 = cc in
            absurd (omega arith)
    by_unit None e =
        if_case (λ (o : Option (List Segment)). o ≡ Some (x ∷ xs) → CutOne f r l x xs) (all_are pad l) (Some []) None
        (λ _ q. let z : ◌≡◌ {A = ℕ} 0 1 = cc in absurd (omega arith)) (λ _ q. let z : ◌≡◌ {A = ℕ} 0 1 = cc in absurd (omega arith)) (sym (cut_end f r l e) ∙ h)

pub cut_over : (f r : ℕ) (l : List ℕ) → cut f r l ≡ Some [] → CutEnd f r l
unfolding onto
cut_over f r l h = by_unit (unit_of f r l) refl
  where
    by_unit : (u : Option Unit) → unit_of f r l ≡ u → CutEnd f r l
    by_unit (Some u) e = by_rest (cut f r (drop (u.word + u.len) l)) refl
      where
        by_rest : (o : Option (List Segment)) → cut f r (drop (u.word + u.len) l) ≡ o → CutEnd f r l
        by_rest (Some ys) q =
            let all : Some (segment_of u.indicator (part u.word u.len l) ∷ ys) ≡ Some [] = sym (cut_unit f r l u.indicator u.word u.len e ∙ ap (onto (segment_of u.indicator (part u.word u.len l))) q) ∙ h in
            let z : ◌≡◌ {A = ℕ} 0 1 = cc in
            absurd (omega arith)
        by_rest None q =
            let all : None ≡ Some [] = sym (cut_unit f r l u.indicator u.word u.len e ∙ ap (onto (segment_of u.indicator (part u.word u.len l))) q) ∙ h in
            let z : ◌≡◌ {A = ℕ} 0 1 = cc in
            absurd (omega arith)
    by_unit None e =
        if_case (λ (o : Option (List Segment)). o ≡ Some [] → CutEnd f r l) (all_are pad l) (Some []) None
        (λ t _. record { unit = e; padding = t }) (λ _ q. let z : ◌≡◌ {A = ℕ} 0 1 = cc in absurd (omega arith)) (sym (cut_end f r l e) ∙ h)

-- ---- with a record open no unit can follow in its block

turn_shut : (r k i n : ℕ) → is_turn r (suc k) false i n ≡ false
unfolding is_turn
turn_shut r k i n =
    if_case (λ (b : Bool). b ≡ false) (leb i 1) (if_b (eqb (suc k) 0) (leb n r) false)
    (if_b false (if_b (eqb (suc k) 0) false (leb (suc k - 1 + n) r)) false)
    (λ _. if_false _ _ _ (ne_eqb (suc k) 0 (λ z. omega arith))) (λ _. if_false _ _ _ refl)

pub turns_shut : (r k : ℕ) (xs : List Segment) → (turns_from r (suc k) false xs).number ≡ 0
    → (xs ≡ []) × ((turns_from r (suc k) false xs).pending ≡ suc k)
unfolding turns_from outcome
turns_shut r k [] h = (refl, refl)
turns_shut r k (x ∷ xs) h =
    absurd (eqb-false 8 0 refl
    (ap (λ (o : Outcome). o.number)
    (sym (if_false _ (turns_from r (open_after (suc k) x.indicator (length x.bytes)) false xs) (outcome 8 0)
    (turn_shut r k x.indicator (length x.bytes)))) ∙ h))

-- what the records are where a segment stands before others
pub joined_whole : (x : Segment) (xs : List Segment) → (x.indicator ≡ 1 → ⊥) → (x.indicator ≡ 2 → ⊥)
    → joined (x ∷ xs) ≡ x.bytes ∷ joined xs
unfolding joined
joined_whole x xs a b = if_false _ _ _ (ne_eqb x.indicator 1 a) ∙ if_false _ _ _ (ne_eqb x.indicator 2 b)

pub joined_one : (x : Segment) (xs : List Segment) → x.indicator ≡ 1 → joined (x ∷ xs) ≡ on_first x.bytes (joined xs)
unfolding joined
joined_one x xs a = if_true _ _ _ (eq-eqb x.indicator 1 a)

pub joined_two : (x : Segment) (xs : List Segment) → (x.indicator ≡ 1 → ⊥) → x.indicator ≡ 2
    → joined (x ∷ xs) ≡ on_first x.bytes (joined xs)
unfolding joined
joined_two x xs a b = if_false _ _ _ (ne_eqb x.indicator 1 a) ∙ if_true _ _ _ (eq-eqb x.indicator 2 b)

pub open_whole : (o i n : ℕ) → (i ≡ 1 → ⊥) → (i ≡ 2 → ⊥) → open_after o i n ≡ 0
unfolding open_after
open_whole o i n a b = if_false _ _ _ (ne_eqb i 1 a) ∙ if_false _ _ _ (ne_eqb i 2 b)

pub open_one : (o i n : ℕ) → i ≡ 1 → open_after o i n ≡ suc n
unfolding open_after
open_one o i n a = if_true _ _ _ (eq-eqb i 1 a) ∙ add-one n

pub open_two : (k i n : ℕ) → (i ≡ 1 → ⊥) → i ≡ 2 → open_after (suc k) i n ≡ suc (k + n)
unfolding open_after
open_two k i n a b = let e : suc k + n ≡ suc (k + n) = omega arith in if_false _ _ _ (ne_eqb i 1 a) ∙ if_true _ _ _ (eq-eqb i 2 b) ∙ e

-- the units of a block, read backwards
pub record UnitsOf (f r o : ℕ) (l : List ℕ) (x : Segment) (xs : List Segment) : Type 0 where
  pub long : o ≤ length l
  pub cuts : cut f r (drop o l) ≡ Some (x ∷ xs)

some_of : (c : Option (List Segment)) (x : Segment) (xs : List Segment) → some_units c ≡ Some (x ∷ xs) → c ≡ Some (x ∷ xs)
unfolding some_units
some_of None x xs h = h
some_of (Some []) x xs h = let z : ◌≡◌ {A = ℕ} 0 1 = cc in absurd (omega arith)
some_of (Some (y ∷ ys)) x xs h = h

some_empty : (c : Option (List Segment)) → some_units c ≡ Some [] → ⊥
unfolding some_units
some_empty None h = let z : ◌≡◌ {A = ℕ} 0 1 = cc in omega arith
some_empty (Some []) h = let z : ◌≡◌ {A = ℕ} 0 1 = cc in omega arith
some_empty (Some (y ∷ ys)) h = let z : ◌≡◌ {A = ℕ} 0 1 = cc in omega arith

pub units_of : (f b r o : ℕ) (l : List ℕ) (x : Segment) (xs : List Segment) → units f b r o l ≡ Some (x ∷ xs)
    → UnitsOf f r o l x xs
unfolding units
units_of f b r o l x xs =
    if_case P (leb (length l) b) _ None
    (λ _. if_case P (leb o (length l)) (some_units (cut f r (drop o l))) None
    (λ t q. record { long = leb-true o (length l) t; cuts = some_of (cut f r (drop o l)) x xs q }) (λ _ q. never q))
    (λ _ q. never q)
  where
    P : Option (List Segment) → Type 0
    P c = c ≡ Some (x ∷ xs) → UnitsOf f r o l x xs

    never : None ≡ Some (x ∷ xs) → UnitsOf f r o l x xs
    never q = let z : ◌≡◌ {A = ℕ} 0 1 = cc in absurd (omega arith)

pub units_empty : (f b r o : ℕ) (l : List ℕ) → units f b r o l ≡ Some [] → ⊥
unfolding units
units_empty f b r o l =
    if_case P (leb (length l) b) _ None
    (λ _. if_case P (leb o (length l)) (some_units (cut f r (drop o l))) None (λ _ q. some_empty (cut f r (drop o l)) q)
    (λ _ q. never q)) (λ _ q. never q)
  where
    P : Option (List Segment) → Type 0
    P c = c ≡ Some [] → ⊥

    never : ◌≡◌ {A = Option (List Segment)} None (Some []) → ⊥
    never q = let z : ◌≡◌ {A = ℕ} 0 1 = cc in omega arith
