-- Laws of the loops over the units of a block: what is left from a place on decides the whole. Assumes nothing.
use Rattle.std.specs.Prelude.{Option, Some, None}
use mathlib.Core.Path.{◌≡◌, refl, sym, ap, ◌∙◌, subst}
use mathlib.Core.Bool.{Bool, true, false}
use mathlib.Core.List.{List, []}
use Prim.Native.Nat.{ℕ, ◌+◌, ◌-◌, ◌≤◌, ◌<◌}
use native.Mathlib.Omega.{arith}
use borrow.Author.Rules.{rules}
use borrow.Author.Tests.{eq-eqb, ne_eqb}
use mir.Val.{Fits}
use mir.Syntax.{w64}
use lib.Dec.{eqb}
use lib.ListN.{length, drop, length-drop, drop_of_length-le}
use lib.Seq.{drop-drop}
use Rattle.base.specs.If.{if_b}
use Rattle.base.proofs.Ifs.{if_true, if_false, if_case, if_same}
use Rattle.base.specs.Part.{part, all_are}
use Rattle.block.specs.Unit.{fixed, variable, segment, unit_of, length_of}
use Rattle.block.specs.Cut.{Segment, segment_of, onto, cut, some_units, is_cut}
use Rattle.block.specs.Code.Loops.{due_at}
use Rattle.block.specs.declared.Unit.{Unit}
use Rattle.block.proofs.Units.{unit_stands}
use Rattle.block.proofs.Lengths.{unit_fixed, unit_variable, unit_segment}
use Rattle.block.proofs.Cuts.{cut_unit, cut_end}

-- ---- a unit of k bytes, and what follows it

record Next (f r : ℕ) (s : List ℕ) (k : ℕ) : Type 0 where
  first : Segment
  within : k ≤ length s
  cuts : cut f r s ≡ onto first (cut f r (drop k s))

next : (f r : ℕ) (s : List ℕ) (u : Option Unit) → unit_of f r s ≡ u → (length_of u ≡ 0 → ⊥) → Next f r s (length_of u)
unfolding length_of
next f r s (Some u) e z =
    record { first = segment_of u.indicator (part u.word u.len s); within = (unit_stands f r s u.indicator u.word u.len e).within; cuts = cut_unit f r s u.indicator u.word u.len e }
next f r s None e z = absurd (z refl)

no_next : (f r : ℕ) (s : List ℕ) (u : Option Unit) → unit_of f r s ≡ u → length_of u ≡ 0 → cut f r s ≡ if_b (all_are 94 s) (Some []) None
unfolding length_of
no_next f r s (Some u) e z = let some = (unit_stands f r s u.indicator u.word u.len e).some in absurd (omega arith)
no_next f r s None e z = cut_end f r s e

-- what follows a unit of k bytes at place `at`
after : (f r : ℕ) (s : List ℕ) (at k : ℕ) → k ≡ length_of (unit_of f r (drop at s)) → (k ≡ 0 → ⊥) → Next f r (drop at s) k
after f r s at k e z =
    subst (Next f r (drop at s)) (sym e) (next f r (drop at s) (unit_of f r (drop at s)) refl (λ h. z (e ∙ h)))

pub length_fits : (f r : ℕ) (s : List ℕ) (at k : ℕ) → length s < 18446744073709551616 → k ≡ length_of (unit_of f r (drop at s))
    → (k ≡ 0 → ⊥) → Fits w64 (at + k)
length_fits f r s at k h e z = let m = (after f r s at k e z).within in let l = length-drop at s in omega arith

pub length_less : (f r : ℕ) (s : List ℕ) (at k : ℕ) → k ≡ length_of (unit_of f r (drop at s)) → (k ≡ 0 → ⊥)
    → length s - (at + k) < length s - at
length_less f r s at k e z = let m = (after f r s at k e z).within in let l = length-drop at s in omega arith

pub as_fixed : (r : ℕ) (s : List ℕ) (k : ℕ) → k ≡ length_of (fixed r s) → k ≡ length_of (unit_of 70 r s)
as_fixed r s k e = e ∙ ap length_of (sym (unit_fixed 70 r s refl))

pub as_variable : (r : ℕ) (s : List ℕ) (k : ℕ) → k ≡ length_of (variable r s) → k ≡ length_of (unit_of 68 r s)
as_variable r s k e = e ∙ ap length_of (sym (unit_variable 68 r s refl))

pub as_segment : (r : ℕ) (s : List ℕ) (k : ℕ) → k ≡ length_of (segment s) → k ≡ length_of (unit_of 83 r s)
as_segment r s k e = e ∙ ap length_of (sym (unit_segment 83 r s refl))

-- the length of a segment does not go by R
pub segment_fits : (s : List ℕ) (at k : ℕ) → length s < 18446744073709551616 → k ≡ length_of (segment (drop at s)) → (k ≡ 0 → ⊥)
    → Fits w64 (at + k)
segment_fits s at k h e z = length_fits 83 0 s at k h (as_segment 0 (drop at s) k e) z

pub segment_less : (s : List ℕ) (at k : ℕ) → k ≡ length_of (segment (drop at s)) → (k ≡ 0 → ⊥)
    → length s - (at + k) < length s - at
segment_less s at k e z = length_less 83 0 s at k (as_segment 0 (drop at s) k e) z

-- ---- whether one or more units stand there, then padding

pub cut_onto : (x : Segment) (c : Option (List Segment)) → is_cut (onto x c) ≡ is_cut c
unfolding is_cut onto
cut_onto x None = refl
cut_onto x (Some xs) = refl

pub some_onto : (x : Segment) (c : Option (List Segment)) → some_units (onto x c) ≡ onto x c
unfolding some_units onto
some_onto x None = refl
some_onto x (Some xs) = refl

pub due_onto : (head : Bool) (x : Segment) (c : Option (List Segment)) → due_at head (onto x c) ≡ onto x c
unfolding due_at
due_onto head x c = ap (λ (y : Option (List Segment)). if_b head y (onto x c)) (some_onto x c) ∙ if_same head (onto x c)

pub due_later : (at from : ℕ) (c : Option (List Segment)) → (at ≡ from → ⊥) → due_at (eqb at from) c ≡ c
unfolding due_at
due_later at from c h = if_false _ _ _ (ne_eqb at from h)

pub due_first : (at from : ℕ) (c : Option (List Segment)) → at ≡ from → due_at (eqb at from) c ≡ some_units c
unfolding due_at
due_first at from c h = if_true _ _ _ (eq-eqb at from h)

-- a loop that began at `from` is at `at`
pub record Cutting (f r : ℕ) (s : List ℕ) (from at : ℕ) : Type 0 where
  pub room : length s < 18446744073709551616
  pub past : from ≤ at
  pub left : is_cut (due_at (eqb at from) (cut f r (drop at s))) ≡ is_cut (some_units (cut f r (drop from s)))

pub cutting_first : (f r : ℕ) (s : List ℕ) (from : ℕ)
    → is_cut (due_at (eqb from from) (cut f r (drop from s))) ≡ is_cut (some_units (cut f r (drop from s)))
cutting_first f r s from = ap is_cut (due_first from from (cut f r (drop from s)) refl)

pub cutting_more : (f r : ℕ) (s : List ℕ) (from at k : ℕ) → Cutting f r s from at → k ≡ length_of (unit_of f r (drop at s))
    → (k ≡ 0 → ⊥) → Cutting f r s from (at + k)
cutting_more f r s from at k c e z =
    let n = after f r s at k e z in
    let p = c.past in
    record {
      room = c.room;
      past = omega arith;
      left =
          ap is_cut (due_later (at + k) from (cut f r (drop (at + k) s)) (λ h. omega arith)
          ∙ ap (cut f r) (sym (drop-drop k at s)))
          ∙ sym (ap (λ (x : Option (List Segment)). is_cut (due_at (eqb at from) x)) n.cuts
          ∙ ap is_cut (due_onto (eqb at from) n.first (cut f r (drop k (drop at s))))
          ∙ cut_onto n.first (cut f r (drop k (drop at s))))
          ∙ c.left;
    }

-- no unit stands there
over : (f r : ℕ) (s : List ℕ) (at k : ℕ) → k ≡ length_of (unit_of f r (drop at s)) → k ≡ 0
    → cut f r (drop at s) ≡ if_b (all_are 94 (drop at s)) (Some []) None
over f r s at k e z = no_next f r (drop at s) (unit_of f r (drop at s)) refl (sym e ∙ z)

pub some_padding : (p : Bool) → some_units (if_b p (Some []) None) ≡ None
unfolding some_units
some_padding p = if_case (λ (c : Option (List Segment)). some_units c ≡ None) p (Some []) None (λ t. refl) (λ t. refl)

cut_padding : (p : Bool) → is_cut (if_b p (Some []) None) ≡ p
unfolding is_cut if_b
cut_padding true = refl
cut_padding false = refl

none_cut : is_cut None ≡ false
unfolding is_cut
none_cut = refl

pub cutting_none : (f r : ℕ) (s : List ℕ) (from at k : ℕ) → Cutting f r s from at → k ≡ length_of (unit_of f r (drop at s)) → k ≡ 0
    → at ≡ from
    → false ≡ is_cut (some_units (cut f r (drop from s)))
cutting_none f r s from at k c e z h =
    sym (ap is_cut (due_first at from (cut f r (drop at s)) h ∙ ap some_units (over f r s at k e z)
    ∙ some_padding (all_are 94 (drop at s))) ∙ none_cut) ∙ c.left

pub cutting_end : (f r : ℕ) (s : List ℕ) (from at k : ℕ) (p : Bool) → Cutting f r s from at
    → k ≡ length_of (unit_of f r (drop at s)) → k ≡ 0 → (at ≡ from → ⊥)
    → p ≡ all_are 94 (drop at s) → p ≡ is_cut (some_units (cut f r (drop from s)))
cutting_end f r s from at k p c e z h a =
    a ∙ sym (ap is_cut (due_later at from (cut f r (drop at s)) h ∙ over f r s at k e z) ∙ cut_padding (all_are 94 (drop at s)))
    ∙ c.left

pub ruleset cuttings =
    (cutting_first, cutting_more, cutting_none, cutting_end, length_fits, length_less, segment_fits, segment_less, as_fixed, as_segment, rules)

-- ---- whether units stand there, none or more, then padding

-- a loop that began at `from` is at `at`
pub record Resting (f r : ℕ) (s : List ℕ) (from at : ℕ) : Type 0 where
  pub room : length s < 18446744073709551616
  pub left : is_cut (cut f r (drop at s)) ≡ is_cut (cut f r (drop from s))

-- one unit further
cut_past : (f r : ℕ) (s : List ℕ) (at k : ℕ) → k ≡ length_of (unit_of f r (drop at s)) → (k ≡ 0 → ⊥)
    → is_cut (cut f r (drop (at + k) s)) ≡ is_cut (cut f r (drop at s))
cut_past f r s at k e z =
    let n = after f r s at k e z in
    ap (λ (l : List ℕ). is_cut (cut f r l)) (sym (drop-drop k at s))
    ∙ sym (ap is_cut n.cuts ∙ cut_onto n.first (cut f r (drop k (drop at s))))

pub resting_more : (f r : ℕ) (s : List ℕ) (from at k : ℕ) → Resting f r s from at → k ≡ length_of (unit_of f r (drop at s))
    → (k ≡ 0 → ⊥) → Resting f r s from (at + k)
resting_more f r s from at k c e z = record { room = c.room; left = cut_past f r s at k e z ∙ c.left }

pub resting_end : (f r : ℕ) (s : List ℕ) (from at k : ℕ) (p : Bool) → Resting f r s from at
    → k ≡ length_of (unit_of f r (drop at s)) → k ≡ 0 → p ≡ all_are 94 (drop at s)
    → p ≡ is_cut (cut f r (drop from s))
resting_end f r s from at k p c e z a = a ∙ sym (ap is_cut (over f r s at k e z) ∙ cut_padding (all_are 94 (drop at s))) ∙ c.left

-- one or more: a first unit, and what follows it
pub some_none : (f r : ℕ) (s : List ℕ) (from k : ℕ) → k ≡ length_of (unit_of f r (drop from s)) → k ≡ 0
    → false ≡ is_cut (some_units (cut f r (drop from s)))
some_none f r s from k e z =
    sym (ap is_cut (ap some_units (over f r s from k e z) ∙ some_padding (all_are 94 (drop from s))) ∙ none_cut)

pub some_more : (f r : ℕ) (s : List ℕ) (from k : ℕ) (p : Bool) → k ≡ length_of (unit_of f r (drop from s)) → (k ≡ 0 → ⊥)
    → p ≡ is_cut (cut f r (drop (from + k) s))
    → p ≡ is_cut (some_units (cut f r (drop from s)))
some_more f r s from k p e z q =
    let n = after f r s from k e z in
    q
    ∙ cut_past f r s from k e z
    ∙ sym (ap (λ (c : Option (List Segment)). is_cut (some_units c)) n.cuts
    ∙ ap is_cut (some_onto n.first (cut f r (drop k (drop from s))))
    ∙ sym (ap is_cut n.cuts))

pub ruleset restings = (resting_more, resting_end, some_none, some_more, length_fits, length_less, as_variable, rules)

-- nothing is left behind a unit that ends where the bytes end
pub cut_nothing : (f r : ℕ) → cut f r [] ≡ Some []
unfolding all_are
cut_nothing f r = no_next f r [] (unit_of f r []) refl (none_stands (unit_of f r []) refl) ∙ if_true _ _ _ refl
  where
    none_stands : (u : Option Unit) → unit_of f r [] ≡ u → length_of u ≡ 0
    none_stands (Some u) e = let c = unit_stands f r [] u.indicator u.word u.len e in absurd (omega (arith, c.some, c.within))
    none_stands None e = unfold length_of in refl

pub some_last : (f r : ℕ) (s : List ℕ) (from k : ℕ) → k ≡ length_of (unit_of f r (drop from s)) → (k ≡ 0 → ⊥) → length s ≤ from + k
    → true ≡ is_cut (some_units (cut f r (drop from s)))
unfolding is_cut
some_last f r s from k e z h =
    some_more f r s from k true e z
    (sym (ap (λ (l : List ℕ). is_cut (cut f r l)) (drop_of_length-le s h) ∙ ap is_cut (cut_nothing f r)))
