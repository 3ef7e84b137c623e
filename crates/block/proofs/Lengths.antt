-- What the length of a unit says of it: 0 is no unit, any other number gives the unit back. Assumes nothing.
use Rattle.std.specs.Prelude.{Option, Some, None}
use mathlib.Core.Path.{◌≡◌, refl, sym, ap, ◌∙◌}
use mathlib.Core.List.{List}
use Prim.Native.Nat.{ℕ, ◌+◌, ◌-◌, ◌≤◌, ◌<◌}
use native.Mathlib.Omega.{arith}
use borrow.Author.Rules.{rules}
use borrow.Author.Tests.{eq-eqb, ne_eqb, leb-true}
use mir.Val.{Fits}
use mir.Syntax.{w32}
use lib.Dec.{leb, eqb}
use lib.ListN.{length, take, drop, get_or, length-drop}
use Rattle.base.proofs.Ifs.{if_true, if_false, if_case}
use Rattle.base.specs.Part.{part, all_are}
use Rattle.charset.specs.Number.{number_in}
use Rattle.block.specs.Unit.{fixed, variable, segment, unit_of, length_of, one_unit}
use Rattle.block.specs.declared.Unit.{Unit}
use Rattle.block.proofs.Units.{Stands, IfAny, measured_any, fixed_any, variable_any, segment_any}
use Rattle.block.proofs.Places.{head_at}

-- ---- the three formats

pub unit_fixed : (f r : ℕ) (s : List ℕ) → f ≡ 70 → unit_of f r s ≡ fixed r s
unfolding unit_of
unit_fixed f r s e = if_true _ _ _ (eq-eqb f 70 e)

pub unit_variable : (f r : ℕ) (s : List ℕ) → f ≡ 68 → unit_of f r s ≡ variable r s
unfolding unit_of
unit_variable f r s e = if_false _ _ _ (ne_eqb f 70 (λ h. omega arith)) ∙ if_true _ _ _ (eq-eqb f 68 e)

-- the units of an S file are segments
pub unit_segment : (f r : ℕ) (s : List ℕ) → f ≡ 83 → unit_of f r s ≡ segment s
unfolding unit_of
unit_segment f r s e =
    if_false _ _ _ (ne_eqb f 70 (λ h. omega arith)) ∙ if_false _ _ _ (ne_eqb f 68 (λ h. omega arith))
    ∙ if_true _ _ _ (eq-eqb f 83 e)

-- ---- from a length to a unit

none_of : (f r l : ℕ) (u : Option Unit) (k : ℕ) → IfAny (Stands f r l) u → k ≡ length_of u → k ≡ 0 → None ≡ u
unfolding length_of
none_of f r l (Some u) k c e z = let some = c.some in absurd (omega arith)
none_of f r l None k c e z = refl

-- an indicator and a control word that are known
pub record Led (a b i w n : ℕ) : Type 0 where
  pub indicator : i ≡ a
  pub word : w ≡ b

led_of : (a b : ℕ) (u : Option Unit) (k : ℕ) → IfAny (Led a b) u → k ≡ length_of u → (k ≡ 0 → ⊥) → one_unit a b (k - b) ≡ u
unfolding length_of
led_of a b (Some u) k c e z =
    let p = c.indicator in
    let q = c.word in
    let m : k - b ≡ u.len = omega arith in
    ap (λ (x : ℕ). one_unit x b (k - b)) (sym p) ∙ ap (λ (x : ℕ). one_unit u.indicator x (k - b)) (sym q) ∙ ap (one_unit u.indicator u.word) m
led_of a b None k c e z = absurd (z e)

least_of : (a b : ℕ) (u : Option Unit) (k : ℕ) → IfAny (Led a b) u → k ≡ length_of u → (k ≡ 0 → ⊥) → b ≤ k
unfolding length_of
least_of a b (Some u) k c e z = let q = c.word in omega arith
least_of a b None k c e z = absurd (z e)

led : (a b : ℕ) {n : ℕ} → Led a b a b n
led a b = record { indicator = refl; word = refl }

-- ---- fixed-length records

pub fixed_none : (f r : ℕ) (s : List ℕ) (k : ℕ) → f ≡ 70 → k ≡ length_of (fixed r s) → k ≡ 0 → None ≡ unit_of f r s
fixed_none f r s k g e z = none_of f r (length s) (fixed r s) k (fixed_any f r s) e z ∙ sym (unit_fixed f r s g)

pub fixed_led : (r : ℕ) (s : List ℕ) → IfAny (Led 0 0) (fixed r s)
unfolding fixed
fixed_led r s =
    if_case (IfAny (Led 0 0)) (eqb r 0) None _ (λ a. refl)
    (λ a. if_case (IfAny (Led 0 0)) (leb r (length s)) _ None
    (λ b. if_case (IfAny (Led 0 0)) (all_are 94 (take r s)) None (one_unit 0 0 r) (λ c. refl) (λ c. led 0 0))
    (λ b. refl))

pub fixed_of : (f r : ℕ) (s : List ℕ) (k : ℕ) → f ≡ 70 → k ≡ length_of (fixed r s) → (k ≡ 0 → ⊥) → one_unit 0 0 k ≡ unit_of f r s
fixed_of f r s k g e z =
    let m : k ≡ k - 0 = omega arith in
    ap (one_unit 0 0) m ∙ led_of 0 0 (fixed r s) k (fixed_led r s) e z ∙ sym (unit_fixed f r s g)

-- ---- variable-length records

pub variable_none : (f r : ℕ) (s : List ℕ) (k : ℕ) → f ≡ 68 → k ≡ length_of (variable r s) → k ≡ 0 → None ≡ unit_of f r s
variable_none f r s k g e z = none_of f r (length s) (variable r s) k (variable_any f r s) e z ∙ sym (unit_variable f r s g)

pub variable_led : (r : ℕ) (s : List ℕ) → IfAny (Led 0 4) (variable r s)
unfolding variable
variable_led r s = measured_any (Led 0 4) 0 4 r (length s) (number_in (part 0 4 s)) (λ k a b c. led 0 4)

pub variable_of : (f r : ℕ) (s : List ℕ) (k : ℕ) → f ≡ 68 → k ≡ length_of (variable r s) → (k ≡ 0 → ⊥)
    → one_unit 0 4 (k - 4) ≡ unit_of f r s
variable_of f r s k g e z = led_of 0 4 (variable r s) k (variable_led r s) e z ∙ sym (unit_variable f r s g)

pub variable_least : (r : ℕ) (s : List ℕ) (k : ℕ) → k ≡ length_of (variable r s) → (k ≡ 0 → ⊥) → 4 ≤ k
variable_least r s k e z = least_of 0 4 (variable r s) k (variable_led r s) e z

-- ---- segments

pub segment_none : (s : List ℕ) (k : ℕ) → k ≡ length_of (segment s) → k ≡ 0 → None ≡ segment s
segment_none s k e z = none_of 83 0 (length s) (segment s) k (segment_any 83 0 s refl) e z

-- a segment begins with an indicator and has bytes
pub record Indicated (s : List ℕ) (i w n : ℕ) : Type 0 where
  pub led_by_lem : Led (get_or s 0 0 - 48) 5 i w n
  low : 48 ≤ get_or s 0 0
  high : get_or s 0 0 ≤ 51
  within : w + n ≤ length s

pub segment_indicated : (s : List ℕ) → IfAny (Indicated s) (segment s)
unfolding segment
segment_indicated s =
    if_case (IfAny (Indicated s)) (leb 48 (get_or s 0 0)) _ None
    (λ a. if_case (IfAny (Indicated s)) (leb (get_or s 0 0) 51) _ None
    (λ b. measured_any (Indicated s) (get_or s 0 0 - 48) 5 9999 (length s) (number_in (part 1 4 s))
    (λ k p q t. record {
      led_by_lem = led (get_or s 0 0 - 48) 5;
      low = leb-true 48 (get_or s 0 0) a;
      high = leb-true
          (get_or s 0 0) 51 b;
      within = omega arith;
    }))
    (λ b. refl))
    (λ a. refl)

-- what holds of the indicator and the length where a segment stands
record Begun (s : List ℕ) (k : ℕ) : Type 0 where
  is : one_unit (get_or s 0 0 - 48) 5 (k - 5) ≡ segment s
  low : 48 ≤ get_or s 0 0
  high : get_or s 0 0 ≤ 51
  least : 5 ≤ k
  within : k ≤ length s

begun : (s : List ℕ) (u : Option Unit) (k : ℕ) → u ≡ segment s → IfAny (Indicated s) u → k ≡ length_of u → (k ≡ 0 → ⊥) → Begun s k
unfolding length_of
begun s (Some u) k g c e z =
    let q = c.led_by_lem.word in
    let m = c.within in
    record {
      is = led_of (get_or s 0 0 - 48) 5 (one_unit u.indicator u.word u.len) k c.led_by_lem e z ∙ g;
      low = c.low;
      high = c.high;
      least = omega arith;
      within = omega arith;
    }
begun s None k g c e z = absurd (z e)

here : (s : List ℕ) (at k : ℕ) → k ≡ length_of (segment (drop at s)) → (k ≡ 0 → ⊥) → Begun (drop at s) k
here s at k e z = begun (drop at s) (segment (drop at s)) k refl (segment_indicated (drop at s)) e z

-- a segment by the number that the code found: its indicator, and what its control word leaves of its bytes
pub segment_of_lem : (s : List ℕ) (at k : ℕ) → k ≡ length_of (segment (drop at s)) → (k ≡ 0 → ⊥)
    → one_unit (get_or s at 0 - 48) 5 (k - 5) ≡ segment (drop at s)
segment_of_lem s at k e z = ap (λ (b : ℕ). one_unit (b - 48) 5 (k - 5)) (sym (head_at s at)) ∙ (here s at k e z).is

-- that number counts the control word
pub segment_least : (s : List ℕ) (at k : ℕ) → k ≡ length_of (segment (drop at s)) → (k ≡ 0 → ⊥) → 5 ≤ k
segment_least s at k e z = (here s at k e z).least

-- such a segment begins with a digit
pub segment_first : (s : List ℕ) (at k : ℕ) → k ≡ length_of (segment (drop at s)) → (k ≡ 0 → ⊥) → 48 ≤ get_or s at 0
segment_first s at k e z = let c = here s at k e z in let p = head_at s at in let l = c.low in omega arith

-- and its indicator fits a register
pub segment_fits : (s : List ℕ) (at k : ℕ) → k ≡ length_of (segment (drop at s)) → (k ≡ 0 → ⊥) → Fits w32 (get_or s at 0 - 48)
segment_fits s at k e z = let c = here s at k e z in let p = head_at s at in let h = c.high in omega arith

pub segment_inside : (s : List ℕ) (at k : ℕ) → k ≡ length_of (segment (drop at s)) → (k ≡ 0 → ⊥) → at < length s
segment_inside s at k e z =
    let c = here s at k e z in let p = c.within in let m = c.least in let l = length-drop at s in omega arith

pub ruleset segments_of_lem = (segment_none, segment_of_lem, segment_least, segment_first, segment_fits, segment_inside, rules)

-- ---- any format

pub segment_unit : (f r : ℕ) (s : List ℕ) (u : Option Unit) → f ≡ 83 → u ≡ segment s → u ≡ unit_of f r s
segment_unit f r s u g e = e ∙ sym (unit_segment f r s g)

pub other_unit : (f r : ℕ) (s : List ℕ) → (f ≡ 70 → ⊥) → (f ≡ 68 → ⊥) → (f ≡ 83 → ⊥) → None ≡ unit_of f r s
unfolding unit_of
other_unit f r s a b c = sym (if_false _ _ _ (ne_eqb f 70 a) ∙ if_false _ _ _ (ne_eqb f 68 b) ∙ if_false _ _ _ (ne_eqb f 83 c))

pub ruleset units_of = (fixed_none, fixed_of, variable_none, variable_of, variable_least, segment_unit, other_unit, rules)
