-- The unit that is a whole record: what its one number says of it. Assumes nothing.
use Rattle.std.specs.Prelude.{Option, Some, None}
use mathlib.Core.Path.{◌≡◌, refl, sym, ap, ◌∙◌, subst}
use mathlib.Core.List.{List}
use Prim.Native.Nat.{ℕ, ◌+◌, ◌-◌, ◌≤◌, ◌<◌}
use native.Mathlib.Omega.{arith}
use borrow.Author.Rules.{rules}
use borrow.Author.Tests.{eq-eqb, ne_eqb, le-leb, lt-leb, leb-true, eqb-true}
use lib.Dec.{leb, eqb}
use lib.ListN.{length, drop, get_or}
use Rattle.base.specs.If.{if_b}
use Rattle.base.proofs.Ifs.{if_true, if_false, if_case}
use Rattle.block.specs.Unit.{fixed, variable, segment, unit_of, length_of, word_of, whole_of, one_unit}
use Rattle.block.specs.declared.Unit.{Unit}
use Rattle.block.proofs.Units.{Stands, IfAny, fixed_any, variable_any}
use Rattle.block.proofs.Lengths.{Led, Indicated, fixed_led, variable_led, segment_indicated, unit_fixed, unit_variable, unit_segment, segment_none, segment_of_lem, segment_least, segment_first, segment_inside, other_unit}

-- ---- from a length to the number

-- a unit of a format other than S is a whole record
whole_any : (f r l : ℕ) (u : Option Unit) → (f ≡ 83 → ⊥) → IfAny (Stands f r l) u → length_of u ≡ whole_of r u
unfolding length_of whole_of
whole_any f r l (Some u) h c = sym (if_true _ _ _ (eq-eqb u.indicator 0 (c.whole h)) ∙ if_true _ _ _ (le-leb u.len r (c.short h)))
whole_any f r l None h c = refl

pub whole_fixed : (f r : ℕ) (s : List ℕ) (k : ℕ) → f ≡ 70 → k ≡ length_of (fixed r s) → k ≡ whole_of r (unit_of f r s)
whole_fixed f r s k g e =
    e ∙ whole_any f r (length s) (fixed r s) (λ h. omega arith) (fixed_any f r s) ∙ ap (whole_of r) (sym (unit_fixed f r s g))

pub whole_variable : (f r : ℕ) (s : List ℕ) (k : ℕ) → f ≡ 68 → k ≡ length_of (variable r s) → k ≡ whole_of r (unit_of f r s)
whole_variable f r s k g e =
    e ∙ whole_any f r (length s) (variable r s) (λ h. omega arith) (variable_any f r s)
    ∙ ap (whole_of r) (sym (unit_variable f r s g))

pub whole_segmented : (f r : ℕ) (s : List ℕ) (k : ℕ) → f ≡ 83 → k ≡ whole_of r (segment s) → k ≡ whole_of r (unit_of f r s)
whole_segmented f r s k g e = e ∙ ap (whole_of r) (sym (unit_segment f r s g))

pub whole_other : (f r : ℕ) (s : List ℕ) → (f ≡ 70 → ⊥) → (f ≡ 68 → ⊥) → (f ≡ 83 → ⊥) → 0 ≡ whole_of r (unit_of f r s)
unfolding whole_of
whole_other f r s a b c = ap (whole_of r) (other_unit f r s a b c)

pub ruleset wholes = (whole_fixed, whole_variable, whole_segmented, whole_other, rules)

-- ---- a segment

pub whole_none : (r : ℕ) (s : List ℕ) (at k : ℕ) → k ≡ length_of (segment (drop at s)) → k ≡ 0
    → 0 ≡ whole_of r (segment (drop at s))
unfolding whole_of
whole_none r s at k e z = ap (whole_of r) (segment_none (drop at s) k e z)

pub whole_begun : (r : ℕ) (s : List ℕ) (at k : ℕ) → k ≡ length_of (segment (drop at s)) → (k ≡ 0 → ⊥) → (get_or s at 0 ≡ 48 → ⊥)
    → 0 ≡ whole_of r (segment (drop at s))
unfolding whole_of
whole_begun r s at k e z h =
    let first = segment_first s at k e z in
    sym (if_false _ _ _ (ne_eqb (get_or s at 0 - 48) 0 (λ g. omega arith))) ∙ ap (whole_of r) (segment_of_lem s at k e z)

-- a segment with indicator 0
whole_led : (r : ℕ) (s : List ℕ) (at k : ℕ) → k ≡ length_of (segment (drop at s)) → (k ≡ 0 → ⊥) → get_or s at 0 ≡ 48
    → whole_of r (segment (drop at s)) ≡ if_b (leb (k - 5) r) (5 + (k - 5)) 0
unfolding whole_of
whole_led r s at k e z h =
    ap (whole_of r) (sym (segment_of_lem s at k e z)) ∙ if_true _ _ _ (eq-eqb (get_or s at 0 - 48) 0 (omega arith))

pub whole_over : (r : ℕ) (s : List ℕ) (at k : ℕ) → k ≡ length_of (segment (drop at s)) → (k ≡ 0 → ⊥) → get_or s at 0 ≡ 48 → r < k - 5
    → 0 ≡ whole_of r (segment (drop at s))
whole_over r s at k e z h m = sym (whole_led r s at k e z h ∙ if_false _ _ _ (lt-leb (k - 5) r m))

pub whole_some : (r : ℕ) (s : List ℕ) (at k : ℕ) → k ≡ length_of (segment (drop at s)) → (k ≡ 0 → ⊥) → get_or s at 0 ≡ 48 → k - 5 ≤ r
    → k ≡ whole_of r (segment (drop at s))
whole_some r s at k e z h m =
    let least = segment_least s at k e z in
    let sum : k ≡ 5 + (k - 5) = omega arith in
    sum ∙ sym (whole_led r s at k e z h ∙ if_true _ _ _ (le-leb (k - 5) r m))

pub ruleset whole_segments = (whole_none, whole_begun, whole_over, whole_some, segment_least, segment_inside, rules)

-- ---- from the number to the unit

map_any : (P Q : ℕ → ℕ → ℕ → Type 0) → ((i w n : ℕ) → P i w n → Q i w n) → (u : Option Unit) → IfAny P u → IfAny Q u
map_any P Q g (Some u) c = g u.indicator u.word u.len c
map_any P Q g None c = refl

-- records of F files have no control word
pub word_fixed : (f : ℕ) → f ≡ 70 → word_of f ≡ 0
unfolding word_of
word_fixed f e = if_true _ _ _ (eq-eqb f 70 e)

-- those of D files have four bytes of it
pub word_variable : (f : ℕ) → f ≡ 68 → word_of f ≡ 4
unfolding word_of
word_variable f e = if_false _ _ _ (ne_eqb f 70 (λ h. omega arith)) ∙ if_true _ _ _ (eq-eqb f 68 e)

-- segments have five
pub word_segmented : (f : ℕ) → f ≡ 83 → word_of f ≡ 5
unfolding word_of
word_segmented f e = if_false _ _ _ (ne_eqb f 70 (λ h. omega arith)) ∙ if_false _ _ _ (ne_eqb f 68 (λ h. omega arith))

-- the control word of a unit is that of its format
abbrev Worded : ℕ → ℕ → ℕ → ℕ → Type 0
Worded f i w n = w ≡ word_of f

unit_worded : (f r : ℕ) (s : List ℕ) → IfAny (Worded f) (unit_of f r s)
unfolding unit_of
unit_worded f r s =
    if_case (IfAny (Worded f)) (eqb f 70) _ _
    (λ a. map_any (Led 0 0) (Worded f) (λ i w n c. c.word ∙ sym (word_fixed f (eqb-true f 70 a))) (fixed r s) (fixed_led r s))
    (λ a. if_case (IfAny (Worded f)) (eqb f 68) _ _
    (λ b. map_any (Led 0 4) (Worded f) (λ i w n c. c.word ∙ sym (word_variable f (eqb-true f 68 b))) (variable r s)
    (variable_led r s))
    (λ b. if_case (IfAny (Worded f)) (eqb f 83) _ None
    (λ d. map_any (Indicated s) (Worded f) (λ i w n c. c.led_by_lem.word ∙ sym (word_segmented f (eqb-true f 83 d))) (segment s)
    (segment_indicated s))
    (λ d. refl)))

pub unit_word : (f r : ℕ) (s : List ℕ) (i w n : ℕ) → unit_of f r s ≡ one_unit i w n → w ≡ word_of f
unit_word f r s i w n e = subst (IfAny (Worded f)) e (unit_worded f r s)

-- a unit that is a whole record of at most r bytes, k with its control word
pub record Whole (f r : ℕ) (u : Option Unit) (k : ℕ) : Type 0 where
  pub is : u ≡ one_unit 0 (word_of f) (k - word_of f)
  pub least : word_of f ≤ k
  pub short : k - word_of f ≤ r

whole_by : (f r : ℕ) (u : Option Unit) (k : ℕ) → IfAny (Worded f) u → (k ≡ 0 → ⊥) → k ≡ whole_of r u → Whole f r u k
unfolding whole_of
whole_by f r (Some u) k c z =
    if_case (λ (x : ℕ). k ≡ x → Whole f r (one_unit u.indicator u.word u.len) k) (eqb u.indicator 0) _ 0
    (λ a. if_case (λ (x : ℕ). k ≡ x → Whole f r (one_unit u.indicator u.word u.len) k) (leb u.len r) (u.word + u.len) 0
    (λ b e. let p = eqb-true u.indicator 0 a in
    let m : u.len ≡ k - word_of f = omega arith in
    let q = leb-true u.len r b in
    record {
      is = ap (λ (x : ℕ). one_unit x u.word u.len) p ∙ ap (λ (x : ℕ). one_unit 0 x u.len) c ∙ ap (one_unit 0 (word_of f)) m;
      least = omega arith;
      short = omega arith;
    })
    (λ b e. absurd (z e)))
    (λ a e. absurd (z e))
whole_by f r None k c z = λ e. absurd (z e)

-- a number that is not 0 tells a whole record at the head
pub whole_unit : (f r : ℕ) (s : List ℕ) (k : ℕ) → k ≡ whole_of r (unit_of f r s) → (k ≡ 0 → ⊥) → Whole f r (unit_of f r s) k
whole_unit f r s k e z = whole_by f r (unit_of f r s) k (unit_worded f r s) z e
