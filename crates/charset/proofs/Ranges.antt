-- The class of a byte, told by its range or by a table that is right elsewhere. Assumes nothing.
use mathlib.Core.Path.{◌≡◌, refl, sym, ap, ◌∙◌}
use mathlib.Core.Bool.{Bool, true, false}
use mathlib.Core.List.{List}
use Prim.Native.Nat.{ℕ, ◌+◌, ◌-◌, ◌≤◌, ◌<◌}
use native.Mathlib.Omega.{arith}
use borrow.Author.Tests.{le-leb, lt-leb, eqb-true}
use borrow.Author.Rules.{rules}
use lib.Dec.{leb}
use lib.ListN.{length, take, drop, get_or}
use Rattle.base.specs.If.{if_b}
use Rattle.base.proofs.Ifs.{if_true, if_false, if_case}
use Rattle.base.specs.Part.{part}
use Rattle.base.specs.Digits.{is_digit}
use Rattle.base.proofs.Parts.{part_to_end}
use Rattle.charset.specs.Class.{between, is_a, class_of, all_a}
use Rattle.charset.specs.Code.Table.{in_ranges, Right, RightElsewhere}
use Rattle.charset.proofs.Table.{entries, look_up}
use Rattle.charset.proofs.Digits.{between_low, between_high}
use Rattle.charset.proofs.Passed.{PassedUpTo, each_character, each_more}
use Rattle.charset.proofs.Characters.{digit_character, capital_character, space_character}

pub right_elsewhere : (table : List ℕ) → Right table → RightElsewhere table
right_elsewhere table t = record { entry = λ b h _. t.entry b h }

-- whatever f has for digits, capitals and SPACE, a table with it in their places is right elsewhere
pub ranges_free : (f : ℕ → ℕ) → RightElsewhere (entries (λ b. if_b (in_ranges b) (f b) (class_of b)) 0 256)
ranges_free f = record { entry = λ b h n. look_up (λ b. if_b (in_ranges b) (f b) (class_of b)) 256 b h ∙ if_false _ _ _ n }

-- ---- the test of one range

pub not_below : (a z b : ℕ) → a ≤ b → leb b z ≡ between a z b
not_below a z b h = rw (le-leb a b h) refl

pub below : (a z b : ℕ) → b < a → leb a b ≡ between a z b
below a z b h = rw (lt-leb a b h) refl

pub between_digits : (r : Bool) (b : ℕ) → r ≡ between 48 57 b → r ≡ is_digit b
unfolding is_digit
between_digits r b e = e

-- ---- what the ranges tell

ranges_character : (b : ℕ) → in_ranges b ≡ true → is_a b ≡ true
unfolding in_ranges
ranges_character b =
    if_case (λ (t : Bool). t ≡ true → is_a b ≡ true) (is_digit b) true _
    (λ d _. digit_character b d)
    (λ _. if_case (λ (t : Bool). t ≡ true → is_a b ≡ true) (between 65 90 b) true _
    (λ c _. capital_character b (between_low 65 90 b c) (between_high 65 90 b c))
    (λ _ s. space_character b (eqb-true b 32 s)))

pub told_digit : (b : ℕ) (p : Bool) → p ≡ is_digit b → p ≡ true → 2 ≡ class_of b
unfolding class_of
told_digit b p e h = sym (if_true _ _ _ (sym e ∙ h))

pub told_character : (b : ℕ) (p q : Bool) → p ≡ is_digit b → p ≡ false → q ≡ in_ranges b → q ≡ true → 1 ≡ class_of b
unfolding class_of
told_character b p q e f g h = sym (if_false _ _ _ (sym e ∙ f) ∙ if_true _ _ _ (ranges_character b (sym g ∙ h)))

pub looked_up : (table : List ℕ) (b : ℕ) (q : Bool) → RightElsewhere table → b < 256 → q ≡ in_ranges b → q ≡ false
    → get_or table b 0 ≡ class_of b
looked_up table b q t s e h = t.entry b s (sym e ∙ h)

-- ---- a field by its ranges

pub passed_ranges : (s : List ℕ) (i : ℕ) (p : Bool) → PassedUpTo all_a s i → i < length s → p ≡ in_ranges (get_or s i 0) → p ≡ true
    → PassedUpTo all_a s (i + 1)
passed_ranges s i p c h e t =
    record {
      within = omega arith;
      left = sym
          (each_more is_a all_a each_character s i h (ranges_character (get_or s i 0) (sym e ∙ t))) ∙ c.left;
    }

-- from the first byte outside them on, what is left is judged as the whole
pub passed_rest : (s : List ℕ) (i : ℕ) (r : Bool) → PassedUpTo all_a s i → r ≡ all_a (take (length s - i) (drop i s)) → r ≡ all_a s
unfolding part
passed_rest s i r c e = e ∙ ap all_a (part_to_end i s) ∙ c.left

pub ruleset telling = (right_elsewhere, not_below, below, between_digits, told_digit, told_character, looked_up, rules)
