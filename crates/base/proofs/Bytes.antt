-- Laws of `same` and `all_are`, as a loop over the places of a list wants them. Assumes nothing.
use mathlib.Core.Path.{◌≡◌, refl, sym, ap, ◌∙◌}
use mathlib.Core.Bool.{Bool, true, false}
use mathlib.Core.List.{List, [], ◌∷◌}
use Prim.Native.Nat.{ℕ, suc, ◌+◌, ◌≤◌, ◌<◌}
use native.Mathlib.Omega.{arith}
use native.Mathlib.Numerals.{add-one}
use borrow.Author.Tests.{eq-eqb, ne_eqb, eqb-true}
use borrow.Author.Rules.{rules}
use lib.Dec.{eqb}
use lib.ListN.{length, drop, get_or, drop_of_length-le}
use lib.Seq.{drop-cons}
use Rattle.base.proofs.Ifs.{if_true, if_false, if_case}
use Rattle.base.specs.Part.{same, all_are}

-- past an element that is b, the rest decides
pub all_more : (b : ℕ) (s : List ℕ) (i : ℕ) → i < length s → get_or s i 0 ≡ b → all_are b (drop i s) ≡ all_are b (drop (i + 1) s)
unfolding all_are
all_more b s i h e =
    rw (drop-cons s i 0 h) (if_true _ _ _ (eq-eqb (get_or s i 0) b e) ∙ ap (λ (k : ℕ). all_are b (drop k s)) (sym (add-one i)))

-- an element that is not b decides
pub all_other : (b : ℕ) (s : List ℕ) (i : ℕ) → i < length s → (get_or s i 0 ≡ b → ⊥) → all_are b (drop i s) ≡ false
unfolding all_are
all_other b s i h e = rw (drop-cons s i 0 h) (if_false _ _ _ (ne_eqb (get_or s i 0) b e))

-- behind the last element nothing is left to differ
pub all_end : (b : ℕ) (s : List ℕ) (i : ℕ) → length s ≤ i → all_are b (drop i s) ≡ true
unfolding all_are
all_end b s i h = rw (drop_of_length-le s h)

pub same_more : (s t : List ℕ) (i : ℕ) → i < length s → i < length t → get_or s i 0 ≡ get_or t i 0
    → same (drop i s) (drop i t) ≡ same (drop (i + 1) s) (drop (i + 1) t)
unfolding same
same_more s t i h k e =
    rw (drop-cons s i 0 h, drop-cons t i 0 k)
    (if_true _ _ _ (eq-eqb (get_or s i 0) (get_or t i 0) e) ∙ ap (λ (j : ℕ). same (drop j s) (drop j t)) (sym (add-one i)))

pub same_other : (s t : List ℕ) (i : ℕ) → i < length s → i < length t → (get_or s i 0 ≡ get_or t i 0 → ⊥)
    → same (drop i s) (drop i t) ≡ false
unfolding same
same_other s t i h k e = rw (drop-cons s i 0 h, drop-cons t i 0 k) (if_false _ _ _ (ne_eqb (get_or s i 0) (get_or t i 0) e))

pub same_end : (s t : List ℕ) (i : ℕ) → length s ≤ i → length t ≤ i → same (drop i s) (drop i t) ≡ true
unfolding same
same_end s t i h k = rw (drop_of_length-le s h, drop_of_length-le t k)

-- lists of other lengths differ
pub same_length : (s t : List ℕ) → (length s ≡ length t → ⊥) → same s t ≡ false
unfolding same
same_length [] [] h = absurd (h refl)
same_length [] (y ∷ t) h = refl
same_length (x ∷ s) [] h = refl
same_length (x ∷ s) (y ∷ t) h =
    if_case (λ (b : Bool). b ≡ false) (eqb x y) (same s t) false (λ _. same_length s t (λ e. h (ap suc e))) (λ _. refl)

-- a list is the same as itself
pub same_refl : (s : List ℕ) → same s s ≡ true
unfolding same
same_refl [] = refl
same_refl (x ∷ s) = if_true _ _ _ (eq-eqb x x refl) ∙ same_refl s

-- lists that the test finds the same are equal
pub same_true : (s t : List ℕ) → same s t ≡ true → s ≡ t
unfolding same
same_true [] [] h = refl
same_true [] (y ∷ t) h = absurd (mathlib.Core.Bool.false≢true h)
same_true (x ∷ s) [] h = absurd (mathlib.Core.Bool.false≢true h)
same_true (x ∷ s) (y ∷ t) h =
    if_case (λ (b : Bool). b ≡ true → x ∷ s ≡ y ∷ t) (eqb x y) (same s t) false
    (λ e q. mathlib.Core.Path.ap₂ ◌∷◌ (eqb-true x y e) (same_true s t q)) (λ e q. absurd (mathlib.Core.Bool.false≢true q)) h

-- ---- two lists compared, said of what they are equal to

-- a test of two lists is that of what they are equal to
pub same_is : (t : Bool) (p q a b : List ℕ) → t ≡ same p q → p ≡ a → q ≡ b → t ≡ same a b
same_is t p q a b e f g = cc

-- the same for the first list alone
pub same_first : (t : Bool) (p q a : List ℕ) → t ≡ same p q → p ≡ a → t ≡ same a q
same_first t p q a e f = cc

-- the same for the second list alone
pub same_second : (t : Bool) (p q b : List ℕ) → t ≡ same p q → q ≡ b → t ≡ same p b
same_second t p q b e f = cc

-- ---- the loop of `equal`: what is left from here compares as the whole

pub record Compared (s t : List ℕ) (i : ℕ) : Type 0 where
  pub within : i ≤ length s
  pub left : same (drop i s) (drop i t) ≡ same s t

pub compared_none : (s t : List ℕ) → Compared s t 0
compared_none s t = record { within = omega arith; left = refl }

pub compared_more : (s t : List ℕ) (i : ℕ) → Compared s t i → length s ≡ length t → i < length s → get_or s i 0 ≡ get_or t i 0
    → Compared s t (i + 1)
compared_more s t i c l h e = record { within = omega arith; left = sym (same_more s t i h (omega arith) e) ∙ c.left }

pub compared_other : (s t : List ℕ) (i : ℕ) → Compared s t i → length s ≡ length t → i < length s → (get_or s i 0 ≡ get_or t i 0 → ⊥)
    → false ≡ same s t
compared_other s t i c l h e = sym (same_other s t i h (omega arith) e) ∙ c.left

pub compared_all : (s t : List ℕ) (i : ℕ) → Compared s t i → length s ≡ length t → length s ≤ i → true ≡ same s t
compared_all s t i c l h = sym (same_end s t i h (omega arith)) ∙ c.left

pub other_length : (s t : List ℕ) → (length s ≡ length t → ⊥) → false ≡ same s t
other_length s t h = sym (same_length s t h)

pub ruleset pieces = (compared_none, compared_more, compared_other, compared_all, other_length, rules)
