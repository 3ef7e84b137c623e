-- Laws of a test that every byte of a list has to pass, as a loop over the places of the list wants them. Assumes nothing.
use mathlib.Core.Path.{◌≡◌, refl, sym, ◌∙◌}
use mathlib.Core.Bool.{Bool, true, false, not}
use mathlib.Core.List.{List, [], ◌∷◌}
use Prim.Native.Nat.{ℕ, ◌+◌, ◌≤◌, ◌<◌}
use native.Mathlib.Omega.{arith}
use native.Mathlib.Numerals.{add-one}
use borrow.Author.Tests.{not-true, not-false}
use borrow.Author.Rules.{rules}
use lib.ListN.{length, drop, get_or, drop_of_length-le}
use lib.Seq.{drop-cons}
use Rattle.base.specs.If.{if_b}
use Rattle.base.proofs.Ifs.{if_true, if_false}
use Rattle.base.specs.Digits.{is_digit, all_digits}
use Rattle.charset.specs.Class.{is_a, all_a}

-- the bytes before place i have passed: what is left from here is judged as the whole
pub record PassedUpTo (all : List ℕ → Bool) (s : List ℕ) (i : ℕ) : Type 0 where
  pub within : i ≤ length s
  pub left : all (drop i s) ≡ all s

-- `all` asks `is` of every byte
pub record EachByte (is : ℕ → Bool) (all : List ℕ → Bool) : Type 0 where
  pub none : all [] ≡ true
  pub one : (x : ℕ) (xs : List ℕ) → all (x ∷ xs) ≡ if_b (is x) (all xs) false

pub each_digit : EachByte is_digit all_digits
unfolding all_digits
each_digit = record { none = refl; one = λ x xs. refl }

pub each_character : EachByte is_a all_a
unfolding all_a
each_character = record { none = refl; one = λ x xs. refl }

module _ (is : ℕ → Bool) (all : List ℕ → Bool) (each : EachByte is all) (s : List ℕ) (i : ℕ) where
  pub each_more : i < length s → is (get_or s i 0) ≡ true → all (drop i s) ≡ all (drop (i + 1) s)
  each_more h e = rw (add-one i, drop-cons s i 0 h) (each.one (get_or s i 0) _ ∙ if_true _ _ _ e)

  pub each_other : i < length s → is (get_or s i 0) ≡ false → all (drop i s) ≡ false
  each_other h e = rw (drop-cons s i 0 h) (each.one (get_or s i 0) _ ∙ if_false _ _ _ e)

  pub each_end : length s ≤ i → all (drop i s) ≡ true
  each_end h = rw (drop_of_length-le s h) each.none

-- ---- the loop: p is what the test of the byte at place i answered

pub passed_none : (all : List ℕ → Bool) (s : List ℕ) → PassedUpTo all s 0
passed_none all s = record { within = omega arith; left = refl }

pub passed_more : (is : ℕ → Bool) (all : List ℕ → Bool) (s : List ℕ) (i : ℕ) (p : Bool) → EachByte is all → PassedUpTo all s i
    → i < length s → p ≡ is (get_or s i 0) → not p ≡ false → PassedUpTo all s (i + 1)
passed_more is all s i p each c h e t =
    record { within = omega arith; left = sym (each_more is all each s i h (sym e ∙ not-false p t)) ∙ c.left }

pub passed_other : (is : ℕ → Bool) (all : List ℕ → Bool) (s : List ℕ) (i : ℕ) (p : Bool) → EachByte is all → PassedUpTo all s i
    → i < length s → p ≡ is (get_or s i 0) → not p ≡ true → false ≡ all s
passed_other is all s i p each c h e t = sym (each_other is all each s i h (sym e ∙ not-true p t)) ∙ c.left

pub passed_all : (is : ℕ → Bool) (all : List ℕ → Bool) (s : List ℕ) (i : ℕ) → EachByte is all → PassedUpTo all s i → length s ≤ i
    → true ≡ all s
passed_all is all s i each c h = sym (each_end is all each s i h) ∙ c.left

pub ruleset passing = (each_digit, each_character, passed_none, passed_more, rules)
