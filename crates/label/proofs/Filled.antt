-- The loop that looks whether a field is one byte over and over: what is left from here is judged as the whole. Assumes nothing.
use mathlib.Core.Path.{◌≡◌, refl, sym, ◌∙◌}
use mathlib.Core.Bool.{true, false}
use mathlib.Core.List.{List}
use Prim.Native.Nat.{ℕ, ◌+◌, ◌≤◌, ◌<◌}
use native.Mathlib.Omega.{arith}
use borrow.Author.Rules.{rules}
use lib.ListN.{length, drop, get_or}
use Rattle.base.specs.Part.{all_are}
use Rattle.base.proofs.Bytes.{all_more, all_other, all_end}

pub record Filled (b : ℕ) (s : List ℕ) (i : ℕ) : Type 0 where
  pub within : i ≤ length s
  pub left : all_are b (drop i s) ≡ all_are b s

pub filled_none : (b : ℕ) (s : List ℕ) → Filled b s 0
filled_none b s = record { within = omega arith; left = refl }

pub filled_more : (b : ℕ) (s : List ℕ) (i : ℕ) → Filled b s i → i < length s → get_or s i 0 ≡ b → Filled b s (i + 1)
filled_more b s i c h e = record { within = omega arith; left = sym (all_more b s i h e) ∙ c.left }

pub filled_other : (b : ℕ) (s : List ℕ) (i : ℕ) → Filled b s i → i < length s → (get_or s i 0 ≡ b → ⊥) → false ≡ all_are b s
filled_other b s i c h e = sym (all_other b s i h e) ∙ c.left

pub filled_all : (b : ℕ) (s : List ℕ) (i : ℕ) → Filled b s i → length s ≤ i → true ≡ all_are b s
filled_all b s i c h = sym (all_end b s i h) ∙ c.left

pub ruleset filling = (filled_none, filled_more, filled_other, filled_all, rules)
