-- The laws that a return wants behind a row of tests. Few, so that a search through many tests stays short. Assumes nothing.
use mathlib.Core.Path.{◌≡◌, refl, ap}
use mathlib.Core.Bool.{Bool, false, ◌||◌}
use mathlib.Core.List.{List, [], ◌∷◌}
use Prim.Native.Nat.{ℕ, zero, suc, ◌<◌}
use native.Mathlib.Omega.{arith}
use lib.ListN.{length, get_or}
use borrow.Author.Tests.{eq-eqb, ne_eqb}
use Rattle.base.proofs.Ifs.{if_true, if_false, so_true, so_false, or_left, or_right}

-- each test is a call
pub ruleset calls = (if_true, if_false, so_true, so_false)

-- each test compares numbers
pub ruleset matches = (if_true, if_false, eq-eqb, ne_eqb)

pub or_rest : (a b : Bool) → a ≡ false → a || b ≡ b
or_rest a b p = ap (λ (s : Bool). s || b) p

pub ruleset either = (or_left, or_right, or_rest, so_true, so_false)

-- within a list the default does not matter
pub get_d_within : (s : List ℕ) (i d e : ℕ) → i < length s → get_or s i d ≡ get_or s i e
get_d_within [] i d e h = absurd (omega arith)
get_d_within (x ∷ s) zero d e h = refl
get_d_within (x ∷ s) (suc i) d e h = get_d_within s i d e (omega arith)
