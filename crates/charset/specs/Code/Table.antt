-- The table by which the code tells the class of a byte.
use Rattle.std.specs.Prelude.{◌≡◌, Bool, true, false, List, ℕ, ◌<◌, eqb, get_or}
use Rattle.base.specs.If.{if_b}
use Rattle.base.specs.Digits.{is_digit}
use Rattle.charset.specs.Class.{class_of, code, between, neither}

-- a table with the class of every byte
pub record Right (table : List ℕ) : Type 0 where
  pub entry : (b : ℕ) → b < 256 → get_or table b neither ≡ class_of b

-- the ranges in which most bytes of a label lie: digits, capitals, SPACE
unfoldable pub in_ranges : ℕ → Bool
in_ranges b = if_b (is_digit b) true (if_b (between (code 4 1) (code 5 10) b) true (eqb b (code 2 0)))

-- a table with the class of every byte outside those ranges: its entries for digits, capitals and SPACE are free
pub record RightElsewhere (table : List ℕ) : Type 0 where
  pub entry : (b : ℕ) → b < 256 → in_ranges b ≡ false → get_or table b neither ≡ class_of b
