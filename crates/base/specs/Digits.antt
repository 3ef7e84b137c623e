-- Decimal digits: the number that a list of digit characters means, and the digits of a number at a width.
-- One law for every width, `value_digits`, serves each number field of a label and each control word.
-- Assumes nothing.
use Rattle.std.specs.Prelude.{Bool, true, false, ◌&&◌, List, [], ◌∷◌, ◌++◌, ℕ, zero, suc, ◌+◌, ◌*◌, ◌-◌, ◌/◌, ◌%◌, leb}
use Rattle.base.specs.If.{if_b}

-- the characters 3/0 to 3/9
unfoldable pub is_digit : ℕ → Bool
is_digit b = leb 48 b && leb b 57

unfoldable pub all_digits : List ℕ → Bool
all_digits [] = true
all_digits (x ∷ xs) = if_b (is_digit x) (all_digits xs) false

-- the number that digits mean behind a number already read
unfoldable pub value : ℕ → List ℕ → ℕ
value acc [] = acc
value acc (x ∷ xs) = value (acc * 10 + (x - 48)) xs

-- the last w decimal digits of n
unfoldable pub digits : ℕ → ℕ → List ℕ
digits zero n = []
digits (suc w) n = digits w (n / 10) ++ ((48 + n % 10) ∷ [])
