-- Characters. Document 01, "Label fields": a-characters are the 57 at 2/0 to 2/2, 2/5 to 2/15, 3/0 to 3/15, 4/1 to 4/15,
-- 5/0 to 5/10 and 5/15 (8.1 of ECMA-13 decides); digits are those at 3/0 to 3/9.
-- A position c/r of the code table is the byte 16 * c + r.
use Rattle.std.specs.Prelude.{Bool, true, false, ◌&&◌, ◌||◌, List, [], ◌∷◌, ℕ, ◌+◌, ◌*◌, leb, eqb}
use Rattle.base.specs.If.{if_b}
use Rattle.base.specs.Digits.{is_digit}

-- the byte at column c and row r of the code table
abbrev pub code : ℕ → ℕ → ℕ
code c r = 16 * c + r

abbrev pub between : ℕ → ℕ → ℕ → Bool
between a z b = leb a b && leb b z

unfoldable pub is_a : ℕ → Bool
is_a b =
    between (code 2 0) (code 2 2) b || between (code 2 5) (code 2 15) b || between (code 3 0) (code 3 15) b ||
    between (code 4 1) (code 4 15) b || between (code 5 0) (code 5 10) b || eqb b (code 5 15)

-- the class numbers of the table: a digit, another a-character, neither
abbrev pub neither : ℕ
neither = 0

abbrev pub character : ℕ
character = 1

abbrev pub digit : ℕ
digit = 2

unfoldable pub class_of : ℕ → ℕ
class_of b = if_b (is_digit b) digit (if_b (is_a b) character neither)

-- every byte is an a-character
unfoldable pub all_a : List ℕ → Bool
all_a [] = true
all_a (b ∷ bs) = if_b (is_a b) (all_a bs) false
