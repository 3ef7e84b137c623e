-- A number field: digits and nothing else, of at most nine, so that the number fits 32 bits whatever the width.
-- Document 01 has fields of 2, 4, 5 and 6 digits; no field is wider.
use Rattle.std.specs.Prelude.{List, ℕ, leb, length, Option, Some, None}
use Rattle.base.specs.If.{if_b}
use Rattle.base.specs.Digits.{all_digits, value}

unfoldable pub number_in : List ℕ → Option ℕ
number_in s = if_b (leb (length s) 9) (if_b (all_digits s) (Some (value 0 s)) None) None
