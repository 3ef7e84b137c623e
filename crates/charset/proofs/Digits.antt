-- Laws of a range, of a digit and of the digits of a number. Assumes nothing.
use mathlib.Core.Path.{◌≡◌, refl, ◌∙◌}
use mathlib.Core.Bool.{true, false}
use mathlib.Core.List.{[], ◌∷◌}
use Prim.Native.Nat.{ℕ, zero, suc, ◌+◌, ◌/◌, ◌%◌, ◌≤◌, ◌<◌}
use native.Mathlib.Nat.{mod-lt}
use native.Mathlib.Omega.{arith}
use borrow.Author.Tests.{le-leb, lt-leb, leb-true}
use lib.Dec.{leb}
use Rattle.base.proofs.Ifs.{if_true, and_true, and_left, and_right, and_first, and_second}
use Rattle.base.specs.Digits.{is_digit, all_digits, digits}
use Rattle.base.proofs.Numbers.{digits_append}
use Rattle.charset.specs.Class.{between}

-- ---- a byte of a range lies at its ends or between them

pub between_low : (a z b : ℕ) → between a z b ≡ true → a ≤ b
between_low a z b h = leb-true a b (and_first (leb a b) (leb b z) h)

pub between_high : (a z b : ℕ) → between a z b ≡ true → b ≤ z
between_high a z b h = leb-true b z (and_second (leb a b) (leb b z) h)

-- ---- one digit is a byte from 48 to 57

-- a digit is not below `0`
pub digit_low : (b : ℕ) → is_digit b ≡ true → 48 ≤ b
unfolding is_digit
digit_low b h = between_low 48 57 b h

-- a digit is not above `9`
pub digit_high : (b : ℕ) → is_digit b ≡ true → b ≤ 57
unfolding is_digit
digit_high b h = between_high 48 57 b h

pub within_digits : (b : ℕ) → 48 ≤ b → b ≤ 57 → is_digit b ≡ true
unfolding is_digit
within_digits b h k = and_true _ _ (le-leb 48 b h) (le-leb b 57 k)

pub below_digits : (b : ℕ) → b < 48 → is_digit b ≡ false
unfolding is_digit
below_digits b h = and_left _ _ (lt-leb 48 b h)

pub above_digits : (b : ℕ) → 57 < b → is_digit b ≡ false
unfolding is_digit
above_digits b h = and_right (leb 48 b) (leb b 57) (lt-leb b 57 h)

-- the digits of a number are digits, at every width
pub digits_digits : (w n : ℕ) → all_digits (digits w n) ≡ true
unfolding digits all_digits
digits_digits zero n = refl
digits_digits (suc w) n =
    let ten : 0 < 10 = omega arith in
    let last : n % 10 < 10 = mod-lt n ten in
    digits_append (digits w (n / 10)) ((48 + n % 10) ∷ []) (digits_digits w (n / 10))
    ∙ if_true (is_digit (48 + n % 10)) true false (within_digits (48 + n % 10) (omega arith) (omega arith))
