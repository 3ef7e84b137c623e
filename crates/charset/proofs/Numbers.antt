-- Laws of number fields, one for every width. Assumes nothing.
use Rattle.std.specs.Prelude.{Some, None}
use mathlib.Core.Path.{◌≡◌, refl, sym, ap, ◌∙◌, subst}
use mathlib.Core.Bool.{true, false}
use mathlib.Core.List.{List}
use Prim.Native.Nat.{ℕ, ◌+◌, ◌*◌, ◌-◌, ◌^◌, ◌≤◌, ◌<◌}
use native.Mathlib.Nat.{pow-suc, pow-le-pow_right}
use native.Mathlib.Omega.{arith}
use native.Mathlib.Numerals.{add-one}
use borrow.Author.Tests.{le-leb, lt-leb}
use borrow.Author.Rules.{rules}
use mir.Syntax.{w32}
use mir.Val.{Fits}
use lib.ListN.{length, drop, get_or, drop_of_length-le}
use lib.Seq.{drop-cons}
use Rattle.base.proofs.Ifs.{if_true, if_false}
use Rattle.base.specs.Digits.{is_digit, all_digits, value, digits}
use Rattle.base.proofs.Numbers.{length_digits, value_digits}
use Rattle.charset.specs.Number.{number_in}
use Rattle.charset.proofs.Digits.{within_digits, below_digits, above_digits, digits_digits}
use Rattle.charset.proofs.Passed.{each_digit, each_more, each_other, each_end}

-- ---- what a field means

pub number_long : (s : List ℕ) → 9 < length s → number_in s ≡ None
unfolding number_in
number_long s h = if_false _ _ _ (lt-leb (length s) 9 h)

pub number_wrong : (s : List ℕ) → length s ≤ 9 → all_digits s ≡ false → number_in s ≡ None
unfolding number_in
number_wrong s h e = if_true _ _ _ (le-leb (length s) 9 h) ∙ if_false _ _ _ e

-- at most nine digits are a number, with their value
pub number_value : (s : List ℕ) → length s ≤ 9 → all_digits s ≡ true → number_in s ≡ Some (value 0 s)
unfolding number_in
number_value s h e = if_true _ _ _ (le-leb (length s) 9 h) ∙ if_true _ _ _ e

-- a number that fits its width is read back from its digits
pub number_digits : (w n : ℕ) → w ≤ 9 → n < 10 ^ w → number_in (digits w n) ≡ Some n
number_digits w n h k =
    number_value (digits w n) (subst (λ (l : ℕ). l ≤ 9) (sym (length_digits w n)) h) (digits_digits w n)
    ∙ ap Some (value_digits w n k)

-- ---- the size of a number: below 10 ^ i behind i digits

-- one digit more, one power of ten more
pub power_more : (n d i : ℕ) → n < 10 ^ i → d < 10 → n * 10 + d < 10 ^ (i + 1)
power_more n d i h k = rw (add-one i, pow-suc 10 i) (omega arith)

pub power_room : (n i : ℕ) → n < 10 ^ i → i < 9 → n < 100000000
power_room n i h k =
    let ten : 0 < 10 = omega arith in
    let most : 10 ^ i ≤ 10 ^ 8 = pow-le-pow_right ten {j = 8} (omega arith) in
    omega arith

-- ---- the loop of `number_in`: the digits before place i are read into n

pub record Read (s : List ℕ) (n i : ℕ) : Type 0 where
  pub within : i ≤ length s
  pub judged : all_digits (drop i s) ≡ all_digits s
  pub left : value n (drop i s) ≡ value 0 s
  pub small : n < 10 ^ i

value_more : (s : List ℕ) (n i : ℕ) → i < length s → value n (drop i s) ≡ value (n * 10 + (get_or s i 0 - 48)) (drop (i + 1) s)
unfolding value
value_more s n i h = rw (add-one i, drop-cons s i 0 h)

value_end : (s : List ℕ) (n i : ℕ) → length s ≤ i → value n (drop i s) ≡ n
unfolding value
value_end s n i h = rw (drop_of_length-le s h)

pub read_none : (s : List ℕ) → Read s 0 0
read_none s = record { within = omega arith; judged = refl; left = refl; small = omega arith }

pub read_more : (s : List ℕ) (n i : ℕ) → Read s n i → i < length s → 48 ≤ get_or s i 0 → get_or s i 0 ≤ 57
    → Read s (n * 10 + (get_or s i 0 - 48)) (i + 1)
read_more s n i c h low high =
    record {
      within = omega arith;
      judged = sym (each_more is_digit all_digits each_digit s i h (within_digits (get_or s i 0) low high)) ∙ c.judged;
      left = sym (value_more s n i h) ∙ c.left;
      small = power_more n (get_or s i 0 - 48) i c.small (omega arith);
    }

read_other : (s : List ℕ) (n i : ℕ) → Read s n i → length s ≤ 9 → i < length s → is_digit (get_or s i 0) ≡ false → None ≡ number_in s
read_other s n i c l h e = sym (number_wrong s l (sym c.judged ∙ each_other is_digit all_digits each_digit s i h e))

pub read_below : (s : List ℕ) (n i : ℕ) → Read s n i → length s ≤ 9 → i < length s → get_or s i 0 < 48 → None ≡ number_in s
read_below s n i c l h e = read_other s n i c l h (below_digits (get_or s i 0) e)

pub read_above : (s : List ℕ) (n i : ℕ) → Read s n i → length s ≤ 9 → i < length s → 57 < get_or s i 0 → None ≡ number_in s
read_above s n i c l h e = read_other s n i c l h (above_digits (get_or s i 0) e)

pub read_all : (s : List ℕ) (n i : ℕ) → Read s n i → length s ≤ 9 → length s ≤ i → Some n ≡ number_in s
read_all s n i c l h =
    sym (number_value s l (sym c.judged ∙ each_end is_digit all_digits each_digit s i h)
    ∙ ap Some (sym c.left ∙ value_end s n i h))

pub read_long : (s : List ℕ) → 9 < length s → None ≡ number_in s
read_long s h = sym (number_long s h)

-- nine digits fit 32 bits
pub read_times : (s : List ℕ) (n i : ℕ) → Read s n i → length s ≤ 9 → i < length s → Fits w32 (n * 10)
read_times s n i c l h = let room : n < 100000000 = power_room n i c.small (omega arith) in record { fits = omega arith }

pub read_plus : (s : List ℕ) (n i : ℕ) → Read s n i → length s ≤ 9 → i < length s → get_or s i 0 ≤ 57
    → Fits w32 (n * 10 + (get_or s i 0 - 48))
read_plus s n i c l h high = let room : n < 100000000 = power_room n i c.small (omega arith) in record { fits = omega arith }

pub ruleset reading = (read_none, read_more, read_below, read_above, read_all, read_long, read_times, read_plus, rules)
