-- Laws of digits, one for every width. Assumes nothing.
use mathlib.Core.Path.{◌≡◌, refl, ap, ◌∙◌, subst}
use mathlib.Core.Bool.{Bool, true, false, false≢true}
use mathlib.Core.List.{List, [], ◌∷◌, ◌++◌}
use Prim.Native.Nat.{ℕ, zero, suc, ◌+◌, ◌*◌, ◌-◌, ◌/◌, ◌%◌, ◌^◌, ◌<◌}
use native.Mathlib.Nat.{pow-suc, div-lt_iff_lt-mul}
use native.Mathlib.Omega.{arith}
use native.Mathlib.Numerals.{add-one}
use lib.ListN.{length, length-append}
use Rattle.base.specs.If.{if_b}
use Rattle.base.proofs.Ifs.{if_true, if_case}
use Rattle.base.specs.Digits.{is_digit, all_digits, value, digits}

pub value_append : (acc : ℕ) (s t : List ℕ) → value acc (s ++ t) ≡ value (value acc s) t
unfolding value
value_append acc [] t = refl
value_append acc (x ∷ s) t = value_append (acc * 10 + (x - 48)) s t

-- behind digits, what follows decides whether all are digits
pub digits_append : (s t : List ℕ) → all_digits s ≡ true → all_digits (s ++ t) ≡ all_digits t
unfolding all_digits
digits_append [] t h = refl
digits_append (x ∷ s) t h =
    if_case (λ (b : Bool). b ≡ true → if_b (is_digit x) (all_digits (s ++ t)) false ≡ all_digits t) (is_digit x) (all_digits s) false
    (λ e q. if_true _ _ _ e ∙ digits_append s t q) (λ e q. absurd (false≢true q)) h

-- a number written with w digits is w bytes long
pub length_digits : (w n : ℕ) → length (digits w n) ≡ w
unfolding digits
length_digits zero n = refl
length_digits (suc w) n =
    length-append (digits w (n / 10)) _ ∙ add-one (length (digits w (n / 10))) ∙ ap suc (length_digits w (n / 10))

-- the digits of a number that fits their width mean that number
pub value_digits : (w n : ℕ) → n < 10 ^ w → value 0 (digits w n) ≡ n
unfolding digits value
value_digits zero n h = omega arith
value_digits (suc w) n h =
    let ten : 0 < 10 = omega arith in
    let small : n / 10 < 10 ^ w = (div-lt_iff_lt-mul {k = 10} ten).1 (subst (λ (m : ℕ). n < m) (pow-suc 10 w) h) in
    value_append 0 (digits w (n / 10)) ((48 + n % 10) ∷ [])
    ∙ ap (λ (v : ℕ). v * 10 + (48 + n % 10 - 48)) (value_digits w (n / 10) small)
    ∙ omega arith
