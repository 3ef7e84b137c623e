-- Decimal digits, one after the other from the last. Assumes nothing.
use mathlib.Core.Path.{◌≡◌, sym, ap, ap₂, ◌∙◌, subst}
use mathlib.Core.List.{List, [], ◌∷◌, ◌++◌, append_assoc, append-nil}
use Prim.Native.Nat.{ℕ, zero, suc, ◌+◌, ◌-◌, ◌*◌, ◌/◌, ◌%◌, ◌^◌, ◌≤◌, ◌<◌}
use native.Mathlib.Nat.{pow-suc, div-lt_iff_lt-mul}
use native.Mathlib.Omega.{arith}
use native.Mathlib.Numerals.{add-one}
use native.Mathlib.Decide.{dec_lt}
use borrow.Author.Rules.{rules}
use mir.Val.{Fits}
use mir.Syntax.{w64}
use borrow.Author.Tests.{lt-ltb, le-ltb, ltb-false}
use lib.Dec.{ltb}
use lib.ListN.{length, take, drop, set, length-set, length-drop, length-append, drop_of_length-le}
use lib.Seq.{drop-cons, drop-set-lt, get_or-set_same, take_all}
use Rattle.base.specs.If.{if_b}
use Rattle.base.proofs.Ifs.{if_true, if_false, if_case}
use Rattle.output.proofs.Writing.{wrote_same}
use Rattle.listing.specs.Decimal.{decimal_f, decimal}

-- any number above n is large enough
decimal_enough : (f g n : ℕ) → n < f → n < g → decimal_f f n ≡ decimal_f g n
unfolding decimal_f
decimal_enough zero g n h k = absurd (omega arith)
decimal_enough (suc f) zero n h k = absurd (omega arith)
decimal_enough (suc f) (suc g) n h k =
    if_case (λ (l : List ℕ). l ≡ if_b (ltb n 10) ((48 + n) ∷ []) (decimal_f g (n / 10) ++ ((48 + n % 10) ∷ []))) (ltb n 10) _ _
    (λ e. sym (if_true _ _ _ e))
    (λ e.
    let more : 10 ≤ n = ltb-false n 10 e in
    ap (λ (l : List ℕ). l ++ ((48 + n % 10) ∷ [])) (decimal_enough f g (n / 10) (omega arith) (omega arith))
    ∙ sym (if_false _ _ _ e))

pub decimal_one : (n : ℕ) → n < 10 → decimal n ≡ (48 + n) ∷ []
unfolding decimal decimal_f
decimal_one n h = if_true _ _ _ (lt-ltb n 10 h)

pub decimal_more : (n : ℕ) → 10 ≤ n → decimal n ≡ decimal (n / 10) ++ ((48 + n % 10) ∷ [])
unfolding decimal decimal_f
decimal_more n h =
    if_false _ _ _ (le-ltb n 10 h)
    ∙ ap (λ (l : List ℕ). l ++ ((48 + n % 10) ∷ [])) (decimal_enough n (suc (n / 10)) (n / 10) (omega arith) (omega arith))

-- a number below a power of ten has no more digits
tens_below : (k n : ℕ) → n < 10 ^ (suc k) → n / 10 < 10 ^ k
tens_below k n h = let ten : 0 < 10 = omega arith in (div-lt_iff_lt-mul {k = 10} ten).1 (subst (λ (i : ℕ). n < i) (pow-suc 10 k) h)

pub decimal_long : (k n : ℕ) → n < 10 ^ (suc k) → length (decimal n) ≤ suc k
decimal_long zero n h = omega (arith, ap length (decimal_one n (omega arith)))
decimal_long (suc k) n h = by_one (dec_lt n 10) (decimal_long k (n / 10) (tens_below (suc k) n h))
  where
    by_one : Dec (n < 10) → length (decimal (n / 10)) ≤ suc k → length (decimal n) ≤ suc (suc k)
    by_one (yes l) again = omega (arith, ap length (decimal_one n l))
    by_one (no m) again =
        let all = ap length (decimal_more n (omega arith)) in
        omega (arith, all, again, length-append (decimal (n / 10)) ((48 + n % 10) ∷ []))

-- ---- the loop of `put_decimal`: the digits of what is left, then those written from place i + 1 on

pub record DigitsSpelled (n : ℕ) (d : List ℕ) (i rest : ℕ) : Type 0 where
  pub size : length d ≡ 20
  pub within : i < 20
  pub small : rest < 10 ^ (i + 1)
  pub left : decimal rest ++ drop (i + 1) d ≡ decimal n

-- place i holds a digit before what follows it
drop_set : (d : List ℕ) (i x : ℕ) → i < length d → drop i (set d i x) ≡ x ∷ drop (i + 1) d
drop_set d i x h =
    drop-cons (set d i x) i 0 (subst (λ (k : ℕ). i < k) (sym (length-set d i x)) h)
    ∙ ap₂ ◌∷◌ (get_or-set_same d i x 0 h)
    (ap (λ (k : ℕ). drop k (set d i x)) (sym (add-one i)) ∙ drop-set-lt (i + 1) d i x (omega arith))

pub spelled_none : (n : ℕ) (d : List ℕ) → Fits w64 n → length d ≡ 20 → DigitsSpelled n d 19 n
spelled_none n d h l =
    let small : n < 10 ^ (19 + 1) = omega (arith, h) in
    let none : length d ≤ 19 + 1 = omega arith in
    record {
      size = l;
      within = omega arith;
      small = small;
      left = ap (λ (k : List ℕ). decimal n ++ k) (drop_of_length-le d none)
          ∙ append-nil (decimal n);
    }

-- a number of two digits or more has a place before its last
pub place_before : (n : ℕ) (d : List ℕ) (i rest : ℕ) → DigitsSpelled n d i rest → 10 ≤ rest → 1 ≤ i
place_before n d zero rest c h = absurd (omega (arith, c.small))
place_before n d (suc i) rest c h = omega arith

pub spelled_more : (n : ℕ) (d : List ℕ) (i rest : ℕ) → DigitsSpelled n d i rest → 10 ≤ rest
    → DigitsSpelled n (set d i (48 + rest % 10)) (i - 1) (rest / 10)
spelled_more n d i rest c h =
    let x : ℕ = 48 + rest % 10 in
    let before : 1 ≤ i = place_before n d i rest c h in
    let place : i - 1 + 1 ≡ i = omega arith in
    let ten : 0 < 10 = omega arith in
    let tens : rest < 10 ^ i * 10 = subst (λ (m : ℕ). rest < m) (ap (λ (k : ℕ). 10 ^ k) (add-one i) ∙ pow-suc 10 i) c.small in
    let fewer : rest / 10 < 10 ^ i = (div-lt_iff_lt-mul {k = 10} ten).1 tens in
    record {
      size = length-set d i x ∙ c.size;
      within = omega (arith, c.within);
      small = subst (λ (k : ℕ). rest / 10 < 10 ^ k) (sym place) fewer;
      left =
          ap (λ (k : ℕ). decimal (rest / 10) ++ drop k (set d i x)) place
          ∙ ap (λ (l : List ℕ). decimal (rest / 10) ++ l) (drop_set d i x (omega (arith, c.size, c.within)))
          ∙ sym (append_assoc (decimal (rest / 10)) (x ∷ []) (drop (i + 1) d))
          ∙ ap (λ (l : List ℕ). l ++ drop (i + 1) d) (sym (decimal_more rest h))
          ∙ c.left;
    }

pub spelled_all : (n : ℕ) (d : List ℕ) (i rest : ℕ) → DigitsSpelled n d i rest → rest < 10
    → take (20 - i) (drop i (set d i (48 + rest))) ≡ decimal n
spelled_all n d i rest c h =
    take_all (20 - i) (drop i (set d i (48 + rest))) (simp (length-drop, length-set) (omega (arith, c.size)))
    ∙ drop_set d i (48 + rest) (omega (arith, c.size, c.within))
    ∙ ap (λ (l : List ℕ). l ++ drop (i + 1) d) (sym (decimal_one rest h))
    ∙ c.left

-- the last place is still there
pub spelled_size : (n : ℕ) (d : List ℕ) (i rest x : ℕ) → DigitsSpelled n d i rest → 20 ≤ length (set d i x)
spelled_size n d i rest x c = let size : length (set d i x) ≡ length d = length-set d i x in omega (arith, c.size)

pub ruleset spelling = (spelled_none, spelled_size, place_before, spelled_more, spelled_all, wrote_same, rules)
