-- Digits, capitals and SPACE are a-characters, and what a class number says of its byte. Assumes nothing.
use mathlib.Core.Path.{◌≡◌, refl, sym, ap, ◌∙◌}
use mathlib.Core.Bool.{Bool, true, false, not}
use Prim.Native.Nat.{ℕ, ◌≤◌}
use native.Mathlib.Omega.{arith}
use borrow.Author.Tests.{le-leb, leb-false}
use lib.Dec.{leb, eqb}
use Rattle.base.specs.If.{if_b}
use Rattle.base.proofs.Ifs.{if_case, and_true, or_left, or_right}
use Rattle.base.specs.Digits.{is_digit}
use Rattle.charset.proofs.Digits.{digit_low, digit_high}
use Rattle.charset.specs.Class.{code, between, is_a, class_of}

pub digit_character : (b : ℕ) → is_digit b ≡ true → is_a b ≡ true
unfolding is_a
digit_character b h =
    let high : b ≤ 57 = digit_high b h in
    let column3 : between (code 3 0) (code 3 15) b ≡ true = and_true _ _ (le-leb 48 b (digit_low b h)) (le-leb b 63 (omega arith)) in
    search (or_left, or_right)

-- capitals lie in two columns of the code table
pub capital_character : (b : ℕ) → 65 ≤ b → b ≤ 90 → is_a b ≡ true
unfolding is_a
capital_character b low high =
    if_case (λ (t : Bool). is_a b ≡ true) (leb b 79) true false
    (λ t. let column4 : between (code 4 1) (code 4 15) b ≡ true = and_true _ _ (le-leb 65 b low) t in search (or_left, or_right))
    (λ t.
    let column5 : between (code 5 0) (code 5 10) b ≡ true = and_true _ _ (le-leb 80 b (leb-false b 79 t)) (le-leb b 90 high) in
    search (or_left, or_right))

pub space_character : (b : ℕ) → b ≡ 32 → is_a b ≡ true
unfolding is_a
space_character b e = rw e refl

-- a byte is an a-character where its class is not 0
pub character_class : (r b : ℕ) → r ≡ class_of b → not (eqb r 0) ≡ is_a b
unfolding class_of
character_class r b e =
    ap (λ (n : ℕ). not (eqb n 0)) e
    ∙ if_case (λ (n : ℕ). not (eqb n 0) ≡ is_a b) (is_digit b) 2 (if_b (is_a b) 1 0)
    (λ d. sym (digit_character b d)) (λ d. if_case (λ (n : ℕ). not (eqb n 0) ≡ is_a b) (is_a b) 1 0 (λ a. sym a) (λ a. sym a))
