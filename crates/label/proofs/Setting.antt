-- The loops that set a field of a label: what is left to put from here makes the whole. Assumes nothing.
use mathlib.Core.Path.{◌≡◌, refl, sym, ap, ◌∙◌}
use mathlib.Core.List.{List, [], ◌∷◌, ◌++◌}
use Prim.Native.Nat.{ℕ, zero, suc, ◌+◌, ◌-◌, ◌/◌, ◌%◌, ◌≤◌, ◌<◌}
use native.Mathlib.Omega.{arith}
use native.Mathlib.Numerals.{add-one}
use borrow.Author.Rules.{rules}
use lib.ListN.{length, drop, set, get_or, replicate, length-set, get_or-replicate, drop_of_length-le}
use lib.Seq.{drop-cons, get_or-take}
use Rattle.base.specs.Part.{put_at}
use Rattle.base.specs.Digits.{digits}
use Rattle.base.proofs.Parts.{put_none}
use Rattle.base.proofs.Numbers.{length_digits}
use Rattle.label.specs.Made.{fitted}
use Rattle.base.proofs.Put.{put_first, put_last}
use Rattle.label.proofs.Laid.{length_fitted, fitted_all}

-- a byte of a fitted field: the field's own, or SPACE behind its end
get_d_filled : (f : List ℕ) (n i : ℕ) → i < length f + n → get_or (f ++ replicate n 32) i 0 ≡ get_or f i 32
get_d_filled [] n i h = get_or-replicate n i 32 0 (omega arith)
get_d_filled (x ∷ f) n zero h = refl
get_d_filled (x ∷ f) n (suc i) h = get_d_filled f n i (omega arith)

pub get_d_fitted : (w : ℕ) (f : List ℕ) (i : ℕ) → i < w → get_or (fitted w f) i 0 ≡ get_or f i 32
unfolding fitted
get_d_fitted w f i h = get_or-take w (f ++ replicate w 32) i 0 h ∙ get_d_filled f w i (omega arith)

-- ---- a field, from its first byte on

pub record Setting (old : List ℕ) (at w : ℕ) (f made : List ℕ) (i : ℕ) : Type 0 where
  pub fits : at + w ≤ 80
  pub size : length made ≡ 80
  pub within : i ≤ w
  pub left : put_at made (at + i) (drop i (fitted w f)) ≡ put_at old at (fitted w f)

pub setting_none : (old : List ℕ) (at w : ℕ) (f : List ℕ) → at + w ≤ 80 → length old ≡ 80 → Setting old at w f old 0
setting_none old at w f h l =
    let e : at + 0 ≡ at = omega arith in
    record { fits = h; size = l; within = omega arith; left = ap (λ (k : ℕ). put_at old k (fitted w f)) e }

pub setting_more : (old : List ℕ) (at w : ℕ) (f made : List ℕ) (i x : ℕ) → Setting old at w f made i → i < w → x ≡ get_or f i 32
    → Setting old at w f (set made (at + i) x) (i + 1)
setting_more old at w f made i x c h e =
    let long : i < length (fitted w f) = rw (length_fitted w f) h in
    let room : at + i < length made = omega arith in
    let next : drop i (fitted w f) ≡ x ∷ drop (i + 1) (fitted w f)
    = drop-cons (fitted w f) i 0 long ∙ ap (λ (y : ℕ). y ∷ drop (suc i) (fitted w f)) (get_d_fitted w f i h ∙ sym e)
    ∙ ap (λ (k : ℕ). x ∷ drop k (fitted w f)) (sym (add-one i)) in
    let place : at + (i + 1) ≡ at + i + 1 = omega arith in
    record {
      fits = c.fits;
      size = length-set made (at + i) x ∙ c.size;
      within = omega arith;
      left =
          ap (λ (k : ℕ). put_at (set made (at + i) x) k (drop (i + 1) (fitted w f))) place
          ∙ sym (put_first made (at + i) x (drop (i + 1) (fitted w f)) room)
          ∙ ap (put_at made (at + i)) (sym next)
          ∙ c.left;
    }

pub setting_all : (old : List ℕ) (at w : ℕ) (f made : List ℕ) (i : ℕ) → Setting old at w f made i → w ≤ i
    → made ≡ put_at old at (fitted w f)
setting_all old at w f made i c h =
    let done : length (fitted w f) ≤ i = rw (length_fitted w f) h in
    sym (ap (put_at made (at + i)) (drop_of_length-le (fitted w f) done) ∙ put_none made (at + i)) ∙ c.left

pub ruleset setting = (setting_none, setting_more, setting_all, rules)

-- ---- a number, from its last digit on

pub record DigitsSet (old : List ℕ) (at w n : ℕ) (made : List ℕ) (left i : ℕ) : Type 0 where
  pub fits : at + w ≤ 80
  pub size : length made ≡ 80
  pub within : i ≤ w
  pub same : put_at made at (digits i left) ≡ put_at old at (digits w n)

pub counting_none : (old : List ℕ) (at w n : ℕ) → at + w ≤ 80 → length old ≡ 80 → DigitsSet old at w n old n w
counting_none old at w n h l = record { fits = h; size = l; within = omega arith; same = refl }

last_digit : (j n : ℕ) → digits (suc j) n ≡ digits j (n / 10) ++ ((48 + n % 10) ∷ [])
unfolding digits
last_digit j n = refl

pub counting_more : (old : List ℕ) (at w n : ℕ) (made : List ℕ) (left i : ℕ) → DigitsSet old at w n made left i → 0 < i
    → DigitsSet old at w n (set made (at + (i - 1)) (48 + left % 10)) (left / 10) (i - 1)
counting_more old at w n made left i c h =
    let one : i ≡ suc (i - 1) = omega arith in
    let long : length (digits (i - 1) (left / 10)) ≡ i - 1 = length_digits (i - 1) (left / 10) in
    let room : at + length (digits (i - 1) (left / 10)) < length made = omega arith in
    record {
      fits = c.fits;
      size = length-set made (at + (i - 1)) (48 + left % 10) ∙ c.size;
      within = omega arith;
      same =
          ap (λ (k : ℕ). put_at (set made (at + k) (48 + left % 10)) at (digits (i - 1) (left / 10))) (sym long)
          ∙ sym (put_last made at (48 + left % 10) (digits (i - 1) (left / 10)) room)
          ∙ ap (put_at made at) (sym (last_digit (i - 1) left))
          ∙ ap (λ (k : ℕ). put_at made at (digits k left)) (sym one)
          ∙ c.same;
    }

pub counting_all : (old : List ℕ) (at w n : ℕ) (made : List ℕ) (left i : ℕ) → DigitsSet old at w n made left i → i ≤ 0
    → made ≡ put_at old at (fitted w (digits w n))
unfolding digits
counting_all old at w n made left i c h =
    let none : i ≡ 0 = omega arith in
    sym (put_none made at)
    ∙ ap (λ (k : ℕ). put_at made at (digits k left)) (sym none)
    ∙ c.same
    ∙ ap (put_at old at) (sym (fitted_all w (digits w n) (length_digits w n)))

pub ruleset counting = (counting_none, counting_more, counting_all, rules)
