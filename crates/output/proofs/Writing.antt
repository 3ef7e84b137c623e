-- Writes into a lent buffer, one after the other. Assumes nothing.
use mathlib.Core.Path.{◌≡◌, refl, sym, ap, ap₂, ◌∙◌, subst}
use mathlib.Core.List.{List, [], ◌∷◌, ◌++◌}
use Prim.Native.Nat.{ℕ, ◌+◌, ◌-◌, ◌*◌, ◌/◌, ◌%◌, ◌≤◌, ◌<◌, min}
use native.Mathlib.Omega.{arith}
use borrow.Author.Rules.{rules}
use borrow.Author.Tests.{le-leb, lt-ltb, le-ltb}
use lib.Dec.{ltb}
use lib.ListN.{length, length-append}
use Rattle.base.proofs.Ifs.{if_true, if_false, if_case}
use Rattle.base.specs.Part.{put_at, put_in}
use Rattle.base.specs.Digits.{digits}
use Rattle.base.proofs.Parts.{put_put}
use Rattle.base.proofs.Copies.{length_put_in}
use Rattle.output.specs.Output.{Wrote, Put, put_below, refused, refusal_of, Answers}

-- ---- digits, side by side

-- a hundredth and a tenth as products
pub hundredth : (n : ℕ) → n < 10000 → n * 5243 / 524288 ≡ n / 100
hundredth n h = omega arith

pub halves_are : (n : ℕ) → n < 10000 → n * 5243 / 524288 + (n - n * 5243 / 524288 * 100) * 65536 ≡ n / 100 + n % 100 * 65536
halves_are n h =
    let e : n * 5243 / 524288 ≡ n / 100 = hundredth n h in
    let rest : n - n / 100 * 100 ≡ n % 100 = omega arith in
    ap (λ (q : ℕ). q + (n - q * 100) * 65536) e ∙ ap (λ (r : ℕ). n / 100 + r * 65536) rest

pub halves_fit : (n : ℕ) → n < 10000 → n * 5243 / 524288 * 100 ≤ n
halves_fit n h = let e : n * 5243 / 524288 ≡ n / 100 = hundredth n h in omega arith

pub tenth : (l : ℕ) → l < 100 → l * 103 / 1024 ≡ l / 10
tenth l h = omega arith

-- the figures of a number that has four at most
thousands : (v : ℕ) → v < 10000 → v / 10 / 10 / 10 % 10 ≡ v / 1000
thousands v h = omega arith

hundreds : (v : ℕ) → v / 10 / 10 % 10 ≡ v / 100 % 10
hundreds v = let e : v / 10 / 10 ≡ v / 100 = omega arith in ap (λ (n : ℕ). n % 10) e

tens : (v : ℕ) → v % 100 / 10 ≡ v / 10 % 10
tens v =
    let q : ℕ = v / 10 in
    let e : v % 100 ≡ q % 10 * 10 + v % 10 = omega arith in
    ap (λ (n : ℕ). n / 10) e ∙ omega arith

-- four figures in one word, and its bytes
low_of : (c e : ℕ) → c < 256 → (c + e * 256) % 256 ≡ c
low_of c e h = omega arith

word_sum : (a c d f b t : ℕ) → b ≡ a * 10 + c + (d * 10 + f) * 65536 → t ≡ a + d * 65536
    → b * 256 - t * 2559 + 808464432 ≡ 48 + a + (48 + c) * 256 + (48 + d) * 65536 + (48 + f) * 16777216
word_sum a c d f b t e g = omega arith

tens_room : (l h b t : ℕ) → l < 100 → t ≡ l / 10 + h / 10 * 65536 → b ≡ l + h * 65536 → t * 2559 ≤ b * 256
tens_room l h b t k e f = omega arith

bytes_of : (a c d f w : ℕ) → a < 256 → c < 256 → d < 256 → w ≡ a + c * 256 + d * 65536 + f * 16777216
    → w % 256 ∷ w / 256 % 256 ∷ w / 65536 % 256 ∷ w / 16777216 ∷ [] ≡ a ∷ c ∷ d ∷ f ∷ []
bytes_of a c d f w h k m e =
    let first : w % 256 ≡ a = omega arith in
    let behind : w / 256 ≡ c + (d + f * 256) * 256 = omega arith in
    let second : w / 256 % 256 ≡ c = ap (λ (n : ℕ). n % 256) behind ∙ low_of c (d + f * 256) k in
    let rest : w / 65536 ≡ d + f * 256 = omega arith in
    let third : w / 65536 % 256 ≡ d = ap (λ (n : ℕ). n % 256) rest ∙ low_of d f m in
    let fourth : w / 16777216 ≡ f = omega arith in
    rw (first, second, third, fourth)

-- the product of both halves, and its two parts
parts_are : (l h : ℕ) → l < 100 → (l + h * 65536) * 103 / 1024 ≡ l / 10 + h * 6592
parts_are l h k =
    let e : l * 103 / 1024 ≡ l / 10 = tenth l k in
    let f : (l + h * 65536) * 103 ≡ l * 103 + h * 6592 * 1024 = omega arith in
    omega arith

parts_low : (t h : ℕ) → t < 10 → (t + h * 6592) % 16 ≡ t
parts_low t h k = let e : h * 6592 ≡ h * 412 * 16 = omega arith in omega arith

parts_high : (t h : ℕ) → t < 10 → h < 100 → (t + h * 6592) / 65536 ≡ h / 10
parts_high t h k m = omega arith

pub tens_are : (b : ℕ) → b % 65536 < 100 → b / 65536 < 100
    → b * 103 / 1024 % 16 + b * 103 / 1024 / 65536 * 65536 ≡ b % 65536 / 10 + b / 65536 / 10 * 65536
tens_are b h k =
    let split : b ≡ b % 65536 + b / 65536 * 65536 = omega arith in
    let small : b % 65536 / 10 < 10 = omega arith in
    let parts : b * 103 / 1024 ≡ b % 65536 / 10 + b / 65536 * 6592 = ap (λ (n : ℕ). n * 103 / 1024) split ∙ parts_are (b % 65536) (b / 65536) h in
    ap (λ (n : ℕ). n % 16 + n / 65536 * 65536) parts
    ∙ ap (λ (n : ℕ). n + (b % 65536 / 10 + b / 65536 * 6592) / 65536 * 65536) (parts_low (b % 65536 / 10) (b / 65536) small)
    ∙ ap (λ (n : ℕ). b % 65536 / 10 + n * 65536) (parts_high (b % 65536 / 10) (b / 65536) small k)

-- the halves of a number that has four figures at most
module _ (n v b : ℕ) (d : v ≡ min n 9999) (e : b ≡ v / 100 + v % 100 * 65536) where
  four_at_most : v < 10000
  four_at_most = omega (arith, d)

  half_low : b % 65536 ≡ v / 100
  half_low = omega (arith, four_at_most, e)

  half_high : b / 65536 ≡ v % 100
  half_high = omega (arith, four_at_most, e)

  pub half_low_small : b % 65536 < 100
  half_low_small = omega (arith, four_at_most, half_low)

  pub half_high_small : b / 65536 < 100
  half_high_small = omega (arith, half_high)

  -- the word of both and their tens, byte by byte
  module _ (t : ℕ) (f : t ≡ b % 65536 / 10 + b / 65536 / 10 * 65536) where
    tens_by : t ≡ v / 1000 + v / 10 % 10 * 65536
    tens_by =
        let first : v / 100 / 10 ≡ v / 1000 = omega arith in
        f ∙ ap₂ (λ (x y : ℕ). x + y * 65536) (ap (λ (k : ℕ). k / 10) half_low ∙ first) (ap (λ (k : ℕ). k / 10) half_high ∙ tens v)

    word_by : b * 256 - t * 2559 + 808464432
        ≡ 48 + v / 1000 + (48 + v / 100 % 10) * 256 + (48 + v / 10 % 10) * 65536 + (48 + v % 10) * 16777216
    word_by =
        let high : v / 100 ≡ v / 1000 * 10 + v / 100 % 10 = omega arith in
        let low : v % 100 ≡ v / 10 % 10 * 10 + v % 10 = omega arith in
        word_sum (v / 1000) (v / 100 % 10) (v / 10 % 10) (v % 10) b t (e ∙ ap₂ (λ (x y : ℕ). x + y * 65536) high low) tens_by

    pub figures_room : t * 2559 ≤ b * 256
    figures_room = tens_room (b % 65536) (b / 65536) b t half_low_small f (omega arith)

    pub figures_are : (b * 256 - t * 2559 + 808464432) % 256
        ∷ (b * 256 - t * 2559 + 808464432) / 256 % 256
        ∷ (b * 256 - t * 2559 + 808464432) / 65536 % 256
        ∷ (b * 256 - t * 2559 + 808464432) / 16777216 ∷ []
        ≡ digits 4 (min n 9999)
    unfolding digits
    figures_are =
        let w : ℕ = b * 256 - t * 2559 + 808464432 in
        bytes_of (48 + v / 1000) (48 + v / 100 % 10) (48 + v / 10 % 10) (48 + v % 10) w
        (omega (arith, four_at_most)) (omega arith) (omega arith) word_by
        ∙ ap₂ (λ (x y : ℕ). (48 + x) ∷ (48 + y) ∷ (48 + v / 10 % 10) ∷ (48 + v % 10) ∷ []) (sym (thousands v four_at_most))
        (sym (hundreds v))
        ∙ ap (digits 4) d

-- of any number the last four
pub digits_last : (n : ℕ) → digits 4 (min (n % 10000) 9999) ≡ digits 4 n
unfolding digits
digits_last n =
    let first : min (n % 10000) 9999 / 10 / 10 / 10 % 10 ≡ n / 10 / 10 / 10 % 10 = omega arith in
    let second : min (n % 10000) 9999 / 10 / 10 % 10 ≡ n / 10 / 10 % 10 = omega arith in
    let third : min (n % 10000) 9999 / 10 % 10 ≡ n / 10 % 10 = omega arith in
    let fourth : min (n % 10000) 9999 % 10 ≡ n % 10 = omega arith in
    rw (first, second, third, fourth)

pub last_four : (n : ℕ) (d : List ℕ) → d ≡ digits 4 (min (n % 10000) 9999) → d ≡ digits 4 n
last_four n d e = e ∙ digits_last n

pub ruleset figures =
    (hundredth, halves_are, halves_fit, tens_are, half_low_small, half_high_small, figures_are, figures_room, last_four, rules)

-- ---- a write

-- where it does not end before `most`, where the buffer is too short, and where it has room
pub put_most : {most : ℕ} (o : List ℕ) (a : ℕ) (bs : List ℕ) (r : ℕ) → r ≡ min (a + length bs) most → most ≤ r
    → Put most o a bs o r
unfolding put_below
put_most {most = most} o a bs r e h =
    record { place = e; held = sym (if_false _ _ _ (le-ltb (a + length bs) most (omega arith))) }

pub put_below_lem : {most : ℕ} (o : List ℕ) (a : ℕ) (bs p : List ℕ) (r : ℕ) → r ≡ min (a + length bs) most → r < most
    → p ≡ put_in o a bs → Put most o a bs p r
unfolding put_below
put_below_lem {most = most} o a bs p r e l q =
    record { place = e; held = q ∙ sym (if_true _ _ _ (lt-ltb (a + length bs) most (omega arith))) }

length_put_below : (most : ℕ) (o : List ℕ) (a : ℕ) (bs : List ℕ) → length (put_below most o a bs) ≡ length o
unfolding put_below
length_put_below most o a bs =
    if_case (λ (p : List ℕ). length p ≡ length o) (ltb (a + length bs) most) _ _ (λ _. length_put_in o a bs) (λ _. refl)

-- one write is the first of several
pub put_wrote : {most : ℕ} (o : List ℕ) (a : ℕ) (bs p : List ℕ) (r : ℕ) → Put most o a bs p r → Wrote most o a bs p r
unfolding put_below put_in
put_wrote {most = most} o a bs p r w =
    record {
      kept = ap length w.held ∙ length_put_below most o a bs;
      place = w.place;
      done =
          λ l h. w.held
          ∙ if_true _ _ _ (lt-ltb (a + length bs) most (omega (arith, w.place)))
          ∙ if_true _ _ _ (le-leb (a + length bs) (length o) (omega (arith, w.place)));
    }

-- ---- writes one behind the other

-- two writes, the second right behind the first, are one
pub wrote_wrote : {most : ℕ} (o : List ℕ) (a : ℕ) (xs p : List ℕ) (r : ℕ) (ys q : List ℕ) (s : ℕ) → Wrote most o a xs p r
    → Wrote most p r ys q s → Wrote most o a (xs ++ ys) q s
wrote_wrote {most = most} o a xs p r ys q s w v =
    let long : length (xs ++ ys) ≡ length xs + length ys = length-append xs ys in
    record {
      kept = v.kept ∙ w.kept;
      place = subst (λ (n : ℕ). s ≡ min (a + n) most) (sym long) (omega (arith, w.place, v.place));
      done =
          λ l h.
          let before : r ≡ a + length xs = omega (arith, w.place, v.place) in
          let first : p ≡ put_at o a xs = w.done (omega (arith, v.place)) (omega (arith, v.place)) in
          v.done l (omega (arith, w.kept))
          ∙ ap (λ (k : ℕ). put_at p k ys) before
          ∙ ap (λ (k : List ℕ). put_at k (a + length xs) ys) first
          ∙ put_put o a xs ys (omega (arith, w.place, v.place));
    }

-- for a function that writes one thing behind the other
pub ruleset writes = (wrote_wrote, put_wrote, rules)

-- four of them
pub wrote_four : {most : ℕ} (o : List ℕ) (a : ℕ) (w p : List ℕ) (r : ℕ) (x q : List ℕ) (s : ℕ) (y t : List ℕ) (u : ℕ)
    (z v : List ℕ) (b : ℕ)
    → Wrote most o a w p r → Wrote most p r x q s → Wrote most q s y t u → Wrote most t u z v b
    → Wrote most o a (w ++ x ++ y ++ z) v b
wrote_four o a w p r x q s y t u z v b i j k l =
    wrote_wrote o a (w ++ x ++ y) t u z v b (wrote_wrote o a (w ++ x) q s y t u (wrote_wrote o a w p r x q s i j) k) l

-- the same bytes
pub wrote_same : {most : ℕ} (o : List ℕ) (a : ℕ) (bs cs p : List ℕ) (r : ℕ) → bs ≡ cs → Wrote most o a bs p r
    → Wrote most o a cs p r
wrote_same {most = most} o a bs cs p r e w = subst (λ (s : List ℕ). Wrote most o a s p r) e w

-- ---- a refusal

-- a refusal answers with its number, and leaves the buffer as it was
pub answers_refused : (n : ℕ) (out : List ℕ) → Answers (refused n out) (refusal_of n) out
unfolding refused refusal_of
answers_refused n out = record { said = refl; len = refl; out = refl }
