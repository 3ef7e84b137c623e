-- Laws of length words and of what they lead, as the code reads and writes them at a place. Assumes nothing.
use mathlib.Core.Path.{◌≡◌, sym, ap, ap₂, ◌∙◌}
use mathlib.Core.Bool.{Bool, true, false, ◌&&◌}
use mathlib.Core.List.{List, [], ◌∷◌, ◌++◌}
use Prim.Native.Nat.{ℕ, ◌+◌, ◌*◌, ◌-◌, ◌%◌, ◌≤◌, ◌<◌}
use native.Mathlib.Omega.{arith}
use borrow.Author.Rules.{rules}
use borrow.Author.Tests.{eq-eqb, ne_eqb, eqb-true, eqb-false, le-leb, lt-leb}
use lib.Dec.{leb, eqb}
use lib.ListN.{length, take, drop, get_or, set, length-append, length-drop}
use lib.Seq.{drop-cons, drop-drop, get_or-drop}
use Rattle.base.proofs.Ifs.{if_true, if_false, if_case, and_left, and_right, if_itself}
use Rattle.base.specs.Part.{part, put_at, all_are, put_in}
use Rattle.base.proofs.Parts.{part_drop, length_put, put_none, put_put}
use Rattle.image.specs.Item.{block, three, bytes_of as image_item}
use Rattle.image.specs.declared.Shape.{Shape}
use Rattle.image.specs.declared.Shape.TheVariants.{Broken}
use Rattle.base.proofs.Put.{put_first}
use Rattle.base.proofs.Copies.{put_in_lem}
use Rattle.simh.specs.Tape.{word, second, span_of, is_whole, led_by, shape, four, pad, bytes_of}

-- ---- reading

pub word_read : (s : List ℕ) (at a b c d : ℕ) → a ≡ get_or s at 0 → b ≡ get_or s (at + 1) 0 → c ≡ get_or s (at + 2) 0
    → d ≡ get_or s (at + 3) 0
    → a + b * 256 + c * 65536 + d * 16777216 ≡ word (drop at s)
unfolding word
word_read s at a b c d i j k l =
    let here : at + 0 ≡ at = omega arith in
    let first : get_or (drop at s) 0 0 ≡ get_or s at 0 = get_or-drop at s 0 0 ∙ ap (λ (k : ℕ). get_or s k 0) here in
    omega (arith, first, get_or-drop at s 1 0, get_or-drop at s 2 0, get_or-drop at s 3 0)

-- the pad byte

pub pad_none : (s : List ℕ) (at n : ℕ) → n % 2 ≡ 0 → true ≡ all_are 0 (part at (n % 2) s)
unfolding part all_are
pad_none s at n e = sym (ap (λ (k : ℕ). all_are 0 (take k (drop at s))) e)

pub pad_byte : (s : List ℕ) (at n : ℕ) → (n % 2 ≡ 0 → ⊥) → at + n % 2 ≤ length s
    → eqb (get_or s at 0) 0 ≡ all_are 0 (part at (n % 2) s)
unfolding part all_are
pad_byte s at n e h =
    let odd : n % 2 ≡ 1 = omega arith in
    sym (ap (λ (k : ℕ). all_are 0 (take k (drop at s))) odd
    ∙ ap (λ (l : List ℕ). all_are 0 (take 1 l)) (drop-cons s at 0 (omega arith))
    ∙ if_itself (eqb (get_or s at 0) 0))

pub pad_within : (s : List ℕ) (at n r : ℕ) → r ≡ span_of n → r ≤ length s - at → at + 4 + n + n % 2 ≤ length s
pad_within s at n r e h = omega arith

pub second_within_lem : (s : List ℕ) (at n r : ℕ) → r ≡ span_of n → r ≤ length s - at → at + 4 + n + n % 2 + 4 ≤ length s
second_within_lem s at n r e h = omega arith

-- ---- a whole block

pub whole_cut : (s : List ℕ) (at n r : ℕ) → r ≡ span_of n → length s - at < r → false ≡ is_whole n (drop at s)
unfolding is_whole
whole_cut s at n r e h = sym (and_left _ _ (lt-leb (span_of n) (length (drop at s)) (simp length-drop (omega arith))))

module _ (s : List ℕ) (at n r : ℕ) (p : Bool) (e : r ≡ span_of n) (h : r ≤ length s - at)
    (q : p ≡ all_are 0 (part (at + 4 + n) (n % 2) s)) where
  there : leb (span_of n) (length (drop at s)) ≡ true
  there = le-leb (span_of n) (length (drop at s)) (simp length-drop (omega arith))

  padded : all_are 0 (part (4 + n) (n % 2) (drop at s)) ≡ p
  padded =
      let place : at + (4 + n) ≡ at + 4 + n = omega arith in
      ap (all_are 0) (part_drop at (4 + n) (n % 2) s) ∙ ap (λ (k : ℕ). all_are 0 (part k (n % 2) s)) place ∙ sym q

  pub whole_unpadded : p ≡ false → false ≡ is_whole n (drop at s)
  unfolding is_whole
  whole_unpadded f = sym (and_right (leb (span_of n) (length (drop at s))) _ (and_left _ _ (padded ∙ f)))

  pub whole_again : (w : ℕ) → p ≡ true → w ≡ word (drop (at + 4 + n + n % 2) s) → eqb w n ≡ is_whole n (drop at s)
  unfolding is_whole
  whole_again w t f =
      let place : at + second n ≡ at + 4 + n + n % 2 = omega arith in
      let same : word (drop (second n) (drop at s)) ≡ w = ap word (drop-drop (second n) at s) ∙ ap (λ (k : ℕ). word (drop k s)) place ∙ sym f in
      sym (ap (λ (b : Bool). b &&
      (all_are 0 (part (4 + n) (n % 2) (drop at s)) && eqb (word (drop (second n) (drop at s))) n)) there
      ∙ ap (λ (b : Bool). b && eqb (word (drop (second n) (drop at s))) n) (padded ∙ t)
      ∙ ap (λ (k : ℕ). eqb k n) same)

pub ruleset wholes = (pad_none, pad_byte, pad_within, second_within_lem, whole_cut, whole_unpadded, whole_again, rules)

-- ---- what stands at a place

pub shape_short : (s : List ℕ) (at : ℕ) → length s - at < 4 → Broken ≡ shape (drop at s)
unfolding shape
shape_short s at h = sym (if_false _ _ _ (lt-leb 4 (length (drop at s)) (simp length-drop h)))

pub shape_past : (s : List ℕ) (at : ℕ) → length s ≤ at → Broken ≡ shape (drop at s)
shape_past s at h = shape_short s at (omega arith)

pub shape_led : (s : List ℕ) (at w : ℕ) (p : Shape) → p ≡ led_by w (drop at s) → 4 ≤ length s - at → w ≡ word (drop at s)
    → p ≡ shape (drop at s)
unfolding shape
shape_led s at w p e h l =
    e ∙ ap (λ (k : ℕ). led_by k (drop at s)) l ∙ sym (if_true _ _ _ (le-leb 4 (length (drop at s)) (simp length-drop h)))

pub word_within : (s : List ℕ) (at : ℕ) → 4 ≤ length s - at → at + 4 ≤ length s
word_within s at h = omega arith

pub ruleset shapes = (word_read, shape_past, shape_short, shape_led, word_within, rules)

-- ---- writing

pub length_pad : (n : ℕ) → length (pad n) ≡ n % 2
unfolding pad
length_pad n =
    if_case (λ (l : List ℕ). length l ≡ n % 2) (eqb (n % 2) 0) [] (0 ∷ []) (λ e. sym (eqb-true (n % 2) 0 e))
    (λ e. let odd : 1 ≡ n % 2 = omega (arith, eqb-false (n % 2) 0 e) in odd)

pub pad_put : (o : List ℕ) (at n : ℕ) → (n % 2 ≡ 0 → ⊥) → at + n % 2 ≤ length o → set o at 0 ≡ put_at o at (pad n)
unfolding pad
pad_put o at n e h =
    sym (ap (put_at o at) (if_false _ _ _ (ne_eqb (n % 2) 0 e)) ∙ put_first o at 0 [] (omega arith) ∙ put_none _ _)

pub pad_kept : (o : List ℕ) (at n : ℕ) → n % 2 ≡ 0 → o ≡ put_at o at (pad n)
unfolding pad
pad_kept o at n e = sym (ap (put_at o at) (if_true _ _ _ (eq-eqb (n % 2) 0 e)) ∙ put_none o at)

pub block_put : (o s p q : List ℕ) (at : ℕ) → at + 3 + length s ≤ length o → p ≡ put_at o at (three (length s))
    → q ≡ put_in p (at + 3) s
    → q ≡ put_at o at (image_item (block s))
unfolding image_item three
block_put o s p q at h e f =
    let long : length p ≡ length o = ap length e ∙ length_put o at (three (length s)) (omega arith) in
    f ∙ put_in_lem p (at + 3) s (omega arith) ∙ ap (λ (l : List ℕ). put_at l (at + 3) s) e ∙ put_put o at (three (length s)) s (omega arith)

module _ (o s p q r t : List ℕ) (at : ℕ) where
  pub record_put : at + span_of (length s) ≤ length o → p ≡ put_at o at (four (length s)) → q ≡ put_in p (at + 4) s
      → r ≡ put_at q (at + 4 + length s) (pad (length s)) → t ≡ put_at r (at + 4 + length s + length s % 2) (four (length s))
      → t ≡ put_at o at (bytes_of (block s))
  unfolding bytes_of four
  record_put h e f g i =
      let n : ℕ = length s in
      let long : length p ≡ length o = ap length e ∙ length_put o at (four n) (omega arith) in
      let two : q ≡ put_at o at (four n ++ s)
      = f ∙ put_in_lem p (at + 4) s (omega arith) ∙ ap (λ (l : List ℕ). put_at l (at + 4) s) e ∙ put_put o at (four n) s (omega arith) in
      let size : length (four n ++ s) ≡ 4 + n = length-append (four n) s in
      let place : at + length (four n ++ s) ≡ at + 4 + n = omega arith in
      let three : r ≡ put_at o at (four n ++ s ++ pad n)
      = g ∙ ap₂ (λ (l : List ℕ) (k : ℕ). put_at l k (pad n)) two (sym place) ∙ put_put o at (four n ++ s) (pad n) (omega arith) in
      let padded : length (four n ++ s ++ pad n) ≡ 4 + n + n % 2 = length-append (four n ++ s) (pad n) ∙ ap₂ ◌+◌ size (length_pad n) in
      let behind : at + length (four n ++ s ++ pad n) ≡ at + 4 + n + n % 2 = omega arith in
      i ∙ ap₂ (λ (l : List ℕ) (k : ℕ). put_at l k (four n)) three (sym behind)
      ∙ put_put o at (four n ++ s ++ pad n) (four n) (omega arith)

pub ruleset puts = (pad_put, pad_kept, block_put, record_put, rules)
