-- Bytes that are written where the pass lays. Assumes nothing.
use mathlib.Core.Path.{◌≡◌, refl, sym, ap, ◌∙◌}
use mathlib.Core.Bool.{Bool, true, false}
use mathlib.Core.List.{List, ◌∷◌, ◌++◌}
use Prim.Native.Nat.{ℕ, ◌+◌, ◌-◌, ◌≤◌, min}
use native.Mathlib.Omega.{arith}
use borrow.Author.Rules.{rules}
use borrow.Author.Tests.{eqb-true, eqb-false}
use mir.Val.{Fits as FitsIn}
use mir.Syntax.{w64}
use lib.Dec.{eqb}
use lib.ListN.{length, take, drop}
use Rattle.base.proofs.Ifs.{if_true, if_false, if_case}
use Rattle.base.specs.Part.{part, put_at, put_in}
use Rattle.base.specs.Digits.{digits}
use Rattle.base.proofs.Copies.{put_in_lem, kept_in}
use Rattle.base.proofs.Parts.{put_put, length_part, part_within, length_put as put-length}
use Rattle.block.specs.Unit.{word_of}
use Rattle.block.specs.Room.{word_with}
use Rattle.block.proofs.Wholes.{word_variable}
use Rattle.block.proofs.Rooms.{word_fixed}
use Rattle.writing.specs.Pack.{control_word}
use Rattle.writing.proofs.Packing.{by_test}
use Rattle.writing.proofs.Units.{length_control}
use Rattle.writer.specs.Code.Pass.{ink_at}
use Rattle.writer.specs.Code.Pens.{most_of}
use Rattle.writer.proofs.Forms.{broken_word, four_digits}

pub ink_put : (lay : Bool) (o : List ℕ) (at : ℕ) (bs q : List ℕ) → lay ≡ true → q ≡ put_at o at bs → q ≡ ink_at lay o at bs
unfolding ink_at
ink_put lay o at bs q l e = e ∙ sym (if_true _ _ _ l)

-- a write that asks for room, where it has it
pub ink_put_in : (lay : Bool) (o : List ℕ) (at : ℕ) (bs q : List ℕ) → (lay ≡ true → at + length bs ≤ length o) → lay ≡ true
    → q ≡ put_in o at bs → q ≡ ink_at lay o at bs
ink_put_in lay o at bs q r l e = ink_put lay o at bs q l (e ∙ put_in_lem o at bs (r l))

-- n bytes that were made before, where they have room
pub ink_made : (lay : Bool) (o : List ℕ) (at n : ℕ) (bs s q : List ℕ) → length bs ≡ n → (lay ≡ true → at + n ≤ length o)
    → lay ≡ true → s ≡ bs → q ≡ put_in o at s → q ≡ ink_at lay o at bs
ink_made lay o at n bs s q k r l h e =
    ink_put_in lay o at bs q (λ t. let m = r t in omega arith) l (e ∙ ap (put_in o at) h)

pub ink_not : (lay : Bool) (o : List ℕ) (at : ℕ) (bs : List ℕ) → lay ≡ false → o ≡ ink_at lay o at bs
unfolding ink_at
ink_not lay o at bs l = sym (if_false _ _ _ l)

-- ---- a control word

pub word_small : (f : ℕ) → word_of f ≤ 5
unfolding word_of
word_small f =
    if_case (λ (n : ℕ). n ≤ 5) (eqb f 70) 0 _ (λ _. omega arith)
    (λ _. if_case (λ (n : ℕ). n ≤ 5) (eqb f 68) 4 5 (λ _. omega arith) (λ _. omega arith))

-- the digits say how long the unit is with its word
word_says : (f i k : ℕ) → word_with f (48 + i) (digits 4 (k + word_of f)) ≡ control_word f i k
unfolding word_with control_word
word_says f i k =
    by_test (eqb f 70) (λ e. if_true _ _ _ e ∙ sym (if_true _ _ _ e))
    (λ e. by_test (eqb f 68)
    (λ d. let w : word_of f ≡ 4 = word_variable f (eqb-true f 68 d) in
    if_false _ _ _ e ∙ if_true _ _ _ d ∙ ap (λ (n : ℕ). digits 4 (k + n)) w ∙ sym (if_false _ _ _ e ∙ if_true _ _ _ d))
    (λ d. let w : word_of f ≡ 5 = broken_word f (eqb-false f 70 e) (eqb-false f 68 d) in
    if_false _ _ _ e ∙ if_false _ _ _ d ∙ ap (λ (n : ℕ). (48 + i) ∷ digits 4 (k + n)) w
    ∙ sym (if_false _ _ _ e ∙ if_false _ _ _ d)))

-- and so do those of four figures, where the unit is not too long for them
figures_say : (f i n : ℕ) → n ≤ most_of f → word_with f (48 + i) (digits 4 (min (n + word_of f) 9999)) ≡ control_word f i n
unfolding word_with control_word
figures_say f i n h =
    by_test (eqb f 70) (λ e. if_true _ _ _ e ∙ sym (if_true _ _ _ e))
    (λ e.
    let sayable : n + word_of f ≤ 9999 = omega (arith, four_digits f _ _ refl refl (eqb-false f 70 e)) in
    let all : min (n + word_of f) 9999 ≡ n + word_of f = omega arith in
    ap (λ (k : ℕ). word_with f (48 + i) (digits 4 k)) all ∙ word_says f i n)

module _ (f i k : ℕ) (o : List ℕ) (at w : ℕ) (v : w ≡ word_of f) where
  pub word_fits : k ≤ 99999 → FitsIn w64 (k + w)
  word_fits h = record { fits = omega (arith, word_small f) }

  -- with room for it
  pub word_said : (d q : List ℕ) → at + word_of f ≤ length o → d ≡ digits 4 (k + w) → q ≡ put_in o at (word_with f (48 + i) d)
      → q ≡ put_at o at (control_word f i k)
  word_said d q r e x =
      x
      ∙ ap (put_in o at) (ap (word_with f (48 + i)) (e ∙ ap (λ (n : ℕ). digits 4 (k + n)) v) ∙ word_says f i k)
      ∙ put_in_lem o at (control_word f i k) (omega (arith, length_control f i k))

-- ---- a unit

module _ (f i n : ℕ) (o : List ℕ) (at w : ℕ) (word : w ≡ word_of f) (bytes : List ℕ) (from : ℕ) (inside : from + n ≤ length bytes)
    (small : n ≤ most_of f)
    (r : at + word_of f + n ≤ length o)
  where
    abbrev s : List ℕ
    s = take (from + n - from) (drop from bytes)

    long : length s ≡ n
    long = ap length (part_within from n bytes) ∙ length_part from n bytes inside

    module _ (q : List ℕ) (y : q ≡ put_in o at (word_with f (48 + i) (digits 4 (min (w + n) 9999)))) where
      says : digits 4 (min (w + n) 9999) ≡ digits 4 (min (n + word_of f) 9999)
      says = let same : w + n ≡ n + word_of f = omega arith in ap (λ (k : ℕ). digits 4 (min k 9999)) same

      x : q ≡ put_at o at (control_word f i n)
      x =
          y
          ∙ ap (put_in o at) (ap (word_with f (48 + i)) says ∙ figures_say f i n small)
          ∙ put_in_lem o at (control_word f i n) (omega (arith, length_control f i n))

      kept : length q ≡ length o
      kept = ap length x ∙ put-length o at (control_word f i n) (omega (arith, length_control f i n))

      unit_room : at + w + length s ≤ length q
      unit_room = omega (arith, long, kept)

      pub unit_put : (z : List ℕ) → z ≡ put_in q (at + w) s → z ≡ put_at o at (control_word f i n ++ part from n bytes)
      unit_put z l =
          let four : w ≡ length (control_word f i n) = word ∙ sym (length_control f i n) in
          l
          ∙ put_in_lem q (at + w) s unit_room
          ∙ ap (λ (l : List ℕ). put_at l (at + w) s) x
          ∙ ap (λ (k : ℕ). put_at (put_at o at (control_word f i n)) (at + k) s) four
          ∙ put_put o at (control_word f i n) s (omega (arith, length_control f i n))
          ∙ ap (λ (l : List ℕ). put_at o at (control_word f i n ++ l)) (part_within from n bytes)

      pub unit_kept : (z : List ℕ) → z ≡ put_in q (at + w) s → length z ≡ length o
      unit_kept z l = ap length (l ∙ put_in_lem q (at + w) s unit_room) ∙ put-length q (at + w) s unit_room ∙ kept

-- the control word of a whole record
pub said_word : (f : ℕ) (o : List ℕ) (at n : ℕ) (d q : List ℕ) → d ≡ digits 4 (min n 9999) → q ≡ put_in o at (word_with f 48 d)
    → q ≡ put_in o at (word_with f 48 (digits 4 (min n 9999)))
said_word f o at n d q e x = x ∙ ap (λ (l : List ℕ). put_in o at (word_with f 48 l)) e

pub ruleset saids = (word_fixed, said_word, kept_in, rules)
