-- The room in a block, the numbers of a unit and its control word, as the code finds them. Assumes nothing.
use mathlib.Core.Path.{◌≡◌, refl, sym, ap, ◌∙◌}
use mathlib.Core.Bool.{Bool, true, false}
use mathlib.Core.List.{List, [], ◌∷◌}
use Prim.Native.Nat.{ℕ, ◌+◌, ◌-◌, ◌≤◌, ◌<◌, min}
use native.Mathlib.Omega.{arith}
use borrow.Author.Rules.{rules}
use borrow.Author.Tests.{eq-eqb, ne_eqb, le-leb, lt-leb, leb-true}
use mir.Val.{Fits as FitsIn}
use mir.Syntax.{w64}
use lib.Dec.{leb}
use lib.ListN.{length, get_or, set, length-set}
use lib.Seq.{take_all}
use Rattle.base.specs.Part.{part, put_at, put_in}
use Rattle.base.proofs.Ifs.{if_true, if_false, if_case}
use Rattle.base.proofs.Parts.{length_put, put_none}
use Rattle.base.proofs.Put.{put_first}
use Rattle.base.proofs.Copies.{four_read, put_over, put_right}
use Rattle.block.specs.Unit.{word_of}
use Rattle.block.specs.Room.{enters, taken, indicator_of, word_with}

-- ---- room

pub no_room_used : (b u w m : ℕ) → b < u → false ≡ leb (u + w + m) b
no_room_used b u w m h = sym (lt-leb (u + w + m) b (omega arith))

pub no_room_word : (b u w m : ℕ) → b - u < w → false ≡ leb (u + w + m) b
no_room_word b u w m h = sym (lt-leb (u + w + m) b (omega arith))

pub no_room_bytes : (b u w m : ℕ) → w ≤ b - u → u ≤ b → b - u - w < m → false ≡ leb (u + w + m) b
no_room_bytes b u w m k j h = sym (lt-leb (u + w + m) b (omega arith))

pub has_room : (b u w m : ℕ) → u ≤ b → w ≤ b - u → m ≤ b - u - w → true ≡ leb (u + w + m) b
has_room b u w m i j h = sym (le-leb (u + w + m) b (omega arith))

pub ruleset rooms = (no_room_used, no_room_word, no_room_bytes, has_room, rules)

-- ---- whether a record enters, and how much of it

pub enters_segment : (f b u n m : ℕ) (r : Bool) → f ≡ 83 → m ≡ min 1 n → r ≡ leb (u + 5 + m) b → r ≡ enters f b u n
unfolding enters
enters_segment f b u n m r e h p = p ∙ ap (λ (k : ℕ). leb (u + 5 + k) b) h ∙ sym (if_true _ _ _ (eq-eqb f 83 e))

pub enters_unit : (f b u n w : ℕ) (r : Bool) → (f ≡ 83 → ⊥) → w ≡ word_of f → r ≡ leb (u + w + n) b → r ≡ enters f b u n
unfolding enters
enters_unit f b u n w r e h p = p ∙ ap (λ (k : ℕ). leb (u + k + n) b) h ∙ sym (if_false _ _ _ (ne_eqb f 83 e))

pub taken_segment : (f b u n a k r : ℕ) → f ≡ 83 → a ≡ b - u - 5 → k ≡ min a 9994 → r ≡ min n k → r ≡ taken f b u n
unfolding taken
taken_segment f b u n a k r e h i p =
    p ∙ ap (min n) (i ∙ ap (λ (j : ℕ). min j 9994) h) ∙ sym (if_true _ _ _ (eq-eqb f 83 e))

pub taken_unit : (f b u n : ℕ) → (f ≡ 83 → ⊥) → n ≡ taken f b u n
unfolding taken
taken_unit f b u n e = sym (if_false _ _ _ (ne_eqb f 83 e))

pub ruleset entering = (enters_segment, enters_unit, taken_segment, taken_unit, rules)

-- ---- the indicator, as its byte

module _ (t k n : ℕ) where
  pub only_segment : k ≡ n → t ≡ 0 → 48 ≡ 48 + indicator_of t k n
  unfolding indicator_of
  only_segment e z = ap (λ (i : ℕ). 48 + i) (sym (if_true _ _ _ (eq-eqb k n e) ∙ if_true _ _ _ (eq-eqb t 0 z)))

  pub last_segment : k ≡ n → (t ≡ 0 → ⊥) → 51 ≡ 48 + indicator_of t k n
  unfolding indicator_of
  last_segment e z = ap (λ (i : ℕ). 48 + i) (sym (if_true _ _ _ (eq-eqb k n e) ∙ if_false _ _ _ (ne_eqb t 0 z)))

  pub first_segment_lem : (k ≡ n → ⊥) → t ≡ 0 → 49 ≡ 48 + indicator_of t k n
  unfolding indicator_of
  first_segment_lem e z = ap (λ (i : ℕ). 48 + i) (sym (if_false _ _ _ (ne_eqb k n e) ∙ if_true _ _ _ (eq-eqb t 0 z)))

  pub middle_segment : (k ≡ n → ⊥) → (t ≡ 0 → ⊥) → 50 ≡ 48 + indicator_of t k n
  unfolding indicator_of
  middle_segment e z = ap (λ (i : ℕ). 48 + i) (sym (if_false _ _ _ (ne_eqb k n e) ∙ if_false _ _ _ (ne_eqb t 0 z)))

pub ruleset indicators = (only_segment, last_segment, first_segment_lem, middle_segment, rules)

-- ---- the control word

-- k bytes have room in n
pub room_for : (k n at : ℕ) (fits : Bool) → fits ≡ leb (at + k) n → fits ≡ true → at + k ≤ n
room_for k n at fits r t = leb-true (at + k) n (sym r ∙ t)

-- an indicator and four digits
module _ (o : List ℕ) (at : ℕ) where
  pub five_first : (fits : Bool) → fits ≡ leb (at + 5) (length o) → fits ≡ true → at < length o
  five_first fits r t = let room = room_for 5 (length o) at fits r t in omega arith

  pub five_fits : (fits : Bool) → fits ≡ leb (at + 5) (length o) → fits ≡ true → length o < 18446744073709551616 → FitsIn w64 (at + 1)
  five_fits fits r t h = let room = room_for 5 (length o) at fits r t in record { fits = omega arith }

  pub five_behind : (c : ℕ) (fits : Bool) → fits ≡ leb (at + 5) (length o) → fits ≡ true → at + 1 + 4 ≤ length (set o at c)
  five_behind c fits r t = let room = room_for 5 (length o) at fits r t in omega (arith, length-set o at c)

pub ruleset fives = (five_first, five_fits, five_behind, rules)

module _ (f c : ℕ) (o : List ℕ) (at : ℕ) (d : List ℕ) where
  -- a unit of an F file has none
  pub word_fixed : f ≡ 70 → o ≡ put_in o at (word_with f c d)
  unfolding word_with put_in
  word_fixed e =
      let none : word_with f c d ≡ [] = if_true _ _ _ (eq-eqb f 70 e) in
      sym (ap (put_in o at) none ∙ if_case (λ (l : List ℕ). l ≡ o) (leb (at + 0) (length o)) (put_at o at []) o (λ _. put_none o at) (λ _. refl))

  -- four digits, where they have room or not
  module _ (fits : Bool) (r : fits ≡ leb (at + 4) (length o)) where
    pub word_kept : (q : List ℕ) → fits ≡ true → length d ≡ 4 → q ≡ put_at o at d → length q ≡ length o
    word_kept q t four x = let room = room_for 4 (length o) at fits r t in ap length x ∙ length_put o at d (omega arith)

    module _ (four : length d ≡ 4) (a : f ≡ 70 → ⊥) (e : f ≡ 68) where
      word_digits : d ≡ word_with f c d
      unfolding word_with
      word_digits = sym (if_false _ _ _ (ne_eqb f 70 a) ∙ if_true _ _ _ (eq-eqb f 68 e))

      word_fits : fits ≡ leb (at + length d) (length o)
      word_fits = r ∙ ap (λ (n : ℕ). leb (at + n) (length o)) (sym four)

      pub word_over : fits ≡ false → o ≡ put_in o at (word_with f c d)
      word_over t = put_over o at d fits word_fits t ∙ ap (put_in o at) word_digits

      pub word_put : (q : List ℕ) → fits ≡ true → q ≡ put_at o at d → q ≡ put_in o at (word_with f c d)
      word_put q t x = put_right o at d fits word_fits t q x ∙ ap (put_in o at) word_digits

  -- and these behind an indicator
  module _ (fits : Bool) (r : fits ≡ leb (at + 5) (length o)) where
    pub segment_kept : (q : List ℕ) → fits ≡ true → length d ≡ 4 → q ≡ put_at (set o at c) (at + 1) d → length q ≡ length o
    segment_kept q t four x =
        let room = five_behind o at c fits r t in
        ap length x ∙ length_put (set o at c) (at + 1) d (omega arith) ∙ length-set o at c

    module _ (four : length d ≡ 4) (a : f ≡ 70 → ⊥) (e : f ≡ 68 → ⊥) where
      segment_digits : c ∷ d ≡ word_with f c d
      unfolding word_with
      segment_digits = sym (if_false _ _ _ (ne_eqb f 70 a) ∙ if_false _ _ _ (ne_eqb f 68 e))

      segment_fits : fits ≡ leb (at + length (c ∷ d)) (length o)
      segment_fits = let five : 5 ≡ length (c ∷ d) = omega arith in r ∙ ap (λ (n : ℕ). leb (at + n) (length o)) five

      pub segment_over : fits ≡ false → o ≡ put_in o at (word_with f c d)
      segment_over t = put_over o at (c ∷ d) fits segment_fits t ∙ ap (put_in o at) segment_digits

      pub segment_put : (q : List ℕ) → fits ≡ true → q ≡ put_at (set o at c) (at + 1) d → q ≡ put_in o at (word_with f c d)
      segment_put q t x =
          put_right o at (c ∷ d) fits segment_fits t q (x ∙ sym (put_first o at c d (five_first o at fits r t)))
          ∙ ap (put_in o at) segment_digits

pub ruleset words = (word_fixed, word_over, word_put, word_kept, segment_over, segment_put, segment_kept, rules)

-- four digits, one by one
put_four : (o : List ℕ) (at x y z w : ℕ) → at + 4 ≤ length o
    → set (set (set (set o at x) (at + 1) y) (at + 2) z) (at + 3) w ≡ put_at o at (x ∷ y ∷ z ∷ w ∷ [])
put_four o at x y z w r =
    let a : List ℕ = set o at x in
    let b : List ℕ = set a (at + 1) y in
    let c : List ℕ = set b (at + 2) z in
    let la : length a ≡ length o = length-set o at x in
    let lb : length b ≡ length a = length-set a (at + 1) y in
    let lc : length c ≡ length b = length-set b (at + 2) z in
    let second : at + 1 + 1 ≡ at + 2 = omega arith in
    let third : at + 2 + 1 ≡ at + 3 = omega arith in
    sym (put_first o at x _ (omega arith)
    ∙ put_first a (at + 1) y _ (omega arith)
    ∙ ap (λ (k : ℕ). put_at b k (z ∷ w ∷ [])) second
    ∙ put_first b (at + 2) z _ (omega arith)
    ∙ ap (λ (k : ℕ). put_at c k (w ∷ [])) third
    ∙ put_first c (at + 3) w [] (omega arith)
    ∙ put_none _ _)

pub put_digits : (o : List ℕ) (at : ℕ) (d : List ℕ) → length d ≡ 4 → at + 4 ≤ length o
    → set (set (set (set o at (get_or d 0 0)) (at + 1) (get_or d 1 0)) (at + 2) (get_or d 2 0)) (at + 3) (get_or d 3 0) ≡ put_at o at d
unfolding part
put_digits o at d l r =
    put_four o at (get_or d 0 0) (get_or d 1 0) (get_or d 2 0) (get_or d 3 0) r
    ∙ ap (put_at o at) (four_read d 0 (omega arith) ∙ take_all 4 d (omega arith))

pub ruleset digitwise = (put_digits, rules)
