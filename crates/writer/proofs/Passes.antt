-- How a pass ends, from before and behind a step of the pen: closing a block, opening one, items between blocks, and bytes into
-- the open block.
-- Assumes nothing.
use mathlib.Core.Path.{◌≡◌, refl, sym, ap, ◌∙◌}
use mathlib.Core.Bool.{Bool, true, false, false≢true}
use mathlib.Core.List.{List, [], ◌∷◌, ◌++◌, append_assoc}
use Prim.Native.Nat.{ℕ, ◌+◌, ◌-◌, ◌≤◌, ◌<◌}
use native.Mathlib.Omega.{arith}
use lib.ListN.{length, take, drop, length-append, take-append-drop}
use lib.Seq.{take-add}
use Rattle.base.specs.If.{if_b}
use Rattle.base.proofs.Ifs.{if_false}
use Rattle.base.specs.Part.{part, put_at}
use Rattle.base.proofs.Parts.{length_part, length_put, put_put, put_before}
use Rattle.image.specs.Item.{Item, block, three, bytes_of, encode_by, encode}
use Rattle.image.proofs.RoundTrip.{encode_append}
use Rattle.writing.specs.Lay.{Laid, laid, short, put}
use Rattle.sections.proofs.Lengths.{length_three}
use Rattle.writer.specs.Code.Pass.{over_long, ink_at, inked, behind, inked_at, outcome, EndsWithin}

-- ---- two puts apart from each other

put_same : (o : List ℕ) (a n : ℕ) → a + n ≤ length o → put_at o a (part a n o) ≡ o
unfolding put_at
put_same o a n h =
    let size : a + length (part a n o) ≡ a + n = ap (λ (k : ℕ). a + k) (length_part a n o h) in
    ap (λ (k : ℕ). take a o ++ part a n o ++ drop k o) size
    ∙ ap (λ (l : List ℕ). l ++ drop (a + n) o) (front o a n)
    ∙ take-append-drop (a + n) o
  where
    front : (s : List ℕ) (i k : ℕ) → take i s ++ part i k s ≡ take (i + k) s
    front s i k = unfold part in sym (take-add i k s)

pub put_apart : (o : List ℕ) (at i : ℕ) (xs ys : List ℕ) → at + length xs ≤ i → i ≤ length o
    → put_at (put_at o at xs) i ys ≡ put_at (put_at o i ys) at xs
put_apart o at i xs ys h k =
    let m : List ℕ = part (at + length xs) (i - (at + length xs)) o in
    let size : length m ≡ i - (at + length xs) = length_part (at + length xs) (i - (at + length xs)) o (omega arith) in
    let room : at + length xs ≤ length o = omega arith in
    let same : put_at o (at + length xs) m ≡ o = put_same o (at + length xs) (i - (at + length xs)) (omega arith) in
    let place : i ≡ at + length xs + length m = omega arith in
    let long : length (xs ++ m) ≡ length xs + length m = length-append xs m in
    let place' : i ≡ at + length (xs ++ m) = omega arith in
    ap (λ (l : List ℕ). put_at (put_at l at xs) i ys) (sym same)
    ∙ ap (λ (l : List ℕ). put_at l i ys) (put_before o at xs m room)
    ∙ ap (λ (n : ℕ). put_at (put_at o at (xs ++ m)) n ys) place'
    ∙ put_put o at (xs ++ m) ys (omega arith)
    ∙ ap (put_at o at) (append_assoc xs m ys)
    ∙ sym (put_before o at xs (m ++ ys) room)
    ∙ ap (λ (l : List ℕ). put_at l at xs)
    (sym (put_put o (at + length xs) m ys (omega arith)) ∙ ap (λ (l : List ℕ). put_at l (at + length xs + length m) ys) same)
    ∙ ap (λ (n : ℕ). put_at (put_at o n ys) at xs) (sym place)

-- ---- what a pass that does not lay leaves, and how long the buffer is

pub ink_none : (lay : Bool) (o : List ℕ) (at : ℕ) (bs : List ℕ) → lay ≡ false → ink_at lay o at bs ≡ o
unfolding ink_at
ink_none lay o at bs e = if_false _ _ _ e

pub ink_length : (lay : Bool) (o : List ℕ) (at : ℕ) (bs : List ℕ) → (lay ≡ true → at + length bs ≤ length o)
    → length (ink_at lay o at bs) ≡ length o
unfolding ink_at if_b
ink_length true o at bs h = length_put o at bs (h refl)
ink_length false o at bs h = refl

-- ---- the four steps

-- bytes into the open block
pub outcome_unit : (lay : Bool) (at u : ℕ) (o v cs : List ℕ) (l : Laid) → (lay ≡ true → at + 3 + u + length v ≤ length o)
    → outcome lay true at (u + length v) (ink_at lay o (at + 3 + u) v) (inked (u + length v) cs l)
    ≡ outcome lay true at u o (inked u (v ++ cs) l)
unfolding outcome inked ink_at inked_at behind if_b
outcome_unit lay at u o v cs short h = refl
outcome_unit true at u o v cs (laid xs) h =
    let sum : u + length v + length cs ≡ u + length (v ++ cs) = simp length-append (omega arith) in
    let place : at + 3 + (u + length v) ≡ at + 3 + u + length v = omega arith in
    let long : at + 3 + (u + length v) + length (cs ++ encode xs) ≡ at + 3 + u + length (v ++ cs ++ encode xs) = simp length-append (omega arith) in
    let bytes : put_at (put_at o (at + 3 + u) v) (at + 3 + (u + length v)) (cs ++ encode xs) ≡ put_at o (at + 3 + u) (v ++ cs ++ encode xs)
    = ap (λ (k : ℕ). put_at (put_at o (at + 3 + u) v) k (cs ++ encode xs)) place
    ∙ put_put o (at + 3 + u) v (cs ++ encode xs) (h refl)
    ∙ ap (put_at o (at + 3 + u)) (sym (append_assoc v cs (encode xs))) in
    let all : put_at (put_at (put_at o (at + 3 + u) v) (at + 3 + (u + length v)) (cs ++ encode xs)) at (three (u + length v + length cs))
    ≡ put_at (put_at o (at + 3 + u) (v ++ cs ++ encode xs)) at (three (u + length (v ++ cs)))
    = ap (λ (l : List ℕ). put_at l at (three (u + length v + length cs))) bytes
    ∙ ap (λ (n : ℕ). put_at (put_at o (at + 3 + u) (v ++ cs ++ encode xs)) at (three n)) sum in
    λ i. record { out = all i; end = long i; short = false }
outcome_unit false at u o v cs (laid xs) h =
    let long : at + 3 + (u + length v) + length (cs ++ encode xs) ≡ at + 3 + u + length (v ++ cs ++ encode xs) = simp length-append (omega arith) in
    λ i. record { out = o; end = long i; short = false }

-- the open block is closed
pub outcome_close : (lay : Bool) (at u n : ℕ) (o : List ℕ) (l : Laid) → (lay ≡ true → at + 3 + u ≤ length o)
    → outcome lay false (at + 3 + u) n (ink_at lay o at (three u)) (inked n [] l) ≡ outcome lay true at u o (inked u [] l)
unfolding outcome inked ink_at inked_at behind if_b
outcome_close lay at u n o short h = refl
outcome_close true at u n o (laid xs) h =
    let sum : u ≡ u + 0 = omega arith in
    let word : length (three u) ≡ 3 = length_three u in
    let bytes : put_at (put_at o at (three u)) (at + 3 + u) (encode xs) ≡ put_at (put_at o (at + 3 + u) (encode xs)) at (three (u + 0))
    = put_apart o at (at + 3 + u) (three u) (encode xs) (omega arith) (h refl)
    ∙ ap (λ (k : ℕ). put_at (put_at o (at + 3 + u) (encode xs)) at (three k)) sum in
    λ i. record { out = bytes i; end = at + 3 + u + length (encode xs); short = false }
outcome_close false at u n o (laid xs) h = refl

-- a block y is opened
pub outcome_open : (lay : Bool) (at n : ℕ) (o y : List ℕ) (l : Laid) → (lay ≡ true → at + 3 ≤ length o)
    → outcome lay true at 0 o (inked 0 y l) ≡ outcome lay false at n o (inked n [] (put (block y ∷ []) l))
unfolding outcome inked inked_at behind if_b put encode encode_by bytes_of
outcome_open lay at n o y short h = refl
outcome_open true at n o y (laid xs) h =
    let sum : 0 + length y ≡ length y = omega arith in
    let word : length (three (length y)) ≡ 3 = length_three (length y) in
    let place : at + 3 + 0 ≡ at + length (three (length y)) = omega arith in
    let long : at + 3 + 0 + length (y ++ encode xs) ≡ at + length (three (length y) ++ y ++ encode xs) = simp length-append (omega arith) in
    let bytes : put_at (put_at o (at + 3 + 0) (y ++ encode xs)) at (three (0 + length y)) ≡ put_at o at (three (length y) ++ y ++ encode xs)
    = ap (λ (k : ℕ). put_at (put_at o (at + 3 + 0) (y ++ encode xs)) at (three k)) sum
    ∙ ap (λ (k : ℕ). put_at (put_at o k (y ++ encode xs)) at (three (length y))) place
    ∙ put_before o at (three (length y)) (y ++ encode xs) (let r = h refl in omega arith)
    ∙ ap (put_at o at) (sym (append_assoc (three (length y)) y (encode xs))) in
    λ i. record { out = bytes i; end = long i; short = false }
outcome_open false at n o y (laid xs) h =
    let word : length (three (length y)) ≡ 3 = length_three (length y) in
    let long : at + 3 + 0 + length (y ++ encode xs) ≡ at + length (three (length y) ++ y ++ encode xs) = simp length-append (omega arith) in
    λ i. record { out = o; end = long i; short = false }

-- items between blocks
pub outcome_items : (lay : Bool) (at n m : ℕ) (o : List ℕ) (ys : List Item) (l : Laid)
    → (lay ≡ true → at + length (encode ys) ≤ length o)
    → outcome lay false (at + length (encode ys)) n (ink_at lay o at (encode ys)) (inked n [] l)
    ≡ outcome lay false at m o (inked m [] (put ys l))
unfolding outcome inked ink_at inked_at behind if_b put
outcome_items lay at n m o ys short h = refl
outcome_items true at n m o ys (laid xs) h =
    let all : encode (ys ++ xs) ≡ encode ys ++ encode xs = encode_append ys xs in
    let long : at + length (encode ys) + length (encode xs) ≡ at + length (encode (ys ++ xs)) = omega (arith, ap length all ∙ length-append (encode ys) (encode xs)) in
    let bytes : put_at (put_at o at (encode ys)) (at + length (encode ys)) (encode xs) ≡ put_at o at (encode (ys ++ xs))
    = put_put o at (encode ys) (encode xs) (h refl) ∙ ap (put_at o at) (sym all) in
    λ i. record { out = bytes i; end = long i; short = false }
outcome_items false at n m o ys (laid xs) h =
    let all : encode (ys ++ xs) ≡ encode ys ++ encode xs = encode_append ys xs in
    let long : at + length (encode ys) + length (encode xs) ≡ at + length (encode (ys ++ xs)) = omega (arith, ap length all ∙ length-append (encode ys) (encode xs)) in
    λ i. record { out = o; end = long i; short = false }

-- ---- room: what is to be written has it

pub fits_unit : (lay : Bool) (at u : ℕ) (o v cs : List ℕ) (l : Laid) (size : ℕ)
    → EndsWithin (outcome lay true at u o (inked u (v ++ cs) l)) size
    → (at + 3 + u + length v ≤ size) × (at + 3 + u + length v < over_long)
unfolding outcome inked behind if_b
fits_unit lay at u o v cs short size w = absurd (false≢true (sym w.given))
fits_unit lay at u o v cs (laid xs) size w =
    let long : length (v ++ cs ++ encode xs) ≡ length v + length cs + length (encode xs) = simp length-append (omega arith) in
    let end : at + 3 + u + length (v ++ cs ++ encode xs) ≤ size = w.within in
    let most : at + 3 + u + length (v ++ cs ++ encode xs) < over_long = w.most in
    (omega arith, omega arith)

pub fits_items : (lay : Bool) (at n : ℕ) (o : List ℕ) (ys : List Item) (l : Laid) (size : ℕ)
    → EndsWithin (outcome lay false at n o (inked n [] (put ys l))) size
    → (at + length (encode ys) ≤ size) × (at + length (encode ys) < over_long)
unfolding outcome inked behind if_b put
fits_items lay at n o ys short size w = absurd (false≢true (sym w.given))
fits_items lay at n o ys (laid xs) size w =
    let long : length (encode (ys ++ xs)) ≡ length (encode ys) + length (encode xs) = ap length (encode_append ys xs) ∙ length-append (encode ys) (encode xs) in
    let end : at + length (encode (ys ++ xs)) ≤ size = w.within in
    let most : at + length (encode (ys ++ xs)) < over_long = w.most in
    (omega arith, omega arith)
