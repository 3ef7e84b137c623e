-- Bytes copied into a lent buffer: byte by byte, as words, and 64 at a time. Assumes nothing.
use mathlib.Core.Path.{◌≡◌, refl, sym, ap, ap₂, ◌∙◌}
use mathlib.Core.Bool.{Bool, true, false}
use mathlib.Core.List.{List, [], ◌∷◌, ◌++◌}
use Prim.Native.Nat.{ℕ, ◌+◌, ◌-◌, ◌≤◌, ◌<◌}
use native.Mathlib.Omega.{arith}
use native.Mathlib.Numerals.{add-one}
use borrow.Author.Rules.{rules}
use borrow.Author.Tests.{le-leb, leb-true}
use lib.Dec.{leb}
use lib.ListN.{length, take, drop, get_or, set, replicate, length-replicate, length-take, length-drop, length-set, take-append-drop, drop_of_length-le}
use lib.Seq.{drop-cons, drop-drop, get_or-drop, length-take-le, take-add, take_all, take-take}
use Rattle.base.proofs.Ifs.{if_true, if_false, if_case}
use Rattle.base.specs.Part.{part, put_at, put_in}
use Rattle.base.specs.Code.Copy.{Short, Chunked}
use Rattle.base.proofs.Parts.{drop_take, length_part, part_within, length_put, put_none, put_put, put_again, put_over_all}
use Rattle.base.proofs.Put.{put_first}

-- ---- copying: what is left to put from here makes the whole

-- a copy on its way: the first i of the bytes stand at their place, and nothing else has changed
pub record Copying (old : List ℕ) (at : ℕ) (s out : List ℕ) (i : ℕ) : Type 0 where
  pub fits : at + length s ≤ length old
  pub size : length out ≡ length old
  pub within : i ≤ length s
  pub left : put_at out (at + i) (drop i s) ≡ put_at old at s

pub copying_none : (old : List ℕ) (at : ℕ) (s : List ℕ) → at + length s ≤ length old → Copying old at s old 0
copying_none old at s h =
    let e : at + 0 ≡ at = omega arith in
    record { fits = h; size = refl; within = omega arith; left = ap (λ (k : ℕ). put_at old k s) e }

pub copying_more : (old : List ℕ) (at : ℕ) (s out : List ℕ) (i : ℕ) → Copying old at s out i → i < length s
    → Copying old at s (set out (at + i) (get_or s i 0)) (i + 1)
copying_more old at s out i c h =
    let room : at + i < length out = omega (arith, c.fits, c.size) in
    let next : drop i s ≡ get_or s i 0 ∷ drop (i + 1) s = drop-cons s i 0 h ∙ ap (λ (k : ℕ). get_or s i 0 ∷ drop k s) (sym (add-one i)) in
    let place : at + (i + 1) ≡ at + i + 1 = omega arith in
    record {
      fits = c.fits;
      size = length-set out (at + i) (get_or s i 0) ∙ c.size;
      within = omega arith;
      left =
          ap (λ (k : ℕ). put_at (set out (at + i) (get_or s i 0)) k (drop (i + 1) s)) place
          ∙ sym (put_first out (at + i) (get_or s i 0) (drop (i + 1) s) room)
          ∙ ap (put_at out (at + i)) (sym next)
          ∙ c.left;
    }

pub copying_all : (old : List ℕ) (at : ℕ) (s out : List ℕ) (i : ℕ) → Copying old at s out i → length s ≤ i → out ≡ put_at old at s
copying_all old at s out i c h = sym (ap (put_at out (at + i)) (drop_of_length-le s h) ∙ put_none out (at + i)) ∙ c.left

-- all that a loop which copies has to show
pub ruleset copying = (copying_none, copying_more, copying_all, rules)

-- ---- words: the bytes of one, side by side

first_four : (t : List ℕ) → 4 ≤ length t → get_or t 0 0 ∷ get_or t 1 0 ∷ get_or t 2 0 ∷ get_or t 3 0 ∷ [] ≡ take 4 t
first_four [] h = absurd (omega arith)
first_four (a ∷ []) h = absurd (omega arith)
first_four (a ∷ b ∷ []) h = absurd (omega arith)
first_four (a ∷ b ∷ c ∷ []) h = absurd (omega arith)
first_four (a ∷ b ∷ c ∷ d ∷ t) h = refl

-- four bytes, one by one, are the part that they make up
pub four_read : (s : List ℕ) (a : ℕ) → a + 4 ≤ length s
    → get_or s a 0 ∷ get_or s (a + 1) 0 ∷ get_or s (a + 2) 0 ∷ get_or s (a + 3) 0 ∷ [] ≡ part a 4 s
unfolding part
four_read s a h =
    let here : a + 0 ≡ a = omega arith in
    let e0 : get_or (drop a s) 0 0 ≡ get_or s a 0 = get_or-drop a s 0 0 ∙ ap (λ (k : ℕ). get_or s k 0) here in
    let e1 : get_or (drop a s) 1 0 ≡ get_or s (a + 1) 0 = get_or-drop a s 1 0 in
    let e2 : get_or (drop a s) 2 0 ≡ get_or s (a + 2) 0 = get_or-drop a s 2 0 in
    let e3 : get_or (drop a s) 3 0 ≡ get_or s (a + 3) 0 = get_or-drop a s 3 0 in
    let all = first_four (drop a s) (simp length-drop (omega arith)) in
    cc

-- n bytes put over an array of as many are the part that they make up
pub word_copied : (n a b : ℕ) (s : List ℕ) → a + n ≤ length s → put_at (replicate n b) 0 (take (a + n - a) (drop a s)) ≡ part a n s
word_copied n a b s h =
    let wide : length (part a n s) ≡ n = length_part a n s h in
    let room : length (replicate n b) ≡ n = length-replicate n b in
    ap (put_at (replicate n b) 0) (part_within a n s) ∙ put_over_all (replicate n b) (part a n s) (omega arith)

-- the first i of some bytes, and those from m on, which may meet, are all of them
put_meet : (o s : List ℕ) (at i m : ℕ) → m ≤ i → i ≤ length s → at + length s ≤ length o
    → put_at (put_at o at (take i s)) (at + m) (drop m s) ≡ put_at o at s
put_meet o s at i m h k l =
    let front : List ℕ = take m s in
    let middle : List ℕ = take (i - m) (drop m s) in
    let wide : length front ≡ m = length-take-le m s (omega arith) in
    let rest : length (drop m s) ≡ length s - m = length-drop m s in
    let short : length middle ≤ length (drop m s) = simp length-take (omega arith) in
    let split : take i s ≡ front ++ middle = sym (take-append-drop m (take i s)) ∙ ap₂ ◌++◌ (take-take m i s h) (drop_take m i s) in
    let place : at + m ≡ at + length front = omega arith in
    let size : length (put_at o at front) ≡ length o = length_put o at front (omega arith) in
    ap₂ (λ (x : List ℕ) (n : ℕ). put_at x n (drop m s))
    (ap (put_at o at) split ∙ sym (put_put o at front middle (omega arith))) place
    ∙ put_again (put_at o at front) (at + length front) middle (drop m s) short (omega arith)
    ∙ put_put o at front (drop m s) (omega arith)
    ∙ ap (put_at o at) (take-append-drop m s)

-- ---- words one behind the other

-- w bytes more behind the first v
pub put_next : (v w : ℕ) (o s : List ℕ) (at from : ℕ) → from + (v + w) ≤ length s → at + (v + w) ≤ length o → (p q : List ℕ)
    → p ≡ put_at o at (part from v s) → q ≡ put_at p (at + v) (part (from + v) w s) → q ≡ put_at o at (part from (v + w) s)
unfolding part
put_next v w o s at from h k p q e f =
    let wide : length (take v (drop from s)) ≡ v = length-take-le v (drop from s) (simp length-drop (omega arith)) in
    let place : at + v ≡ at + length (take v (drop from s)) = omega arith in
    f
    ∙ ap₂ (λ (l : List ℕ) (n : ℕ). put_at l n (take w (drop (from + v) s))) e place
    ∙ put_put o at (take v (drop from s)) (take w (drop (from + v) s)) (omega arith)
    ∙ ap (put_at o at) (ap (λ (t : List ℕ). take v (drop from s) ++ take w t) (sym (drop-drop v from s)) ∙ sym (take-add v w (drop from s)))

-- four words are 64 bytes
pub put_four : (o s : List ℕ) (at from : ℕ) → from + 64 ≤ length s → at + 64 ≤ length o → (p q r t : List ℕ)
    → p ≡ put_at o at (part from 16 s) → q ≡ put_at p (at + 16) (part (from + 16) 16 s)
    → r ≡ put_at q (at + 32) (part (from + 32) 16 s) → t ≡ put_at r (at + 48) (part (from + 48) 16 s) → t ≡ put_at o at (part from 64 s)
put_four o s at from h k p q r t a b c d =
    put_next 48 16 o s at from h k r t
    (put_next 32 16 o s at from (omega arith) (omega arith) q r (put_next 16 16 o s at from (omega arith) (omega arith) p q a b) c) d

pub ruleset words = (put_four, rules)

-- ---- two words, which may meet, are all of it

pub put_both : (v w : ℕ) (o s : List ℕ) (at : ℕ) → Short v w (length s) → at + length s ≤ length o → (p q : List ℕ)
    → p ≡ put_at o at (part 0 v s) → q ≡ put_at p (at + (length s - w)) (part (length s - w) w s) → q ≡ put_at o at s
unfolding part
put_both v w o s at y h p q e f =
    let rest : length (drop (length s - w) s) ≡ length s - (length s - w) = length-drop (length s - w) s in
    f
    ∙ ap₂ (λ (l t : List ℕ). put_at l (at + (length s - w)) t) e (take_all w (drop (length s - w) s) (omega (arith, y.last)))
    ∙ put_meet o s at v (length s - w) (omega (arith, y.most)) y.first h

-- ---- words of 64 bytes, one behind the other

-- a second word, k bytes behind the first, which it meets or touches
pub chunked_two : (o : List ℕ) (at : ℕ) (s : List ℕ) (k : ℕ) (p q : List ℕ) → 128 ≤ length s → at + length s ≤ length o → k ≤ 16
    → p ≡ put_at o at (part 0 64 s) → q ≡ put_at p (at + k) (part k 64 s) → Chunked o at s q (k + 64)
unfolding part
chunked_two o at s k p q h fits small e f =
    let both : List ℕ = take (k + 64) s in
    let wide : length both ≡ k + 64 = length-take-le (k + 64) s (omega arith) in
    let first : take 64 both ≡ part 0 64 s = take-take 64 (k + 64) s (omega arith) in
    let second : drop k both ≡ part k 64 s = drop_take k (k + 64) s ∙ ap (λ (n : ℕ). take n (drop k s)) (the_rest k) in
    let is : q ≡ put_at o at both =
    f ∙ ap₂ (λ (x y : List ℕ). put_at x (at + k) y) (e ∙ ap (put_at o at) (sym first)) (sym second)
    ∙ put_meet o both at 64 k (omega arith) (omega arith) (omega arith) in
    record {
      least = omega arith;
      fits = fits;
      within = omega arith;
      is = is;
      size = ap length is ∙ length_put o at both (omega arith);
    }
  where
    the_rest : (n : ℕ) → n + 64 - n ≡ 64
    the_rest n = omega arith

-- what is written stands there, and may be written again with all the rest
pub chunked_again : (o : List ℕ) (at : ℕ) (s p : List ℕ) (i : ℕ) → Chunked o at s p i → Chunked p at s p i
chunked_again o at s p i c =
    let wide : length (take i s) ≡ i = length-take-le i s c.within in
    record {
      least = c.least;
      fits = omega (arith, c.fits, c.size);
      within = c.within;
      is =
          c.is
          ∙ sym (put_again o at (take i s) (take i s) (omega arith) (omega (arith, c.fits, c.within)))
          ∙ ap (λ (l : List ℕ). put_at l at (take i s)) (sym c.is);
      size = refl;
    }

pub chunked_over : (o : List ℕ) (at : ℕ) (s p : List ℕ) (i : ℕ) (q : List ℕ) → Chunked o at s p i → q ≡ put_at p at s
    → q ≡ put_at o at s
chunked_over o at s p i q c e =
    let wide : length (take i s) ≡ i = length-take-le i s c.within in
    e ∙ ap (λ (l : List ℕ). put_at l at s) c.is ∙ put_again o at (take i s) s (omega (arith, c.within)) c.fits

module _ (old : List ℕ) (at : ℕ) (s out : List ℕ) (i : ℕ) (c : Chunked old at s out i) where
  pub chunk_room : i < length s - 64 → at + i + 64 ≤ length out
  chunk_room h = omega (arith, c.fits, c.size)

  pub chunk_behind : at + (length s - 64) + 64 ≤ length out
  chunk_behind = omega (arith, c.fits, c.size, c.least)

  module _ (p : List ℕ) (h : i < length s - 64) (e : p ≡ put_at out (at + i) (part i 64 s)) where
    pub chunked_more : Chunked old at s p (i + 64)
    unfolding part
    chunked_more =
        let wide : length (take i s) ≡ i = length-take-le i s c.within in
        let place : at + i ≡ at + length (take i s) = omega arith in
        let room : i + 64 ≤ length s = omega arith in
        record {
          least = c.least;
          fits = c.fits;
          within = room;
          is =
              e
              ∙ ap₂ (λ (l : List ℕ) (n : ℕ). put_at l n (take 64 (drop i s))) c.is place
              ∙ put_put old at (take i s) (take 64 (drop i s)) (omega (arith, c.fits))
              ∙ ap (put_at old at) (sym (take-add i 64 s));
          size =
              ap length e ∙ length_put out (at + i) (take 64 (drop i s))
              (omega (arith, c.fits, c.size, length-take-le 64 (drop i s) (simp length-drop (omega arith)))) ∙ c.size;
        }

  pub chunked_all : (p : List ℕ) → length s - 64 ≤ i → p ≡ put_at out (at + (length s - 64)) (part (length s - 64) 64 s)
      → p ≡ put_at old at s
  unfolding part
  chunked_all p h e =
      let rest : length (drop (length s - 64) s) ≡ length s - (length s - 64) = length-drop (length s - 64) s in
      e
      ∙ ap₂ (λ (l t : List ℕ). put_at l (at + (length s - 64)) t) c.is
      (take_all 64 (drop (length s - 64) s) (omega (arith, c.least)))
      ∙ put_meet old s at i (length s - 64) h c.within c.fits

pub ruleset chunks = (chunk_room, chunk_behind, chunked_more, chunked_all, rules)

-- ---- a write that has room, or is not made

module _ (o : List ℕ) (a : ℕ) (bs : List ℕ) (fits : Bool) (e : fits ≡ leb (a + length bs) (length o)) where
  -- without room nothing is written
  pub put_over : fits ≡ false → o ≡ put_in o a bs
  unfolding put_in
  put_over h = sym (if_false _ _ _ (sym e ∙ h))

  -- with room, what is written is the write
  pub put_right : fits ≡ true → (p : List ℕ) → p ≡ put_at o a bs → p ≡ put_in o a bs
  unfolding put_in
  put_right h p q = q ∙ sym (if_true _ _ _ (sym e ∙ h))

  -- and there was room
  pub room_left : fits ≡ true → a + length bs ≤ length o
  room_left h = leb-true (a + length bs) (length o) (sym e ∙ h)

-- where it is known to have room
pub put_in_lem : (o : List ℕ) (a : ℕ) (bs : List ℕ) → a + length bs ≤ length o → put_in o a bs ≡ put_at o a bs
unfolding put_in
put_in_lem o a bs h = if_true _ _ _ (le-leb (a + length bs) (length o) h)

-- it stays as long as it was
pub length_put_in : (o : List ℕ) (a : ℕ) (bs : List ℕ) → length (put_in o a bs) ≡ length o
unfolding put_in
length_put_in o a bs =
    if_case (λ (p : List ℕ). length p ≡ length o) (leb (a + length bs) (length o)) _ _
    (λ room. length_put o a bs (leb-true (a + length bs) (length o) room))
    (λ _. refl)

-- of a buffer behind such a write
pub kept_in : (o : List ℕ) (at : ℕ) (bs q : List ℕ) → q ≡ put_in o at bs → length q ≡ length o
kept_in o at bs q e = ap length e ∙ length_put_in o at bs

pub ruleset roomy = (put_over, put_right, room_left, rules)
