-- Laws of parts of lists and of lists put over others. Assumes nothing.
use mathlib.Core.Path.{◌≡◌, sym, ap, ◌∙◌}
use mathlib.Core.List.{List, [], ◌∷◌, ◌++◌, append_assoc, append-nil}
use Prim.Native.Nat.{ℕ, zero, suc, ◌+◌, ◌-◌, ◌≤◌}
use native.Mathlib.Omega.{arith}
use lib.ListN.{length, take, drop, length-append, length-take, length-drop, take-append-drop, drop_of_length-le}
use lib.Seq.{length-take-le, take_all, take_at, drop_at, drop-drop, take-take, take-append_seam, take-nil}
use Rattle.base.specs.Part.{part, put_at}

-- a part from the front has as many bytes as were asked for
pub counted : (n : ℕ) (s : List ℕ) → n ≤ length s → n ≡ length (take n s)
counted n s h = sym (length-take-le n s h)

-- a part that lies inside has its length
pub length_part : (a n : ℕ) (s : List ℕ) → a + n ≤ length s → length (part a n s) ≡ n
unfolding part
length_part a n s h = simp (length-take, length-drop) (omega arith)

-- the code's `&s[a..e]` and `&s[a..]`, as parts
pub part_to_end : (a : ℕ) (s : List ℕ) → part a (length s - a) s ≡ drop a s
unfolding part
part_to_end a s = take_all (length s - a) (drop a s) (simp length-drop (omega arith))

-- a part behind a places is a part a places further on
pub part_drop : (a b n : ℕ) (s : List ℕ) → part b n (drop a s) ≡ part (a + b) n s
unfolding part
part_drop a b n s = ap (take n) (drop-drop b a s)

-- what is left of a part from the front
pub drop_take : (k w : ℕ) (l : List ℕ) → drop k (take w l) ≡ take (w - k) (drop k l)
drop_take zero w l = let e : w - 0 ≡ w = omega arith in rw e
drop_take (suc k) zero l = let e : 0 - suc k ≡ 0 = omega arith in rw e
drop_take (suc k) (suc w) [] = sym (take-nil (suc w - suc k))
drop_take (suc k) (suc w) (x ∷ l) = let e : suc w - suc k ≡ w - k = omega arith in drop_take k w l ∙ ap (λ (j : ℕ). take j (drop k l)) (sym e)

-- a part of a part
pub part_part : (a b m n : ℕ) (s : List ℕ) → b + m ≤ n → part b m (part a n s) ≡ part (a + b) m s
unfolding part
part_part a b m n s h =
    ap (take m) (drop_take b n (drop a s)) ∙ take-take m (n - b) (drop b (drop a s)) (omega arith) ∙ ap (take m) (drop-drop b a s)

-- ---- one list put over another

-- what is put inside leaves the length as it was
pub length_put : (old : List ℕ) (at : ℕ) (bs : List ℕ) → at + length bs ≤ length old → length (put_at old at bs) ≡ length old
unfolding put_at
length_put old at bs h = simp (length-append, length-take, length-drop) (omega arith)

-- putting nothing changes nothing
pub put_none : (old : List ℕ) (at : ℕ) → put_at old at [] ≡ old
unfolding put_at
put_none old at = let e : at + 0 ≡ at = omega arith in simp append-nil (rw e (take-append-drop at old))

-- what stands before the place stays
pub take_put : (old : List ℕ) (at : ℕ) (bs : List ℕ) → at ≤ length old → take at (put_at old at bs) ≡ take at old
unfolding put_at
take_put old at bs h = simp append_assoc (take_at (take at old) (bs ++ drop (at + length bs) old) at (length-take-le at old h))

-- what was put stands at its place
pub part_put : (old : List ℕ) (at : ℕ) (bs : List ℕ) → at ≤ length old → part at (length bs) (put_at old at bs) ≡ bs
unfolding part put_at
part_put old at bs h =
    ap (take (length bs))
    (ap (drop at) (append_assoc (take at old) bs (drop (at + length bs) old))
    ∙ drop_at (take at old) (bs ++ drop (at + length bs) old) at (length-take-le at old h))
    ∙ take-append_seam bs (drop (at + length bs) old)

-- what stands behind stays
pub drop_put : (old : List ℕ) (at : ℕ) (bs : List ℕ) → at ≤ length old
    → drop (at + length bs) (put_at old at bs) ≡ drop (at + length bs) old
unfolding put_at
drop_put old at bs h =
    drop_at (take at old ++ bs) (drop (at + length bs) old) (at + length bs)
    (length-append (take at old) bs ∙ ap (λ (k : ℕ). k + length bs) (length-take-le at old h))

-- two puts, the second right behind the first, are one
pub put_put : (old : List ℕ) (at : ℕ) (xs ys : List ℕ) → at + length xs ≤ length old
    → put_at (put_at old at xs) (at + length xs) ys ≡ put_at old at (xs ++ ys)
unfolding put_at
put_put old at xs ys h =
    let behind : at + length xs + length ys ≡ at + length (xs ++ ys) = simp length-append (omega arith) in
    let front : length (take at old ++ xs) ≡ at + length xs
    = length-append (take at old) xs ∙ ap (λ (k : ℕ). k + length xs) (length-take-le at old (omega arith)) in
    let first : take (at + length xs) (take at old ++ xs ++ drop (at + length xs) old) ≡ take at old ++ xs
    = take_at (take at old ++ xs) (drop (at + length xs) old) (at + length xs) front in
    let rest : drop (at + length xs + length ys) (take at old ++ xs ++ drop (at + length xs) old) ≡ drop (at + length (xs ++ ys)) old
    = sym (drop-drop (length ys) (at + length xs) (take at old ++ xs ++ drop (at + length xs) old))
    ∙ ap (drop (length ys)) (drop_at (take at old ++ xs) (drop (at + length xs) old) (at + length xs) front)
    ∙ drop-drop (length ys) (at + length xs) old
    ∙ ap (λ (k : ℕ). drop k old) behind in
    ap (λ (l : List ℕ). l ++ ys ++ drop (at + length xs + length ys) (take at old ++ xs ++ drop (at + length xs) old)) first
    ∙ ap (λ (l : List ℕ). take at old ++ xs ++ ys ++ l) rest
    ∙ ap (λ (l : List ℕ). l ++ drop (at + length (xs ++ ys)) old) (append_assoc (take at old) xs ys)

-- nothing is left of a put below a longer one
pub put_again : (old : List ℕ) (at : ℕ) (xs ys : List ℕ) → length xs ≤ length ys → at + length ys ≤ length old
    → put_at (put_at old at xs) at ys ≡ put_at old at ys
unfolding put_at
put_again old at xs ys h k =
    let more : ℕ = length ys - length xs in
    let place : at + length xs + more ≡ at + length ys = omega arith in
    let behind : drop (at + length ys) (put_at old at xs) ≡ drop (at + length ys) old
    = ap (λ (n : ℕ). drop n (put_at old at xs)) (sym place)
    ∙ sym (drop-drop more (at + length xs) (put_at old at xs))
    ∙ ap (drop more) (drop_put old at xs (omega arith))
    ∙ drop-drop more (at + length xs) old
    ∙ ap (λ (n : ℕ). drop n old) place in
    ap (λ (l : List ℕ). l ++ ys ++ drop (at + length ys) (put_at old at xs)) (take_put old at xs (omega arith))
    ∙ ap (λ (l : List ℕ). take at old ++ ys ++ l) behind

-- at the front
pub put_first_of_all : (old bs : List ℕ) → put_at old 0 bs ≡ bs ++ drop (length bs) old
unfolding put_at
put_first_of_all old bs = let e : 0 + length bs ≡ length bs = omega arith in ap (λ (k : ℕ). bs ++ drop k old) e

-- over a list that is no longer
pub put_over_all : (old bs : List ℕ) → length old ≤ length bs → put_at old 0 bs ≡ bs
put_over_all old bs h = put_first_of_all old bs ∙ ap (λ (l : List ℕ). bs ++ l) (drop_of_length-le old h) ∙ append-nil bs

-- two puts, the second right before the first, are one
pub put_before : (old : List ℕ) (at : ℕ) (xs ys : List ℕ) → at + length xs ≤ length old
    → put_at (put_at old (at + length xs) ys) at xs ≡ put_at old at (xs ++ ys)
unfolding put_at
put_before old at xs ys h =
    let put : List ℕ = take (at + length xs) old ++ ys ++ drop (at + length xs + length ys) old in
    let behind : at + length xs + length ys ≡ at + length (xs ++ ys) = simp length-append (omega arith) in
    let front : take at put ≡ take at old
    = sym (take-take at (at + length xs) put (omega arith)) ∙ ap (take at) (take_put old (at + length xs) ys h) ∙ take-take at (at + length xs) old (omega arith) in
    let rest : drop (at + length xs) put ≡ ys ++ drop (at + length xs + length ys) old
    = ap (drop (at + length xs)) (append_assoc (take (at + length xs) old) ys _) ∙ drop_at (take (at + length xs) old) _ (at + length xs) (length-take-le (at + length xs) old h) in
    ap (λ (l : List ℕ). l ++ xs ++ drop (at + length xs) put) front
    ∙ ap (λ (l : List ℕ). take at old ++ xs ++ l) rest
    ∙ sym (append_assoc (take at old ++ xs) ys _)
    ∙ ap (λ (l : List ℕ). l ++ drop (at + length xs + length ys) old) (append_assoc (take at old) xs ys)
    ∙ ap (λ (k : ℕ). take at old ++ (xs ++ ys) ++ drop k old) behind

-- ---- the three ways in which `part_of` cuts a part

pub part_past : (a n : ℕ) (s : List ℕ) → length s ≤ a → take (0 - 0) (drop 0 s) ≡ part a n s
unfolding part
part_past a n s h = sym (ap (take n) (drop_of_length-le s h) ∙ take-nil n)

pub part_rest : (a n : ℕ) (s : List ℕ) → length s - a ≤ n → take (length s - a) (drop a s) ≡ part a n s
unfolding part
part_rest a n s h = part_to_end a s ∙ sym (take_all n (drop a s) (simp length-drop (omega arith)))

-- a part given by its two ends
pub part_within : (a n : ℕ) (s : List ℕ) → take (a + n - a) (drop a s) ≡ part a n s
unfolding part
part_within a n s = let e : a + n - a ≡ n = omega arith in rw e

pub ruleset ways = (part_past, part_rest, part_within)
