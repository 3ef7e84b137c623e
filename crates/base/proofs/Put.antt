-- Laws of one list put over another, byte by byte. Assumes nothing.
use mathlib.Core.Path.{◌≡◌, sym, ap, ◌∙◌}
use mathlib.Core.List.{List, [], ◌∷◌, ◌++◌, append_assoc}
use Prim.Native.Nat.{ℕ, suc, ◌+◌, ◌<◌}
use native.Mathlib.Omega.{arith}
use native.Mathlib.Numerals.{add-one}
use lib.ListN.{length, take, drop, set, length-append}
use lib.Seq.{take-suc-set, drop-set-lt, take-set-le, set_split, drop_at, length-take-le, drop-append-add, take-append-add}
use Rattle.base.specs.Part.{put_at}

-- from the front: the first byte, then the rest one place on
pub put_first : (old : List ℕ) (at x : ℕ) (bs : List ℕ) → at < length old
    → put_at old at (x ∷ bs) ≡ put_at (set old at x) (at + 1) bs
unfolding put_at
put_first old at x bs h =
    let behind : at + length (x ∷ bs) ≡ at + 1 + length bs = omega arith in
    let stays : drop (at + 1 + length bs) (set old at x) ≡ drop (at + 1 + length bs) old = drop-set-lt (at + 1 + length bs) old at x (omega arith) in
    let front : take (at + 1) (set old at x) ≡ take at old ++ (x ∷ []) = rw (add-one at) (take-suc-set old at x h) in
    ap (λ (k : ℕ). take at old ++ (x ∷ bs) ++ drop k old) behind
    ∙ ap (λ (l : List ℕ). l ++ drop (at + 1 + length bs) old) (sym (append_assoc (take at old) (x ∷ []) bs))
    ∙ ap (λ (l : List ℕ). l ++ bs ++ drop (at + 1 + length bs) old) (sym front)
    ∙ ap (λ (l : List ℕ). take (at + 1) (set old at x) ++ bs ++ l) (sym stays)

-- from the end: the last byte, then those before it
pub put_last : (old : List ℕ) (at x : ℕ) (bs : List ℕ) → at + length bs < length old
    → put_at old at (bs ++ (x ∷ [])) ≡ put_at (set old (at + length bs) x) at bs
unfolding put_at
put_last old at x bs h =
    let n : ℕ = at + length bs in
    let behind : at + length (bs ++ (x ∷ [])) ≡ suc n = simp length-append (omega arith) in
    let front : take at (set old n x) ≡ take at old = take-set-le at old n x (omega arith) in
    let rest : drop n (set old n x) ≡ x ∷ drop (suc n) old
    = ap (drop n) (set_split old n x h) ∙ drop_at (take n old) (x ∷ drop (suc n) old) n (length-take-le n old (omega arith)) in
    ap (λ (k : ℕ). take at old ++ (bs ++ (x ∷ [])) ++ drop k old) behind
    ∙ ap (λ (l : List ℕ). l ++ drop (suc n) old) (sym (append_assoc (take at old) bs (x ∷ [])))
    ∙ append_assoc (take at old ++ bs) (x ∷ []) (drop (suc n) old)
    ∙ ap (λ (l : List ℕ). take at old ++ bs ++ l) (sym rest)
    ∙ ap (λ (l : List ℕ). l ++ bs ++ drop n (set old n x)) (sym front)

-- over the front of two lists laid end to end
pub put_front : (x y z : List ℕ) → length z ≡ length x → put_at (x ++ y) 0 z ≡ z ++ y
unfolding put_at
put_front x y z h = ap (λ (l : List ℕ). z ++ l) (drop_at x y (0 + length z) (omega arith))

-- behind the front of two lists laid end to end
pub put_behind : (x y z : List ℕ) (w at : ℕ) → length x ≡ w → put_at (x ++ y) (w + at) z ≡ x ++ put_at y at z
unfolding put_at
put_behind x y z w at h =
    let place : w + at ≡ length x + at = omega arith in
    let place-behind : w + at + length z ≡ length x + (at + length z) = omega arith in
    ap (λ (k : ℕ). take k (x ++ y) ++ z ++ drop (w + at + length z) (x ++ y)) place
    ∙ ap (λ (k : ℕ). take (length x + at) (x ++ y) ++ z ++ drop k (x ++ y)) place-behind
    ∙ ap (λ (l : List ℕ). l ++ z ++ drop (length x + (at + length z)) (x ++ y)) (take-append-add x y at)
    ∙ ap (λ (l : List ℕ). x ++ take at y ++ z ++ l) (drop-append-add x y (at + length z))
    ∙ ap (λ (l : List ℕ). l ++ drop (at + length z) y) (append_assoc x (take at y) z)
    ∙ append_assoc x (take at y ++ z) (drop (at + length z) y)
