-- Laws of lists cut into parts. Assumes nothing.
use mathlib.Core.Path.{◌≡◌, refl, ap, ◌∙◌}
use mathlib.Core.List.{List, [], ◌∷◌, ◌++◌}
use Prim.Native.Nat.{ℕ, zero, suc, ◌+◌, ◌*◌, ◌-◌, ◌≤◌, ◌<◌, min}
use native.Mathlib.Nat.{suc-mul}
use native.Mathlib.Omega.{arith}
use lib.ListN.{length, take, drop, length-append, length-drop}
use lib.Seq.{take_at, drop_at}
use Rattle.base.specs.Part.{part}
use Rattle.base.proofs.Parts.{part_to_end}
use Rattle.sheet.specs.Flat.{in_parts_f, in_parts}

-- ---- a part of n elements, or to the end

pub drop_min : (n : ℕ) (s : List ℕ) → drop (min n (length s)) s ≡ drop n s
drop_min zero s = let e : min 0 (length s) ≡ 0 = omega arith in rw e
drop_min (suc n) [] = let e : min (suc n) 0 ≡ 0 = omega arith in rw e
drop_min (suc n) (x ∷ s) = let e : min (suc n) (suc (length s)) ≡ suc (min n (length s)) = omega arith in rw e (drop_min n s)

pub take_min : (n : ℕ) (s : List ℕ) → take (min n (length s)) s ≡ take n s
take_min zero s = let e : min 0 (length s) ≡ 0 = omega arith in rw e
take_min (suc n) [] = let e : min (suc n) 0 ≡ 0 = omega arith in rw e
take_min (suc n) (x ∷ s) = let e : min (suc n) (suc (length s)) ≡ suc (min n (length s)) = omega arith in rw e (ap (λ (l : List ℕ). x ∷ l) (take_min n s))

-- the code's `&s[k..]`
pub behind : (k : ℕ) (s : List ℕ) → take (length s - k) (drop k s) ≡ drop k s
unfolding part
behind k s = part_to_end k s

-- that and `&s[..k]`, where k is n or all there is
pub front_of : (n k : ℕ) (s : List ℕ) → k ≡ min (length s) n → take k s ≡ take n s
front_of n k s e = let m : k ≡ min n (length s) = omega arith in rw m (take_min n s)

pub back_of : (n k : ℕ) (s : List ℕ) → k ≡ min (length s) n → take (length s - k) (drop k s) ≡ drop n s
back_of n k s e = let m : k ≡ min n (length s) = omega arith in behind k s ∙ rw m (drop_min n s)

-- ---- parts

-- more fuel than elements makes no difference
parts_enough : (k j w : ℕ) (s : List ℕ) → 0 < w → length s ≤ k → length s ≤ j → in_parts_f k w s ≡ in_parts_f j w s
unfolding in_parts_f
parts_enough zero zero w s z h l = refl
parts_enough zero (suc j) w [] z h l = refl
parts_enough zero (suc j) w (x ∷ s) z h l = absurd (omega arith)
parts_enough (suc k) zero w [] z h l = refl
parts_enough (suc k) zero w (x ∷ s) z h l = absurd (omega arith)
parts_enough (suc k) (suc j) w [] z h l = refl
parts_enough (suc k) (suc j) w (x ∷ s) z h l =
    let e = length-drop w (x ∷ s) in
    ap (λ (r : List (List ℕ)). take w (x ∷ s) ∷ r) (parts_enough k j w (drop w (x ∷ s)) z (omega arith) (omega arith))

-- nothing is cut into no parts
pub parts_none : (w : ℕ) → in_parts w [] ≡ []
unfolding in_parts in_parts_f
parts_none w = refl

-- the first part, and the parts of the rest
pub parts_some : (w : ℕ) (s : List ℕ) → 0 < w → 0 < length s → in_parts w s ≡ take w s ∷ in_parts w (drop w s)
unfolding in_parts in_parts_f
parts_some w [] z h = absurd (omega arith)
parts_some w (x ∷ s) z h =
    let e = length-drop w (x ∷ s) in
    ap (λ (r : List (List ℕ)). take w (x ∷ s) ∷ r)
    (parts_enough (length s) (length (drop w (x ∷ s))) w (drop w (x ∷ s)) z (omega arith) (omega arith))

-- a part of full length before others
pub parts_cons : (w : ℕ) (s t : List ℕ) → 0 < w → length s ≡ w → in_parts w (s ++ t) ≡ s ∷ in_parts w t
parts_cons w s t z h =
    let l = length-append s t in
    parts_some w (s ++ t) z (omega arith)
    ∙ ap (λ (r : List ℕ). r ∷ in_parts w (drop w (s ++ t))) (take_at s t w h)
    ∙ ap (λ (r : List ℕ). s ∷ in_parts w r) (drop_at s t w h)

-- how many there are
pub length_parts : (w k : ℕ) (s : List ℕ) → 0 < w → length s ≡ k * w → length (in_parts w s) ≡ k
length_parts w zero [] z h = ap length (parts_none w)
length_parts w zero (x ∷ s) z h = absurd (omega arith)
length_parts w (suc k) s z h =
    let d = length-drop w s in
    let e : length s ≡ k * w + w = h ∙ suc-mul k w in
    ap length (parts_some w s z (omega arith)) ∙ ap suc (length_parts w k (drop w s) z (omega arith))
