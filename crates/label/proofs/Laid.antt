-- Laws of fields laid end to end, for any table. A new table costs no proof. Assumes nothing.
use mathlib.Core.Path.{◌≡◌, refl, sym, ap, ◌∙◌}
use mathlib.Core.List.{List, [], ◌∷◌, ◌++◌}
use Prim.Native.Nat.{ℕ, zero, suc, ◌+◌}
use native.Mathlib.Omega.{arith}
use lib.ListN.{length, take, drop, replicate, length-append, length-replicate}
use lib.Seq.{take_at, length-take-le, drop-append-add}
use Rattle.base.specs.Part.{part, put_at}
use Rattle.label.specs.Made.{fitted, laid}
use Rattle.label.specs.Table.{place_of, width_of, vol1, hdr1, hdr2}
use Rattle.base.proofs.Put.{put_front, put_behind}

-- ---- the rows of a table

-- the bytes that a table covers
unfoldable pub widths : List ℕ → ℕ
widths [] = 0
widths (w ∷ []) = 0
widths (w ∷ r ∷ []) = 0
widths (w ∷ r ∷ s ∷ rows) = w + widths rows

-- ---- the fields of a label: those that are missing are empty

abbrev pub head_of : List (List ℕ) → List ℕ
head_of [] = []
head_of (f ∷ fs) = f

abbrev pub rest_of : List (List ℕ) → List (List ℕ)
rest_of [] = []
rest_of (f ∷ fs) = fs

-- field k
abbrev pub field_at : ℕ → List (List ℕ) → List ℕ
field_at zero fs = head_of fs
field_at (suc k) fs = field_at k (rest_of fs)

-- the fields with f as field k
abbrev pub fielded : ℕ → List ℕ → List (List ℕ) → List (List ℕ)
fielded zero f fs = f ∷ rest_of fs
fielded (suc k) f fs = head_of fs ∷ fielded k f (rest_of fs)

pub length_fitted : (w : ℕ) (f : List ℕ) → length (fitted w f) ≡ w
unfolding fitted
length_fitted w f = length-take-le w (f ++ replicate w 32) (simp (length-append, length-replicate) (omega arith))

-- a field of its row's width goes in as it is
pub fitted_all : (w : ℕ) (f : List ℕ) → length f ≡ w → fitted w f ≡ f
unfolding fitted
fitted_all w f h = take_at f (replicate w 32) w h

-- ---- laid end to end

pub laid_row : (w r s : ℕ) (rows : List ℕ) (fs : List (List ℕ))
    → laid (w ∷ r ∷ s ∷ rows) fs ≡ fitted w (head_of fs) ++ laid rows (rest_of fs)
unfolding laid
laid_row w r s rows [] = refl
laid_row w r s rows (f ∷ fs) = refl

pub length_laid : (rows : List ℕ) (fs : List (List ℕ)) → length (laid rows fs) ≡ widths rows
unfolding laid widths
length_laid [] fs = refl
length_laid (w ∷ []) fs = refl
length_laid (w ∷ r ∷ []) fs = refl
length_laid (w ∷ r ∷ s ∷ rows) fs =
    let x : length (fitted w (head_of fs)) ≡ w = length_fitted w (head_of fs) in
    let y : length (laid rows (rest_of fs)) ≡ widths rows = length_laid rows (rest_of fs) in
    ap length (laid_row w r s rows fs) ∙ simp length-append (omega arith)

-- the front of a label, and what is behind it
part_front : (x y : List ℕ) (w : ℕ) → length x ≡ w → part 0 w (x ++ y) ≡ x
unfolding part
part_front x y w h = take_at x y w h

part_behind : (x y : List ℕ) (w at n : ℕ) → length x ≡ w → part (w + at) n (x ++ y) ≡ part at n y
unfolding part
part_behind x y w at n h =
    let place : w + at ≡ length x + at = omega arith in
    ap (λ (k : ℕ). take n (drop k (x ++ y))) place ∙ ap (take n) (drop-append-add x y at)

-- cutting a laid label at a row gives that field again
pub filled_back : (rows : List ℕ) (fs : List (List ℕ)) (k : ℕ)
    → part (place_of rows k) (width_of rows k) (laid rows fs) ≡ fitted (width_of rows k) (field_at k fs)
unfolding laid part fitted
filled_back [] fs k = refl
filled_back (w ∷ []) fs k = refl
filled_back (w ∷ r ∷ []) fs k = refl
filled_back (w ∷ r ∷ s ∷ rows) fs zero =
    ap (part 0 w) (laid_row w r s rows fs)
    ∙ part_front (fitted w (head_of fs)) (laid rows (rest_of fs)) w (length_fitted w (head_of fs))
filled_back (w ∷ r ∷ s ∷ rows) fs (suc k) =
    ap (part (w + place_of rows k) (width_of rows k)) (laid_row w r s rows fs)
    ∙ part_behind (fitted w (head_of fs)) (laid rows (rest_of fs)) w (place_of rows k) (width_of rows k) (length_fitted w (head_of fs))
    ∙ filled_back rows (rest_of fs) k

-- a field set at its place is one of the fields laid
pub put_field : (rows : List ℕ) (fs : List (List ℕ)) (k : ℕ) (f : List ℕ)
    → put_at (laid rows fs) (place_of rows k) (fitted (width_of rows k) f) ≡ laid rows (fielded k f fs)
unfolding laid put_at fitted
put_field [] fs k f = refl
put_field (w ∷ []) fs k f = refl
put_field (w ∷ r ∷ []) fs k f = refl
put_field (w ∷ r ∷ s ∷ rows) fs zero f =
    ap (λ (l : List ℕ). put_at l 0 (fitted w f)) (laid_row w r s rows fs)
    ∙ put_front (fitted w (head_of fs)) (laid rows (rest_of fs)) (fitted w f)
    (length_fitted w f ∙ sym (length_fitted w (head_of fs)))
put_field (w ∷ r ∷ s ∷ rows) fs (suc k) f =
    ap (λ (l : List ℕ). put_at l (w + place_of rows k) (fitted (width_of rows k) f)) (laid_row w r s rows fs)
    ∙ put_behind (fitted w (head_of fs)) (laid rows (rest_of fs)) (fitted (width_of rows k) f) w (place_of rows k)
    (length_fitted w (head_of fs))
    ∙ ap (λ (l : List ℕ). fitted w (head_of fs) ++ l) (put_field rows (rest_of fs) k f)

-- ---- the tables

pub eighty_vol1 : widths vol1 ≡ 80
unfolding widths
eighty_vol1 = refl

-- the fields of HDR1 fill 80 bytes
pub eighty_hdr1 : widths hdr1 ≡ 80
unfolding widths
eighty_hdr1 = refl

-- those of HDR2 too
pub eighty_hdr2 : widths hdr2 ≡ 80
unfolding widths
eighty_hdr2 = refl
