-- A label on which named fields were set one after the other is those fields laid end to end. Assumes nothing.
use mathlib.Core.Path.{◌≡◌, refl, ap, ◌∙◌}
use mathlib.Core.List.{List, [], ◌∷◌}
use Prim.Native.Nat.{ℕ}
use lib.ListN.{replicate}
use Rattle.base.specs.Part.{part, put_at}
use Rattle.base.specs.Digits.{digits}
use Rattle.label.specs.Name.{vol1_name}
use Rattle.label.specs.Table.{place_of, width_of, vol1, hdr1, hdr2}
use Rattle.label.specs.Made.{fitted, laid, made_volume, made_first, made_second}
use Rattle.label.proofs.Laid.{fielded, put_field}

-- one more field set
one_more : (rows : List ℕ) (fs : List (List ℕ)) (k : ℕ) (f l l' : List ℕ) → l ≡ laid rows fs
    → l' ≡ put_at l (place_of rows k) (fitted (width_of rows k) f) → l' ≡ laid rows (fielded k f fs)
one_more rows fs k f l l' e h =
    h ∙ ap (λ (x : List ℕ). put_at x (place_of rows k) (fitted (width_of rows k) f)) e ∙ put_field rows fs k f

-- 80 SPACEs are a label without fields
blank_vol1 : replicate 80 32 ≡ laid vol1 []
unfolding laid fitted
blank_vol1 = refl

blank_hdr1 : replicate 80 32 ≡ laid hdr1 []
unfolding laid fitted
blank_hdr1 = refl

blank_hdr2 : replicate 80 32 ≡ laid hdr2 []
unfolding laid fitted
blank_hdr2 = refl

pub volume_made : (id a b c : List ℕ) → a ≡ put_at (replicate 80 32) 0 (fitted 4 vol1_name) → b ≡ put_at a 4 (fitted 6 id)
    → c ≡ put_at b 79 (fitted 1 (52 ∷ [])) → c ≡ made_volume id
unfolding made_volume
volume_made id a b c p q r =
    let x = one_more vol1 [] 0 vol1_name _ a blank_vol1 p in
    let y = one_more vol1 _ 1 id a b x q in
    one_more vol1 _ 7 (52 ∷ []) b c y r

pub second_made : (name file a b c d e : List ℕ)
    → a ≡ put_at (replicate 80 32) 0 (fitted 4 name) → b ≡ put_at a 4 (fitted 1 (part 35 1 file))
    → c ≡ put_at b 5 (fitted 5 (part 36 5 file))
    → d ≡ put_at c 10 (fitted 5 (part 41 5 file)) → e ≡ put_at d 50 (fitted 2 (digits 2 0)) → e ≡ made_second name file
unfolding made_second
second_made name file a b c d e p q r s t =
    let w = one_more hdr2 [] 0 name _ a blank_hdr2 p in
    let x = one_more hdr2 _ 1 (part 35 1 file) a b w q in
    let y = one_more hdr2 _ 2 (part 36 5 file) b c x r in
    let z = one_more hdr2 _ 3 (part 41 5 file) c d y s in
    one_more hdr2 _ 5 (digits 2 0) d e z t

pub first_made : (name set file : List ℕ) (section sequence count : ℕ) (a b c d e f g h i j : List ℕ)
    → a ≡ put_at (replicate 80 32) 0 (fitted 4 name) → b ≡ put_at a 4 (fitted 17 (part 0 17 file)) → c ≡ put_at b 21 (fitted 6 set)
    → d ≡ put_at c 27 (fitted 4 (digits 4 section)) → e ≡ put_at d 31 (fitted 4 (digits 4 sequence))
    → f ≡ put_at e 35 (fitted 4 (part 17 4 file)) → g ≡ put_at f 39 (fitted 2 (part 21 2 file))
    → h ≡ put_at g 41 (fitted 6 (part 23 6 file)) → i ≡ put_at h 47 (fitted 6 (part 29 6 file))
    → j ≡ put_at i 54 (fitted 6 (digits 6 count)) → j ≡ made_first name set file section sequence count
unfolding made_first
first_made name set file section sequence count a b c d e f g h i j p0 p1 p2 p3 p4 p5 p6 p7 p8 p10 =
    let q0 = one_more hdr1 [] 0 name _ a blank_hdr1 p0 in
    let q1 = one_more hdr1 _ 1 (part 0 17 file) a b q0 p1 in
    let q2 = one_more hdr1 _ 2 set b c q1 p2 in
    let q3 = one_more hdr1 _ 3 (digits 4 section) c d q2 p3 in
    let q4 = one_more hdr1 _ 4 (digits 4 sequence) d e q3 p4 in
    let q5 = one_more hdr1 _ 5 (part 17 4 file) e f q4 p5 in
    let q6 = one_more hdr1 _ 6 (part 21 2 file) f g q5 p6 in
    let q7 = one_more hdr1 _ 7 (part 23 6 file) g h q6 p7 in
    let q8 = one_more hdr1 _ 8 (part 29 6 file) h i q7 p8 in
    one_more hdr1 _ 10 (digits 6 count) i j q8 p10
