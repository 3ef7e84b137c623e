-- How long the labels around a section are as bytes. Assumes nothing.
use mathlib.Core.Path.{◌≡◌, refl, ap, ◌∙◌}
use mathlib.Core.List.{List, [], ◌∷◌, ◌++◌}
use Prim.Native.Nat.{ℕ, ◌+◌}
use native.Mathlib.Omega.{arith}
use lib.ListN.{length, length-append}
use Rattle.image.specs.Item.{Item, block, mark, reel_end, three, bytes_of, encode_by, encode}
use Rattle.image.proofs.RoundTrip.{encode_append}
use Rattle.label.specs.Name.{hdr1_name, hdr2_name, eov1_name, eov2_name, eof1_name, eof2_name}
use Rattle.label.specs.Made.{made_volume, made_first, made_second}
use Rattle.label.proofs.Read.{length_first, length_second, length_volume}
use Rattle.sections.specs.Section.{headers, file_end, volume_end}

-- a length word has three bytes
pub length_three : (n : ℕ) → length (three n) ≡ 3
unfolding three
length_three n = refl

-- a block as an item, and what stands behind it
pub length_block : (l : List ℕ) (xs : List Item) → length (encode (block l ∷ xs)) ≡ 3 + length l + length (encode xs)
unfolding encode encode_by bytes_of
length_block l xs =
    let w = length_three (length l) in
    length-append (three (length l) ++ l) (encode xs)
    ∙ ap (λ (k : ℕ). k + length (encode xs)) (length-append (three (length l)) l ∙ omega arith)

-- a label, and n bytes behind it
pub length_label : (l : List ℕ) (xs : List Item) (n : ℕ) → length l ≡ 80 → length (encode xs) ≡ n
    → length (encode (block l ∷ xs)) ≡ 83 + n
length_label l xs n h e = length_block l xs ∙ omega arith

-- a mark, and n bytes behind it
pub length_mark : (xs : List Item) (n : ℕ) → length (encode xs) ≡ n → length (encode (mark ∷ xs)) ≡ 3 + n
unfolding encode encode_by bytes_of
length_mark xs n e =
    length-append (three 0) (encode xs) ∙ ap (λ (k : ℕ). k + length (encode xs)) (length_three 0) ∙ ap (λ (k : ℕ). 3 + k) e

length_reel : (xs : List Item) (n : ℕ) → length (encode xs) ≡ n → length (encode (reel_end ∷ xs)) ≡ 3 + n
unfolding encode encode_by bytes_of
length_reel xs n e =
    length-append (three 16777215) (encode xs) ∙ ap (λ (k : ℕ). k + length (encode xs)) (length_three 16777215)
    ∙ ap (λ (k : ℕ). 3 + k) e

-- nothing
pub none : length (encode []) ≡ 0
unfolding encode encode_by
none = refl

-- the second mark and the end of a reel
pub length_reel_end : length (encode (mark ∷ reel_end ∷ [])) ≡ 6
length_reel_end = length_mark _ 3 (length_reel [] 0 none)

length_second_mark : (name e : List ℕ) (xs : List Item) (n : ℕ) → length (encode xs) ≡ n
    → length (encode (block (made_second name e) ∷ mark ∷ xs)) ≡ 86 + n
length_second_mark name e xs n h = length_label _ _ (3 + n) (length_second name e) (length_mark xs n h) ∙ omega arith

length_trailer : (name set e : List ℕ) (section sequence count : ℕ) (xs : List Item) (n : ℕ) → length (encode xs) ≡ n
    → length (encode (mark ∷ block (made_first name set e section sequence count) ∷ xs)) ≡ 86 + n
length_trailer name set e section sequence count xs n h =
    length_mark _ (83 + n) (length_label _ xs n (length_first name set e section sequence count) h) ∙ omega arith

-- the labels before a section's blocks
pub length_headers : (set e : List ℕ) (section sequence : ℕ) → length (encode (headers set e section sequence)) ≡ 169
unfolding headers
length_headers set e section sequence =
    length_label _ _ 86 (length_first hdr1_name set e section sequence 0) (length_second_mark hdr2_name e [] 0 none)

-- those behind a file's last
pub length_file_end : (set e : List ℕ) (section sequence count : ℕ) → length (encode (file_end set e section sequence count)) ≡ 172
unfolding file_end
length_file_end set e section sequence count =
    length_trailer eof1_name set e section sequence count _ 86 (length_second_mark eof2_name e [] 0 none)

length_volume_end : (set e : List ℕ) (section sequence count : ℕ) → length (encode (volume_end set e section sequence count)) ≡ 178
unfolding volume_end
length_volume_end set e section sequence count =
    length_trailer eov1_name set e section sequence count _ 92 (length_second_mark eov2_name e _ 6 length_reel_end)

-- the first volume label
pub length_first_reel : (name : List ℕ) → length (encode (block (made_volume name) ∷ [])) ≡ 83
length_first_reel name = length_label _ [] 0 (length_volume name) none

-- all that stands between two reels
pub length_change : (set e : List ℕ) (section sequence count next : ℕ) (name : List ℕ)
    → length (encode (volume_end set e section sequence count ++ (block (made_volume name) ∷ headers set e next sequence))) ≡ 430
length_change set e section sequence count next name =
    let reel : length (encode (block (made_volume name) ∷ headers set e next sequence)) ≡ 252 = length_label _ _ 169 (length_volume name) (length_headers set e next sequence) in
    ap length (encode_append (volume_end set e section sequence count) (block (made_volume name) ∷ headers set e next sequence))
    ∙ length-append (encode (volume_end set e section sequence count))
    (encode (block (made_volume name) ∷ headers set e next sequence))
    ∙ omega (arith, length_volume_end set e section sequence count)
