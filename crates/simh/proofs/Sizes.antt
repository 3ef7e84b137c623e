-- How many bytes items have in an image and in files. Assumes nothing.
use mathlib.Core.Bool.{true, false≢true}
use mathlib.Core.Path.{◌≡◌, ap, ◌∙◌}
use mathlib.Core.List.{List, [], ◌∷◌, ◌++◌}
use Prim.Native.Nat.{ℕ, ◌+◌, ◌*◌, ◌≤◌}
use native.Mathlib.Omega.{arith}
use borrow.Author.Tests.{leb-true}
use lib.Dec.{leb}
use lib.ListN.{length, length-append}
use Rattle.base.proofs.Ifs.{and_first}
use Rattle.image.specs.Item.{Item, block, mark, reel_end, broken, three, bytes_of as image_item, encode_by, encode as image_bytes}
use Rattle.image.specs.Code.Items.{is_item, all_items}
use Rattle.image.proofs.Coding.{all_first, all_rest}
use Rattle.simh.specs.Tape.{span_of, four, pad, bytes_of, encode}
use Rattle.simh.proofs.Words.{length_pad}

pub no_bytes : length (image_bytes []) ≡ 0
unfolding image_bytes encode_by
no_bytes = omega arith

pub image_block : (bs : List ℕ) (xs : List Item) → length (image_bytes (block bs ∷ xs)) ≡ 3 + length bs + length (image_bytes xs)
unfolding image_bytes encode_by image_item three
image_block bs xs =
    let a = length-append (three (length bs) ++ bs) (encode_by image_item xs) in
    let b = length-append (three (length bs)) bs in
    omega arith

pub image_mark : (xs : List Item) → length (image_bytes (mark ∷ xs)) ≡ 3 + length (image_bytes xs)
unfolding image_bytes encode_by image_item three
image_mark xs = omega arith

pub image_end_lem : (xs : List Item) → length (image_bytes (reel_end ∷ xs)) ≡ 3 + length (image_bytes xs)
unfolding image_bytes encode_by image_item three
image_end_lem xs = omega arith

pub no_file : length (encode []) ≡ 0
unfolding encode encode_by
no_file = omega arith

pub item_span : (bs : List ℕ) → length (bytes_of (block bs)) ≡ span_of (length bs)
unfolding bytes_of four
item_span bs =
    let a = length-append (four (length bs) ++ bs ++ pad (length bs)) (four (length bs)) in
    let b = length-append (four (length bs) ++ bs) (pad (length bs)) in
    let c = length-append (four (length bs)) bs in
    let d = length_pad (length bs) in
    omega arith

pub file_block : (bs : List ℕ) (xs : List Item) → length (encode (block bs ∷ xs)) ≡ span_of (length bs) + length (encode xs)
unfolding encode encode_by
file_block bs xs =
    length-append (bytes_of (block bs)) (encode_by bytes_of xs) ∙ ap (λ (n : ℕ). n + length (encode_by bytes_of xs)) (item_span bs)

pub file_mark : (xs : List Item) → length (encode (mark ∷ xs)) ≡ 4 + length (encode xs)
unfolding encode encode_by bytes_of four
file_mark xs = omega arith

pub file_end_lem : (xs : List Item) → length (encode (reel_end ∷ xs)) ≡ 4 + length (encode xs)
unfolding encode encode_by bytes_of four
file_end_lem xs = omega arith

-- ---- either form held against the other

broken_shorter : (xs : List Item) → length (image_bytes xs) ≤ length (encode xs)
    → length (image_bytes (broken ∷ xs)) ≤ length (encode (broken ∷ xs))
unfolding image_bytes encode encode_by image_item bytes_of
broken_shorter xs h = h

block_some : (bs : List ℕ) → is_item (block bs) ≡ true → 1 ≤ length bs
unfolding is_item
block_some bs h = leb-true 1 (length bs) (and_first (leb 1 (length bs)) _ h)

no_broken : is_item broken ≡ true → ⊥
unfolding is_item
no_broken = false≢true

-- an image is the shorter one but for its head
pub image_shorter : (xs : List Item) → length (image_bytes xs) ≤ length (encode xs)
image_shorter [] = omega (arith, no_bytes)
image_shorter (block bs ∷ xs) = omega (arith, image_shorter xs, image_block bs xs, file_block bs xs)
image_shorter (mark ∷ xs) = omega (arith, image_shorter xs, image_mark xs, file_mark xs)
image_shorter (reel_end ∷ xs) = omega (arith, image_shorter xs, image_end_lem xs, file_end_lem xs)
image_shorter (broken ∷ xs) = broken_shorter xs (image_shorter xs)

-- files have at most five bytes for two of the image: a block of one byte has ten for four
pub files_longer : (xs : List Item) → all_items xs ≡ true → 2 * length (encode xs) ≤ 5 * length (image_bytes xs)
files_longer [] h = omega (arith, no_file)
files_longer (block bs ∷ xs) h =
    let some : 1 ≤ length bs = block_some bs (all_first (block bs) xs h) in
    omega (arith, files_longer xs (all_rest (block bs) xs h), image_block bs xs, file_block bs xs)
files_longer (mark ∷ xs) h = omega (arith, files_longer xs (all_rest mark xs h), image_mark xs, file_mark xs)
files_longer (reel_end ∷ xs) h = omega (arith, files_longer xs (all_rest reel_end xs h), image_end_lem xs, file_end_lem xs)
files_longer (broken ∷ xs) h = absurd (no_broken (all_first broken xs h))
