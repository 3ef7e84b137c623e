-- The files of an image's reels: end to end they are the file of all items, and their lengths are found item by item. Assumes
-- nothing.
use mathlib.Core.Path.{◌≡◌, refl, sym, ap, ap₂, ◌∙◌}
use mathlib.Core.List.{List, [], ◌∷◌, ◌++◌, map, flatten as end_to_end}
use Prim.Native.Nat.{ℕ, ◌+◌}
use native.Mathlib.Omega.{arith}
use lib.ListN.{length}
use Rattle.base.proofs.Sums.{length_map}
use Rattle.image.specs.Item.{Item, block, mark, reel_end, broken, encode_by}
use Rattle.image.proofs.Coding.{by_append}
use Rattle.simh.specs.Tape.{span_of, bytes_of, encode}
use Rattle.simh.specs.Set.{reels_of}
use Rattle.simh.specs.Code.Passes.{lengths_from}
use Rattle.simh.proofs.Sizes.{no_file, file_block, file_mark, file_end_lem}
use Rattle.simh.proofs.Reels.{ReelCloses, AllClose, reels_joined}

-- how many there are does not hang on the bytes before them
pub lengths_alike : (j k : ℕ) (xs : List Item) → length (lengths_from j xs) ≡ length (lengths_from k xs)
unfolding lengths_from
lengths_alike j k [] = refl
lengths_alike j k (block bs ∷ xs) = lengths_alike (j + span_of (length bs)) (k + span_of (length bs)) xs
lengths_alike j k (mark ∷ xs) = lengths_alike (j + 4) (k + 4) xs
lengths_alike j k (reel_end ∷ xs) = refl
lengths_alike j k (broken ∷ xs) = refl

-- the first of them, where a reel closes
reel_lengths : (k : ℕ) (r xs : List Item) → ReelCloses r → lengths_from k (r ++ xs) ≡ (k + length (encode r)) ∷ lengths_from 0 xs
unfolding ReelCloses lengths_from
reel_lengths k [] xs h = absurd h
reel_lengths k (block bs ∷ r) xs h =
    let e : k + span_of (length bs) + length (encode r) ≡ k + length (encode (block bs ∷ r)) = omega (arith, file_block bs r) in
    reel_lengths (k + span_of (length bs)) r xs h ∙ ap (λ (n : ℕ). n ∷ lengths_from 0 xs) e
reel_lengths k (mark ∷ r) xs h =
    let e : k + 4 + length (encode r) ≡ k + length (encode (mark ∷ r)) = omega (arith, file_mark r) in
    reel_lengths (k + 4) r xs h ∙ ap (λ (n : ℕ). n ∷ lengths_from 0 xs) e
reel_lengths k (reel_end ∷ []) xs h =
    let e : k + 4 ≡ k + length (encode (reel_end ∷ [])) = omega (arith, file_end_lem [], no_file) in
    ap (λ (n : ℕ). n ∷ lengths_from 0 xs) e
reel_lengths k (reel_end ∷ y ∷ r) xs h = absurd h
reel_lengths k (broken ∷ r) xs h = absurd h

joined_lengths : (rs : List (List Item)) → AllClose rs → lengths_from 0 (end_to_end rs) ≡ map length (map encode rs)
unfolding AllClose end_to_end lengths_from
joined_lengths [] h = refl
joined_lengths (r ∷ rs) h =
    let e : 0 + length (encode r) ≡ length (encode r) = omega arith in
    reel_lengths 0 r (end_to_end rs) h.0 ∙ ap₂ ◌∷◌ e (joined_lengths rs h.1)

pub file_lengths : (xs : List Item) → AllClose (reels_of xs) → lengths_from 0 xs ≡ map length (map encode (reels_of xs))
file_lengths xs h = ap (lengths_from 0) (sym (reels_joined xs)) ∙ joined_lengths (reels_of xs) h

-- the bytes of the files
pub joined_files : (rs : List (List Item)) → end_to_end (map encode rs) ≡ encode (end_to_end rs)
unfolding end_to_end encode encode_by
joined_files [] = refl
joined_files (r ∷ rs) = ap (λ (l : List ℕ). encode r ++ l) (joined_files rs) ∙ sym (by_append bytes_of r (end_to_end rs))

pub file_bytes : (xs : List Item) → end_to_end (map encode (reels_of xs)) ≡ encode xs
file_bytes xs = joined_files (reels_of xs) ∙ ap encode (reels_joined xs)

pub file_count : (xs : List Item) → AllClose (reels_of xs) → length (map encode (reels_of xs)) ≡ length (lengths_from 0 xs)
file_count xs h = sym (ap length (file_lengths xs h) ∙ length_map length (map encode (reels_of xs)))
