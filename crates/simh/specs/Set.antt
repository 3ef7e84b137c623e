-- A set of reels in the SIMH form: one file a reel, as one buffer of the files end to end and the list of their lengths; and its
-- conversion into our image and back. Document 02, P1, and its rulings.
use Rattle.std.specs.Prelude.{◌≡◌, Bool, ◌&&◌, ℕ, ◌+◌, min, leb, eqb, length, take, drop}
use mathlib.Core.List.{List, [], ◌∷◌, ◌++◌, map, flatten as end_to_end}
use Rattle.base.specs.If.{if_b}
use Rattle.base.specs.Sum.{sum, cut_by}
use Rattle.base.specs.Answer.{verdict}
use Rattle.base.specs.declared.Verdict.{Verdict}
use Rattle.image.specs.Item.{Item, block, mark, reel_end, broken, encode as image_bytes}
use Rattle.image.specs.Framing.{most_image, most_reels, head, items, framing}
use Rattle.output.specs.Output.{Result, fitted, placed, refused_with}
use Rattle.simh.specs.declared.export.Tapes.{Tapes as Answer}
use Rattle.simh.specs.Tape.{decode, encode}

-- ---- in: 15, then 2, 14 and 10

-- the most that a place can say; only a buffer of 16 GiB or more has more items
abbrev pub most_item : ℕ
most_item = 4294967295

-- 15 at item n
unfoldable pub torn : ℕ → Verdict
torn n = verdict 15 (min n most_item) 0

-- the items of one file, which begin at item n: none is wrong, the end of the medium is there, and nothing stands behind it
unfoldable pub reel_verdict : ℕ → List Item → Verdict
reel_verdict n [] = torn n
reel_verdict n (block bs ∷ xs) = reel_verdict (n + 1) xs
reel_verdict n (mark ∷ xs) = reel_verdict (n + 1) xs
reel_verdict n (reel_end ∷ []) = verdict 0 0 0
reel_verdict n (reel_end ∷ x ∷ xs) = torn (n + 1)
reel_verdict n (broken ∷ xs) = torn n

-- the files one after the other, from item n on
unfoldable pub reels_verdict : ℕ → List (List Item) → Verdict
reels_verdict n [] = verdict 0 0 0
reels_verdict n (r ∷ rs) = if_b (eqb (reel_verdict n r).number 0) (reels_verdict (n + length r) rs) (reel_verdict n r)

-- the items of each file
unfoldable pub reels_in : List ℕ → List ℕ → List (List Item)
reels_in tape lengths = map decode (cut_by lengths tape)

-- 1 to 16 files
unfoldable pub is_few : ℕ → Bool
is_few n = leb 1 n && leb n most_reels

-- 15 or 2, or 0
unfoldable pub tape_verdict : List ℕ → List ℕ → Verdict
tape_verdict tape lengths =
    if_b (eqb (sum lengths) (length tape))
    (if_b (eqb (reels_verdict 0 (reels_in tape lengths)).number 0)
    (if_b (is_few (length lengths)) (verdict 0 0 0) (verdict 2 0 0))
    (reels_verdict 0 (reels_in tape lengths)))
    (verdict 15 0 0)

-- our image of the set: the items of all files, one behind the other
unfoldable pub image_of : List ℕ → List ℕ → List ℕ
image_of tape lengths = head ++ image_bytes (end_to_end (reels_in tape lengths))

unfoldable pub from_simh : List ℕ → List ℕ → List ℕ → Result
from_simh tape lengths out =
    if_b (eqb (tape_verdict tape lengths).number 0)
    (if_b (leb (length (image_of tape lengths)) most_image) (placed (fitted (image_of tape lengths) out))
    (refused_with (verdict 14 0 0) out))
    (refused_with (tape_verdict tape lengths) out)

-- ---- out: 9, 1 and 2 as the framing has them, then 10

-- an item before the items of a first reel
unfoldable pub on_first : Item → List (List Item) → List (List Item)
on_first x [] = (x ∷ []) ∷ []
on_first x (r ∷ rs) = (x ∷ r) ∷ rs

-- the items of each reel, its end among them
unfoldable pub reels_of : List Item → List (List Item)
reels_of [] = []
reels_of (reel_end ∷ xs) = (reel_end ∷ []) ∷ reels_of xs
reels_of (block bs ∷ xs) = on_first (block bs) (reels_of xs)
reels_of (mark ∷ xs) = on_first mark (reels_of xs)
reels_of (broken ∷ xs) = on_first broken (reels_of xs)

-- the file of each reel
unfoldable pub files_of : List ℕ → List (List ℕ)
files_of s = map encode (reels_of (items s))

-- what conversion gives: the answer, how many bytes and files were written (0 with a refusal), and what the two lent buffers then
-- hold
pub record Converted : Type 0 where
  pub verdict : Verdict
  pub len : ℕ
  pub files : ℕ
  pub out : List ℕ
  pub lengths : List ℕ

unfoldable pub kept : Verdict → List ℕ → List ℕ → Converted
kept v out lengths = record { verdict = v; len = 0; files = 0; out = out; lengths = lengths }

-- files at the front of a lent buffer, and their lengths at the front of a lent list: 10 where either is too short
unfoldable pub stored : List (List ℕ) → List ℕ → List ℕ → Converted
stored fs out lengths =
    if_b (leb (length (end_to_end fs)) (length out) && leb (length fs) (length lengths))
    (record {
      verdict = verdict 0 0 0;
      len = length (end_to_end fs);
      files = length fs;
      out = end_to_end fs ++ drop (length (end_to_end fs)) out;
      lengths = map length fs ++ drop (length fs) lengths;
    })
    (kept (verdict 10 0 0) out lengths)

unfoldable pub to_simh : List ℕ → List ℕ → List ℕ → Converted
to_simh s out lengths = if_b (eqb (framing s).number 0) (stored (files_of s) out lengths) (kept (framing s) out lengths)

-- the files that were written, and their lengths
unfoldable pub tape_in : Converted → List ℕ
tape_in c = take c.len c.out

unfoldable pub lengths_in : Converted → List ℕ
lengths_in c = take c.files c.lengths

-- what the code answers, and the two buffers behind it, are what conversion gives
pub record Converts (c : Converted) (r : Answer) (o ls : List ℕ) : Type 0 where
  pub said : r.verdict ≡ c.verdict
  pub len : r.len ≡ c.len
  pub files : r.files ≡ c.files
  pub out : o ≡ c.out
  pub lengths : ls ≡ c.lengths
