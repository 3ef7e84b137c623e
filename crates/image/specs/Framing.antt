-- The framing of an image. Document 01, "Numbers given back": over-long is 9; under five bytes, or mark or version wrong, is 1;
-- then, for the whole image, 2: the bad or cut item, the first item of a 17th reel, or the number after the last item where no
-- reel or no end of reel stands; the first of these counts.
use Rattle.std.specs.Prelude.{Bool, true, false, List, [], ◌∷◌, ℕ, ◌+◌, ltb, eqb, length, take, drop}
use Rattle.base.specs.If.{if_b}
use Rattle.base.specs.Part.{same}
use Rattle.base.specs.Answer.{verdict}
use Rattle.base.specs.declared.Verdict.{Verdict}
use Rattle.image.specs.Item.{Item, block, mark, reel_end, broken, decode}

-- an image is at most 16,777,215 bytes and has at most 16 reels
abbrev pub most_image : ℕ
most_image = 16777215

abbrev pub most_reels : ℕ
most_reels = 16

-- `TGI` and version 1
abbrev pub head : List ℕ
head = 84 ∷ 71 ∷ 73 ∷ 0 ∷ 1 ∷ []

-- number 2 over items, from item n on, with r reels ended; `closed` where the last item was an end of reel
unfoldable pub framed_from : ℕ → ℕ → Bool → List Item → Verdict
framed_from n r closed [] = if_b closed (verdict 0 0 0) (verdict 2 n 0)
framed_from n r closed (block bs ∷ xs) = if_b (eqb r most_reels) (verdict 2 n 0) (framed_from (n + 1) r false xs)
framed_from n r closed (mark ∷ xs) = if_b (eqb r most_reels) (verdict 2 n 0) (framed_from (n + 1) r false xs)
framed_from n r closed (reel_end ∷ xs) = if_b (eqb r most_reels) (verdict 2 n 0) (framed_from (n + 1) (r + 1) true xs)
framed_from n r closed (broken ∷ xs) = verdict 2 n 0

-- the items of an image
unfoldable pub items : List ℕ → List Item
items s = decode (drop 5 s)

-- an image that is not too long and begins with its mark and version
unfoldable pub opens : List ℕ → Bool
opens s = if_b (ltb most_image (length s)) false (same (take 5 s) head)

-- the framing of what stands from a place on, behind n items and r ended reels; 9 where the image is too long, or n or r are more
-- than an image has
unfoldable pub framing_from : List ℕ → ℕ → ℕ → ℕ → Bool → Verdict
framing_from s at n r closed =
    if_b (ltb most_image (length s)) (verdict 9 0 0)
    (if_b (ltb most_image n) (verdict 9 0 0)
    (if_b (ltb most_reels r) (verdict 9 0 0) (framed_from n r closed (decode (drop at s)))))

unfoldable pub framing : List ℕ → Verdict
framing s =
    if_b (ltb most_image (length s)) (verdict 9 0 0)
    (if_b (same (take 5 s) head) (framed_from 0 0 false (items s)) (verdict 1 0 0))
