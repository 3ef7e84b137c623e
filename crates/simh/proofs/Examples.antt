-- Small files and images, with their answers (document 02, P1, and its rulings). Every claim is computed.
use mathlib.Core.Path.{◌≡◌, refl}
use mathlib.Core.List.{List, [], ◌∷◌, ◌++◌, map, flatten as end_to_end}
use Prim.Native.Nat.{ℕ}
use Rattle.base.specs.Answer.{verdict}
use Rattle.base.specs.If.{if_b}
use Rattle.base.specs.Part.{part, same, all_are}
use Rattle.base.specs.Sum.{sum, cut_by}
use Rattle.image.specs.Framing.{head, framed_from, items, framing}
use Rattle.image.specs.Item.{word as image_word, led_by as image_led, shape as image_shape, item_of as image_item_of, behind as image_behind, decode_f, decode as image_items, three, bytes_of as image_item, encode_by, encode as image_bytes}
use Rattle.output.specs.Output.{refused, refused_with, placed}
use Rattle.simh.specs.Tape.{word, is_whole, led_by, shape, item_of, behind, decode, four, pad, bytes_of, encode}
use Rattle.simh.specs.Set.{torn, reel_verdict, reels_verdict, reels_in, is_few, tape_verdict, image_of, from_simh, on_first, reels_of, files_of, kept, stored, to_simh}

-- ---- the files

-- a block of the three bytes ABC: its lengths, and its pad byte
unfoldable pub abc : List ℕ → ℕ → List ℕ → List ℕ
abc first pad second = first ++ (65 ∷ 66 ∷ 67 ∷ pad ∷ []) ++ second

unfoldable pub three_bytes : List ℕ
three_bytes = 3 ∷ 0 ∷ 0 ∷ 0 ∷ []

unfoldable pub tape_mark : List ℕ
tape_mark = 0 ∷ 0 ∷ 0 ∷ 0 ∷ []

unfoldable pub medium_end : List ℕ
medium_end = 255 ∷ 255 ∷ 255 ∷ 255 ∷ []

-- a reel of that block and a tape mark, 20 bytes, and its image
unfoldable pub reel : List ℕ
reel = abc three_bytes 0 three_bytes ++ tape_mark ++ medium_end

unfoldable pub image : List ℕ
image = head ++ (0 ∷ 0 ∷ 3 ∷ 65 ∷ 66 ∷ 67 ∷ 0 ∷ 0 ∷ 0 ∷ 255 ∷ 255 ∷ 255 ∷ [])

-- a reel with this behind a first tape mark
unfoldable pub behind_mark : List ℕ → List ℕ
behind_mark s = tape_mark ++ s ++ medium_end

-- sixteen reels with nothing on them
unfoldable pub sixteen : List ℕ
sixteen = end_to_end (map (λ (n : ℕ). medium_end) (4 ∷ 4 ∷ 4 ∷ 4 ∷ 4 ∷ 4 ∷ 4 ∷ 4 ∷ 4 ∷ 4 ∷ 4 ∷ 4 ∷ 4 ∷ 4 ∷ 4 ∷ 4 ∷ []))

unfoldable pub sixteen_fours : List ℕ
sixteen_fours = 4 ∷ 4 ∷ 4 ∷ 4 ∷ 4 ∷ 4 ∷ 4 ∷ 4 ∷ 4 ∷ 4 ∷ 4 ∷ 4 ∷ 4 ∷ 4 ∷ 4 ∷ 4 ∷ []

-- ---- in

pub right_files :
    (tape_verdict reel (20 ∷ []) ≡ verdict 0 0 0)
    × (image_of reel (20 ∷ []) ≡ image)
    × (tape_verdict (reel ++ reel) (20 ∷ 20 ∷ []) ≡ verdict 0 0 0)
    × (tape_verdict sixteen sixteen_fours ≡ verdict 0 0 0)
unfolding abc three_bytes tape_mark medium_end reel image sixteen sixteen_fours verdict if_b part all_are sum cut_by decode_f word is_whole led_by shape item_of behind decode torn reel_verdict reels_verdict reels_in is_few tape_verdict image_of three image_item encode_by image_bytes end_to_end
right_files = (refl, refl, refl, refl)

pub wrong_lengths :
    -- they don't add up, by one, by far, or since none is there
    (tape_verdict reel (19 ∷ []) ≡ verdict 15 0 0)
    × (tape_verdict reel (20 ∷ 18446744073709551615 ∷ 1 ∷ []) ≡ verdict 15 0 0)
    × (tape_verdict reel [] ≡ verdict 15 0 0)
    -- the first file ends within the word of its end, or within the second file, whose bytes are behind its end; the second one
    -- is empty
    × (tape_verdict (reel ++ reel) (18 ∷ 22 ∷ []) ≡ verdict 15 2 0)
    × (tape_verdict (reel ++ reel) (22 ∷ 18 ∷ []) ≡ verdict 15 3 0)
    × (tape_verdict reel (20 ∷ 0 ∷ []) ≡ verdict 15 3 0)
    -- no file, and a 17th, which is looked at before it is counted
    × (tape_verdict [] [] ≡ verdict 2 0 0)
    × (tape_verdict (medium_end ++ sixteen) (4 ∷ sixteen_fours) ≡ verdict 2 0 0)
    × (tape_verdict (sixteen ++ tape_mark) (sixteen_fours ++ (4 ∷ [])) ≡ verdict 15 17 0)
unfolding abc three_bytes tape_mark medium_end reel sixteen sixteen_fours verdict if_b part all_are sum cut_by decode_f word is_whole led_by shape item_of behind decode torn reel_verdict reels_verdict reels_in is_few tape_verdict end_to_end
wrong_lengths = (refl, refl, refl, refl, refl, refl, refl, refl, refl)

pub wrong_items :
    -- the second length differs, and the pad byte is not 0
    (tape_verdict (behind_mark (abc three_bytes 0 (2 ∷ 0 ∷ 0 ∷ 0 ∷ []))) (20 ∷ []) ≡ verdict 15 1 0)
    × (tape_verdict (behind_mark (abc three_bytes 32 three_bytes)) (20 ∷ []) ≡ verdict 15 1 0)
    -- a gap, a record with an error, a length of 100,000
    × (tape_verdict (behind_mark (254 ∷ 255 ∷ 255 ∷ 255 ∷ [])) (12 ∷ []) ≡ verdict 15 1 0)
    × (tape_verdict (behind_mark (abc (3 ∷ 0 ∷ 0 ∷ 128 ∷ []) 0 (3 ∷ 0 ∷ 0 ∷ 128 ∷ []))) (20 ∷ []) ≡ verdict 15 1 0)
    × (tape_verdict (behind_mark (160 ∷ 134 ∷ 1 ∷ 0 ∷ [])) (12 ∷ []) ≡ verdict 15 1 0)
    -- a block cut short, no end, a byte behind the end, and a second end
    × (tape_verdict (behind_mark (9 ∷ 0 ∷ 0 ∷ 0 ∷ [])) (12 ∷ []) ≡ verdict 15 1 0)
    × (tape_verdict (tape_mark ++ tape_mark) (8 ∷ []) ≡ verdict 15 2 0)
    × (tape_verdict (reel ++ (0 ∷ [])) (21 ∷ []) ≡ verdict 15 3 0)
    × (tape_verdict (reel ++ medium_end) (24 ∷ []) ≡ verdict 15 3 0)
unfolding abc three_bytes tape_mark medium_end reel behind_mark verdict if_b part all_are sum cut_by decode_f word is_whole led_by shape item_of behind decode torn reel_verdict reels_verdict reels_in is_few tape_verdict end_to_end
wrong_items = (refl, refl, refl, refl, refl, refl, refl, refl, refl)

-- ---- the lent buffers, both ways

pub lent :
    -- a byte behind the image stays, as do all where one lacks
    (from_simh reel (20 ∷ []) (1 ∷ 1 ∷ 1 ∷ 1 ∷ 1 ∷ 1 ∷ 1 ∷ 1 ∷ 1 ∷ 1 ∷ 1 ∷ 1 ∷ 1 ∷ 1 ∷ 1 ∷ 1 ∷ 1 ∷ 9 ∷ [])
    ≡ record { verdict = verdict 0 0 0; len = 17; out = image ++ (9 ∷ []) })
    × (from_simh reel (20 ∷ []) (1 ∷ 1 ∷ 1 ∷ 1 ∷ []) ≡ record { verdict = verdict 10 0 0; len = 0; out = 1 ∷ 1 ∷ 1 ∷ 1 ∷ [] })
    -- one file, and the list's second number stays; a list without room, a buffer without, and an image cut short
    × (to_simh image (reel ++ (9 ∷ [])) (7 ∷ 7 ∷ [])
    ≡ record { verdict = verdict 0 0 0; len = 20; files = 1; out = reel ++ (9 ∷ []); lengths = 20 ∷ 7 ∷ [] })
    × (to_simh image (reel ++ (9 ∷ [])) []
    ≡ record { verdict = verdict 10 0 0; len = 0; files = 0; out = reel ++ (9 ∷ []); lengths = [] })
    × (to_simh image (8 ∷ 8 ∷ []) (7 ∷ [])
    ≡ record { verdict = verdict 10 0 0; len = 0; files = 0; out = 8 ∷ 8 ∷ []; lengths = 7 ∷ [] })
    × (to_simh (head ++ (0 ∷ 0 ∷ [])) (8 ∷ 8 ∷ []) (7 ∷ [])
    ≡ record { verdict = verdict 2 0 0; len = 0; files = 0; out = 8 ∷ 8 ∷ []; lengths = 7 ∷ [] })
unfolding abc three_bytes tape_mark medium_end reel image verdict if_b part same all_are sum cut_by framed_from items framing image_word image_led image_shape image_item_of image_behind decode_f image_items three image_item encode_by image_bytes refused refused_with placed word is_whole led_by shape item_of behind decode four pad bytes_of encode torn reel_verdict reels_verdict reels_in is_few tape_verdict image_of from_simh on_first reels_of files_of kept stored to_simh end_to_end
lent = (refl, refl, refl, refl, refl, refl)
