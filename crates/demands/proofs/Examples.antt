-- The worked examples of document 01, and cases that are easy to get wrong, as one list with one claim, which is computed.
-- Where blocks are read, B is 20 and O is 0.
use Rattle.std.specs.Prelude.{Option, Some, None}
use mathlib.Core.Path.{◌≡◌, refl}
use mathlib.Core.Bool.{Bool, true, false, ◌&&◌, not}
use mathlib.Core.List.{List, [], ◌∷◌, ◌++◌}
use Prim.Native.Nat.{ℕ}
use Prim.Native.String.{String}
use lib.Dec.{eqb}
use Rattle.base.specs.If.{if_b}
use Rattle.base.specs.Format.{format_f, format_d, format_s}
use Rattle.base.specs.Part.{part, same, all_are}
use Rattle.base.specs.Digits.{is_digit, all_digits, value, digits}
use Rattle.base.specs.Sum.{sum}
use Rattle.charset.specs.Number.{number_in}
use Rattle.charset.specs.Date.{is_century, is_year_day, is_date}
use Rattle.output.specs.Text.{bytes}
use Rattle.block.specs.Unit.{fixed, measured, variable, segment, unit_of, word_of}
use Rattle.block.specs.Cut.{Segment, onto, cut_one, cut_f, cut, some_units, units}
use Rattle.block.specs.Turn.{outcome, is_turn, open_after, turns_from, turned, block_outcome}
use Rattle.block.specs.Held.{ends_with, records_ending, segment_bytes, held_by, held_in}
use Rattle.block.specs.declared.Held.{Held}
use Rattle.volume.specs.Meaning.{on_first, joined}
use Rattle.writing.specs.Pack.{control_word, start_of, unit_in, fill, after, weights, weight, blocks_f, blocks_left, blocks_of}
use Rattle.block.specs.Room.{enters, taken, indicator_of}

pub data Example : Type 0 where
  -- blocks of a file of format f and record length r hold these records
  gives : ℕ → ℕ → List String → List String → Example
  -- the number on a block of format f and record length r, with no record open
  answers : ℕ → ℕ → String → ℕ → Example
  -- what a block of format f, record length r and offset length o holds: records that end in it, bytes of records, of control
  -- words, of padding and of the offset
  splits : ℕ → ℕ → ℕ → String → List ℕ → Example
  -- records in a file of format f and block length b are written as these blocks
  packs : ℕ → ℕ → List String → List String → Example
  -- whether a field is a date
  dates : String → Bool → Example

texts : List String → List (List ℕ)
texts [] = []
texts (t ∷ ts) = bytes t ∷ texts ts

same_texts : List (List ℕ) → List String → Bool
same_texts [] [] = true
same_texts [] (t ∷ ts) = false
same_texts (b ∷ bs) [] = false
same_texts (b ∷ bs) (t ∷ ts) = same b (bytes t) && same_texts bs ts

-- the segments of one block before those of the rest
before : Option (List Segment) → Option (List Segment) → Option (List Segment)
before None ys = None
before (Some xs) None = None
before (Some xs) (Some ys) = Some (xs ++ ys)

-- blocks whose segments follow each other in turn: q bytes are pending, as `block_outcome` counts them
segments_from : ℕ → ℕ → ℕ → List String → Option (List Segment)
segments_from f r q [] = if_b (eqb q 0) (Some []) None
segments_from f r q (t ∷ ts) =
    if_b (eqb (block_outcome f 20 r 0 q (bytes t)).number 0)
    (before (units f 20 r 0 (bytes t)) (segments_from f r (block_outcome f 20 r 0 q (bytes t)).pending ts))
    None

same_records : Option (List Segment) → List String → Bool
same_records None ts = false
same_records (Some xs) ts = same_texts (joined xs) ts

is_same : Bool → Bool → Bool
is_same true b = b
is_same false b = not b

numbers_of : Held → List ℕ
numbers_of h = h.records ∷ h.bytes ∷ h.words ∷ h.padding ∷ h.offset ∷ []

holds : Example → Bool
holds (gives f r bs ts) = same_records (segments_from f r 0 bs) ts
holds (answers f r s number) = eqb (block_outcome f 20 r 0 0 (bytes s)).number number
holds (splits f r o s ns) = same (numbers_of (held_in f r o (bytes s))) ns
holds (packs f b xs ts) = same_texts (blocks_of f b (texts xs)) ts
holds (dates s b) = is_same (is_date (bytes s)) b

pub all_hold : List Example → Bool
all_hold [] = true
all_hold (x ∷ xs) = holds x && all_hold xs

pub examples : List Example
examples =
    -- the marked ones
    gives format_f 4 ("ABCD^^" ∷ []) ("ABCD" ∷ [])
    ∷ gives format_f 4 ("AB^^CD^^" ∷ []) ("AB^^" ∷ "CD^^" ∷ [])
    ∷ answers format_f 4 "ABCD^^^^E" 7
    ∷ gives format_d 10 ("0007ABC0004" ∷ []) ("ABC" ∷ "" ∷ [])
    ∷ answers format_d 10 "0003" 7
    ∷ answers format_d 10 "0007AB" 7
    ∷ gives format_s 10 ("10007AB" ∷ "30006C" ∷ []) ("ABC" ∷ [])
    ∷ answers format_s 10 "10007AB00005" 8
    ∷ packs format_s 12 ("ABCDEFGHIJ" ∷ "" ∷ []) ("10012ABCDEFG" ∷ "30008HIJ" ∷ "00005" ∷ [])
    ∷ dates " 85335" true
    ∷ dates " 85000" false
    ∷ dates "000000" true
    ∷ dates "100001" false
    -- blocks of padding alone, padding before a record, a torn record, a lone circumflex
    ∷ answers format_f 4 "^^^^" 7
    ∷ answers format_f 4 "^^^^ABCD" 7
    ∷ answers format_f 4 "ABCDEF" 7
    ∷ answers format_f 1 "A^B" 7
    -- circumflexes of a D record stay, those behind it are padding
    ∷ gives format_d 10 ("0008AB^^" ∷ []) ("AB^^" ∷ [])
    ∷ gives format_d 10 ("0006AB^^" ∷ []) ("AB" ∷ [])
    ∷ answers format_d 10 "0006AB^0004" 7
    -- a D record of R bytes with its control word, and one more
    ∷ gives format_d 10 ("0010ABCDEF" ∷ []) ("ABCDEF" ∷ [])
    ∷ answers format_d 10 "0011ABCDEFG" 7
    -- a unit that is torn and out of turn, and one that is out of turn alone
    ∷ answers format_s 10 "20005X" 7
    ∷ answers format_s 10 "20005" 8
    ∷ gives format_s 10 ("10007AB^^" ∷ "30006C00005" ∷ []) ("ABC" ∷ "" ∷ [])
    -- circumflexes of a record are no padding; a record counts where it ends; a block that cannot be cut holds nothing
    ∷ splits format_f 4 0 "AB^^CD^^^^" (2 ∷ 8 ∷ 0 ∷ 2 ∷ 0 ∷ [])
    ∷ splits format_d 10 3 "XYZ0007ABC0004^" (2 ∷ 3 ∷ 8 ∷ 1 ∷ 3 ∷ [])
    ∷ splits format_s 10 0 "10007AB^^" (0 ∷ 2 ∷ 5 ∷ 2 ∷ 0 ∷ [])
    ∷ splits format_s 10 0 "30006C00005" (2 ∷ 1 ∷ 10 ∷ 0 ∷ 0 ∷ [])
    ∷ splits format_f 4 0 "ABCD^^^^E" (0 ∷ 0 ∷ 0 ∷ 0 ∷ 0 ∷ [])
    -- one byte more than an empty record needs is left behind `30008JKL`
    ∷ packs format_s 14 ("ABCDEFGHIJKL" ∷ "" ∷ []) ("10014ABCDEFGHI" ∷ "30008JKL00005" ∷ [])
    -- five bytes are left behind `A`: enough for an empty record, and not for `B`
    ∷ packs format_s 11 ("A" ∷ "" ∷ "B" ∷ []) ("00006A00005" ∷ "00006B" ∷ [])
    ∷ packs format_s 11 ("A" ∷ "B" ∷ []) ("00006A" ∷ "00006B" ∷ [])
    -- a unit that just fits, and one that does not
    ∷ packs format_f 8 ("ABCD" ∷ "EFGH" ∷ "IJKL" ∷ []) ("ABCDEFGH" ∷ "IJKL" ∷ [])
    ∷ packs format_d 11 ("ABC" ∷ "" ∷ "" ∷ []) ("0007ABC0004" ∷ "0004" ∷ [])
    -- no records, no blocks
    ∷ packs format_f 8 [] []
    ∷ dates " 85366" true
    ∷ dates " 85367" false
    ∷ []

pub all_hold_lem : all_hold examples ≡ true
unfolding all_hold holds examples same_records segments_from before texts same_texts is_same bytes if_b part same all_are is_digit all_digits value number_in is_century is_year_day is_date fixed measured variable segment unit_of onto cut_one cut_f cut some_units units outcome is_turn open_after turns_from turned block_outcome ends_with records_ending segment_bytes sum held_by held_in numbers_of on_first joined digits word_of enters taken indicator_of control_word start_of unit_in fill after weights weight blocks_f blocks_left blocks_of
all_hold_lem = refl
