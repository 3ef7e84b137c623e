-- The fields that are read by name, and what a field of a label may hold. Document 01, "Label fields". A rule sees the field and,
-- for the record length, the whole label.
-- The record length of a D file counts its control word: 8.5.2.6 of ECMA-13 makes it the maximum length of an MDU, and 7.2.3 puts
-- the word into the MDU. So for D it is 5 or more, and a record has at most R - 4 bytes.
use Rattle.std.specs.Prelude.{Bool, true, false, ◌||◌, List, [], ◌∷◌, ℕ, ◌+◌, leb, eqb, get_or, Option, Some, None}
use Rattle.base.specs.If.{if_b}
use Rattle.base.specs.Format.{format_f, format_d, format_s}
use Rattle.base.specs.Part.{same, all_are}
use Rattle.base.specs.Digits.{all_digits}
use Rattle.charset.specs.Class.{all_a}
use Rattle.charset.specs.Number.{number_in}
use Rattle.charset.specs.Date.{is_date}
use Rattle.label.specs.Table.{characters, spaces, digits, zeros, positive, date, standard, format, record_length, place_of, field, vol1, hdr1, hdr2, volume_row, set_row, section_row, sequence_row, count_row, format_row, block_length_row, record_length_row, offset_row}

-- ---- the volume identifier of VOL1, and what the cross-checks read of HDR1, EOV1 and EOF1

unfoldable pub volume_of : List ℕ → List ℕ
volume_of l = field vol1 volume_row l

unfoldable pub set_of : List ℕ → List ℕ
set_of l = field hdr1 set_row l

unfoldable pub section_of : List ℕ → Option ℕ
section_of l = number_in (field hdr1 section_row l)

unfoldable pub sequence_of : List ℕ → Option ℕ
sequence_of l = number_in (field hdr1 sequence_row l)

unfoldable pub count_of : List ℕ → Option ℕ
count_of l = number_in (field hdr1 count_row l)

-- ---- the record format and the three lengths of HDR2, EOV2 and EOF2

unfoldable pub format_of : List ℕ → ℕ
format_of l = get_or l (place_of hdr2 format_row) 0

unfoldable pub block_length_of : List ℕ → Option ℕ
block_length_of l = number_in (field hdr2 block_length_row l)

unfoldable pub record_length_of : List ℕ → Option ℕ
record_length_of l = number_in (field hdr2 record_length_row l)

unfoldable pub offset_of : List ℕ → Option ℕ
offset_of l = number_in (field hdr2 offset_row l)

-- the least record length of a format
unfoldable pub least_record : ℕ → ℕ
least_record f = if_b (eqb f format_d) 5 1

-- R against B and O: F and D, R + O at most B; S (house), O + 6 at most B
unfoldable pub suits : ℕ → ℕ → ℕ → ℕ → Bool
suits f b r o = if_b (eqb f format_s) (leb (o + 6) b) (leb (r + o) b)

-- R against B and O: only where both are numbers
unfoldable pub suits_both : ℕ → Option ℕ → ℕ → Option ℕ → Bool
suits_both f None r o = true
suits_both f (Some b) r None = true
suits_both f (Some b) r (Some o) = suits f b r o

-- R by itself, and against B and O
unfoldable pub is_length : ℕ → Option ℕ → ℕ → Option ℕ → Bool
is_length f b r o = if_b (leb (least_record f) r) (suits_both f b r o) false

-- R, if it is a number
unfoldable pub is_record_length : ℕ → Option ℕ → Option ℕ → Option ℕ → Bool
is_record_length f b None o = false
is_record_length f b (Some r) o = is_length f b r o

-- a number of 1 or more
unfoldable pub is_positive : Option ℕ → Bool
is_positive (Some n) = leb 1 n
is_positive None = false

unfoldable pub is_format : List ℕ → Bool
is_format f = same f (format_f ∷ []) || (same f (format_d ∷ []) || same f (format_s ∷ []))

-- the record length of a label against its format, its block length and its offset length
unfoldable pub has_record_length : List ℕ → Bool
has_record_length l = is_record_length (format_of l) (block_length_of l) (record_length_of l) (offset_of l)

-- whether field f of label l suits the rule of number r
unfoldable pub good : ℕ → List ℕ → List ℕ → Bool
good r l f =
    if_b (eqb r characters) (all_a f)
    (if_b (eqb r spaces) (all_are 32 f)
    (if_b (eqb r digits) (all_digits f)
    (if_b (eqb r zeros) (all_are 48 f)
    (if_b (eqb r positive) (is_positive (number_in f))
    (if_b (eqb r date) (is_date f)
    (if_b (eqb r standard) (same f (52 ∷ []))
    (if_b (eqb r format) (is_format f)
    (if_b (eqb r record_length) (has_record_length l)
    true))))))))
