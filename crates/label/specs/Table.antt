-- The fields of each label, a row a field: its width, the rule of what it may hold, and the scope in which it is one. The widths
-- add up to 80 and the byte position runs along.
-- Document 01, "Label fields" (8.3.1, 8.5.1 and 8.5.2 of ECMA-13), and "Cross-checks" for the scopes.
use Rattle.std.specs.Prelude.{List, [], ◌∷◌, ℕ, zero, suc, ◌+◌, ◌-◌}
use Rattle.base.specs.If.{if_b}
use Rattle.base.specs.Part.{part}
use Rattle.order.specs.Kind.{vol, hdr, uhl, eof, eov, utl, is_kind}
use Rattle.order.specs.declared.Kind.{Kind}

-- ---- the rules, by number, so that a table is plain data

abbrev pub free : ℕ
free = 0

abbrev pub characters : ℕ
characters = 1

abbrev pub spaces : ℕ
spaces = 2

abbrev pub digits : ℕ
digits = 3

abbrev pub zeros : ℕ
zeros = 4

abbrev pub positive : ℕ
positive = 5

abbrev pub date : ℕ
date = 6

abbrev pub standard : ℕ
standard = 7

abbrev pub format : ℕ
format = 8

abbrev pub record_length : ℕ
record_length = 9

-- ---- the scopes: throughout which labels a field is the same; each has the one before in it

-- a label's own
abbrev pub per_label : ℕ
per_label = 0

-- a trailer has it as its header
abbrev pub per_section : ℕ
per_section = 1

-- and a later section as the section before (house)
abbrev pub per_file : ℕ
per_file = 2

-- ---- the labels

abbrev pub vol1 : List ℕ
vol1 =
    4 ∷ free ∷ per_label ∷  -- 1-4 VOL1, the kind
    6 ∷ characters ∷ per_label ∷  -- 5-10 volume identifier
    1 ∷ characters ∷ per_label ∷  -- 11 accessibility
    13 ∷ spaces ∷ per_label ∷  -- 12-24
    13 ∷ characters ∷ per_label ∷  -- 25-37 implementation
    14 ∷ characters ∷ per_label ∷  -- 38-51 owner
    28 ∷ spaces ∷ per_label ∷  -- 52-79
    1 ∷ standard ∷ per_label ∷ []  -- 80 `4`

-- HDR1, EOV1 and EOF1, with the rule of the block count; dates belong to a section (8.5.1.10 and 8.5.1.11 of ECMA-13; P2 of
-- document 02)
abbrev pub first : ℕ → List ℕ
first count =
    4 ∷ free ∷ per_label ∷  -- 1-4 the kind
    17 ∷ characters ∷ per_file ∷  -- 5-21 file identifier
    6 ∷ characters ∷ per_file ∷  -- 22-27 set identifier
    4 ∷ digits ∷ per_section ∷  -- 28-31 section
    4 ∷ digits ∷ per_file ∷  -- 32-35 sequence
    4 ∷ positive ∷ per_file ∷  -- 36-39 generation
    2 ∷ digits ∷ per_file ∷  -- 40-41 version
    6 ∷ date ∷ per_section ∷  -- 42-47 creation date
    6 ∷ date ∷ per_section ∷  -- 48-53 expiration date
    1 ∷ characters ∷ per_file ∷  -- 54 accessibility
    6 ∷ count ∷ per_label ∷  -- 55-60 block count
    13 ∷ characters ∷ per_label ∷  -- 61-73 implementation
    7 ∷ spaces ∷ per_section ∷ []  -- 74-80

abbrev pub hdr1 : List ℕ
hdr1 = first zeros

abbrev pub trailer1 : List ℕ
trailer1 = first digits

-- HDR2, EOV2 and EOF2
abbrev pub hdr2 : List ℕ
hdr2 =
    4 ∷ free ∷ per_label ∷  -- 1-4 the kind
    1 ∷ format ∷ per_file ∷  -- 5
    5 ∷ positive ∷ per_file ∷  -- 6-10 block length
    5 ∷ record_length ∷ per_file ∷  -- 11-15
    35 ∷ free ∷ per_label ∷  -- 16-50
    2 ∷ digits ∷ per_file ∷  -- 51-52 offset length
    28 ∷ spaces ∷ per_section ∷ []  -- 53-80

-- UHL and UTL
abbrev pub user : List ℕ
user =
    3 ∷ free ∷ per_label ∷  -- 1-3 the kind
    1 ∷ characters ∷ per_label ∷  -- 4
    76 ∷ free ∷ per_label ∷ []  -- 5-80

-- the fields of a kind of label; the labels that are not listed are free
unfoldable pub fields_of : Kind → List ℕ
fields_of k =
    if_b (is_kind k (vol 1)) vol1
    (if_b (is_kind k (hdr 1)) hdr1
    (if_b (is_kind k (eov 1)) trailer1
    (if_b (is_kind k (eof 1)) trailer1
    (if_b (is_kind k (hdr 2)) hdr2
    (if_b (is_kind k (eov 2)) hdr2
    (if_b (is_kind k (eof 2)) hdr2
    (if_b (is_kind k uhl) user
    (if_b (is_kind k utl) user
    []))))))))

-- ---- a field by its row, from 0 on

-- where the field of row k begins, from 0 on
abbrev pub place_of : List ℕ → ℕ → ℕ
place_of [] k = 0
place_of (w ∷ []) k = 0
place_of (w ∷ r ∷ []) k = 0
place_of (w ∷ r ∷ s ∷ rows) zero = 0
place_of (w ∷ r ∷ s ∷ rows) (suc k) = w + place_of rows k

-- its width
abbrev pub width_of : List ℕ → ℕ → ℕ
width_of [] k = 0
width_of (w ∷ []) k = 0
width_of (w ∷ r ∷ []) k = 0
width_of (w ∷ r ∷ s ∷ rows) zero = w
width_of (w ∷ r ∷ s ∷ rows) (suc k) = width_of rows k

-- its first BP
abbrev pub bp_of : List ℕ → ℕ → ℕ
bp_of rows k = place_of rows k + 1

-- the bytes of a label there
abbrev pub field : List ℕ → ℕ → List ℕ → List ℕ
field rows k l = part (place_of rows k) (width_of rows k) l

-- those of rows j to k
abbrev pub fields_to : List ℕ → ℕ → ℕ → List ℕ → List ℕ
fields_to rows j k l = part (place_of rows j) (place_of rows k + width_of rows k - place_of rows j) l

-- ---- the rows that are read by name: of VOL1

abbrev pub volume_row : ℕ
volume_row = 1

abbrev pub volume_access_row : ℕ
volume_access_row = 2

-- ---- of HDR1, EOV1 and EOF1

abbrev pub identifier_row : ℕ
identifier_row = 1

abbrev pub set_row : ℕ
set_row = 2

abbrev pub section_row : ℕ
section_row = 3

abbrev pub sequence_row : ℕ
sequence_row = 4

abbrev pub generation_row : ℕ
generation_row = 5

abbrev pub version_row : ℕ
version_row = 6

abbrev pub created_row : ℕ
created_row = 7

abbrev pub expires_row : ℕ
expires_row = 8

abbrev pub access_row : ℕ
access_row = 9

abbrev pub count_row : ℕ
count_row = 10

-- ---- of HDR2, EOV2 and EOF2

abbrev pub format_row : ℕ
format_row = 1

abbrev pub block_length_row : ℕ
block_length_row = 2

abbrev pub record_length_row : ℕ
record_length_row = 3

abbrev pub offset_row : ℕ
offset_row = 5
