-- The labels that the writer makes. Document 01, "Meaning, and the one way to write it": every field not given is SPACEs.
-- A label is its fields laid end to end, each cut or filled with SPACEs to the width that its table gives.
use Rattle.std.specs.Prelude.{List, [], ◌∷◌, ◌++◌, ℕ, ◌*◌, take, drop, replicate}
use Rattle.base.specs.Digits.{digits}
use Rattle.label.specs.Name.{vol1_name}
use Rattle.label.specs.Table.{field, vol1, hdr1, hdr2, identifier_row, generation_row, version_row, created_row, expires_row, format_row, block_length_row, record_length_row}

-- bs as a field of width w
unfoldable pub fitted : ℕ → List ℕ → List ℕ
fitted w bs = take w (bs ++ replicate w 32)

-- fields laid end to end by the widths of a table; those that are missing are SPACEs
unfoldable pub laid : List ℕ → List (List ℕ) → List ℕ
laid [] fs = []
laid (w ∷ []) fs = []
laid (w ∷ r ∷ []) fs = []
laid (w ∷ r ∷ s ∷ rows) [] = fitted w [] ++ laid rows []
laid (w ∷ r ∷ s ∷ rows) (f ∷ fs) = fitted w f ++ laid rows fs

-- VOL1 with a volume identifier
unfoldable pub made_volume : List ℕ → List ℕ
made_volume id = laid vol1 (vol1_name ∷ id ∷ [] ∷ [] ∷ [] ∷ [] ∷ [] ∷ (52 ∷ []) ∷ [])

-- ---- the entry of a file on an order sheet: eight fields as its labels have them

-- row k of a table
abbrev pub row_of : List ℕ → ℕ → List ℕ
row_of rows k = take 3 (drop (3 * k) rows)

-- the table of an entry
abbrev pub entry : List ℕ
entry =
    row_of hdr1 identifier_row ++ row_of hdr1 generation_row ++ row_of hdr1 version_row ++ row_of hdr1 created_row ++
    row_of hdr1 expires_row ++ row_of hdr2 format_row ++ row_of hdr2 block_length_row ++ row_of hdr2 record_length_row

-- its bytes
abbrev pub entry_length : ℕ
entry_length = 46

abbrev pub identifier_in : List ℕ → List ℕ
identifier_in file = field entry 0 file

abbrev pub generation_in : List ℕ → List ℕ
generation_in file = field entry 1 file

abbrev pub version_in : List ℕ → List ℕ
version_in file = field entry 2 file

abbrev pub created_in : List ℕ → List ℕ
created_in file = field entry 3 file

abbrev pub expires_in : List ℕ → List ℕ
expires_in file = field entry 4 file

abbrev pub format_in : List ℕ → List ℕ
format_in file = field entry 5 file

abbrev pub block_length_in : List ℕ → List ℕ
block_length_in file = field entry 6 file

abbrev pub record_length_in : List ℕ → List ℕ
record_length_in file = field entry 7 file

-- HDR1, EOV1 or EOF1: the set identifier, the file's entry, section, sequence and block count
unfoldable pub made_first : List ℕ → List ℕ → List ℕ → ℕ → ℕ → ℕ → List ℕ
made_first name set file section sequence count =
    laid hdr1
    (name ∷ identifier_in file ∷ set ∷ digits 4 section ∷ digits 4 sequence ∷ generation_in file ∷ version_in file ∷ created_in file ∷
    expires_in file ∷ [] ∷ digits 6 count ∷ [])

-- HDR2, EOV2 or EOF2: the file's entry, offset length 00
unfoldable pub made_second : List ℕ → List ℕ → List ℕ
made_second name file = laid hdr2 (name ∷ format_in file ∷ block_length_in file ∷ record_length_in file ∷ [] ∷ digits 2 0 ∷ [])
