-- The meaning of a set (a term of document 01): its set identifier and, per file in order, file identifier, generation, version,
-- both dates, format, B, R and the list of records; fields are compared as bytes. The dates are those of section 0001 (document
-- 02, P2).
use Rattle.std.specs.Prelude.{◌≡◌, List, [], ◌∷◌, ◌++◌, ℕ, eqb}
use Rattle.base.specs.If.{if_b}
use Rattle.label.specs.Table.{hdr1, hdr2, field, fields_to, identifier_row, generation_row, expires_row, format_row, record_length_row}
use Rattle.label.specs.Field.{set_of}
use Rattle.block.specs.Cut.{Segment}
use Rattle.image.specs.Framing.{items}
use Rattle.volume.specs.State.{start}
use Rattle.volume.specs.Step.{Event, begins, resumes, holds}
use Rattle.volume.specs.Run.{Run, ended, stopped, runs}
use Rattle.volume.specs.Accepted.{Accepted}

-- a file of a meaning: the 46 bytes of its fields as an order sheet has them (17 identifier, 4 generation, 2 version, 6 creation
-- date, 6 expiration date, 1 format, 5 B, 5 R), and its records
pub record File : Type 0 where
  pub fields : List ℕ
  pub records : List (List ℕ)

pub record Meaning : Type 0 where
  pub set : List ℕ
  pub files : List File

-- ---- records from segments

-- bytes put before the first record: the record goes on
unfoldable pub on_first : List ℕ → List (List ℕ) → List (List ℕ)
on_first bs [] = bs ∷ []
on_first bs (r ∷ rs) = (bs ++ r) ∷ rs

-- the records of a file's segments: 0 and 3 end a record, 1 and 2 go on
unfoldable pub joined : List Segment → List (List ℕ)
joined [] = []
joined (x ∷ xs) =
    if_b (eqb x.indicator 1) (on_first x.bytes (joined xs))
    (if_b (eqb x.indicator 2) (on_first x.bytes (joined xs)) (x.bytes ∷ joined xs))

-- ---- files from events

-- the segments before the next file, and the files from there on
pub record Collected : Type 0 where
  pub segments : List Segment
  pub files : List File

-- the fields of a file from its first HDR1 and HDR2: the file identifier, generation to expiration date, and format to record
-- length
unfoldable pub fields_from : List ℕ → List ℕ → List ℕ
fields_from f s =
    field hdr1 identifier_row f ++ (fields_to hdr1 generation_row expires_row f ++ fields_to hdr2 format_row record_length_row s)

unfoldable pub collect : List Event → Collected
collect [] = record { segments = []; files = [] }
collect (begins f s ∷ es) =
    record {
      segments = [];
      files = record { fields = fields_from f s; records = joined (collect es).segments } ∷
          (collect es).files;
    }
collect (resumes f s ∷ es) = collect es
collect (holds l xs ∷ es) = record { segments = xs ++ (collect es).segments; files = (collect es).files }

-- the set identifier: that of the first file
unfoldable pub set_from : List Event → List ℕ
set_from [] = []
set_from (begins f s ∷ es) = set_of f
set_from (resumes f s ∷ es) = set_from es
set_from (holds l xs ∷ es) = set_from es

unfoldable pub meaning_of : List Event → Meaning
meaning_of es = record { set = set_from es; files = (collect es).files }

-- what an image's items hand out, where it is not refused
unfoldable pub handed_out : Run → List Event
handed_out (ended es) = es
handed_out (stopped n i b) = []

unfoldable pub content : List ℕ → Meaning
content s = meaning_of (handed_out (runs start (items s)))

-- an image is an accepted set with this meaning
pub record Means (s : List ℕ) (m : Meaning) : Type 0 where
  pub accepted : Accepted s
  pub meaning : content s ≡ m
