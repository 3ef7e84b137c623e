-- The records of a file that are left from a cursor on. There are two sources: the slices of an order sheet, and an accepted
-- image, in which a record may stand in several segments. Whoever packs the records knows of a cursor only these, and where the
-- file ends.
use Rattle.std.specs.Prelude.{◌≡◌, false, List, [], ◌∷◌, ℕ, ◌+◌, ◌-◌, ◌≤◌, Option, Some, None, length, drop}
use Rattle.base.specs.If.{if_b}
use Rattle.base.specs.Part.{part}
use Rattle.base.specs.Sum.{sum, cut_by}
use Rattle.content.specs.Walk.{record_at}
use Rattle.content.specs.Measure.{measured_by}
use Rattle.content.specs.Code.Joining.{record_bytes}
use Rattle.content.specs.Walked.{end_of}
use Rattle.content.specs.Records.{records_at}
use Rattle.content.specs.declared.Walk.{Walk}
use Rattle.content.specs.declared.measuring.Measured.TheVariants.{Split}
use Rattle.writer.specs.declared.source.Cursor.{Cursor}
use Rattle.writer.specs.declared.source.Found.{Found}
use Rattle.writer.specs.declared.source.Shape.{Shape}
use Rattle.writer.specs.declared.source.Shape.TheVariants.{Piece, Segments}

-- the walk of an image's cursor
abbrev pub walk_of : Cursor → Walk
walk_of c = record { format = c.format; record_length = c.record_length; offset = c.offset; at = c.at; left = c.left }

-- a cursor further on in its file
abbrev pub moved_to : Cursor → ℕ → ℕ → Cursor
moved_to c at left =
    record { at = at; left = left; stop = c.stop; offset = c.offset; record_length = c.record_length; format = c.format; image = c.image }

-- the lengths of the records that are left on a sheet
unfoldable pub lengths_at : List ℕ → Cursor → List ℕ
lengths_at lengths c = part (c.stop - c.left) c.left lengths

-- the records that are left
unfoldable pub records_of : List ℕ → List ℕ → Cursor → List (List ℕ)
records_of lengths bytes c = if_b c.image (records_at bytes (walk_of c)) (cut_by (lengths_at lengths c) (drop c.at bytes))

-- where the file ends, and where it ends if no record is left
unfoldable pub end_at : List ℕ → List ℕ → Cursor → ℕ
end_at lengths bytes c = if_b c.image (end_of bytes (walk_of c)) (c.at + sum (lengths_at lengths c))

unfoldable pub stop_of : Cursor → ℕ
stop_of c = if_b c.image (c.at + c.left) c.at

-- a cursor within its source
pub record GoodCursor (lengths bytes : List ℕ) (c : Cursor) : Type 0 where
  pub order : c.image ≡ false → c.left ≤ c.stop
  pub within : c.image ≡ false → c.stop ≤ length lengths
  pub inside : end_at lengths bytes c ≤ length bytes

-- ---- the next record

-- the bytes of an image's record that stands in several segments
unfoldable pub split_bytes : List ℕ → Cursor → List ℕ
split_bytes bytes c = record_bytes (record_at bytes (walk_of c))

-- such a record, of n bytes, stands at a cursor
pub record SplitHere (bytes : List ℕ) (c : Cursor) (n : ℕ) : Type 0 where
  pub behind : Walk
  pub is : Some (Split n behind) ≡ measured_by (record_at bytes (walk_of c))

-- a record of n bytes, by how it stands
abbrev pub standing : List ℕ → Cursor → ℕ → Shape → List ℕ
standing bytes c n (Piece from) = part from n bytes
standing bytes c n Segments = split_bytes bytes c

-- the record that was found
abbrev pub found_bytes : List ℕ → Cursor → Found → List ℕ
found_bytes bytes c r = standing bytes c r.len r.shape

-- it stands there
abbrev pub Stands : List ℕ → Cursor → ℕ → Shape → Type 0
Stands bytes c n (Piece from) = from + n ≤ length bytes
Stands bytes c n Segments = SplitHere bytes c n

-- no record is left
pub record NoneLeft (lengths bytes : List ℕ) (c : Cursor) : Type 0 where
  pub none : records_of lengths bytes c ≡ []
  pub over : stop_of c ≡ end_at lengths bytes c

-- the next record is r
pub record IsNext (lengths bytes : List ℕ) (c : Cursor) (r : Found) : Type 0 where
  pub one : records_of lengths bytes c ≡ found_bytes bytes c r ∷ records_of lengths bytes (moved_to c r.at r.left)
  pub good : GoodCursor lengths bytes (moved_to c r.at r.left)
  pub end : end_at lengths bytes (moved_to c r.at r.left) ≡ end_at lengths bytes c
  pub stands : Stands bytes c r.len r.shape

-- the next record was found, or there is none
abbrev pub DidFind : List ℕ → List ℕ → Cursor → Option Found → Type 0
DidFind lengths bytes c None = NoneLeft lengths bytes c
DidFind lengths bytes c (Some r) = IsNext lengths bytes c r
