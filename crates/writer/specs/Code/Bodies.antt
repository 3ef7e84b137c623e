-- The records of a file packed into blocks: contracts.
use Rattle.std.specs.Prelude.{◌≡◌, Bool, true, false, List, ℕ, ◌≤◌, length}
use Rattle.writing.specs.Pack.{finished, start_of}
use Rattle.block.specs.Room.{enters}
use Rattle.writing.specs.Code.Room.{RoomEach}
use Rattle.writing.specs.Lay.{Sequel}
use Rattle.writer.specs.declared.pen.Pen.{Pen}
use Rattle.writer.specs.declared.source.Cursor.{Cursor}
use Rattle.writer.specs.declared.source.Found.{Found}
use Rattle.writer.specs.declared.body.Body.{Body}
use Rattle.writer.specs.Code.Pass.{Job, EndsWithin, Sound, between, penned}
use Rattle.writer.specs.Code.Source.{records_of, end_at, GoodCursor, Stands, found_bytes}
use Rattle.writer.specs.Code.Records.{RoomBehind}

-- the record that was found at a cursor can be packed
pub record CanTake (lay : Bool) (f b : ℕ) (j : Job) (bytes : List ℕ) (c : Cursor) (r : Found) (p : Pen)
    (o : List ℕ) : Type 0 where
  pub sound : Sound j p
  pub given : p.short ≡ false
  pub most : b ≤ 99999
  pub enough : enters f b 0 r.len ≡ true
  pub stands : Stands bytes c r.len r.shape
  pub ahead : lay ≡ true → RoomBehind f b j (found_bytes bytes c r) p o

-- whatever follows the file, for which the buffer has room behind these records
pub record Followed (f b : ℕ) (j : Job) (xs : List (List ℕ)) (p : Pen) (o : List ℕ) : Type 0 where
  pub next : Sequel
  pub fits : EndsWithin (penned true f b j p o (between (start_of xs)) next) (length o)

-- all records from a cursor on can be packed
pub record CanPutRecords (lay : Bool) (f b : ℕ) (j : Job) (lengths bytes : List ℕ) (c : Cursor) (p : Pen) (o : List ℕ) : Type 0 where
  pub sound : Sound j p
  pub given : p.short ≡ false
  pub most : b ≤ 99999
  pub good : GoodCursor lengths bytes c
  pub room : RoomEach f b (records_of lengths bytes c)
  pub ahead : lay ≡ true → Followed f b j (records_of lengths bytes c) p o

-- they were packed, up to the open block, which is not closed; or a reel is lacking
pub record DidPutRecords (lay : Bool) (f b : ℕ) (j : Job) (lengths bytes : List ℕ) (c : Cursor) (p : Pen) (o q : List ℕ)
    (r : Body) : Type 0 where
  pub sound : Sound j r.pen
  pub kept : length q ≡ length o
  pub untouched : lay ≡ false → q ≡ o
  pub end : r.pen.short ≡ false → r.end ≡ end_at lengths bytes c
  pub same : (next : Sequel)
      → penned lay f b j r.pen q (between finished) next
      ≡ penned lay f b j p o (between (start_of (records_of lengths bytes c))) next
