-- A file laid down with its labels: contracts.
use Rattle.std.specs.Prelude.{◌≡◌, Bool, true, false, List, ℕ, ◌+◌, ◌≤◌, length}
use Rattle.image.specs.Item.{encode}
use Rattle.reading.specs.Legal.{format_from, block_length_from}
use Rattle.writing.specs.Pack.{finished, blocks_of}
use Rattle.writing.specs.Code.Room.{RoomEach}
use Rattle.writing.specs.Lay.{Reel, Laid, put, Sequel, rest}
use Rattle.sections.specs.Section.{headers}
use Rattle.writer.specs.declared.pen.Pen.{Pen}
use Rattle.writer.specs.declared.source.Cursor.{Cursor}
use Rattle.writer.specs.declared.body.Body.{Body}
use Rattle.writer.specs.Code.Pass.{Job, job, reels_at, ink_at, PassEnd, behind, laid_from, EndsWithin, BetweenFiles, Sound, between, penned}
use Rattle.writer.specs.Code.Pens.{CanClose}
use Rattle.writer.specs.Code.Source.{records_of, end_at, GoodCursor}

-- ---- the beginning

pub record CanBegin (lay : Bool) (p : Pen) (size : ℕ) : Type 0 where
  pub place : p.at ≤ 1000000000000000
  pub room : lay ≡ true → p.at + 169 ≤ size

-- pen p behind the header labels of a file
abbrev pub begun : Pen → Pen
begun p = record { at = p.at + 169; used = 0; room = p.room; next = p.next; section = 1; count = 0; on = false; short = false }

pub record DidBegin (lay : Bool) (set e : List ℕ) (sequence : ℕ) (p : Pen) (o q : List ℕ) (r : Pen) : Type 0 where
  pub is : r ≡ begun p
  pub laid : q ≡ ink_at lay o p.at (encode (headers set e 1 sequence))
  pub kept : length q ≡ length o

-- ---- the end

pub record CanEnd (lay : Bool) (p : Pen) (size : ℕ) : Type 0 where
  pub closable : CanClose lay p size
  pub room : lay ≡ true → behind p.on p.at p.used + 172 ≤ size

-- pen r is p behind the trailer labels of the file
pub record DidEnd (lay : Bool) (set e : List ℕ) (sequence : ℕ) (p : Pen) (o q : List ℕ) (r : Pen) : Type 0 where
  pub sound : (rooms names : List ℕ) → Sound (job set e sequence rooms names) p → sequence ≤ 64
      → BetweenFiles rooms names sequence r
  pub kept : length q ≡ length o
  pub untouched : lay ≡ false → q ≡ o
  pub shut : r.on ≡ false
  pub given : r.short ≡ false
  pub same : (f b : ℕ) (rooms names : List ℕ) (next : Sequel) → p.short ≡ false
      → laid_from lay r q (next r.room (reels_at rooms names r.next))
      ≡ penned lay f b (job set e sequence rooms names) p o (between finished) next

-- the same behind the body of a file, unless a reel is lacking
pub record CanPutEnd (lay : Bool) (x : Body) (size : ℕ) : Type 0 where
  pub endable : x.pen.short ≡ false → CanEnd lay x.pen size

pub record DidPutEnd (lay : Bool) (set e : List ℕ) (sequence : ℕ) (x : Body) (o q : List ℕ) (r : Body) : Type 0 where
  pub kept : length q ≡ length o
  pub end : r.end ≡ x.end
  pub lacks : x.pen.short ≡ true → (q ≡ o) × (r.pen ≡ x.pen)
  pub given : x.pen.short ≡ false → DidEnd lay set e sequence x.pen o q r.pen

-- ---- the whole file

-- a file with its labels, and then what follows
unfoldable pub file_laid : Job → ℕ → List Reel → List (List ℕ) → Sequel → Laid
file_laid j room reels xs next =
    put (headers j.set j.entry 1 j.sequence)
    (rest j.set j.entry j.sequence 1 0 room reels
    (blocks_of (format_from j.entry) (block_length_from j.entry) xs) next)

-- how the pass ends from a pen before the file on, with these records and then what follows
unfoldable pub filed_from : Bool → Job → Pen → List ℕ → List (List ℕ) → Sequel → PassEnd
filed_from lay j p o xs next = laid_from lay p o (file_laid j p.room (reels_at j.rooms j.names p.next) xs next)

-- how it ends from a pen behind the file on
unfoldable pub next_from : Bool → List ℕ → List ℕ → Pen → List ℕ → Sequel → PassEnd
next_from lay rooms names p o next = laid_from lay p o (next p.room (reels_at rooms names p.next))

-- what follows the file, for which the buffer has room behind these records
pub record RoomForFile (j : Job) (xs : List (List ℕ)) (p : Pen) (o : List ℕ) : Type 0 where
  pub next : Sequel
  pub fits : EndsWithin (filed_from true j p o xs next) (length o)

-- a file can be laid, of which n are before it
pub record CanPutFile (lay : Bool) (j : Job) (lengths bytes : List ℕ) (c : Cursor) (p : Pen) (o : List ℕ) : Type 0 where
  pub before : ℕ
  pub turn : before + 1 ≡ j.sequence
  pub few : j.sequence ≤ 64
  pub sound : BetweenFiles j.rooms j.names before p
  pub given : p.short ≡ false
  pub most : block_length_from j.entry ≤ 99999
  pub good : GoodCursor lengths bytes c
  pub room : RoomEach (format_from j.entry) (block_length_from j.entry) (records_of lengths bytes c)
  pub ahead : lay ≡ true → RoomForFile j (records_of lengths bytes c) p o

-- it was laid; or a reel is lacking
pub record DidPutFile (lay : Bool) (j : Job) (lengths bytes : List ℕ) (c : Cursor) (p : Pen) (o q : List ℕ) (r : Body) : Type 0 where
  pub sound : r.pen.short ≡ false → BetweenFiles j.rooms j.names j.sequence r.pen
  pub kept : length q ≡ length o
  pub untouched : lay ≡ false → q ≡ o
  pub end : r.pen.short ≡ false → r.end ≡ end_at lengths bytes c
  pub same : (next : Sequel)
      → next_from lay j.rooms j.names r.pen q next ≡ filed_from lay j p o (records_of lengths bytes c) next
