-- A record that stands in one piece, packed into blocks: contracts.
use Rattle.std.specs.Prelude.{◌≡◌, Bool, true, false, List, ◌++◌, ℕ, ◌+◌, ◌≤◌, Option, Some, None, length}
use Rattle.base.specs.Part.{part}
use Rattle.block.specs.Unit.{word_of}
use Rattle.writing.specs.Pack.{going, start_of, control_word}
use Rattle.block.specs.Room.{enters, taken}
use Rattle.writing.specs.Code.Room.{RoomEach}
use Rattle.writing.specs.Lay.{Sequel}
use Rattle.writer.specs.declared.pen.Pen.{Pen}
use Rattle.writer.specs.declared.source.Cursor.{Cursor}
use Rattle.writer.specs.Code.Pens.{most_of}
use Rattle.writer.specs.Code.Pass.{Job, EndsWithin, Sound, ink_at, between, penned}
use Rattle.writer.specs.Code.Packs.{enters_on, more, Wanting, Blocked}
use Rattle.writer.specs.Code.Source.{split_bytes, SplitHere}

-- a record of n bytes goes whole into the block that is open
pub record GoesIn (f b : ℕ) (is_on : Bool) (u n : ℕ) : Type 0 where
  pub on : is_on ≡ true
  pub small : n ≤ most_of f
  pub enters : enters f b u n ≡ true
  pub whole : taken f b u n ≡ n

-- or it does not enter that, and goes whole into the next, for which the reel has room
pub record GoesNext (f b : ℕ) (is_on : Bool) (u left n : ℕ) : Type 0 where
  pub some : 1 ≤ left
  pub small : n ≤ most_of f
  pub full : enters_on f b is_on u n ≡ false
  pub enters : enters f b 0 n ≡ true
  pub whole : taken f b 0 n ≡ n

-- a whole record can be written
pub record CanPutWhole (lay : Bool) (f : ℕ) (bytes : List ℕ) (from n : ℕ) (p : Pen) (size : ℕ) : Type 0 where
  pub inside : from + n ≤ length bytes
  pub small : n ≤ most_of f
  pub fits : p.used + (word_of f + n) ≤ 99999
  pub place : p.at ≤ 1000000000000000
  pub room : lay ≡ true → p.at + 3 + p.used + (word_of f + n) ≤ size

pub record DidPutWhole (lay : Bool) (f : ℕ) (bytes : List ℕ) (from n : ℕ) (p : Pen) (o q : List ℕ) (r : Pen) : Type 0 where
  pub is : r ≡ more p (word_of f + n)
  pub laid : q ≡ ink_at lay o (p.at + 3 + p.used) (control_word f 0 n ++ part from n bytes)

-- records and whatever follows the file, for which the buffer has room
pub record RoomBehind (f b : ℕ) (j : Job) (x : List ℕ) (p : Pen) (o : List ℕ) : Type 0 where
  pub later : List (List ℕ)
  pub next : Sequel
  pub room : RoomEach f b later
  pub fits : EndsWithin (penned true f b j p o (between (going 0 x later)) next) (length o)

pub record CanPutRecord (lay : Bool) (f b : ℕ) (j : Job) (bytes : List ℕ) (from n : ℕ) (p : Pen) (o : List ℕ) : Type 0 where
  pub sound : Sound j p
  pub given : p.short ≡ false
  pub most : b ≤ 99999
  pub inside : from + n ≤ length bytes
  pub enough : enters f b 0 n ≡ true
  pub ahead : lay ≡ true → RoomBehind f b j (part from n bytes) p o

-- a record was packed; or a reel is lacking
pub record DidPutRecord (lay : Bool) (f b : ℕ) (j : Job) (x : List ℕ) (p : Pen) (o q : List ℕ) (r : Pen) : Type 0 where
  pub sound : Sound j r
  pub kept : length q ≡ length o
  pub untouched : lay ≡ false → q ≡ o
  pub same : (xs : List (List ℕ)) (next : Sequel) → RoomEach f b xs
      → penned lay f b j r q (between (start_of xs)) next ≡ penned lay f b j p o (between (going 0 x xs)) next

-- a record of n bytes of some file
pub record CanQuickBlock (lay : Bool) (f b n : ℕ) (p : Pen) (o : List ℕ) : Type 0 where
  pub file : Job
  pub can : Wanting lay f b file n p o

-- pen r is in a block which the record enters whole
pub record EntersWhole (lay : Bool) (f b : ℕ) (j : Job) (n : ℕ) (p : Pen) (o q : List ℕ) (r : Pen) : Type 0 where
  pub blocked : Blocked lay f b j n p o q r
  pub given : r.short ≡ false
  pub whole : taken f b r.used n ≡ n

-- pen r is in the block for a record that goes whole into the open block or into the next of this reel
pub record GoesWhole (lay : Bool) (f b n : ℕ) (p : Pen) (o q : List ℕ) (r : Pen) : Type 0 where
  pub kept : length q ≡ length o
  pub small : n ≤ most_of f
  pub whole : (j : Job) → Wanting lay f b j n p o → EntersWhole lay f b j n p o q r

-- such a block; for any other record nothing was done
abbrev pub DidQuickBlock : Bool → ℕ → ℕ → ℕ → Pen → List ℕ → List ℕ → Option Pen → Type 0
DidQuickBlock lay f b n p o q None = q ≡ o
DidQuickBlock lay f b n p o q (Some r) = GoesWhole lay f b n p o q r

-- ---- a record in several segments

-- a record of an image of n bytes, which stands at a cursor in several segments, can be packed
pub record CanSplit (lay : Bool) (f b : ℕ) (j : Job) (bytes : List ℕ) (c : Cursor) (n : ℕ) (p : Pen) (o : List ℕ) : Type 0 where
  pub sound : Sound j p
  pub given : p.short ≡ false
  pub most : b ≤ 99999
  pub split : SplitHere bytes c n
  pub enough : enters f b 0 n ≡ true
  pub ahead : lay ≡ true → RoomBehind f b j (split_bytes bytes c) p o
