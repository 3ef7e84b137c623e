-- The packing of a record, or of pieces of one: contracts.
use Rattle.std.specs.Prelude.{◌≡◌, Bool, true, false, List, ◌++◌, ℕ, ◌+◌, ◌-◌, ◌*◌, ◌≤◌, ◌<◌, min, ltb, length, drop}
use Rattle.base.specs.If.{if_b}
use Rattle.base.specs.Part.{part}
use Rattle.block.specs.Unit.{word_of}
use Rattle.writing.specs.Pack.{going, control_word}
use Rattle.block.specs.Room.{enters, taken, indicator_of}
use Rattle.writing.specs.Code.Room.{RoomEach}
use Rattle.writing.specs.Lay.{Sequel}
use Rattle.writer.specs.declared.pen.Pen.{Pen}
use Rattle.writer.specs.declared.pack.Flow.{Flow}
use Rattle.writer.specs.Code.Pass.{Job, PassEnd, EndsWithin, Sound, ink_at, UnitDue, between, within, penned}

-- ---- a block for a record

-- a record of which n bytes remain enters the block that is open, if one is
unfoldable pub enters_on : ℕ → ℕ → Bool → ℕ → ℕ → Bool
enters_on f b is_on u n = if_b is_on (enters f b u n) false

-- what is left of a record of which n bytes remain, and of the file, for which the buffer has room
pub record Wanted (f b : ℕ) (j : Job) (n : ℕ) (p : Pen) (o : List ℕ) : Type 0 where
  pub begun : ℕ
  pub first : List ℕ
  pub later : List (List ℕ)
  pub next : Sequel
  pub record_length : length first ≡ n
  pub room : RoomEach f b later
  pub fits : EndsWithin (penned true f b j p o (between (going begun first later)) next) (length o)

pub record Wanting (lay : Bool) (f b : ℕ) (j : Job) (n : ℕ) (p : Pen) (o : List ℕ) : Type 0 where
  pub sound : Sound j p
  pub given : p.short ≡ false
  pub most : b ≤ 99999
  pub enough : enters f b 0 n ≡ true
  pub ahead : lay ≡ true → Wanted f b j n p o

-- pen r is p in a block which the record enters; or a reel is lacking
pub record Blocked (lay : Bool) (f b : ℕ) (j : Job) (n : ℕ) (p : Pen) (o q : List ℕ) (r : Pen) : Type 0 where
  pub sound : Sound j r
  pub kept : length q ≡ length o
  pub untouched : lay ≡ false → q ≡ o
  pub on : r.short ≡ false → r.on ≡ true
  pub room : r.short ≡ false → enters f b r.used n ≡ true
  pub same : (t : ℕ) (x : List ℕ) (xs : List (List ℕ)) (next : Sequel) → length x ≡ n → RoomEach f b xs
      → penned lay f b j r q (between (going t x xs)) next ≡ penned lay f b j p o (between (going t x xs)) next

-- pen p with n bytes more in its block
abbrev pub more : Pen → ℕ → Pen
more p n =
    record { at = p.at; used = p.used + n; room = p.room; next = p.next; section = p.section; count = p.count; on = true; short = false }

-- ---- a record, or pieces of one

-- what is due: within a unit, of which k bytes are still to come, or between units; t is 1 where the record has a unit already
unfoldable pub due_of : Bool → ℕ → ℕ → List ℕ → List (List ℕ) → UnitDue
due_of is_in k t x xs = if_b is_in (within k x xs) (between (going t x xs))

-- 1 where a record has a unit already, else 0
abbrev pub number : Bool → ℕ
number true = 1
number false = 0

-- how the pass ends where x is left of the record
unfoldable pub flowed : Bool → ℕ → ℕ → Job → Flow → List ℕ → List ℕ → List (List ℕ) → Sequel → PassEnd
flowed lay f b j s o x xs next = penned lay f b j s.pen o (due_of s.inside s.seg (number s.begun) x xs) next

-- a unit that is over is the last of its record
abbrev pub Settled : Flow → Type 0
Settled s = s.inside ≡ true → s.seg ≡ 0 → s.left ≡ 0

-- the numbers of a flow in a piece of n bytes
pub record GoodFlow (f b n : ℕ) (s : Flow) : Type 0 where
  pub most : b ≤ 99999
  pub from : s.from ≤ n
  pub here : n ≤ s.left + s.from
  pub enough : s.inside ≡ false → enters f b 0 s.left ≡ true
  pub on : s.inside ≡ true → s.pen.on ≡ true
  pub seg : s.inside ≡ true → s.seg ≤ s.left
  pub split : s.inside ≡ true → (s.seg ≡ s.left → ⊥) → f ≡ 83
  pub sized : s.inside ≡ true → (s.seg ≡ s.left → ⊥) → 6 ≤ b
  pub fits : s.inside ≡ true → s.pen.used + s.seg ≤ b

-- the bytes of the record that are to come behind the piece, and what follows, for which the buffer has room
pub record Coming (f b : ℕ) (j : Job) (piece : List ℕ) (s : Flow) (o : List ℕ) : Type 0 where
  pub bytes : List ℕ
  pub later : List (List ℕ)
  pub next : Sequel
  pub record_length : s.left + s.from ≡ length piece + length bytes
  pub room : RoomEach f b later
  pub fits : EndsWithin (flowed true f b j s o (drop s.from piece ++ bytes) later next) (length o)

pub record Flowing (lay : Bool) (f b : ℕ) (j : Job) (piece : List ℕ) (s : Flow) (o : List ℕ) : Type 0 where
  pub sound : Sound j s.pen
  pub given : s.pen.short ≡ false
  pub good : GoodFlow f b (length piece) s
  pub ahead : lay ≡ true → Coming f b j piece s o

-- from flow s and buffer o to flow r and buffer q, nothing is lost
pub record FlowGoes (lay : Bool) (f b : ℕ) (j : Job) (piece : List ℕ) (s : Flow) (o q : List ℕ) (r : Flow) : Type 0 where
  pub sound : Sound j r.pen
  pub kept : length q ≡ length o
  pub untouched : lay ≡ false → q ≡ o
  pub good : r.pen.short ≡ false → GoodFlow f b (length piece) r
  pub total : r.left + r.from ≡ s.left + s.from
  pub same : (zs : List ℕ) (xs : List (List ℕ)) (next : Sequel) → s.left + s.from ≡ length piece + length zs → RoomEach f b xs
      → flowed lay f b j r q (drop r.from piece ++ zs) xs next ≡ flowed lay f b j s o (drop s.from piece ++ zs) xs next

-- a step whose code does not know the file: it goes, for whatever file
pub record DidPutPart (lay : Bool) (piece : List ℕ) (s : Flow) (o q : List ℕ) (r : Flow) : Type 0 where
  pub kept : length q ≡ length o
  pub from : r.from ≡ s.from + min s.seg (length piece - s.from)
  pub told : r.on ≡ ltb r.from (length piece)
  pub given : r.pen.short ≡ false
  pub settled : Settled r
  pub out : r.inside ≡ false → 0 < r.left
  pub goes : (f b : ℕ) (j : Job) → Flowing lay f b j piece s o → FlowGoes lay f b j piece s o q r

-- ---- a unit is begun

abbrev pub headed : ℕ → ℕ → Flow → Flow
headed f b s =
    record {
      pen = more s.pen (word_of f);
      left = s.left;
      seg = taken f b s.pen.used s.left;
      from = s.from;
      begun = s.begun;
      inside = true;
      on = true;
    }

pub record CanPutHead (lay : Bool) (f b : ℕ) (s : Flow) (size : ℕ) : Type 0 where
  pub enters : enters f b s.pen.used s.left ≡ true
  pub most : b ≤ 99999
  pub place : s.pen.at ≤ 1000000000000000
  pub room : lay ≡ true → s.pen.at + 3 + s.pen.used + word_of f ≤ size

pub record DidPutHead (lay : Bool) (f b : ℕ) (s : Flow) (o q : List ℕ) (r : Flow) : Type 0 where
  pub is : r ≡ headed f b s
  pub laid : q ≡ ink_at lay o (s.pen.at + 3 + s.pen.used)
      (control_word f (indicator_of (number s.begun) (taken f b s.pen.used s.left) s.left) (taken f b s.pen.used s.left))

-- ---- bytes of the open unit

abbrev pub many_of : ℕ → Flow → ℕ
many_of n s = min s.seg (n - s.from)

abbrev pub spelled : ℕ → Flow → Flow
spelled n s =
    record {
      pen = more s.pen (many_of n s);
      left = s.left - many_of n s;
      seg = s.seg - many_of n s;
      from = s.from + many_of n s;
      begun = s.begun;
      inside = true;
      on = ltb (s.from + many_of n s) n;
    }

-- a flow within a unit, in a piece of n bytes
pub record CanSpell (lay : Bool) (n : ℕ) (s : Flow) (size : ℕ) : Type 0 where
  pub inside : s.inside ≡ true
  pub given : s.pen.short ≡ false
  pub on : s.pen.on ≡ true
  pub from : s.from ≤ n
  pub here : n ≤ s.left + s.from
  pub seg : s.seg ≤ s.left
  pub fits : s.pen.used + s.seg ≤ 99999
  pub place : s.pen.at ≤ 1000000000000000
  pub room : lay ≡ true → s.pen.at + 3 + s.pen.used + many_of n s ≤ size

pub record DidSpell (lay : Bool) (piece : List ℕ) (s : Flow) (o q : List ℕ) (r : Flow) : Type 0 where
  pub is : r ≡ spelled (length piece) s
  pub laid : q ≡ ink_at lay o (s.pen.at + 3 + s.pen.used) (part s.from (many_of (length piece) s) piece)

-- how many turns a flow still takes in a piece of n bytes, at most: for each byte one within a unit, one that begins a unit, and
-- one that opens a block
unfoldable pub turns_in : ℕ → ℕ → ℕ → Flow → ℕ
turns_in f b n s = 3 * (n - s.from) + if_b s.inside 0 (if_b (enters_on f b s.pen.on s.pen.used s.left) 1 2)

-- a turn; the piece is over where r is off
pub record DidTakeTurn (lay : Bool) (f b : ℕ) (j : Job) (piece : List ℕ) (s : Flow) (o q : List ℕ) (r : Flow) : Type 0 where
  pub goes : FlowGoes lay f b j piece s o q r
  pub given : r.on ≡ true → r.pen.short ≡ false
  pub settled : r.pen.short ≡ false → Settled r
  pub falls : r.on ≡ true → turns_in f b (length piece) r < turns_in f b (length piece) s
  pub over : r.on ≡ false → r.pen.short ≡ false → r.from ≡ length piece
  pub out : r.on ≡ false → r.pen.short ≡ false → r.inside ≡ false → 0 < r.left

pub record CanPack (lay : Bool) (f b : ℕ) (j : Job) (piece : List ℕ) (s : Flow) (o : List ℕ) : Type 0 where
  pub flowing : Flowing lay f b j piece s o
  pub settled : Settled s

-- all of the piece is packed, or a reel is lacking
pub record DidPack (lay : Bool) (f b : ℕ) (j : Job) (piece : List ℕ) (s : Flow) (o q : List ℕ) (r : Flow) : Type 0 where
  pub goes : FlowGoes lay f b j piece s o q r
  pub settled : r.pen.short ≡ false → Settled r
  pub over : r.pen.short ≡ false → r.from ≡ length piece
  pub out : r.pen.short ≡ false → r.inside ≡ false → 0 < r.left
