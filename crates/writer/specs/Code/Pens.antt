-- The steps of the pen: contracts.
use Rattle.std.specs.Prelude.{◌≡◌, Bool, true, false, List, [], ◌∷◌, ℕ, ◌+◌, ◌-◌, ◌≤◌, eqb, length}
use Rattle.base.specs.If.{if_b}
use Rattle.base.specs.Format.{format_f, format_d}
use Rattle.writing.specs.Lay.{Sequel}
use Rattle.writer.specs.declared.pen.Pen.{Pen}
use Rattle.writer.specs.Code.Pass.{Job, behind, EndsWithin, Sound, ends}

-- the most bytes of a unit beside its control word: what four digits can say, or a block can hold
unfoldable pub most_of : ℕ → ℕ
most_of f = if_b (eqb f format_f) 99999 (if_b (eqb f format_d) 9995 9994)

-- a block y is to be begun, and there is room in the buffer for it and all that follows
pub record RoomForBlock (j : Job) (p : Pen) (o : List ℕ) : Type 0 where
  pub first : List ℕ
  pub later : List (List ℕ)
  pub next : Sequel
  pub fits : EndsWithin (ends true j p o [] (first ∷ later) next) (length o)

-- a pen that may begin a block, if there is a reel for it
pub record CanOpen (lay : Bool) (j : Job) (p : Pen) (o : List ℕ) : Type 0 where
  pub sound : Sound j p
  pub given : p.short ≡ false
  pub ahead : lay ≡ true → RoomForBlock j p o

-- a pen whose block can be closed, in a buffer of that size
pub record CanClose (lay : Bool) (p : Pen) (size : ℕ) : Type 0 where
  pub used : p.used ≤ 99999
  pub place : p.at ≤ 1000000000000000
  pub room : lay ≡ true → p.on ≡ true → p.at + 3 + p.used ≤ size

-- pen r is p with its block closed
pub record DidClose (lay : Bool) (p : Pen) (o q : List ℕ) (r : Pen) : Type 0 where
  pub sound : (j : Job) → Sound j p → Sound j r
  pub kept : length q ≡ length o
  pub untouched : lay ≡ false → q ≡ o
  pub shut : r.on ≡ false
  pub short : r.short ≡ p.short
  pub place : r.at ≡ behind p.on p.at p.used
  pub room : r.room ≡ p.room
  pub count : r.count ≡ p.count
  pub same : (j : Job) (bs : List (List ℕ)) (next : Sequel) → ends lay j r q [] bs next ≡ ends lay j p o [] bs next

-- pen r, between blocks, is p on the next reel; or no name is left
pub record DidChange (lay : Bool) (j : Job) (p : Pen) (o q : List ℕ) (r : Pen) : Type 0 where
  pub sound : Sound j r
  pub kept : length q ≡ length o
  pub untouched : lay ≡ false → q ≡ o
  pub shut : r.on ≡ false
  pub room : r.short ≡ false → 1 ≤ r.room
  pub same : (y : List ℕ) (ys : List (List ℕ)) (next : Sequel) → ends lay j r q [] (y ∷ ys) next ≡ ends lay j p o [] (y ∷ ys) next

-- pen r is p with a new block open, in which nothing is written yet; or no name is left
pub record DidOpen (lay : Bool) (j : Job) (p : Pen) (o q : List ℕ) (r : Pen) : Type 0 where
  pub sound : Sound j r
  pub kept : length q ≡ length o
  pub untouched : lay ≡ false → q ≡ o
  pub ready : r.short ≡ false → r.on ≡ true
  pub empty : r.short ≡ false → r.used ≡ 0
  pub same : (y : List ℕ) (ys : List (List ℕ)) (next : Sequel) → ends lay j r q y ys next ≡ ends lay j p o [] (y ∷ ys) next

-- pen p, between blocks, with a new block open
abbrev pub opened : Pen → Pen
opened p =
    record { at = p.at; used = 0; room = p.room - 1; next = p.next; section = p.section; count = p.count + 1; on = true; short = false }
