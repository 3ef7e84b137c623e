-- A step of a walk over a file's records. Document 01, "Handing out records": a forward walk takes one step a record; from a
-- state that no walk reaches the same definition decides: no record where none, by the state's own format and lengths, stands at
-- its place.
--
-- A walk has the format, the record length (R, `record_length`) and the offset length of its file, the place of what is left of the
-- current block and how many bytes of it are left; with none left the place is that of the next item.
-- Read first: `record_at`, the record that stands there: whole, a part of the image; or split, the bytes of its segments; and the
-- walk behind it.
-- `rest_at` counts down a number that is large enough; `rest_at` (proofs/Rests.antt) is its equation.
use Rattle.std.specs.Prelude.{Bool, false, List, ◌++◌, ℕ, zero, suc, ◌+◌, ◌-◌, leb, eqb, length, drop, Option, Some, None, Result, Ok, Err}
use Rattle.content.specs.declared.Found.TheVariants.{InImage, Joined}
use Rattle.content.specs.declared.Found.{Found}
use Rattle.base.specs.If.{if_b}
use Rattle.base.specs.Part.{part, put_at, all_are}
use Rattle.image.specs.Item.{decode}
use Rattle.order.specs.declared.Phase.TheVariants.{Data}
use Rattle.block.specs.Unit.{unit_of, pad}
use Rattle.block.specs.declared.Unit.{Unit}
use Rattle.content.specs.Section.{data_from}
use Rattle.content.specs.declared.Walk.{Walk}
use Rattle.content.specs.declared.section.Extent.{Extent}
use Rattle.content.specs.declared.unit.Taken.{Taken}

-- the walk at another place, with so many bytes left there
abbrev pub moved : Walk → ℕ → ℕ → Walk
moved w at left = record { format = w.format; record_length = w.record_length; offset = w.offset; at = at; left = left }

-- what is left of the current block
unfoldable pub left_of : List ℕ → Walk → List ℕ
left_of s w = part w.at w.left s

unfoldable pub is_inside : List ℕ → Walk → Bool
is_inside s w = if_b (leb w.at (length s)) (leb w.left (length s - w.at)) false

-- ---- units

-- a unit with indicator i, whose n bytes stand from `start` on, and the walk behind it
abbrev pub taken_at : ℕ → ℕ → ℕ → Walk → Option Taken
taken_at i start n v = Some (record { indicator = i; start = start; len = n; behind = v })

-- a unit at the head of what is left: its indicator, where its record or segment starts and how long it is, and the walk behind
-- it
unfoldable pub taken : Walk → Option Unit → Option Taken
taken w (Some u) = taken_at u.indicator (w.at + u.word) u.len (moved w (w.at + u.word + u.len) (w.left - (u.word + u.len)))
taken w None = None

unfoldable pub unit_here : List ℕ → Walk → Option Taken
unit_here s w = taken w (unit_of w.format w.record_length (left_of s w))

-- a data block, with its offset bytes skipped
unfoldable pub opened : Walk → Option Extent → Option Walk
opened w (Some u) = if_b (leb w.offset u.len) (Some (moved w (u.start + w.offset) (u.len - w.offset))) None
opened w None = None

-- the next data block, where only padding is left of the current one
unfoldable pub block_next : List ℕ → Walk → Option Walk
block_next s w =
    if_b (all_are pad (left_of s w)) (opened w (data_from Data (w.at + w.left) (decode (drop (w.at + w.left) s)))) None

unfoldable pub unit_in : List ℕ → Option Walk → Option Taken
unit_in s (Some v) = unit_here s v
unit_in s None = None

-- the first unit of the next block
unfoldable pub unit_next : List ℕ → Walk → Option Taken
unit_next s w = unit_in s (block_next s w)

unfoldable pub or_next : Option Taken → Option Taken → Option Taken
or_next (Some u) t = Some u
or_next None t = t

-- the unit at the walk's place, be it in the current block or the next
unfoldable pub unit_from : List ℕ → Walk → Option Taken
unit_from s w = or_next (unit_here s w) (unit_next s w)

-- the first segment of the record at a walk's place, and the segment with which a record goes on, from any walk whatever
unfoldable pub first_segment : List ℕ → Walk → Option Taken
first_segment s w = if_b (is_inside s w) (unit_from s w) None

unfoldable pub next_segment : List ℕ → Walk → Option Taken
next_segment s w = if_b (is_inside s w) (unit_next s w) None

-- ---- records

-- the rest of a record that was begun: its bytes and the walk behind it
pub data Rest : Type 0 where
  ends : List ℕ → Walk → Rest
  fails : Rest

-- bytes before it
unfoldable pub before : List ℕ → Rest → Rest
before bs (ends cs v) = ends (bs ++ cs) v
before bs fails = fails

-- a unit that goes on with the record, which may have `room` bytes more: 2 goes on, 3 ends it
unfoldable pub rest_by : List ℕ → ℕ → Option Taken → (ℕ → Walk → Rest) → Rest
rest_by s room (Some u) rest =
    if_b (leb u.len room) (if_b (eqb u.indicator 3) (ends (part u.start u.len s) u.behind)
    (if_b (eqb u.indicator 2) (before (part u.start u.len s) (rest (room - u.len) u.behind)) fails)) fails
rest_by s room None rest = fails

unfoldable pub rest_f : ℕ → List ℕ → ℕ → Walk → Rest
rest_f zero s room w = fails
rest_f (suc f) s room w = rest_by s room (unit_next s w) (λ r v. rest_f f s r v)

-- each further segment is the first unit of the next block, of whatever section and reel
unfoldable pub rest_at : List ℕ → ℕ → Walk → Rest
rest_at s room w = rest_f (suc (length s)) s room w

-- a record and the walk behind it: one whole unit, by its place and length; or several segments, by their bytes
pub data Record : Type 0 where
  whole : ℕ → ℕ → Walk → Record
  split : List ℕ → Walk → Record
  nothing : Record

unfoldable pub split_by : List ℕ → Rest → Record
split_by bs (ends cs v) = split (bs ++ cs) v
split_by bs fails = nothing

-- the record that a unit begins, of at most r bytes: 0 is a whole one, 1 begins one
unfoldable pub begun_by : List ℕ → ℕ → Option Taken → Record
begun_by s r (Some u) =
    if_b (leb u.len r) (if_b (eqb u.indicator 0) (whole u.start u.len u.behind)
    (if_b (eqb u.indicator 1) (split_by (part u.start u.len s) (rest_at s (r - u.len) u.behind)) nothing)) nothing
begun_by s r None = nothing

-- the record at a walk's place; a record length of 0 is no walk's
unfoldable pub record_at : List ℕ → Walk → Record
record_at s w = if_b (eqb w.record_length 0) nothing (if_b (is_inside s w) (begun_by s w.record_length (unit_from s w)) nothing)

-- ---- the step

-- a step: the record and the walk behind it, or the refusal
abbrev pub Step : Type 0
Step = Result (Found × Walk) ℕ

-- number 10 exactly for a split record that is longer than the joining buffer, of `room` bytes
unfoldable pub step_by : ℕ → Record → Step
step_by room (whole start n v) = Ok (InImage start n, v)
step_by room (split bs v) = if_b (leb (length bs) room) (Ok (Joined (length bs), v)) (Err 10)
step_by room nothing = Err 13

-- what the joining buffer holds behind the step: the record's own bytes at its front, where it was joined
unfoldable pub join_by : List ℕ → Record → List ℕ
join_by old (whole start n v) = old
join_by old (split bs v) = if_b (leb (length bs) (length old)) (put_at old 0 bs) old
join_by old nothing = old

unfoldable pub step_at : List ℕ → ℕ → Walk → Step
step_at s room w = step_by room (record_at s w)

unfoldable pub join_at : List ℕ → List ℕ → Walk → List ℕ
join_at s old w = join_by old (record_at s w)
