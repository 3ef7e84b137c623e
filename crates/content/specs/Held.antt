-- What a file holds, in numbers: what each of its data blocks holds, added up, on whatever reels they stand; and the place behind
-- the last of them.
-- Document 02, P13: a total is the sum of the numbers that the definitions give.
-- `held_f` counts down a number that is large enough; `held_block` and `held_over` (proofs/Helds.antt) are the equations of
-- `held_from`.
use Rattle.std.specs.Prelude.{List, ℕ, zero, suc, ◌+◌, ◌<◌, length, drop, Option, Some, None}
use Rattle.base.specs.Part.{part}
use Rattle.image.specs.Item.{decode}
use Rattle.order.specs.declared.Phase.TheVariants.{Data}
use Rattle.block.specs.Held.{empty, held_in, total}
use Rattle.block.specs.declared.Held.{Held}
use Rattle.content.specs.Section.{data_from}
use Rattle.content.specs.declared.Walk.{Walk}
use Rattle.content.specs.declared.holding.FileHeld.{FileHeld}
use Rattle.content.specs.declared.section.Extent.{Extent}

-- two parts of a file together
abbrev pub plus : Held → Held → Held
plus a b =
    record {
      records = a.records + b.records;
      bytes = a.bytes + b.bytes;
      words = a.words + b.words;
      padding = a.padding + b.padding;
      offset = a.offset + b.offset;
    }

-- the numbers fit a register
pub record InRegister (h : Held) : Type 0 where
  pub records : h.records < 18446744073709551616
  pub bytes : total h < 18446744073709551616

-- so much before the rest
abbrev pub adding : Held → FileHeld → FileHeld
adding h x = record { held = plus h x.held; end = x.end }

-- a data block, and what is found behind it; without one the data ends at place `at`
unfoldable pub held_by : List ℕ → ℕ → ℕ → ℕ → ℕ → Option Extent → (ℕ → FileHeld) → FileHeld
held_by s f r o at (Some u) rest = adding (held_in f r o (part u.start u.len s)) (rest (u.start + u.len))
held_by s f r o at None rest = record { held = empty; end = at }

unfoldable pub held_f : ℕ → List ℕ → ℕ → ℕ → ℕ → ℕ → FileHeld
held_f zero s f r o at = record { held = empty; end = at }
held_f (suc k) s f r o at = held_by s f r o at (data_from Data at (decode (drop at s))) (λ b. held_f k s f r o b)

-- what the data blocks from a place between two items on hold, in a file of format f, record length r and offset length o
unfoldable pub held_from : List ℕ → ℕ → ℕ → ℕ → ℕ → FileHeld
held_from s f r o at = held_f (suc (length s)) s f r o at

-- what the file of a walk holds from the walk's place on, which is that of an item
unfoldable pub file_held : List ℕ → Walk → FileHeld
file_held s w = held_from s w.format w.record_length w.offset w.at
