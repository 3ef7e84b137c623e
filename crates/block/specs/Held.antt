-- What one data block holds, in numbers. Document 02, P13: data bytes split exactly into record, control word, padding and offset
-- bytes.
-- A record counts in the block in which it ends; a block that cannot be cut holds nothing that counts.
-- `held_adds` (proofs/Helds.antt): the four kinds of bytes of a block that can be cut add up to its length.
use Rattle.std.specs.Prelude.{◌≡◌, List, map, ℕ, ◌+◌, ◌-◌, ◌*◌, ◌≤◌, eqb, length, drop, Option, Some, None}
use Rattle.base.specs.If.{if_b}
use Rattle.base.specs.Sum.{sum}
use Rattle.block.specs.Unit.{word_of}
use Rattle.block.specs.Cut.{Segment, cut, some_units}
use Rattle.block.specs.declared.Held.{Held}

-- the records that end with a unit of indicator i: with 1 and 2 a record goes on in a later block
unfoldable pub ends_with : ℕ → ℕ
ends_with i = if_b (eqb i 1) 0 (if_b (eqb i 2) 0 1)

unfoldable pub records_ending : List Segment → ℕ
records_ending xs = sum (map (λ (x : Segment). ends_with x.indicator) xs)

unfoldable pub segment_bytes : List Segment → ℕ
segment_bytes xs = sum (map (λ (x : Segment). length x.bytes) xs)

abbrev pub empty : Held
empty = record { records = 0; bytes = 0; words = 0; padding = 0; offset = 0 }

-- what a block of l bytes holds: o offset bytes, then u units with control words of w bytes, in which n records end, and b bytes
-- of records
abbrev pub holding : ℕ → ℕ → ℕ → ℕ → ℕ → ℕ → Held
holding w o l u n b = record { records = n; bytes = b; words = u * w; padding = l - (o + u * w + b); offset = o }

unfoldable pub held_by : ℕ → ℕ → ℕ → Option (List Segment) → Held
held_by w o l None = empty
held_by w o l (Some xs) = holding w o l (length xs) (records_ending xs) (segment_bytes xs)

-- what a block holds, in a file of format f, record length r and offset length o
unfoldable pub held_in : ℕ → ℕ → ℕ → List ℕ → Held
held_in f r o s = held_by (word_of f) o (length s) (some_units (cut f r (drop o s)))

-- the bytes of all four kinds
abbrev pub total : Held → ℕ
total h = h.bytes + h.words + h.padding + h.offset

-- ---- the walk of the code over the units of a block

-- u units with control words of w bytes stand behind o offset bytes, up to place `at`
pub record Reached (s : List ℕ) (o at w u : ℕ) : Type 0 where
  pub words : o + u * w ≤ at
  pub within : (u ≡ 0 → ⊥) → at ≤ length s
