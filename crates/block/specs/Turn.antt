-- The turns of segments, and the answer on one data block. Document 01, "Blocks and records": 0 is a whole record, 1 begins one,
-- 2 goes on, 3 ends it. A 1 or 2 is the last unit of its block; the next block of that file begins with 2 or 3. Nowhere else may
-- 2 or 3 stand. A record, whole or joined, is at most R bytes. In one block 7 goes before 8, wherever the bad unit stands.
--
-- What is open is 0, or one more than the bytes of the open record so far. A 2 or a 3 stands only at the head of a block and only
-- where something is open; a 0 or a 1 only where nothing is. So no unit can follow a 1 or a 2 in its block.
-- Units of F and D have indicator 0 and at most R bytes, so the same turns hold of them.
use Rattle.std.specs.Prelude.{Bool, true, false, List, [], ◌∷◌, ℕ, ◌+◌, ◌-◌, leb, eqb, length, Option, Some, None}
use Rattle.base.specs.If.{if_b}
use Rattle.block.specs.Cut.{Segment, units}
use Rattle.block.specs.declared.Outcome.{Outcome}

unfoldable pub outcome : ℕ → ℕ → Outcome
outcome number pending = record { number = number; pending = pending }

-- a segment with indicator i and n bytes may stand here: at the head of its block or not, with o open
unfoldable pub is_turn : ℕ → ℕ → Bool → ℕ → ℕ → Bool
is_turn r o head i n = if_b (leb i 1) (if_b (eqb o 0) (leb n r) false) (if_b head (if_b (eqb o 0) false (leb (o - 1 + n) r)) false)

-- what is open behind it
unfoldable pub open_after : ℕ → ℕ → ℕ → ℕ
open_after o i n = if_b (eqb i 1) (n + 1) (if_b (eqb i 2) (o + n) 0)

-- number 8, or 0 and what is open behind the block
unfoldable pub turns_from : ℕ → ℕ → Bool → List Segment → Outcome
turns_from r o head [] = outcome 0 o
turns_from r o head (x ∷ xs) =
    if_b (is_turn r o head x.indicator (length x.bytes))
    (turns_from r (open_after o x.indicator (length x.bytes)) false xs)
    (outcome 8 0)

-- number 7 where the block, or what is left of it, cannot be cut
unfoldable pub turned : ℕ → ℕ → Bool → Option (List Segment) → Outcome
turned r o head None = outcome 7 0
turned r o head (Some xs) = turns_from r o head xs

-- the answer on a block, in a file of format f, block length b, record length r and offset length o, with q open
unfoldable pub block_outcome : ℕ → ℕ → ℕ → ℕ → ℕ → List ℕ → Outcome
block_outcome f b r o q s = turned r q true (units f b r o s)
