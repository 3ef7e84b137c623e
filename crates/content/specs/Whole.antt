-- The record that stands whole in what is left of the current block, or at the head of the next: most records do, and one number
-- tells them.
-- `record_whole` (proofs/Wholes.antt) says that it is the record at the walk's place. And the segment that stands there, which
-- one number tells as well.
use Rattle.std.specs.Prelude.{List, ℕ, ◌+◌, ◌-◌, leb, eqb, drop}
use Rattle.base.specs.If.{if_b}
use Rattle.image.specs.Item.{shape}
use Rattle.image.specs.declared.Shape.{Shape}
use Rattle.image.specs.declared.Shape.TheVariants.{Block, Mark, ReelEnd, Broken}
use Rattle.block.specs.Unit.{unit_of, whole_of}
use Rattle.content.specs.Walk.{moved, left_of, is_inside}
use Rattle.content.specs.declared.Walk.{Walk}

-- the walk in the block at its place, behind the offset bytes
unfoldable pub head_by : Walk → Shape → Walk
head_by w (Block n) = if_b (leb w.offset n) (moved w (w.at + 3 + w.offset) (n - w.offset)) w
head_by w Mark = w
head_by w ReelEnd = w
head_by w Broken = w

-- the walk at the head of the next block, where nothing is left of the current one and a block stands there
unfoldable pub at_block : List ℕ → Walk → Walk
at_block s w = if_b (eqb w.left 0) (head_by w (shape (drop w.at s))) w

-- the walk of these numbers; the offset length has no part in what follows
abbrev pub stands_at : ℕ → ℕ → ℕ → ℕ → Walk
stands_at format record_length at left = record { format = format; record_length = record_length; offset = 0; at = at; left = left }

-- the bytes, with its control word, of the whole record at the head of what is left of the current block; 0 where there is none
unfoldable pub whole_in : List ℕ → Walk → ℕ
whole_in s w = if_b (eqb w.record_length 0) 0 (if_b (is_inside s w) (whole_of w.record_length (unit_of w.format w.record_length (left_of s w))) 0)
