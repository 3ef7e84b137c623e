-- What stands at the head of what is left of a block, as the code tells it by one number.
use Rattle.std.specs.Prelude.{List, ℕ, ◌+◌, ◌-◌, ◌≤◌, leb, eqb, length, get_or, ◌≡◌, Option, None}
use Rattle.base.specs.If.{if_b}
use Rattle.content.specs.declared.Walk.{Walk}
use Rattle.content.specs.declared.unit.Taken.{Taken}
use Rattle.content.specs.Walk.{Record, is_inside, left_of, moved, whole, nothing, split, taken_at}
use Rattle.base.specs.Format.{format_s}
use Rattle.block.specs.Unit.{segment, length_of}
use Rattle.content.specs.Whole.{whole_in, at_block, stands_at}

abbrev pub whole_at : List ℕ → Walk → ℕ
whole_at s w = whole_in s (stands_at w.format w.record_length w.at w.left)

-- the bytes, with its control word, of the segment at the head of what is left of the current block of an S file, with `before`
-- bytes left of the block before it; 0 where there is none, or something is left there
unfoldable pub segment_in : List ℕ → ℕ → Walk → ℕ
segment_in s before w = if_b (eqb before 0) (if_b (eqb w.format format_s) (if_b (is_inside s w) (length_of (segment (left_of s w))) 0) 0) 0

-- the same where that segment has this digit as its indicator, and at most so many bytes
unfoldable pub turn_in : List ℕ → ℕ → ℕ → ℕ → Walk → ℕ
turn_in s before digit most w =
    if_b (eqb (segment_in s before w) 0) 0
    (if_b (eqb (get_or s w.at 0) digit) (if_b (leb (segment_in s before w - 5) most) (segment_in s before w) 0) 0)

-- the same where that segment, whose indicator is the digit 1, begins a record of at most R bytes
unfoldable pub begun_in : List ℕ → Walk → ℕ
begun_in s w = if_b (eqb w.record_length 0) 0 (turn_in s 0 49 w.record_length w)

-- k is that number, and not 0
pub record BegunAt (s : List ℕ) (w : Walk) (k : ℕ) : Type 0 where
  pub is : k ≡ begun_in s w
  pub some : k ≡ 0 → ⊥

-- a record of two segments: the first has k bytes, the second, which stands at the head h of the next block and ends it, has j
pub record TwoAt (s : List ℕ) (w : Walk) (k : ℕ) (h : Walk) (j : ℕ) : Type 0 where
  pub begun : BegunAt s w k
  pub head : h ≡ at_block s (moved w (w.at + k) (w.left - k))
  pub is : j ≡ turn_in s (w.left - k) 51 (w.record_length - (k - 5)) (stands_at h.format 0 h.at h.left)
  pub some : j ≡ 0 → ⊥

-- a record that is one unit, as the unit
unfoldable pub whole_by : Record → Option Taken
whole_by (whole start n v) = taken_at 0 start n v
whole_by (split bs v) = None
whole_by nothing = None

-- it does not run past the image
abbrev pub Inside : List ℕ → Walk → Type 0
Inside s w = w.at + w.left ≤ length s
