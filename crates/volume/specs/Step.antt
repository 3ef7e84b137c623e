-- One item read: refused with its number and byte, or the next state and what it hands out.
-- Between the marks around the data blocks every block is data; elsewhere a block is a label, or not due (3, never 4).
use Rattle.std.specs.Prelude.{Bool, true, false, List, [], ◌∷◌, ◌++◌, ℕ, ◌+◌, eqb, Option, Some, None}
use Rattle.base.specs.If.{if_b}
use Rattle.base.specs.declared.Fault.{Fault}
use Rattle.image.specs.Item.{Item, block, mark, reel_end, broken}
use Rattle.order.specs.Kind.{other, vol, hdr, eov, eof, data_block, tape_mark, end_of_reel, is_kind}
use Rattle.order.specs.Due.{due_after}
use Rattle.order.specs.declared.Kind.{Kind}
use Rattle.order.specs.declared.Phase.{Phase}
use Rattle.label.specs.Name.{kind_of}
use Rattle.label.specs.Field.{format_of, block_length_of, record_length_of, offset_of, volume_of}
use Rattle.block.specs.Cut.{Segment, units}
use Rattle.volume.specs.State.{State}
use Rattle.volume.specs.Fault.{item_fault, outcome_in, value_of}

-- what reading hands out: a file begins, with its first HDR1 and HDR2; a later section of it begins, with its own HDR1 and HDR2;
-- a data block of it, with its bytes as they stand on the reel and its segments
pub data Event : Type 0 where
  begins : List ℕ → List ℕ → Event
  resumes : List ℕ → List ℕ → Event
  holds : List ℕ → List Segment → Event

-- ---- what an item is

unfoldable pub is_due : Option Phase → Bool
is_due (Some p) = true
is_due None = false

-- where a data block is due, a block is data
unfoldable pub kind_in : Phase → Item → Kind
kind_in p (block l) = if_b (is_due (due_after p data_block)) data_block (kind_of l)
kind_in p mark = tape_mark
kind_in p reel_end = end_of_reel
kind_in p broken = other

unfoldable pub bytes_in : Item → List ℕ
bytes_in (block l) = l
bytes_in mark = []
bytes_in reel_end = []
bytes_in broken = []

-- ---- the state behind an item of kind k and contents l, field by field

unfoldable pub volumes_after : State → Kind → List ℕ → List (List ℕ)
volumes_after s k l = if_b (is_kind k (vol 1)) (s.volumes ++ (volume_of l ∷ [])) s.volumes

unfoldable pub files_after : State → Kind → ℕ
files_after s k = if_b (is_kind k (hdr 2)) (if_b s.continues s.files (s.files + 1)) s.files

unfoldable pub continues_after : State → Kind → Bool
continues_after s k = if_b (is_kind k (eov 1)) true (if_b (is_kind k (eof 1)) false s.continues)

unfoldable pub hdr1_after : State → Kind → List ℕ → List ℕ
hdr1_after s k l = if_b (is_kind k (hdr 1)) l s.hdr1

unfoldable pub hdr2_after : State → Kind → List ℕ → List ℕ
hdr2_after s k l = if_b (is_kind k (hdr 2)) l s.hdr2

unfoldable pub count_after : State → Kind → ℕ
count_after s k = if_b (is_kind k data_block) (s.count + 1) (if_b (is_kind k (hdr 1)) 0 s.count)

unfoldable pub pending_after : State → Kind → List ℕ → ℕ
pending_after s k l = if_b (is_kind k data_block) (outcome_in s.hdr2 s.pending l).pending s.pending

unfoldable pub state_after : State → Phase → Kind → List ℕ → State
state_after s p k l =
    record {
      phase = p;
      volumes = volumes_after s k l;
      files = files_after s k;
      continues = continues_after s k;
      hdr1 = hdr1_after s k l;
      hdr2 = hdr2_after s k l;
      count = count_after s k;
      pending = pending_after s k l;
    }

-- ---- what an item hands out

unfoldable pub segments_of : Option (List Segment) → List Segment
segments_of None = []
segments_of (Some xs) = xs

-- the segments of a data block, by the lengths that this section's HDR2 gives
unfoldable pub segments_in : State → List ℕ → List Segment
segments_in s l =
    segments_of (units (format_of s.hdr2) (value_of (block_length_of s.hdr2)) (value_of (record_length_of s.hdr2))
    (value_of (offset_of s.hdr2)) l)

-- a data block; at HDR2 a section, which begins a file or goes on with one
unfoldable pub events_of : State → Kind → List ℕ → List Event
events_of s k l =
    if_b (is_kind k data_block) (holds l (segments_in s l) ∷ [])
    (if_b (is_kind k (hdr 2)) (if_b s.continues (resumes s.hdr1 l) (begins s.hdr1 l) ∷ []) [])

-- ---- the step

pub data Next : Type 0 where
  go : State → List Event → Next
  no : ℕ → ℕ → Next

-- an item that is due goes on where it has no fault
unfoldable pub judged : State → Phase → Kind → List ℕ → Fault → Next
judged s p k l f = if_b (eqb f.number 0) (go (state_after s p k l) (events_of s k l)) (no f.number f.byte)

-- one that is not due is 3
unfoldable pub ordered : State → Kind → List ℕ → Option Phase → Next
ordered s k l (Some p) = judged s p k l (item_fault s k l)
ordered s k l None = no 3 0

unfoldable pub step : State → Item → Next
step s x = ordered s (kind_in s.phase x) (bytes_in x) (due_after s.phase (kind_in s.phase x))
