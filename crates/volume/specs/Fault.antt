-- The faults of one item that is due, beyond those of its label by itself. Document 01, "Cross-checks" (6), "Blocks and records"
-- (7, 8), the 65th file (9), and a record that is open at EOF1 (8).
-- Each kind of item has its fault; of two numbers the smaller goes first, and of two fields the one with the lower BP.
use Rattle.std.specs.Prelude.{Bool, true, false, List, [], ◌∷◌, ℕ, ◌+◌, eqb, leb, length, Option, Some, None}
use Rattle.base.specs.If.{if_b}
use Rattle.base.specs.Part.{part, same}
use Rattle.base.specs.Answer.{fault, or_else}
use Rattle.base.specs.declared.Fault.{Fault}
use Rattle.image.specs.Framing.{most_reels}
use Rattle.order.specs.Kind.{vol, hdr, eov, eof, data_block, is_kind}
use Rattle.order.specs.declared.Kind.{Kind}
use Rattle.label.specs.Field.{format_of, block_length_of, record_length_of, offset_of, volume_of, set_of, section_of, sequence_of, count_of}
use Rattle.label.specs.Table.{per_section, per_file, vol1, hdr1, hdr2, bp_of, volume_row, set_row, section_row, sequence_row, count_row}
use Rattle.label.specs.Judged.{label_fault, unequal_in}
use Rattle.block.specs.Turn.{block_outcome}
use Rattle.block.specs.declared.Outcome.{Outcome}
use Rattle.volume.specs.State.{State}

-- ---- numbers in fields

-- the field says n
unfoldable pub says : ℕ → Option ℕ → Bool
says n (Some m) = eqb m n
says n None = false

-- what a field says
unfoldable pub value_of : Option ℕ → ℕ
value_of (Some n) = n
value_of None = 0

-- ---- the lowest BP of several tests

-- the lower of two BPs, where 0 is none
unfoldable pub lower : ℕ → ℕ → ℕ
lower a b = if_b (eqb a 0) b (if_b (eqb b 0) a (if_b (leb a b) a b))

-- number 6 at a BP, or none
unfoldable pub crossed : ℕ → Fault
crossed bp = if_b (eqb bp 0) (fault 0 0) (fault 6 bp)

-- ---- the cross-checks, by kind of label

-- volume identifiers in a set differ from each other (house)
unfoldable pub is_among : List ℕ → List (List ℕ) → Bool
is_among v [] = false
is_among v (u ∷ us) = if_b (same v u) true (is_among v us)

-- the names at some places
unfoldable pub names_at : List ℕ → List ℕ → List (List ℕ)
names_at s [] = []
names_at s (a ∷ places) = part a 6 s ∷ names_at s places

-- A 17th reel is 2 by the framing, before any item is read; the same number here bounds the names that reading has to keep.
unfoldable pub volume_fault : List (List ℕ) → List ℕ → Fault
volume_fault names l =
    if_b (leb most_reels (length names)) (fault 2 0) (crossed (if_b (is_among (volume_of l) names) (bp_of vol1 volume_row) 0))

-- the first HDR1 of a file, behind `files` others of which `first` was the last HDR1: one set identifier throughout, section
-- 0001, sequence 0001 or one higher than that of the file before
unfoldable pub new_file_place : ℕ → List ℕ → List ℕ → ℕ
new_file_place files first l =
    if_b (if_b (eqb files 0) true (same (set_of l) (set_of first)))
    (if_b (says 1 (section_of l)) (if_b (says (files + 1) (sequence_of l)) 0 (bp_of hdr1 sequence_row)) (bp_of hdr1 section_row))
    (bp_of hdr1 set_row)

-- HDR1 of a later section: section one higher, and BP 5-27, 32-41 and 54 as in the section before (house)
unfoldable pub later_place : List ℕ → List ℕ → ℕ
later_place first l =
    lower (unequal_in per_file first l hdr1) (if_b (says (value_of (section_of first) + 1) (section_of l)) 0 (bp_of hdr1 section_row))

-- at most 64 files (house): the 65th is 9 at its HDR1
abbrev pub most_files : ℕ
most_files = 64

unfoldable pub file_fault : ℕ → Fault
file_fault files = if_b (leb most_files files) (fault 9 0) (fault 0 0)

unfoldable pub hdr1_fault : Bool → ℕ → List ℕ → List ℕ → Fault
hdr1_fault continues files first l =
    if_b continues (crossed (later_place first l)) (or_else (crossed (new_file_place files first l)) (file_fault files))

-- HDR2 of a later section: BP 5-15 and 51-52 as in the section before (house)
unfoldable pub hdr2_fault : Bool → List ℕ → List ℕ → Fault
hdr2_fault continues second l = if_b continues (crossed (unequal_in per_file second l hdr2)) (fault 0 0)

-- the first trailer label equals its header's; its count is the number of blocks of this section
unfoldable pub trailer1_fault : List ℕ → ℕ → List ℕ → Fault
trailer1_fault first count l =
    crossed (lower (unequal_in per_section first l hdr1) (if_b (says count (count_of l)) 0 (bp_of hdr1 count_row)))

-- no record may be open at EOF1
unfoldable pub open_fault : ℕ → Fault
open_fault pending = if_b (eqb pending 0) (fault 0 0) (fault 8 0)

unfoldable pub file_end_fault : List ℕ → ℕ → ℕ → List ℕ → Fault
file_end_fault first count pending l = or_else (trailer1_fault first count l) (open_fault pending)

-- the second trailer label equals its header's
unfoldable pub trailer2_fault : List ℕ → List ℕ → Fault
trailer2_fault second l = crossed (unequal_in per_section second l hdr2)

-- ---- data blocks

-- the answer on a data block, by the lengths that this section's HDR2 gives
unfoldable pub outcome_in : List ℕ → ℕ → List ℕ → Outcome
outcome_in second pending l =
    block_outcome (format_of second) (value_of (block_length_of second)) (value_of (record_length_of second))
    (value_of (offset_of second)) pending l

unfoldable pub block_fault : List ℕ → ℕ → List ℕ → Fault
block_fault second pending l = fault (outcome_in second pending l).number 0

-- ---- any item

-- the fault of an item of kind k and contents l against what was read before it
unfoldable pub context_fault : State → Kind → List ℕ → Fault
context_fault s k l =
    if_b (is_kind k data_block) (block_fault s.hdr2 s.pending l)
    (if_b (is_kind k (vol 1)) (volume_fault s.volumes l)
    (if_b (is_kind k (hdr 1)) (hdr1_fault s.continues s.files s.hdr1 l)
    (if_b (is_kind k (hdr 2)) (hdr2_fault s.continues s.hdr2 l)
    (if_b (is_kind k (eov 1)) (trailer1_fault s.hdr1 s.count l)
    (if_b (is_kind k (eof 1)) (file_end_fault s.hdr1 s.count s.pending l)
    (if_b (is_kind k (eov 2)) (trailer2_fault s.hdr2 l)
    (if_b (is_kind k (eof 2)) (trailer2_fault s.hdr2 l)
    (fault 0 0))))))))

-- its first fault: 4 and 5 of its label by itself, then the others
unfoldable pub item_fault : State → Kind → List ℕ → Fault
item_fault s k l = or_else (label_fault k l) (context_fault s k l)
