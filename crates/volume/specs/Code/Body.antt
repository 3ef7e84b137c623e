-- Reading on between the marks around the data blocks of a section: what of a state changes there, and what does not.
use Rattle.std.specs.Prelude.{◌≡◌, List, ℕ, ◌≤◌, length, drop}
use Rattle.image.specs.Item.{decode}
use Rattle.image.specs.Framing.{most_image}
use Rattle.order.specs.declared.Phase.TheVariants.{Data}
use Rattle.label.specs.Field.{format_of, block_length_of, record_length_of, offset_of}
use Rattle.volume.specs.declared.blocks.Lengths.{Lengths}
use Rattle.volume.specs.declared.blocks.Between.{Between}
use Rattle.volume.specs.State.{State}
use Rattle.volume.specs.Fault.{value_of}
use Rattle.volume.specs.Code.Told.{told_from}
use Rattle.base.specs.declared.Verdict.{Verdict}

-- state s between two data blocks, with so many blocks counted and so much pending
abbrev pub body : State → ℕ → ℕ → State
body s count pending =
    record {
      phase = Data;
      volumes = s.volumes;
      files = s.files;
      continues = s.continues;
      hdr1 = s.hdr1;
      hdr2 = s.hdr2;
      count = count;
      pending = pending;
    }

-- the lengths are those of this HDR2
pub record Given (h : Lengths) (second : List ℕ) : Type 0 where
  pub format : h.format ≡ format_of second
  pub block : h.block ≡ value_of (block_length_of second)
  pub record_length : h.record_length ≡ value_of (record_length_of second)
  pub offset : h.offset ≡ value_of (offset_of second)

abbrev pub between : ℕ → ℕ → ℕ → ℕ → Between
between at item count pending = record { at = at; item = item; count = count; pending = pending }

-- the verdict from a place between two blocks on
unfoldable pub told_between : List ℕ → State → Between → Verdict
told_between s t b = told_from b.item (body t b.count b.pending) (decode (drop b.at s))

-- a place of an image that is not too long; each item before it took a byte or more, and each block is an item
pub record PlaceInside (s : List ℕ) (at item count : ℕ) : Type 0 where
  pub short : length s ≤ most_image
  pub within : at ≤ length s
  pub items : item ≤ at
  pub blocks : count ≤ item

-- whatever else the state holds, reading on from the second place gives the verdict that reading on from the first one gives
pub record DidSkip (s : List ℕ) (h : Lengths) (a b : Between) : Type 0 where
  pub same : (t : State) → Given h t.hdr2 → told_between s t a ≡ told_between s t b
  pub onward : a.at ≤ b.at
  pub passed : a.item ≤ b.item
  pub inside : PlaceInside s b.at b.item b.count
