-- What the reading of a set knows behind an item: contents and numbers, no places in the image.
use Rattle.std.specs.Prelude.{Bool, false, List, [], ℕ}
use Rattle.order.specs.declared.Phase.{Phase}
use Rattle.order.specs.declared.Phase.TheVariants.{Reel}

pub record State : Type 0 where
  -- where in the order of a reel
  pub phase : Phase
  -- the volume identifiers read so far, in order
  pub volumes : List (List ℕ)
  -- the files begun, counted at HDR2
  pub files : ℕ
  -- whether the next HDR1 goes on with a file: the last trailer was EOV
  pub continues : Bool
  -- the last HDR1 and the last HDR2, empty before the first
  pub hdr1 : List ℕ
  pub hdr2 : List ℕ
  -- the data blocks of this section so far
  pub count : ℕ
  -- 0, or one more than the bytes so far of the record that is not ended
  pub pending : ℕ

-- before the first item
unfoldable pub start : State
start = record { phase = Reel; volumes = []; files = 0; continues = false; hdr1 = []; hdr2 = []; count = 0; pending = 0 }
