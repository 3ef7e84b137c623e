-- The next data block of a file, from a place between two items of its data on: the next part that is no section. A file that
-- begins ends the one before it.
-- Document 01, "What a reel holds, in order": behind the last block of a section stand a mark and the trailer labels; with EOV
-- the file goes on at the next reel, with EOF it ends.
use Rattle.std.specs.Prelude.{true, false, List, ℕ, Option, Some, None}
use Rattle.content.specs.declared.part.Part.{Part}
use Rattle.image.specs.Item.{Item}
use Rattle.order.specs.declared.Phase.{Phase}
use Rattle.content.specs.Part.{parts, first_in}
use Rattle.content.specs.declared.part.Part.TheVariants.{File, Section, Block}
use Rattle.content.specs.declared.part.Position.{Position}
use Rattle.content.specs.declared.section.Extent.{Extent}

-- a place in a file; the place of its HDR1 does not matter
abbrev pub in_file : Phase → ℕ → Position
in_file p at = record { at = at; hdr1 = 0; phase = p; continues = false }

-- a data block of n bytes from `start` on
abbrev pub extent : ℕ → ℕ → Option Extent
extent start n = Some (record { start = start; len = n })

-- a part as a data block
unfoldable pub as_block : Option Part → Option Extent
as_block (Some (File a b)) = None
as_block (Some (Section a b)) = None
as_block (Some (Block start n)) = extent start n
as_block None = None

-- the first of some parts that is no section
unfoldable pub block_in : List (Option Part) → Option Extent
block_in ps = as_block (first_in false true ps)

-- the place of the first byte of the next data block, and its length
unfoldable pub data_from : Phase → ℕ → List Item → Option Extent
data_from p at xs = block_in (parts (in_file p at) xs)
