-- The files of a set, one after the other: each by the places of its first HDR1 and HDR2, and the walk at its first record, which
-- stands at the data of the file's first section and has the format and lengths of that HDR2.
-- Document 01, "Handing out records": a walk covers one file; beginning it gives the image's own number, then 13.
-- Read first: `file_from`, the next file from a place on; `first_file` and `next_file` are that search from the beginning and from a
-- file on.
use Rattle.std.specs.Prelude.{false, List, [], ◌∷◌, ℕ, zero, suc, ◌+◌, ◌-◌, eqb, length, drop, Option, Some, None, Result, Ok, Err}
use Rattle.content.specs.declared.part.Part.{Part}
use Rattle.base.specs.declared.Verdict.{Verdict}
use Rattle.base.specs.If.{if_b}
use Rattle.base.specs.Part.{part}
use Rattle.base.specs.Answer.{verdict}
use Rattle.image.specs.Item.{Item, block, mark, reel_end, broken, decode}
use Rattle.order.specs.declared.Phase.TheVariants.{Reel, Header, Data}
use Rattle.label.specs.Field.{format_of, record_length_of, offset_of}
use Rattle.volume.specs.Fault.{value_of}
use Rattle.volume.specs.Run.{image_verdict}
use Rattle.content.specs.Part.{place_behind, parts, first_in}
use Rattle.content.specs.declared.part.Position.{Position}
use Rattle.content.specs.declared.part.Part.TheVariants.{File, Section, Block}
use Rattle.content.specs.declared.Walk.{Walk}
use Rattle.content.specs.declared.FileAt.{FileAt}

-- the place behind the mark that ends a group of labels
unfoldable pub mark_from : ℕ → List Item → ℕ
mark_from at [] = at
mark_from at (block l ∷ xs) = mark_from (place_behind at (block l)) xs
mark_from at (mark ∷ xs) = at + 3
mark_from at (reel_end ∷ xs) = at
mark_from at (broken ∷ xs) = at

-- a walk from a place between two items on, in a file with this HDR2
abbrev pub walk_from : List ℕ → ℕ → Walk
walk_from second at =
    record {
      format = format_of second;
      record_length = value_of (record_length_of second);
      offset = value_of (offset_of second);
      at = at;
      left = 0;
    }

-- a file by the places of its first HDR1 and HDR2
abbrev pub file_at : List ℕ → ℕ → ℕ → FileAt
file_at s hdr1 hdr2 =
    record { hdr1 = hdr1; hdr2 = hdr2; walk = walk_from (part hdr2 80 s) (mark_from (hdr2 + 80) (decode (drop (hdr2 + 80) s))) }

-- a part as a file
unfoldable pub as_file : List ℕ → Option Part → Option FileAt
as_file s (Some (File hdr1 hdr2)) = Some (file_at s hdr1 hdr2)
as_file s (Some (Section a b)) = None
as_file s (Some (Block start n)) = None
as_file s None = None

-- the first file of some parts
unfoldable pub file_in : List ℕ → List (Option Part) → Option FileAt
file_in s ps = as_file s (first_in false false ps)

-- the next file to begin from a place on
unfoldable pub file_from : List ℕ → Position → Option FileAt
file_from s c = file_in s (parts c (decode (drop c.at s)))

-- the first file; no HDR1 yet is a place past the end
unfoldable pub first_file : List ℕ → Option FileAt
first_file s = file_from s (record { at = 5; hdr1 = length s; phase = Reel; continues = false })

-- the file behind the one with its HDR1 and HDR2 at these places, from behind that HDR2 on
unfoldable pub next_file : List ℕ → ℕ → ℕ → Option FileAt
next_file s hdr1 hdr2 = file_from s (record { at = hdr2 + 80; hdr1 = hdr1; phase = Header 2; continues = false })

-- the file behind the one with its HDR1 at this place, from a place between two items of that file's data on
unfoldable pub file_behind : List ℕ → ℕ → ℕ → Option FileAt
file_behind s hdr1 at = file_from s (record { at = at; hdr1 = hdr1; phase = Data; continues = false })

-- ---- files by their numbers

-- what is found from a file on, where there is one
unfoldable pub from_file : Option FileAt → (FileAt → Option FileAt) → Option FileAt
from_file (Some f) rest = rest f
from_file None rest = None

-- the file k files behind one
unfoldable pub files_on : List ℕ → ℕ → FileAt → Option FileAt
files_on s zero f = Some f
files_on s (suc k) f = from_file (next_file s f.hdr1 f.hdr2) (λ g. files_on s k g)

-- file n, from 1
unfoldable pub file_numbered : List ℕ → ℕ → Option FileAt
file_numbered s n = if_b (eqb n 0) None (from_file (first_file s) (λ f. files_on s (n - 1) f))

unfoldable pub begun_by : Option FileAt → Result FileAt Verdict
begun_by (Some f) = Ok f
begun_by None = Err (verdict 13 0 0)

-- file n, with the walk at its first record
unfoldable pub begun_at : List ℕ → ℕ → Result FileAt Verdict
begun_at s n = if_b (eqb (image_verdict s).number 0) (begun_by (file_numbered s n)) (Err (image_verdict s))
