-- The line of a file by the places where its labels stand in the image, and what its blocks hold.
use Rattle.std.specs.Prelude.{List, ◌++◌, ℕ}
use Rattle.base.specs.Part.{part}
use Rattle.base.specs.Digits.{digits}
use Rattle.label.specs.Table.{field, hdr1, hdr2, identifier_row, format_row}
use Rattle.block.specs.declared.Held.{Held}
use Rattle.content.specs.declared.FileAt.{FileAt}
use Rattle.listing.specs.Text.{named, counted}

unfoldable pub described_at : List ℕ → FileAt → Held → List ℕ
described_at s f x =
    named (field hdr1 identifier_row (part f.hdr1 80 s)) (field hdr2 format_row (part f.hdr2 80 s)) ++
    counted x.records x.bytes

unfoldable pub line_at : List ℕ → ℕ → FileAt → Held → List ℕ
line_at s n f x = digits 4 n ++ described_at s f x
