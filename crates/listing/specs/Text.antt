-- The listing of a set. Document 01, "One whole set": a heading, and for each file a line with its sequence number, its
-- identifier in 17 columns, its format, its records and its record bytes; counts have no leading zeros. Of a refused set one line
-- says the number and its place.
-- Each line ends with a newline (docs/DECISIONS.md).
use Rattle.std.specs.Prelude.{List, [], ◌∷◌, ◌++◌, map, ℕ, ◌+◌, eqb, length}
use Prim.Native.String.{String}
use Rattle.base.specs.If.{if_b}
use Rattle.base.specs.Digits.{digits}
use Rattle.base.specs.declared.Verdict.{Verdict}
use Rattle.base.specs.Sum.{sum}
use Rattle.output.specs.Text.{bytes}
use Rattle.label.specs.Made.{identifier_in, format_in}
use Rattle.volume.specs.Run.{image_verdict}
use Rattle.volume.specs.Meaning.{File, Meaning, content}
use Rattle.listing.specs.Decimal.{decimal}

abbrev pub newline : List ℕ
newline = 10 ∷ []

unfoldable pub heading : List ℕ
heading = bytes "SEQ FILE              FMT RECORDS BYTES" ++ newline

-- a number behind some words
abbrev pub said : String → ℕ → List ℕ
said words n = bytes words ++ decimal n

-- ---- a line

-- identifier and format
unfoldable pub named : List ℕ → List ℕ → List ℕ
named identifier format = bytes " " ++ identifier ++ bytes " " ++ format

-- the number of records, and of their bytes
unfoldable pub counted : ℕ → ℕ → List ℕ
counted records size = said " " records ++ said " " size ++ newline

unfoldable pub described : File → List ℕ
described d =
    named (identifier_in d.fields) (format_in d.fields) ++ counted (length d.records) (sum (map length d.records))

-- file n, from 1
unfoldable pub line : ℕ → File → List ℕ
line n d = digits 4 n ++ described d

unfoldable pub lines : ℕ → List File → List ℕ
lines n [] = []
lines n (d ∷ ds) = line n d ++ lines (n + 1) ds

-- ---- the text

unfoldable pub listing_of : Meaning → List ℕ
listing_of m = heading ++ lines 1 m.files

-- the place of a refusal
unfoldable pub placed : ℕ → ℕ → List ℕ
placed item byte = said " at item " item ++ said " byte " byte ++ newline

unfoldable pub refusal_line : Verdict → List ℕ
refusal_line v = said "refused " v.number ++ placed v.item v.byte

unfoldable pub text_of : List ℕ → List ℕ
text_of s = if_b (eqb (image_verdict s).number 0) (listing_of (content s)) (refusal_line (image_verdict s))
