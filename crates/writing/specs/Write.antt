-- Writing an order sheet as an image. Document 01, "Numbers given back": 9, 11, 12, 14, 10, all with place 0; bytes behind the
-- image stay; a refusal changes no lent byte.
use Rattle.std.specs.Prelude.{List, ◌++◌, ℕ, eqb, leb, length}
use Rattle.base.specs.If.{if_b}
use Rattle.output.specs.Output.{Written, refused, fitted}
use Rattle.image.specs.Item.{encode}
use Rattle.image.specs.Framing.{head, most_image}
use Rattle.reading.specs.Legal.{Sheet}
use Rattle.sheet.specs.Flat.{Flat, sheet_of, sheet_number}
use Rattle.writing.specs.Lay.{Laid, laid, short, lay}

-- an image into a lent buffer: 14 where it is over the limit, 10 where the buffer is too short
unfoldable pub stored : List ℕ → List ℕ → Written
stored image out = if_b (leb (length image) most_image) (fitted image out) (refused 14 out)

unfoldable pub stored_laid : Laid → List ℕ → Written
stored_laid (laid xs) out = stored (head ++ encode xs) out
stored_laid short out = refused 12 out

-- writing a sheet that is legal
unfoldable pub write_sheet : Sheet → List ℕ → Written
write_sheet s out = stored_laid (lay s) out

-- the slices of a sheet
abbrev pub flat : List ℕ → List ℕ → List ℕ → List ℕ → List ℕ → ℕ → List ℕ → Flat
flat set files counts lengths bytes quota names =
    record { set = set; files = files; counts = counts; lengths = lengths; bytes = bytes; quota = quota; names = names }

-- writing a flat sheet
unfoldable pub write : Flat → List ℕ → Written
write x out = if_b (eqb (sheet_number x) 0) (write_sheet (sheet_of x) out) (refused (sheet_number x) out)
