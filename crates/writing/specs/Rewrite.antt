-- Rewriting. Document 01, "Meaning, and the one way to write it": rewriting an accepted set is the writer on the sheet with its
-- meaning and the given quota and names; the reading numbers go first, then 9, 11, 12, 14, 10 with place 0.
use Rattle.std.specs.Prelude.{List, ℕ, eqb}
use Rattle.base.specs.If.{if_b}
use Rattle.base.specs.Answer.{verdict}
use Rattle.output.specs.Output.{Result, refused_with, placed}
use Rattle.volume.specs.Run.{image_verdict}
use Rattle.volume.specs.Meaning.{content}
use Rattle.reading.specs.Legal.{Sheet}
use Rattle.sheet.specs.Flat.{in_parts, reels_number}
use Rattle.writing.specs.Write.{write_sheet}

-- the sheet of an image's meaning
unfoldable pub sheet_from : List ℕ → ℕ → List ℕ → Sheet
sheet_from s quota names = record { meaning = content s; quota = quota; names = in_parts 6 names }

unfoldable pub rewrite : List ℕ → ℕ → List ℕ → List ℕ → Result
rewrite s quota names out =
    if_b (eqb (image_verdict s).number 0)
    (if_b (eqb (reels_number quota names) 0) (placed (write_sheet (sheet_from s quota names) out))
    (refused_with (verdict (reels_number quota names) 0 0) out))
    (refused_with (image_verdict s) out)
