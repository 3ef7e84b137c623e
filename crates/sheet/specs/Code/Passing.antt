-- What the functions below the number of a sheet answer: records passed one behind the other, and the files of a sheet.
use Rattle.std.specs.Prelude.{Bool, false, List, ℕ, Option, Some, None, ◌+◌, ◌-◌, ◌/◌, ◌%◌, min, eqb, length}
use Rattle.base.specs.If.{if_b}
use Rattle.base.specs.Format.{format_d}
use Rattle.base.specs.Sum.{sum}
use Rattle.label.specs.Made.{entry_length}
use Rattle.reading.specs.Legal.{legal_files}
use Rattle.sheet.specs.Flat.{in_parts, files_from}

-- the place behind records of lengths ls that stand from a place on, where the answer on them is yes
unfoldable pub passed : Bool → List ℕ → ℕ → Option ℕ
passed b ls from = if_b b (Some (from + sum ls)) None

-- the least length that is too long for a record of a D or S file with record length r
unfoldable pub too_long : ℕ → ℕ → ℕ
too_long f r = if_b (eqb f format_d) (min (r - 3) 9996) (r + 1)

-- the lengths add up to the bytes, and all files are legal
unfoldable pub fill_bytes : List ℕ → List ℕ → List ℕ → List ℕ → List ℕ → Bool
fill_bytes set files counts lengths bytes =
    if_b (eqb (sum lengths) (length bytes)) (legal_files set (files_from (in_parts entry_length files) counts lengths bytes)) false

-- counts and lengths add up, and there are files, all of them legal: the tests in the order in which they are made
unfoldable pub says_files : List ℕ → List ℕ → List ℕ → List ℕ → List ℕ → Bool
says_files set files counts lengths bytes =
    if_b (eqb (length files % entry_length) 0)
    (if_b (eqb (length files / entry_length) (length counts))
    (if_b (eqb (length counts) 0) false
    (if_b (eqb (sum counts) (length lengths)) (fill_bytes set files counts lengths bytes) false))
    false)
    false
