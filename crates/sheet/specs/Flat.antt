-- The order sheet as flat slices that a caller fills: the set identifier; 46 bytes a file; a count of records for each file; a
-- length for each record; the records' bytes one behind the other; the quota; 6 bytes a reel name.
use Rattle.std.specs.Prelude.{Bool, false, List, [], ◌∷◌, ℕ, zero, suc, ◌*◌, ◌/◌, ◌%◌, eqb, ltb, length, take, drop}
use Rattle.base.specs.If.{if_b}
use Rattle.base.specs.Sum.{sum, cut_by}
use Rattle.image.specs.Framing.{most_reels}
use Rattle.label.specs.Made.{entry_length}
use Rattle.volume.specs.Fault.{most_files}
use Rattle.volume.specs.Meaning.{File}
use Rattle.reading.specs.Legal.{Sheet, legal_quota, legal_names, legal_sheet}

pub record Flat : Type 0 where
  pub set : List ℕ
  pub files : List ℕ
  pub counts : List ℕ
  pub lengths : List ℕ
  pub bytes : List ℕ
  pub quota : ℕ
  pub names : List ℕ

-- a list cut into parts of w elements, a shorter one last: `in_parts` counts down the length
unfoldable pub in_parts_f : ℕ → ℕ → List ℕ → List (List ℕ)
in_parts_f zero w s = []
in_parts_f (suc k) w [] = []
in_parts_f (suc k) w (x ∷ xs) = take w (x ∷ xs) ∷ in_parts_f k w (drop w (x ∷ xs))

unfoldable pub in_parts : ℕ → List ℕ → List (List ℕ)
in_parts w s = in_parts_f (length s) w s

-- files from their entries, counts, lengths and bytes
unfoldable pub files_from : List (List ℕ) → List ℕ → List ℕ → List ℕ → List File
files_from [] cs ls bs = []
files_from (e ∷ es) [] ls bs = []
files_from (e ∷ es) (c ∷ cs) ls bs =
    record { fields = e; records = cut_by (take c ls) bs } ∷ files_from es cs (drop c ls) (drop (sum (take c ls)) bs)

-- counts and lengths add up
unfoldable pub adds_up : Flat → Bool
adds_up x =
    if_b (eqb (length x.files) (entry_length * length x.counts))
    (if_b (eqb (sum x.counts) (length x.lengths))
    (if_b (eqb (sum x.lengths) (length x.bytes))
    (eqb (length x.names % 6) 0)
    false)
    false)
    false

unfoldable pub sheet_of : Flat → Sheet
sheet_of x =
    record {
      meaning = record { set = x.set; files = files_from (in_parts entry_length x.files) x.counts x.lengths x.bytes };
      quota = x.quota;
      names = in_parts 6 x.names;
    }

-- 9: a 65th file or a 17th name; 11: not legal; else 0
unfoldable pub sheet_number : Flat → ℕ
sheet_number x =
    if_b (ltb most_files (length x.files / entry_length)) 9
    (if_b (ltb most_reels (length x.names / 6)) 9
    (if_b (adds_up x) (if_b (legal_sheet (sheet_of x)) 0 11) 11))

-- the same for the quota and the names alone, as rewriting is given them: 9: a 17th name; 11: not legal; else 0
unfoldable pub reels_number : ℕ → List ℕ → ℕ
reels_number quota names =
    if_b (ltb most_reels (length names / 6)) 9
    (if_b (eqb (length names % 6) 0) (if_b (legal_quota quota) (if_b (legal_names (in_parts 6 names)) 0 11) 11) 11)
