-- The order sheet (a term of document 01): a meaning, a quota of data blocks a reel and 1 to 16 reel names; and which sheets are
-- legal (number 11 else). A field, a name or a record is legal exactly where an accepted set written this way could hold it: a
-- field where the label that the writer makes of it has no fault, by the same judgement as on reading.
use Rattle.std.specs.Prelude.{Bool, true, false, not, List, [], ◌∷◌, ◌++◌, ℕ, ◌+◌, eqb, leb, length, get_or}
use Rattle.base.specs.If.{if_b}
use Rattle.base.specs.Part.{all_are}
use Rattle.base.specs.Format.{format_f, format_d}
use Rattle.base.specs.declared.Fault.{Fault}
use Rattle.charset.specs.Number.{number_in}
use Rattle.image.specs.Framing.{most_reels}
use Rattle.order.specs.Kind.{vol, hdr}
use Rattle.label.specs.Name.{hdr1_name, hdr2_name}
use Rattle.label.specs.Judged.{label_fault}
use Rattle.label.specs.Table.{place_of}
use Rattle.label.specs.Made.{entry, entry_length, made_volume, made_first, made_second, block_length_in, record_length_in}
use Rattle.block.specs.Unit.{pad}
use Rattle.volume.specs.Fault.{is_among, value_of, most_files}
use Rattle.volume.specs.Meaning.{File, Meaning}

pub record Sheet : Type 0 where
  pub meaning : Meaning
  pub quota : ℕ
  pub names : List (List ℕ)

-- ---- the numbers of a file's entry

unfoldable pub format_from : List ℕ → ℕ
format_from e = get_or e (place_of entry 5) 0

unfoldable pub block_length_from : List ℕ → ℕ
block_length_from e = value_of (number_in (block_length_in e))

unfoldable pub record_length_from : List ℕ → ℕ
record_length_from e = value_of (number_in (record_length_in e))

-- ---- legality

-- the label has no fault by itself
unfoldable pub is_sound : Fault → Bool
is_sound f = eqb f.number 0

-- the set identifier and a file's entry: the header labels made of them have no fault
unfoldable pub legal_entry : List ℕ → List ℕ → Bool
legal_entry set e =
    if_b (eqb (length set) 6)
    (if_b (eqb (length e) entry_length)
    (if_b (is_sound (label_fault (hdr 1) (made_first hdr1_name set e 1 1 0))) (is_sound (label_fault (hdr 2) (made_second hdr2_name e))) false)
    false)
    false

-- a record in a file of format f and record length r. F: R bytes, not all of them 5E. D: with its control word at most R, and at
-- most the 9,999 that four digits can say. S: at most R.
unfoldable pub legal_record : ℕ → ℕ → List ℕ → Bool
legal_record f r x =
    if_b (eqb f format_f) (if_b (eqb (length x) r) (not (all_are pad x)) false)
    (if_b (eqb f format_d) (if_b (leb (length x + 4) r) (leb (length x + 4) 9999) false)
    (leb (length x) r))

unfoldable pub legal_records : ℕ → ℕ → List (List ℕ) → Bool
legal_records f r [] = true
legal_records f r (x ∷ xs) = if_b (legal_record f r x) (legal_records f r xs) false

unfoldable pub legal_file : List ℕ → File → Bool
legal_file set d =
    if_b (legal_entry set d.fields) (legal_records (format_from d.fields) (record_length_from d.fields) d.records) false

unfoldable pub legal_files : List ℕ → List File → Bool
legal_files set [] = true
legal_files set (d ∷ ds) = if_b (legal_file set d) (legal_files set ds) false

-- one file or more, at most 64 (more are 9), each legal
unfoldable pub legal_meaning : Meaning → Bool
legal_meaning m =
    if_b (leb 1 (length m.files)) (if_b (leb (length m.files) most_files) (legal_files m.set m.files) false) false

-- a reel name: six bytes, of which the volume label made has no fault
unfoldable pub legal_name : List ℕ → Bool
legal_name n = if_b (eqb (length n) 6) (is_sound (label_fault (vol 1) (made_volume n))) false

-- names behind those used already: each legal, and none among those before it
unfoldable pub fresh_names : List (List ℕ) → List (List ℕ) → Bool
fresh_names used [] = true
fresh_names used (n ∷ ns) = if_b (legal_name n) (if_b (is_among n used) false (fresh_names (used ++ (n ∷ [])) ns)) false

unfoldable pub legal_names : List (List ℕ) → Bool
legal_names ns = if_b (leb 1 (length ns)) (if_b (leb (length ns) most_reels) (fresh_names [] ns) false) false

unfoldable pub legal_quota : ℕ → Bool
legal_quota q = if_b (leb 1 q) (leb q 999999) false

unfoldable pub legal_sheet : Sheet → Bool
legal_sheet s = if_b (legal_quota s.quota) (if_b (legal_names s.names) (legal_meaning s.meaning) false) false
