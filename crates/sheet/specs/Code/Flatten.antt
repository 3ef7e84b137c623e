-- A sheet made of a meaning: what the laws on writing it are about.
use Rattle.std.specs.Prelude.{Bool, true, false, ℕ, eqb, length}
use mathlib.Core.List.{List, [], ◌∷◌, map, flatten as end_to_end}
use Rattle.base.specs.If.{if_b}
use Rattle.volume.specs.Meaning.{File, Meaning}
use Rattle.sheet.specs.Flat.{Flat}

-- each of the parts has w elements
unfoldable pub all_long : ℕ → List (List ℕ) → Bool
all_long w [] = true
all_long w (x ∷ xs) = if_b (eqb (length x) w) (all_long w xs) false

-- entries, lengths, records and names laid end to end, file by file
unfoldable pub flatten : Meaning → ℕ → List (List ℕ) → Flat
flatten m quota names =
    record {
      set = m.set;
      files = end_to_end (map (λ (d : File). d.fields) m.files);
      counts = map (λ (d : File). length d.records) m.files;
      lengths = end_to_end (map (λ (d : File). map length d.records) m.files);
      bytes = end_to_end (map (λ (d : File). end_to_end d.records) m.files);
      quota = quota;
      names = end_to_end names;
    }
