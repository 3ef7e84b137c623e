-- What a walk hands out, record by record, where it ends, and what going from file to file meets.
-- `along` counts down a number that is large enough; `along_more` and `along_over` (proofs/Records.antt) are its equations.
use Rattle.std.specs.Prelude.{◌≡◌, List, [], ◌∷◌, map, ℕ, zero, suc, ◌+◌, ◌≤◌, length}
use Rattle.base.specs.Part.{part}
use Rattle.base.specs.Sum.{sum}
use Rattle.volume.specs.Meaning.{File, fields_from}
use Rattle.content.specs.Walk.{Rest, ends, fails, Record, whole, split, nothing, record_at}
use Rattle.content.specs.File.{next_file, file_behind}
use Rattle.content.specs.Held.{file_held}
use Rattle.content.specs.declared.Walk.{Walk}
use Rattle.content.specs.declared.FileAt.{FileAt}

-- the bytes of a record, as they are handed out, and the walk behind it; nothing is number 13
unfoldable pub handed : List ℕ → Record → Rest
handed s (whole start n v) = ends (part start n s) v
handed s (split bs v) = ends bs v
handed s nothing = fails

-- one step after the other hands out exactly these records, and the step behind the last is 13
abbrev pub Walks : List ℕ → Walk → List (List ℕ) → Type 0
Walks s w [] = handed s (record_at s w) ≡ fails
Walks s w (r ∷ rs) = (v : Walk) × (handed s (record_at s w) ≡ ends r v) × Walks s v rs

-- a walk taken to its end: `more` with each record that is handed out, and `over` with the walk behind the last
unfoldable pub along_by : {A : Type 0} → (Walk → A) → (List ℕ → A → A) → Walk → Rest → (Walk → A) → A
along_by over more w (ends r v) others = more r (others v)
along_by over more w fails others = over w

unfoldable pub along_f : {A : Type 0} → (Walk → A) → (List ℕ → A → A) → ℕ → List ℕ → Walk → A
along_f over more zero s w = over w
along_f over more (suc f) s w = along_by over more w (handed s (record_at s w)) (λ v. along_f over more f s v)

unfoldable pub along : {A : Type 0} → (Walk → A) → (List ℕ → A → A) → List ℕ → Walk → A
along over more s w = along_f over more (suc (length s)) s w

-- the walk behind the last record, and the place behind what is left of its block
unfoldable pub last_of : List ℕ → Walk → Walk
last_of s w = along (λ v. v) (λ r v. v) s w

unfoldable pub end_of : List ℕ → Walk → ℕ
end_of s w = (last_of s w).at + (last_of s w).left

-- what the blocks of a file hold, added up, is what its records come to; and what follows the file is found from behind its last
-- block on, too
pub record Amounts (s : List ℕ) (f : FileAt) (d : File) : Type 0 where
  pub records : (file_held s f.walk).held.records ≡ length d.records
  pub bytes : (file_held s f.walk).held.bytes ≡ sum (map length d.records)
  pub ends : (file_held s f.walk).end ≤ length s
  pub behind : file_behind s f.hdr1 (file_held s f.walk).end ≡ next_file s f.hdr1 f.hdr2

-- a file of the meaning where it stands: its first HDR1 and HDR2 lie within the image and have its fields, the walk hands out its
-- records, and what follows the file is found from the end of its records on, too
pub record FileIs (s : List ℕ) (f : FileAt) (d : File) : Type 0 where
  pub first_within : f.hdr1 + 80 ≤ length s
  pub second_within : f.hdr2 + 80 ≤ length s
  pub fields : d.fields ≡ fields_from (part f.hdr1 80 s) (part f.hdr2 80 s)
  pub walks : Walks s f.walk d.records
  pub ends : end_of s f.walk ≤ length s
  pub behind : file_behind s f.hdr1 (end_of s f.walk) ≡ next_file s f.hdr1 f.hdr2
  pub amounts : Amounts s f d
