-- All records from a walk on, as its steps hand them out, and how many and how long they are.
-- `records_more` and `records_over` (proofs/Records.antt) are the equations of `records_at`.
use Rattle.std.specs.Prelude.{List, [], ◌∷◌, map, ℕ, length}
use Rattle.base.specs.Sum.{sum}
use Rattle.content.specs.Walked.{along}
use Rattle.content.specs.declared.Walk.{Walk}
use Rattle.content.specs.declared.counting.Facts.{Facts}

unfoldable pub records_at : List ℕ → Walk → List (List ℕ)
records_at s w = along (λ v. []) (λ r rs. r ∷ rs) s w

-- the number of records and of their bytes
unfoldable pub facts_of : List (List ℕ) → Facts
facts_of rs = record { records = length rs; bytes = sum (map length rs) }
