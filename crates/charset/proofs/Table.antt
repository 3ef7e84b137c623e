-- A rule of a table, proved at all of its entries at once. Assumes nothing.
-- The test is one computation: the list of what a rule says of the places 0 to n - 1 is worked out and compared with the
-- table of the code, entry by entry. The law then gives the rule at each place.
use mathlib.Core.Path.{◌≡◌, sym, ap, ◌∙◌}
use mathlib.Core.List.{List, [], ◌∷◌}
use Prim.Native.Nat.{ℕ, zero, suc, ◌+◌, ◌<◌}
use native.Mathlib.Nat.{add-zero, zero-add, add-suc, suc-add, le_of_suc-le-suc, not-suc-le-zero}
use lib.ListN.{get_or}
use Rattle.charset.specs.Class.{class_of}
use Rattle.charset.specs.Code.Table.{Right}

-- what f says of the n places from i on
abbrev pub entries : (ℕ → ℕ) → ℕ → ℕ → List ℕ
entries f i zero = []
entries f i (suc n) = f i ∷ entries f (suc i) n

from : (f : ℕ → ℕ) (n i k : ℕ) → k < n → get_or (entries f i n) k 0 ≡ f (i + k)
from f zero i k h = absurd (not-suc-le-zero h)
from f (suc n) i zero h = ap f (sym (add-zero i))
from f (suc n) i (suc k) h = from f n (suc i) k (le_of_suc-le-suc h) ∙ ap f (suc-add i k ∙ sym (add-suc i k))

pub look_up : (f : ℕ → ℕ) (n k : ℕ) → k < n → get_or (entries f 0 n) k 0 ≡ f k
look_up f n k h = from f n 0 k h ∙ ap f (zero-add k)

-- the table of what the rule of classes says of the 256 bytes
pub right : Right (entries class_of 0 256)
right = record { entry = look_up class_of 256 }
