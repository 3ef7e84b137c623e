-- StepRow taken one after the other, as long as each hands out a part of the image. A record that has to be joined, and the
-- refusal behind the last record, are left to a single step: from the walk behind these it gives what it gives.
use Rattle.std.specs.Prelude.{List, [], ◌∷◌, ℕ, zero, suc, min, length, Ok, Err}
use Rattle.content.specs.declared.Found.TheVariants.{InImage, Joined}
use Rattle.content.specs.Walk.{step_at, Step}
use Rattle.content.specs.declared.Walk.{Walk}
use Rattle.content.specs.declared.row.Row.{Row}

-- the places and the lengths of the records, in order, and the walk behind the last of them
pub record StepRow : Type 0 where
  pub places : List ℕ
  pub lengths : List ℕ
  pub walk : Walk

-- no step from w
abbrev pub stays : Walk → StepRow
stays w = record { places = []; lengths = []; walk = w }

-- a record before others
abbrev pub ahead : ℕ → ℕ → StepRow → StepRow
ahead start n x = record { places = start ∷ x.places; lengths = n ∷ x.lengths; walk = x.walk }

-- a step from w, and others behind it
unfoldable pub steps_by : Walk → Step → (Walk → StepRow) → StepRow
steps_by w (Ok (InImage start n, v)) others = ahead start n (others v)
steps_by w (Ok (Joined n, v)) others = stays w
steps_by w (Err k) others = stays w

-- at most so many steps, without a buffer to join in
unfoldable pub steps_at : List ℕ → ℕ → Walk → StepRow
steps_at s zero w = stays w
steps_at s (suc room) w = steps_by w (step_at s 0 w) (λ v. steps_at s room v)

-- as many as both lists have room for
abbrev pub steps_in : List ℕ → List ℕ → List ℕ → Walk → StepRow
steps_in s places lengths w = steps_at s (min (length places) (length lengths)) w

-- their number, and the walk behind them
unfoldable pub row_of : StepRow → Row
row_of x = record { count = length x.places; walk = x.walk }
