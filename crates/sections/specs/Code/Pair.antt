-- Two labels of a file, before its blocks or behind them.
use Rattle.std.specs.Prelude.{List, [], ◌∷◌, ℕ}
use Rattle.image.specs.Item.{Item, block, mark}
use Rattle.label.specs.Made.{made_first, made_second}
use Rattle.sections.specs.Section.{entry_in, sequence_in, set_in}

-- with these names, and the mark behind them
abbrev pub pair_of : List ℕ → List ℕ → List ℕ → ℕ → ℕ → List Item
pair_of first second labels section count =
    block (made_first first (set_in labels) (entry_in labels) section (sequence_in labels) count) ∷
    block (made_second second (entry_in labels)) ∷ mark ∷ []
