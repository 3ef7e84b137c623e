-- What packing asks of its records: that each has room in an empty block.
use Rattle.std.specs.Prelude.{◌≡◌, true, List, [], ◌∷◌, ℕ, length}
use Rattle.writing.specs.Pack.{Left, finished, going}
use Rattle.block.specs.Room.{enters}

-- every record has room in an empty block
abbrev pub RoomEach : ℕ → ℕ → List (List ℕ) → Type 0
RoomEach f b [] = Unit {0}
RoomEach f b (x ∷ xs) = (enters f b 0 (length x) ≡ true) × RoomEach f b xs

abbrev pub RoomEachLeft : ℕ → ℕ → Left → Type 0
RoomEachLeft f b finished = Unit {0}
RoomEachLeft f b (going t x xs) = RoomEach f b (x ∷ xs)
