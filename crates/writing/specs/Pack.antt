-- Packing the records of a file into data blocks. Document 01, "Meaning, and the one way to write it": offset 00, no padding. What
-- does not enter the open block goes into a new one (block/specs/Room.antt); an unfinished record closes its block.
--
-- The three formats differ in three numbers: the bytes of a control word, whether a unit enters the open block, and how many
-- bytes it takes.
-- `fill` is the open block from here on, `after` is what is left behind it; `blocks_going` (proofs/Packing.antt) is the equation
-- of `blocks_left`.
use Rattle.std.specs.Prelude.{List, [], ◌∷◌, ◌++◌, ℕ, zero, suc, ◌+◌, eqb, length, take, drop}
use Rattle.base.specs.If.{if_b}
use Rattle.base.specs.Format.{format_f, format_d}
use Rattle.base.specs.Digits.{digits}
use Rattle.block.specs.Room.{enters, taken, indicator_of}

-- the control word of a unit of k bytes with indicator i
unfoldable pub control_word : ℕ → ℕ → ℕ → List ℕ
control_word f i k = if_b (eqb f format_f) [] (if_b (eqb f format_d) (digits 4 (k + 4)) ((48 + i) ∷ digits 4 (k + 5)))

-- what is left of a file: nothing, or x of the record begun (t 1) or to be begun (t 0), and the records behind it
pub data Left : Type 0 where
  finished : Left
  going : ℕ → List ℕ → List (List ℕ) → Left

unfoldable pub start_of : List (List ℕ) → Left
start_of [] = finished
start_of (x ∷ xs) = going 0 x xs

-- the unit that x, or what remains of it, puts into a block with u bytes used
unfoldable pub unit_in : ℕ → ℕ → ℕ → ℕ → List ℕ → List ℕ
unit_in f b u t x =
    control_word f (indicator_of t (taken f b u (length x)) (length x)) (taken f b u (length x)) ++ take (taken f b u (length x)) x

-- what the open block, with u bytes used, still gets
unfoldable pub fill : ℕ → ℕ → ℕ → ℕ → List ℕ → List (List ℕ) → List ℕ
fill f b u t x [] = if_b (enters f b u (length x)) (unit_in f b u t x) []
fill f b u t x (y ∷ ys) =
    if_b (enters f b u (length x))
    (if_b (eqb (taken f b u (length x)) (length x)) (unit_in f b u t x ++ fill f b (u + length (unit_in f b u t x)) 0 y ys)
    (unit_in f b u t x))
    []

-- what is left behind it
unfoldable pub after : ℕ → ℕ → ℕ → ℕ → List ℕ → List (List ℕ) → Left
after f b u t x [] =
    if_b (enters f b u (length x))
    (if_b (eqb (taken f b u (length x)) (length x)) finished (going 1 (drop (taken f b u (length x)) x) []))
    (going t x [])
after f b u t x (y ∷ ys) =
    if_b (enters f b u (length x))
    (if_b (eqb (taken f b u (length x)) (length x)) (after f b (u + length (unit_in f b u t x)) 0 y ys)
    (going 1 (drop (taken f b u (length x)) x) (y ∷ ys)))
    (going t x (y ∷ ys))

-- a number that falls with each block: the bytes and the records that are left
unfoldable pub weights : List (List ℕ) → ℕ
weights [] = 0
weights (x ∷ xs) = suc (length x) + weights xs

unfoldable pub weight : Left → ℕ
weight finished = 0
weight (going t x xs) = weights (x ∷ xs)

unfoldable pub blocks_f : ℕ → ℕ → ℕ → Left → List (List ℕ)
blocks_f zero f b l = []
blocks_f (suc k) f b finished = []
blocks_f (suc k) f b (going t x xs) = fill f b 0 t x xs ∷ blocks_f k f b (after f b 0 t x xs)

-- the data blocks of what is left
unfoldable pub blocks_left : ℕ → ℕ → Left → List (List ℕ)
blocks_left f b l = blocks_f (weight l) f b l

-- the data blocks of a file: they depend on its format, block length and records alone
unfoldable pub blocks_of : ℕ → ℕ → List (List ℕ) → List (List ℕ)
blocks_of f b xs = blocks_left f b (start_of xs)
