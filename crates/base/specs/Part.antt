-- Parts of lists: the part of some length that starts at a place, and a list with another one put over it.
-- Both are total: a part that runs past the end is shorter, and what is put past the end extends the list.
-- Assumes nothing.
use Rattle.std.specs.Prelude.{Bool, true, false, List, [], ◌∷◌, ◌++◌, ℕ, ◌+◌, eqb, leb, length, take, drop}
use Rattle.base.specs.If.{if_b}

-- the n bytes from place a on, as many of them as there are
unfoldable pub part : ℕ → ℕ → List ℕ → List ℕ
part a n s = take n (drop a s)

-- `old` with `bs` at place `at`
unfoldable pub put_at : List ℕ → ℕ → List ℕ → List ℕ
put_at old at bs = take at old ++ bs ++ drop (at + length bs) old

-- the same, if all of `bs` has room there
unfoldable pub put_in : List ℕ → ℕ → List ℕ → List ℕ
put_in old at bs = if_b (leb (at + length bs) (length old)) (put_at old at bs) old

-- two byte strings are the same
unfoldable pub same : List ℕ → List ℕ → Bool
same [] [] = true
same [] (y ∷ ys) = false
same (x ∷ xs) [] = false
same (x ∷ xs) (y ∷ ys) = if_b (eqb x y) (same xs ys) false

-- every byte is b
unfoldable pub all_are : ℕ → List ℕ → Bool
all_are b [] = true
all_are b (x ∷ xs) = if_b (eqb x b) (all_are b xs) false
