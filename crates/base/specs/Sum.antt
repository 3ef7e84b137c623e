-- Sums of numbers that a caller gave, and a list cut by such numbers.
use Rattle.std.specs.Prelude.{List, [], ◌∷◌, ℕ, ◌+◌, take, drop}

unfoldable pub sum : List ℕ → ℕ
sum [] = 0
sum (n ∷ ns) = n + sum ns

-- bytes cut by a list of lengths
unfoldable pub cut_by : List ℕ → List ℕ → List (List ℕ)
cut_by [] s = []
cut_by (n ∷ ns) s = take n s ∷ cut_by ns (drop n s)
