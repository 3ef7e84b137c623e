-- What the code's one walk over the rows of a table asks of each field.
use Rattle.std.specs.Prelude.{Bool, List, ℕ}
use Rattle.label.specs.Judged.{good_at, agree_at, ends_before}
use Rattle.label.specs.declared.rows.Ask.{Ask}
use Rattle.label.specs.declared.rows.Ask.TheVariants.{Suits, Agrees, Ends}

-- that it suits its rule, that it is the same in two labels of a scope, or that it ends before a BP
unfoldable pub asked : Ask → List ℕ → List ℕ → ℕ → ℕ → ℕ → ℕ → Bool
asked Suits l m = good_at l
asked (Agrees n) l m = agree_at n l m
asked (Ends b) l m = ends_before b
