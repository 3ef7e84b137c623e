-- The room in a block that is being filled. Document 01, "Meaning, and the one way to write it": an F or D unit goes into the open
-- block if it fits. In S, with r bytes left: a record without bytes needs r of 5 or more, any other 6 or more; a segment takes the
-- smallest of what remains, r less 5, and 9,994.
use Rattle.std.specs.Prelude.{Bool, List, [], ◌∷◌, ℕ, ◌+◌, ◌-◌, min, eqb, leb}
use Rattle.base.specs.If.{if_b}
use Rattle.base.specs.Format.{format_f, format_d, format_s}
use Rattle.block.specs.Unit.{word_of}

-- whether a record of which n bytes remain enters a block of at most b bytes with u of them used
unfoldable pub enters : ℕ → ℕ → ℕ → ℕ → Bool
enters f b u n = if_b (eqb f format_s) (leb (u + 5 + min 1 n) b) (leb (u + word_of f + n) b)

-- how many of its bytes go into the block
unfoldable pub taken : ℕ → ℕ → ℕ → ℕ → ℕ
taken f b u n = if_b (eqb f format_s) (min n (min (b - u - 5) 9994)) n

-- the indicator of a segment of k bytes of n that remain; t is 0 at the beginning of the record, else 1
unfoldable pub indicator_of : ℕ → ℕ → ℕ → ℕ
indicator_of t k n = if_b (eqb k n) (if_b (eqb t 0) 0 3) (if_b (eqb t 0) 1 2)

-- a control word with the byte c as its indicator, and these digits
unfoldable pub word_with : ℕ → ℕ → List ℕ → List ℕ
word_with f c d = if_b (eqb f format_f) [] (if_b (eqb f format_d) d (c ∷ d))
