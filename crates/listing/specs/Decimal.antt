-- A number as decimal digits without leading zeros: the digits of its tens, then its last one.
-- `decimal_f` counts down a number that is large enough; `decimal_one` and `decimal_more` (proofs/Decimals.antt) are the equations
-- of `decimal`.
use Rattle.std.specs.Prelude.{List, [], ◌∷◌, ◌++◌, ℕ, zero, suc, ◌+◌, ◌/◌, ◌%◌, ltb}
use Rattle.base.specs.If.{if_b}

unfoldable pub decimal_f : ℕ → ℕ → List ℕ
decimal_f zero n = []
decimal_f (suc f) n = if_b (ltb n 10) ((48 + n) ∷ []) (decimal_f f (n / 10) ++ ((48 + n % 10) ∷ []))

unfoldable pub decimal : ℕ → List ℕ
decimal n = decimal_f (suc n) n
