-- The conditional by which definitions choose, and its laws.
-- `if_b` is shut: a proof opens it by the two laws `if_true` and `if_false`, at the test that the code made, and by no other way.
-- Assumes nothing.
use Rattle.std.specs.Prelude.{Bool, true, false}

unfoldable pub if_b {ℓ} : {A : Type ℓ} → Bool → A → A → A
if_b true a b = a
if_b false a b = b
