-- What is answered: a fault of one item (its number and byte) and the answer on a whole image (number, item, byte).
-- Document 01, "Numbers given back": number 0 is done; a refusal without a byte of its own has byte 0.
use Rattle.std.specs.Prelude.{ℕ, eqb}
use Rattle.base.specs.declared.Fault.{Fault}
use Rattle.base.specs.declared.Verdict.{Verdict}
use Rattle.base.specs.If.{if_b}

unfoldable pub fault : ℕ → ℕ → Fault
fault number byte = record { number = number; byte = byte }

unfoldable pub verdict : ℕ → ℕ → ℕ → Verdict
verdict number item byte = record { number = number; item = item; byte = byte }

-- the first of two faults that is one
unfoldable pub or_else : Fault → Fault → Fault
or_else f g = if_b (eqb f.number 0) g f
