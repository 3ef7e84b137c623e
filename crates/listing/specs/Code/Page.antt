-- Writing text into a lent buffer. Places are counted up to 2^63: no buffer has so many bytes.
use Rattle.std.specs.Prelude.{List, ℕ}
use Rattle.output.specs.Output.{Wrote as WroteUpTo}

abbrev pub endless : ℕ
endless = 9223372036854775808

-- buffer o with bs written at place a became p, and r is the place behind
abbrev pub DidPutPage : List ℕ → ℕ → List ℕ → List ℕ → ℕ → Type 0
DidPutPage o a bs p r = WroteUpTo endless o a bs p r
