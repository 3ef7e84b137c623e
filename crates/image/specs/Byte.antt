-- Lists of bytes: what a slice of `u8` tells of its list, and what a list of numbers does not tell by itself.
use Rattle.std.specs.Prelude.{ℕ, ◌<◌, List, get_or}

-- every element is below 256; past the end `get_or` gives 0
abbrev pub Bytes : List ℕ → Type 0
Bytes s = (i : ℕ) → get_or s i 0 < 256
