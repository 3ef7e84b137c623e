-- Files met one after the other: what the laws on an accepted image are about.
use Rattle.std.specs.Prelude.{◌≡◌, List, [], ◌∷◌, ℕ, Option, Some, None}
use Rattle.volume.specs.Meaning.{File}
use Rattle.content.specs.File.{next_file}
use Rattle.content.specs.declared.FileAt.{FileAt}
use Rattle.content.specs.Walked.{FileIs}

-- going from file to file meets exactly these, and none behind the last
abbrev pub Filed : List ℕ → Option FileAt → List File → Type 0
Filed s x [] = x ≡ None
Filed s x (d ∷ ds) = (f : FileAt) × (x ≡ Some f) × FileIs s f d × Filed s (next_file s f.hdr1 f.hdr2) ds
