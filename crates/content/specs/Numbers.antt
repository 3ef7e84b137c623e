-- An answer with cases, in document 01's numbers: for each case the number given back and its values. A promise of such an answer
-- says both, the case and its numbers (`Said`); what C and Rust get are the numbers alone.
use Rattle.std.specs.Prelude.{◌≡◌, Option, Result, Ok, Err}
use Rattle.content.specs.Walk.{Step}
use Rattle.content.specs.declared.Found.{Found}
use Rattle.base.specs.declared.Verdict.{Verdict}
use Rattle.content.specs.declared.FileAt.{FileAt}
use Rattle.base.specs.Answer.{verdict}
use Rattle.content.specs.File.{begun_by}
use Rattle.content.specs.declared.Walk.{Walk}
use Rattle.content.specs.declared.Found.TheVariants.{InImage, Joined}
use Rattle.content.specs.declared.numbers.Located.{Located}
use Rattle.content.specs.declared.numbers.Beginning.{Beginning}
use Rattle.content.specs.declared.numbers.Stepped.{Stepped}

-- a record: a part of the image, or the front of the joining buffer; with a refusal the part is empty
unfoldable pub record_of : Result Found Verdict → Located
record_of (Ok (InImage start n)) = record { verdict = verdict 0 0 0; joined = 0; start = start; len = n }
record_of (Ok (Joined n)) = record { verdict = verdict 0 0 0; joined = 1; start = 0; len = n }
record_of (Err v) = record { verdict = v; joined = 0; start = 0; len = 0 }

-- a walk that stands nowhere: its record length is 0
abbrev pub no_walk : Walk
no_walk = record { format = 0; record_length = 0; offset = 0; at = 0; left = 0 }

-- a file that was begun
unfoldable pub beginning_of : Result FileAt Verdict → Beginning
beginning_of (Ok f) = record { verdict = verdict 0 0 0; hdr1 = f.hdr1; hdr2 = f.hdr2; walk = f.walk }
beginning_of (Err v) = record { verdict = v; hdr1 = 0; hdr2 = 0; walk = no_walk }

-- a file that was looked for: 13 where there is none
abbrev pub file_of : Option FileAt → Beginning
file_of x = beginning_of (begun_by x)

-- a step from w; with a refusal, which has no place, the walk is not moved
unfoldable pub stepped_of : Walk → Step → Stepped
stepped_of w (Ok (InImage start n, v)) = record { number = 0; joined = 0; start = start; len = n; walk = v }
stepped_of w (Ok (Joined n, v)) = record { number = 0; joined = 1; start = 0; len = n; walk = v }
stepped_of w (Err k) = record { number = k; joined = 0; start = 0; len = 0; walk = w }

-- an answer is the case that a definition gives, and so has the numbers of that case
pub record Said {A B : Type 0} (numbers : A → B) (answer given : A) : Type 0 where
  pub case : answer ≡ given
  pub numbered : numbers answer ≡ numbers given
