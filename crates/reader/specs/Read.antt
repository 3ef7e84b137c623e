-- A reader's place behind each of its functions. Document 01, "Handing out records": after the core, a reader that keeps the lent
-- image together with its place offers the same steps; with 13 or 10 the walk isn't moved.
use Rattle.std.specs.Prelude.{List, ℕ, Result, Ok, Err}
use Rattle.content.specs.declared.Found.TheVariants.{InImage, Joined}
use Rattle.base.specs.declared.Verdict.{Verdict}
use Rattle.content.specs.declared.FileAt.{FileAt}
use Rattle.base.specs.Answer.{verdict}
use Rattle.content.specs.Walk.{step_at, Step}
use Rattle.content.specs.File.{begun_at}
use Rattle.content.specs.Found.{found_by}
use Rattle.content.specs.Numbers.{record_of, no_walk}
use Rattle.content.specs.Records.{records_at, facts_of}
use Rattle.content.specs.declared.Walk.{Walk}
use Rattle.content.specs.declared.numbers.Located.{Located}
use Rattle.reader.specs.declared.Opened.{Opened}
use Rattle.reader.specs.declared.FileFacts.{FileFacts}
use Rattle.reader.specs.declared.Reading.{Reading}
use Rattle.reader.specs.declared.Reader.{Reader}

-- ---- opening a file

unfoldable pub opened_by : Walk → Result FileAt Verdict → Opened
opened_by w (Ok f) = record { verdict = verdict 0 0 0; walk = f.walk }
opened_by w (Err a) = record { verdict = a; walk = w }

unfoldable pub opened_at : List ℕ → Walk → ℕ → Opened
opened_at s w n = opened_by w (begun_at s n)

-- file n opened from nowhere, and the facts of the records from there on; with a refusal that is nowhere, and there are none
-- (`nowhere_none`, proofs/Places.antt)
unfoldable pub count_at : List ℕ → ℕ → FileFacts
count_at s n = record { verdict = (opened_at s no_walk n).verdict; facts = facts_of (records_at s (opened_at s no_walk n).walk) }

-- ---- the next record

-- the place behind a step
unfoldable pub walk_behind : Walk → Step → Walk
walk_behind w (Ok (InImage start n, v)) = v
walk_behind w (Ok (Joined n, v)) = v
walk_behind w (Err k) = w

unfoldable pub read_by : Walk → Step → Reading
read_by w x = record { found = found_by x; walk = walk_behind w x }

unfoldable pub read_at : List ℕ → ℕ → Walk → Reading
read_at s room w = read_by w (step_at s room w)

-- the record of a reading, in document 01's numbers
abbrev pub located_by : Reading → Located
located_by x = record_of x.found

-- the same image, at another place
abbrev pub moved : Reader → Walk → Reader
moved r w = record { image = r.image; walk = w }
