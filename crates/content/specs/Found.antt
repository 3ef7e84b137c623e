-- Record r of file n, both from 1. Document 01, "Handing out records": the image's own number, then 13, then 10, the latter two
-- with place 0.
use Rattle.std.specs.Prelude.{List, [], ℕ, zero, suc, ◌-◌, eqb, Option, Some, None, Result, Ok, Err}
use Rattle.content.specs.declared.Found.TheVariants.{InImage, Joined}
use Rattle.content.specs.declared.Found.{Found}
use Rattle.base.specs.declared.Verdict.{Verdict}
use Rattle.content.specs.declared.FileAt.{FileAt}
use Rattle.base.specs.If.{if_b}
use Rattle.base.specs.Part.{part}
use Rattle.base.specs.Answer.{verdict}
use Rattle.content.specs.Walk.{Record, whole, split, nothing, record_at, step_at, join_at, Step}
use Rattle.content.specs.File.{begun_at}
use Rattle.content.specs.declared.Walk.{Walk}

-- a record passed, and what is found from the walk behind it
unfoldable pub passed_by : Record → (Walk → Option Walk) → Option Walk
passed_by (whole start n v) rest = rest v
passed_by (split bs v) rest = rest v
passed_by nothing rest = None

-- the walk behind k records
unfoldable pub passed : List ℕ → ℕ → Walk → Option Walk
passed s zero w = Some w
passed s (suc k) w = passed_by (record_at s w) (λ v. passed s k v)

-- what a step says of the record, without the walk behind it
unfoldable pub found_by : Step → Result Found Verdict
found_by (Ok (InImage start n, v)) = Ok (InImage start n)
found_by (Ok (Joined n, v)) = Ok (Joined n)
found_by (Err k) = Err (verdict k 0 0)

unfoldable pub found_in : List ℕ → ℕ → Option Walk → Result Found Verdict
found_in s room (Some w) = found_by (step_at s room w)
found_in s room None = Err (verdict 13 0 0)

-- record r of the file that a walk begins
unfoldable pub found_from : List ℕ → ℕ → ℕ → Result FileAt Verdict → Result Found Verdict
found_from s r room (Ok f) = if_b (eqb r 0) (Err (verdict 13 0 0)) (found_in s room (passed s (r - 1) f.walk))
found_from s r room (Err v) = Err v

unfoldable pub found_at : List ℕ → ℕ → ℕ → ℕ → Result Found Verdict
found_at s n r room = found_from s r room (begun_at s n)

-- what the joining buffer holds afterwards
unfoldable pub left_in : List ℕ → List ℕ → Option Walk → List ℕ
left_in s old (Some w) = join_at s old w
left_in s old None = old

unfoldable pub left_from : List ℕ → ℕ → List ℕ → Result FileAt Verdict → List ℕ
left_from s r old (Ok f) = if_b (eqb r 0) old (left_in s old (passed s (r - 1) f.walk))
left_from s r old (Err v) = old

unfoldable pub left_at : List ℕ → ℕ → ℕ → List ℕ → List ℕ
left_at s n r old = left_from s r old (begun_at s n)

-- the record itself: a part of the image or the front of the joining buffer, and nothing with a refusal
unfoldable pub part_of : List ℕ → List ℕ → Result Found Verdict → List ℕ
part_of s join (Ok (InImage start n)) = part start n s
part_of s join (Ok (Joined n)) = part 0 n join
part_of s join (Err v) = []
