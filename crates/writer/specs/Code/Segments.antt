-- The segments of a record of an image, one after the other.
use Rattle.std.specs.Prelude.{◌≡◌, true, List, ◌++◌, ℕ, ◌+◌, ◌≤◌, ◌<◌, length}
use Rattle.base.specs.Part.{part}
use Rattle.content.specs.Walk.{rest_at}
use Rattle.content.specs.Code.Heads.{Inside}
use Rattle.content.specs.Code.Joining.{is_ended, bytes_behind}
use Rattle.content.specs.declared.Walk.{Walk}
use Rattle.writer.specs.declared.source.Cursor.{Cursor}
use Rattle.writer.specs.declared.split.Segment.{Segment}
use Rattle.writer.specs.Code.Source.{walk_of, moved_to}

-- the walk behind a segment
abbrev pub behind_of : Cursor → Segment → Walk
behind_of c g = walk_of (moved_to c g.at g.left)

-- a record goes on behind a walk, to its end
pub record HasRest (bytes : List ℕ) (w : Walk) : Type 0 where
  pub inside : Inside bytes w
  pub ended : is_ended (rest_at bytes w.record_length w) ≡ true

-- x is a segment and the rest of its record; where that has bytes, the record goes on with them
pub record DidSegment (bytes : List ℕ) (c : Cursor) (x : List ℕ) (g : Segment) : Type 0 where
  pub rest : List ℕ
  pub is : x ≡ part g.from g.len bytes ++ rest
  pub within : g.from + g.len ≤ length bytes
  pub inside : g.at ≤ length bytes
  pub goes : 0 < length rest → HasRest bytes (behind_of c g)
  pub same : 0 < length rest → rest ≡ bytes_behind bytes (behind_of c g)
