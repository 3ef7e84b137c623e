-- How code copies bytes: contracts.
use Rattle.std.specs.Prelude.{◌≡◌, List, ℕ, ◌+◌, ◌≤◌, length, take}
use Rattle.base.specs.Part.{put_at}

-- n bytes are covered by the first v of them and the last w
pub record Short (v w n : ℕ) : Type 0 where
  pub first : v ≤ n
  pub last : w ≤ n
  pub most : n ≤ v + w

-- words of 64 bytes, one behind the other: the first i bytes are written
pub record Chunked (old : List ℕ) (at : ℕ) (s out : List ℕ) (i : ℕ) : Type 0 where
  pub least : 64 ≤ length s
  pub fits : at + length s ≤ length old
  pub within : i ≤ length s
  pub is : out ≡ put_at old at (take i s)
  pub size : length out ≡ length old
