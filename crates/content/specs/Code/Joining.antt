-- How the code measures the rest of a record, and joins it.
use Rattle.std.specs.Prelude.{◌≡◌, Bool, true, false, List, [], ℕ, ◌+◌, ◌≤◌, length, Option, Some, None}
use Rattle.content.specs.Walk.{Rest, ends, fails, rest_at, Record, whole, split, nothing, record_at}
use Rattle.content.specs.Code.Heads.{Inside}
use Rattle.content.specs.declared.Walk.{Walk}
use Rattle.content.specs.declared.measuring.Tail.{Tail}

abbrev pub tail : ℕ → Walk → Option Tail
tail n v = Some (record { len = n; behind = v })

unfoldable pub tail_by : Rest → Option Tail
tail_by (ends bs v) = tail (length bs) v
tail_by fails = None

-- with k bytes before it
unfoldable pub longer : ℕ → Option Tail → Option Tail
longer k (Some u) = tail (k + u.len) u.behind
longer k None = None

unfoldable pub is_ended : Rest → Bool
is_ended (ends bs v) = true
is_ended fails = false

unfoldable pub rest_bytes : Rest → List ℕ
rest_bytes (ends bs v) = bs
rest_bytes fails = []

-- the bytes of a record behind a walk; any room that it needs is less than the record length
unfoldable pub bytes_behind : List ℕ → Walk → List ℕ
bytes_behind s w = rest_bytes (rest_at s w.record_length w)

-- a record goes on behind w, and its bytes go into a buffer of m bytes from place `at` on
pub record RestFits (s : List ℕ) (w : Walk) (at m : ℕ) : Type 0 where
  pub inside : Inside s w
  pub ended : is_ended (rest_at s w.record_length w) ≡ true
  pub fits : at + length (bytes_behind s w) ≤ m

unfoldable pub record_bytes : Record → List ℕ
record_bytes (whole start n v) = []
record_bytes (split bs v) = bs
record_bytes nothing = []

unfoldable pub is_split : Record → Bool
is_split (whole start n v) = false
is_split (split bs v) = true
is_split nothing = false

-- a split record stands at w, and a buffer of m bytes holds it
pub record SplitAt (s : List ℕ) (w : Walk) (m : ℕ) : Type 0 where
  pub is : is_split (record_at s w) ≡ true
  pub inside : Inside s w
  pub fits : length (record_bytes (record_at s w)) ≤ m
