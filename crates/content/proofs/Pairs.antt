-- Laws of the step at a record of two segments, which is joined without a loop. Assumes nothing.
use Rattle.content.specs.declared.Found.TheVariants.{Joined}
use Rattle.std.specs.Prelude.{Ok, Err}
use mathlib.Core.Path.{◌≡◌, refl, sym, ap, ◌∙◌}
use mathlib.Core.List.{List, ◌++◌}
use Prim.Native.Nat.{ℕ, ◌+◌, ◌-◌, ◌≤◌, ◌<◌}
use native.Mathlib.Omega.{arith}
use mir.Val.{Fits}
use mir.Syntax.{w64}
use borrow.Author.Rules.{rules}
use lib.ListN.{length, get_or}
use Rattle.base.specs.Part.{part, put_at}
use Rattle.content.specs.Walk.{moved, unit_next, rest_at, step_at, join_at, taken_at}
use Rattle.content.specs.Code.Heads.{turn_in, BegunAt, TwoAt}
use Rattle.content.specs.Whole.{at_block, stands_at}
use Rattle.content.specs.Code.Joining.{tail_by, rest_bytes, bytes_behind, tail}
use Rattle.content.specs.declared.Walk.{Walk}
use Rattle.content.proofs.Measures.{rest_ends, segment_long}
use Rattle.content.proofs.Segments.{SegmentAt, segment_stands, next_segment_lem, TurnAt, turns}
use Rattle.content.proofs.Stepping.{begun_long, kept_begun, begun_joined, begun_within, begun_put, begun_word, begun_most, begun_left, begun_end, begun_start}

-- the second segment is the rest of the record
record Closes (s : List ℕ) (v u h y : Walk) (k j : ℕ) : Type 0 where
  turn : TurnAt s (v.left - k) 51 (v.record_length - (k - 5)) (stands_at h.format 0 h.at h.left) j
  tail : tail (j - 5) y ≡ tail_by (rest_at s (v.record_length - (k - 5)) u)
  bytes : bytes_behind s u ≡ part (h.at + 5) (j - 5) s

closes : (s : List ℕ) (v h y : Walk) (k j : ℕ) → TwoAt s v k h j → y ≡ moved h (h.at + j) (h.left - j)
    → Closes s v (moved v (v.at + k) (v.left - k)) h y k j
unfolding tail_by bytes_behind rest_bytes
closes s v h y k j c p =
    let u = moved v (v.at + k) (v.left - k) in
    let t = turns s (v.left - k) 51 (v.record_length - (k - 5)) (stands_at h.format 0 h.at h.left) j c.is c.some in
    let digit = t.digit in
    let short = t.short in
    let three : get_or s h.at 0 - 48 ≡ 3 = omega arith in
    let most : j - 5 ≤ v.record_length = omega arith in
    let unit : taken_at 3 (h.at + 5) (j - 5) y ≡ unit_next s u
    = ap (λ (i : ℕ). taken_at i (h.at + 5) (j - 5) y) (sym three) ∙ next_segment_lem s u h y j c.head t.is c.some p in
    let long : length (part (h.at + 5) (j - 5) s) ≡ j - 5 = segment_long s u _ _ unit refl in
    record {
      turn = t;
      tail = ap (λ (n : ℕ). tail n y) (sym long)
          ∙ ap tail_by (sym (rest_ends s (v.record_length - (k - 5)) u _ _ unit refl short refl));
      bytes = ap rest_bytes (rest_ends s v.record_length u _ _ unit refl most refl);
    }

-- one that is longer than the buffer
pub two_long : (s : List ℕ) (room : ℕ) (v h : Walk) (k j : ℕ) → TwoAt s v k h j → room < k - 5 + (j - 5)
    → Err 10 ≡ step_at s room v
two_long s room v h k j c l =
    begun_long s room v (moved v (v.at + k) (v.left - k)) k _ _ c.begun refl
    (closes s v h (moved h (h.at + j) (h.left - j)) k j c refl).tail refl l

pub two_kept : (s old : List ℕ) (v h : Walk) (k j : ℕ) → TwoAt s v k h j → length old < k - 5 + (j - 5) → old ≡ join_at s old v
two_kept s old v h k j c l =
    kept_begun s old v (moved v (v.at + k) (v.left - k)) k _ _ c.begun refl
    (closes s v h (moved h (h.at + j) (h.left - j)) k j c refl).tail refl l

-- and one that has room there
pub two_joined : (s : List ℕ) (room : ℕ) (v h y : Walk) (k j : ℕ) → TwoAt s v k h j → k - 5 + (j - 5) ≤ room
    → y ≡ moved h (h.at + j) (h.left - j)
    → Ok (Joined (k - 5 + (j - 5)), y) ≡ step_at s room v
two_joined s room v h y k j c l p =
    begun_joined s room v (moved v (v.at + k) (v.left - k)) k _ _ c.begun refl (closes s v h y k j c p).tail refl l

pub two_put : (s old : List ℕ) (v h : Walk) (k j : ℕ) (new : List ℕ) → TwoAt s v k h j → k - 5 + (j - 5) ≤ length old
    → new ≡ put_at old 0 (part (v.at + 5) (k - 5) s ++ part (h.at + 5) (j - 5) s) → new ≡ join_at s old v
two_put s old v h k j new c l p =
    let d = closes s v h (moved h (h.at + j) (h.left - j)) k j c refl in
    begun_put s old v (moved v (v.at + k) (v.left - k)) k _ _ new c.begun refl d.tail refl l
    (p ∙ ap (λ (x : List ℕ). put_at old 0 (part (v.at + 5) (k - 5) s ++ x)) (sym d.bytes))

-- what the code computes has its place

pub two_first : (s : List ℕ) (v h : Walk) (k j : ℕ) → TwoAt s v k h j → 5 ≤ k
two_first s v h k j c = begun_word s v k c.begun

second : (s : List ℕ) (v h : Walk) (k j : ℕ) → TwoAt s v k h j → SegmentAt s (v.left - k) h j
second s v h k j c =
    segment_stands s (v.left - k) h j (closes s v h (moved h (h.at + j) (h.left - j)) k j c refl).turn.is c.some

pub two_second : (s : List ℕ) (v h : Walk) (k j : ℕ) → TwoAt s v k h j → 5 ≤ j
two_second s v h k j c = (second s v h k j c).least

pub two_sum : (s : List ℕ) (v h : Walk) (k j : ℕ) → TwoAt s v k h j → v.record_length < 4294967296 → Fits w64 (k - 5 + (j - 5))
two_sum s v h k j c l =
    let short = (closes s v h (moved h (h.at + j) (h.left - j)) k j c refl).turn.short in
    let first = begun_most s v k c.begun in
    omega arith

pub two_within : (s : List ℕ) (v h : Walk) (k j : ℕ) → TwoAt s v k h j → v.at + 5 + (k - 5) ≤ length s
two_within s v h k j c = begun_within s v k c.begun

pub two_start : (s : List ℕ) (v h : Walk) (k j : ℕ) → TwoAt s v k h j → length s < 18446744073709551616 → Fits w64 (v.at + 5)
two_start s v h k j c l = begun_start s v k c.begun l

pub second_within_lem : (s : List ℕ) (v h : Walk) (k j : ℕ) → TwoAt s v k h j → h.at + 5 + (j - 5) ≤ length s
second_within_lem s v h k j c =
    let d = second s v h k j c in
    let a = d.least in
    let l = d.left in
    let i = d.inside in
    omega arith

pub second_start : (s : List ℕ) (v h : Walk) (k j : ℕ) → TwoAt s v k h j → length s < 18446744073709551616 → Fits w64 (h.at + 5)
second_start s v h k j c l = omega (arith, second_within_lem s v h k j c)

pub second_end : (s : List ℕ) (v h : Walk) (k j : ℕ) → TwoAt s v k h j → length s < 18446744073709551616 → Fits w64 (h.at + j)
second_end s v h k j c l = omega (arith, second_within_lem s v h k j c, two_second s v h k j c)

pub second_left : (s : List ℕ) (v h : Walk) (k j : ℕ) → TwoAt s v k h j → j ≤ h.left
second_left s v h k j c = (second s v h k j c).left

pub ruleset steps_two = (
  two_long,
  two_kept,
  two_joined,
  two_put,
  two_first,
  two_second,
  two_sum,
  two_within,
  two_start,
  second_within_lem,
  second_start,
  second_end,
  second_left,
  rules,
)

-- the record is one of two segments
pub two_at : (s : List ℕ) (v u h : Walk) (k j : ℕ) → BegunAt s v k → u ≡ moved v (v.at + k) (v.left - k) → h ≡ at_block s u
    → j ≡ turn_in s u.left 51 (v.record_length - (k - 5)) (stands_at h.format 0 h.at h.left) → (j ≡ 0 → ⊥)
    → TwoAt s v k h j
two_at s v u h k j b q e m z =
    let l : u.left ≡ v.left - k = ap (λ (x : Walk). x.left) q in
    record {
      begun = b;
      head = e ∙ ap (at_block s) q;
      is = m ∙ ap (λ (x : ℕ). turn_in s x 51 (v.record_length - (k - 5)) (stands_at h.format 0 h.at h.left)) l;
      some = z;
    }

pub ruleset begins_two = (two_at, begun_word, begun_most, begun_left, begun_end, rules)
