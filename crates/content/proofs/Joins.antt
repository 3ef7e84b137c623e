-- Laws of joining: segments one by one. Assumes nothing.
use Rattle.std.specs.Prelude.{Some, Option, None}
use mathlib.Core.Path.{◌≡◌, refl, sym, ap, ap₂, ◌∙◌}
use mathlib.Core.Bool.{Bool, true, false, false≢true}
use mathlib.Core.List.{List, ◌++◌}
use Prim.Native.Nat.{ℕ, ◌+◌, ◌-◌, ◌≤◌, ◌<◌}
use native.Mathlib.Omega.{arith}
use mir.Val.{Fits}
use mir.Syntax.{w64}
use borrow.Author.Rules.{rules}
use borrow.Author.Tests.{leb-true, eqb-true, eqb-false}
use lib.Dec.{leb, eqb}
use lib.ListN.{length, length-append}
use Rattle.base.proofs.Ifs.{if_case}
use Rattle.base.specs.Part.{part, put_at, put_in}
use Rattle.base.proofs.Parts.{length_part, length_put, put_put}
use Rattle.base.proofs.Copies.{put_in_lem, kept_in}
use Rattle.content.specs.Walk.{is_inside, unit_next, unit_from, Rest, ends, fails, before, rest_by, rest_at, Record, whole, nothing, split_by, begun_by, record_at}
use Rattle.content.specs.Code.Heads.{Inside}
use Rattle.content.specs.Code.Joining.{is_ended, rest_bytes, bytes_behind, RestFits, record_bytes, is_split, SplitAt}
use Rattle.content.specs.declared.Walk.{Walk}
use Rattle.content.specs.declared.unit.Taken.{Taken}
use Rattle.content.proofs.Units.{inside_true}
use Rattle.content.proofs.Rests.{UnitBehind, next_behind, from_behind, rest_at_lem, ended_before, rest_roomy}
use Rattle.content.proofs.Measures.{unit_falls}

-- ---- segments one by one

-- the next segment of a record that ends: it is the last, or the others follow it
pub record JoinGoing (s : List ℕ) (w : Walk) (i start n : ℕ) (v : Walk) : Type 0 where
  pub long : length (part start n s) ≡ n
  pub inside : Inside s v
  pub some : n ≤ length (bytes_behind s w)
  pub last : i ≡ 3 → bytes_behind s w ≡ part start n s
  pub more : (i ≡ 3 → ⊥)
      → (bytes_behind s w ≡ part start n s ++ bytes_behind s v) × (is_ended (rest_at s v.record_length v) ≡ true)

bytes_before : (bs : List ℕ) (x : Rest) → is_ended x ≡ true → rest_bytes (before bs x) ≡ bs ++ rest_bytes x
unfolding rest_bytes before is_ended
bytes_before bs (ends cs v) h = refl
bytes_before bs fails h = absurd (false≢true h)

-- what ended in what room was left ends in the record length
ended_roomy : (s : List ℕ) (room : ℕ) (v : Walk) → room ≤ v.record_length → is_ended (rest_at s room v) ≡ true
    → (rest_bytes (rest_at s room v) ≡ bytes_behind s v) × (is_ended (rest_at s v.record_length v) ≡ true)
unfolding bytes_behind
ended_roomy s room v h e =
    let k = rest_roomy s room v.record_length v h e in
    (ap rest_bytes (sym k), ap is_ended k ∙ e)

-- the two ways in which a unit goes on with a record
abbrev Ways : List ℕ → ℕ → ℕ → ℕ → Walk → Rest → Type 0
Ways s i start n v x =
    (i ≡ 3 → rest_bytes x ≡ part start n s)
    × ((i ≡ 3 → ⊥) → (rest_bytes x ≡ part start n s ++ bytes_behind s v) × (is_ended (rest_at s v.record_length v) ≡ true))

goes_by : (s : List ℕ) (room : ℕ) (one : Taken) → room ≤ one.behind.record_length
    → is_ended (rest_by s room (Some one) (λ r u. rest_at s r u)) ≡ true
    → Ways s one.indicator one.start one.len one.behind (rest_by s room (Some one) (λ r u. rest_at s r u))
unfolding rest_by is_ended rest_bytes
goes_by s room one small =
    if_case P (leb one.len room) _ fails
    (λ a. if_case P (eqb one.indicator 3) (ends (part one.start one.len s) one.behind) _ (λ e _. ((λ _. refl), (λ x. absurd (x (eqb-true one.indicator 3 e)))))
    (λ e. if_case P (eqb one.indicator 2) (before (part one.start one.len s) (rest_at s (room - one.len) one.behind)) fails
    (λ f q. (
      (λ x. absurd (eqb-false one.indicator 3 e x)),
      (λ _. goes_on (leb-true one.len room a)
          (ended_before (part one.start one.len s) (rest_at s (room - one.len) one.behind) q)),
    ))
    (λ _ q. absurd (false≢true q))))
    (λ _ q. absurd (false≢true q))
  where
    P : Rest → Type 0
    P x = is_ended x ≡ true → Ways s one.indicator one.start one.len one.behind x

    goes_on : one.len ≤ room → is_ended (rest_at s (room - one.len) one.behind) ≡ true
        → (rest_bytes (before (part one.start one.len s) (rest_at s (room - one.len) one.behind)) ≡ part one.start one.len s ++ bytes_behind s one.behind)
        × (is_ended (rest_at s one.behind.record_length one.behind) ≡ true)
    goes_on k q =
        let both = ended_roomy s (room - one.len) one.behind (omega arith) q in
        (bytes_before (part one.start one.len s) (rest_at s (room - one.len) one.behind) q ∙ ap (λ (l : List ℕ). part one.start one.len s ++ l) both.0, both.1)

pub going : (s : List ℕ) (w : Walk) (at m : ℕ) (one : Taken) (t : Option Taken) → RestFits s w at m → t ≡ unit_next s w
    → t ≡ Some one → JoinGoing s w one.indicator one.start one.len one.behind
unfolding bytes_behind
going s w at m one t c e q = record {
  long = long;
  inside = b.inside;
  some = some;
  last = λ z. ap rest_bytes k ∙ ways.0 z;
  more = λ z. (ap rest_bytes k ∙ (ways.1 z).0, (ways.1 z).1);
}
  where
    b : UnitBehind s w one.start one.len one.behind
    b = next_behind s w one.indicator one.start one.len one.behind (sym e ∙ q)

    long : length (part one.start one.len s) ≡ one.len
    long = length_part one.start one.len s b.within

    k : rest_at s w.record_length w ≡ rest_by s w.record_length (Some one) (λ r u. rest_at s r u)
    k = rest_at_lem s w.record_length w ∙ ap (λ (x : Option Taken). rest_by s w.record_length x (λ r u. rest_at s r u)) (sym e ∙ q)

    small : w.record_length ≤ one.behind.record_length
    small = omega (arith, b.record_length)

    ways : Ways s one.indicator one.start one.len one.behind (rest_by s w.record_length (Some one) (λ r u. rest_at s r u))
    ways = goes_by s w.record_length one small (ap is_ended (sym k) ∙ c.ended)

    by_flag : (x : Bool) → eqb one.indicator 3 ≡ x → one.len ≤ length (rest_bytes (rest_at s w.record_length w))
    by_flag true z = omega (arith, ap length (ap rest_bytes k ∙ ways.0 (eqb-true one.indicator 3 z)), long)
    by_flag false z =
        omega (
          arith,
          ap length (ap rest_bytes k ∙ (ways.1 (eqb-false one.indicator 3 z)).0),
          length-append (part one.start one.len s)
              (rest_bytes (rest_at s one.behind.record_length one.behind)),
          long,
        )

    some : one.len ≤ length (rest_bytes (rest_at s w.record_length w))
    some = by_flag (eqb one.indicator 3) refl

pub not_nothing : (s : List ℕ) (w : Walk) (at m : ℕ) (t : Option Taken) → RestFits s w at m → t ≡ unit_next s w → t ≡ None → ⊥
unfolding is_ended rest_by
not_nothing s w at m t c e q =
    false≢true (ap is_ended
    (sym (rest_at_lem s w.record_length w ∙ ap (λ (x : Option Taken). rest_by s w.record_length x (λ r u. rest_at s r u)) (sym e ∙ q))) ∙ c.ended)

-- with what is behind w put from `at` on, the buffer is as with what is behind the first walk put from its place on
pub record Joining (s old : List ℕ) (place : ℕ) (from : Walk) (out : List ℕ) (at : ℕ) (w : Walk) : Type 0 where
  pub goes : RestFits s w at (length out)
  pub long : length out ≡ length old
  pub same : put_at out at (bytes_behind s w) ≡ put_at old place (bytes_behind s from)

pub joining_none : (s old : List ℕ) (place : ℕ) (from : Walk) → RestFits s from place (length old)
    → Joining s old place from old place from
joining_none s old place from h = record { goes = h; long = refl; same = refl }

pub joining_nothing : (s old : List ℕ) (place : ℕ) (from : Walk) (out : List ℕ) (at : ℕ) (w : Walk) (t : Option Taken)
    → Joining s old place from out at w → t ≡ unit_next s w
    → t ≡ None → out ≡ put_at old place (bytes_behind s from)
joining_nothing s old place from out at w t c e q = absurd (not_nothing s w at (length out) t c.goes e q)

-- a segment has room
pub segment_room : (s old : List ℕ) (place : ℕ) (from : Walk) (out : List ℕ) (at : ℕ) (w : Walk) (one : Taken)
    (t : Option Taken) (l : List ℕ)
    → Joining s old place from out at w → t ≡ unit_next s w → t ≡ Some one → l ≡ part one.start one.len s → at + length l ≤ length out
segment_room s old place from out at w one t l c e q h =
    let g = going s w at (length out) one t c.goes e q in
    let a = g.long in
    let b = g.some in
    let d = c.goes.fits in
    let k : length l ≡ length (part one.start one.len s) = ap length h in
    omega arith

pub joining_last : (s old : List ℕ) (place : ℕ) (from : Walk) (out : List ℕ) (at : ℕ) (w : Walk) (one : Taken)
    (t : Option Taken) (l new : List ℕ)
    → Joining s old place from out at w → t ≡ unit_next s w → t ≡ Some one → l ≡ part one.start one.len s → new ≡ put_in out at l
    → one.indicator ≡ 3
    → new ≡ put_at old place (bytes_behind s from)
joining_last s old place from out at w one t l new c e q h p z =
    let g = going s w at (length out) one t c.goes e q in
    p ∙ put_in_lem out at l (segment_room s old place from out at w one t l c e q h) ∙ ap (put_at out at) (h ∙ sym (g.last z)) ∙ c.same

pub joining_more : (s old : List ℕ) (place : ℕ) (from : Walk) (out : List ℕ) (at : ℕ) (w : Walk) (one : Taken)
    (t : Option Taken) (l new : List ℕ)
    → Joining s old place from out at w → t ≡ unit_next s w → t ≡ Some one → l ≡ part one.start one.len s → new ≡ put_in out at l
    → (one.indicator ≡ 3 → ⊥)
    → Joining s old place from new (at + one.len) one.behind
joining_more s old place from out at w one t l new c e q h p z =
    let g = going s w at (length out) one t c.goes e q in
    let a = g.long in
    let fits = c.goes.fits in
    let bytes = (g.more z).0 in
    let sum : length (bytes_behind s w) ≡ length (part one.start one.len s) + length (bytes_behind s one.behind) = ap length bytes ∙ length-append (part one.start one.len s) (bytes_behind s one.behind) in
    let made : new ≡ put_at out at (part one.start one.len s)
    = p ∙ put_in_lem out at l (segment_room s old place from out at w one t l c e q h) ∙ ap (put_at out at) h in
    let room : at + length (part one.start one.len s) ≤ length out = omega arith in
    let kept : length new ≡ length out = ap length made ∙ length_put out at (part one.start one.len s) room in
    let place' : at + one.len ≡ at + length (part one.start one.len s) = omega arith in
    record {
      goes = record { inside = g.inside; ended = (g.more z).1; fits = omega arith };
      long = kept ∙ c.long;
      same = ap₂ (λ (x : List ℕ) (k : ℕ). put_at x k (bytes_behind s one.behind)) made place'
          ∙ put_put out at (part one.start one.len s) (bytes_behind s one.behind) room
          ∙ ap (put_at out at) (sym bytes)
          ∙ c.same;
    }

pub joining_fits : (s old : List ℕ) (place : ℕ) (from : Walk) (out : List ℕ) (at : ℕ) (w : Walk) (one : Taken)
    (t : Option Taken)
    → Joining s old place from out at w → t ≡ unit_next s w → t ≡ Some one → length old < 18446744073709551616
    → Fits w64 (at + one.len)
joining_fits s old place from out at w one t c e q h =
    let g = going s w at (length out) one t c.goes e q in
    let b = g.some in
    let d = c.goes.fits in
    let l = c.long in
    omega arith

-- the buffer keeps its length
pub joining_length : (s old : List ℕ) (place : ℕ) (from : Walk) (out : List ℕ) (at : ℕ) (w : Walk)
    → Joining s old place from out at w → length out ≡ length old
joining_length s old place from out at w c = c.long

pub ruleset joinings =
    (joining_none, joining_nothing, segment_room, joining_last, joining_more, joining_fits, unit_falls, joining_length, rules)

-- ---- the whole record

-- the first segment of a split record, and the others behind it
pub record Splitting (s : List ℕ) (w : Walk) (start n : ℕ) (v : Walk) : Type 0 where
  pub long : length (part start n s) ≡ n
  pub inside : Inside s v
  pub ended : is_ended (rest_at s v.record_length v) ≡ true
  pub bytes : record_bytes (record_at s w) ≡ part start n s ++ bytes_behind s v

split_ended : (bs : List ℕ) (x : Rest) → is_split (split_by bs x) ≡ true → is_ended x ≡ true
unfolding is_split split_by is_ended
split_ended bs (ends cs v) h = refl
split_ended bs fails h = h

split_bytes_lem : (bs : List ℕ) (x : Rest) → is_ended x ≡ true → record_bytes (split_by bs x) ≡ bs ++ rest_bytes x
unfolding record_bytes split_by is_ended rest_bytes
split_bytes_lem bs (ends cs v) h = refl
split_bytes_lem bs fails h = absurd (false≢true h)

-- what a unit that begins a split record is
abbrev Begins : List ℕ → ℕ → ℕ → Walk → Record → Type 0
Begins s start n v x = (record_bytes x ≡ part start n s ++ bytes_behind s v) × (is_ended (rest_at s v.record_length v) ≡ true)

begins_by : (s : List ℕ) (r : ℕ) (one : Taken) → r ≤ one.behind.record_length → is_split (begun_by s r (Some one)) ≡ true
    → Begins s one.start one.len one.behind (begun_by s r (Some one))
unfolding begun_by is_split
begins_by s r one small =
    if_case P (leb one.len r) _ nothing
    (λ a. if_case P (eqb one.indicator 0) (whole one.start one.len one.behind) _ (λ _ q. absurd (false≢true q))
    (λ _. if_case P (eqb one.indicator 1) (split_by (part one.start one.len s) (rest_at s (r - one.len) one.behind)) nothing
    (λ _ q. goes_on (split_ended (part one.start one.len s) (rest_at s (r - one.len) one.behind) q)) (λ _ q. absurd (false≢true q))))
    (λ _ q. absurd (false≢true q))
  where
    P : Record → Type 0
    P x = is_split x ≡ true → Begins s one.start one.len one.behind x

    goes_on : is_ended (rest_at s (r - one.len) one.behind) ≡ true → Begins s one.start one.len one.behind (split_by (part one.start one.len s) (rest_at s (r - one.len) one.behind))
    goes_on q =
        let both = ended_roomy s (r - one.len) one.behind (omega arith) q in
        (split_bytes_lem (part one.start one.len s) (rest_at s (r - one.len) one.behind) q ∙ ap (λ (l : List ℕ). part one.start one.len s ++ l) both.0, both.1)

-- a record that is not nothing is that which the unit at the walk's place begins
begun_split : (s : List ℕ) (w : Walk) → is_split (record_at s w) ≡ true
    → (Inside s w) × (record_at s w ≡ begun_by s w.record_length (unit_from s w))
unfolding record_at is_split
begun_split s w =
    if_case P (eqb w.record_length 0) nothing _ (λ _ q. absurd (false≢true q))
    (λ _. if_case P (is_inside s w) (begun_by s w.record_length (unit_from s w)) nothing (λ a q. (inside_true s w true (sym a) refl, refl))
    (λ _ q. absurd (false≢true q)))
  where
    P : Record → Type 0
    P x = is_split x ≡ true → (Inside s w) × (x ≡ begun_by s w.record_length (unit_from s w))

pub split_inside : (s : List ℕ) (w : Walk) → is_split (record_at s w) ≡ true → Inside s w
split_inside s w h = (begun_split s w h).0

pub splitting : (s : List ℕ) (w : Walk) (m : ℕ) (one : Taken) (t : Option Taken) → SplitAt s w m → t ≡ unit_from s w
    → t ≡ Some one → Splitting s w one.start one.len one.behind
splitting s w m one t c e q = record {
  long = length_part one.start one.len s b.within;
  inside = b.inside;
  ended = ways.1;
  bytes = ap record_bytes k ∙ ways.0;
}
  where
    b : UnitBehind s w one.start one.len one.behind
    b = from_behind s w one.indicator one.start one.len one.behind c.inside (sym e ∙ q)

    k : record_at s w ≡ begun_by s w.record_length (Some one)
    k = (begun_split s w c.is).1 ∙ ap (begun_by s w.record_length) (sym e ∙ q)

    ways : Begins s one.start one.len one.behind (begun_by s w.record_length (Some one))
    ways = begins_by s w.record_length one (omega (arith, b.record_length)) (ap is_split (sym k) ∙ c.is)

pub split_not_nothing : (s : List ℕ) (w : Walk) (m : ℕ) (t : Option Taken) → SplitAt s w m → t ≡ unit_from s w → t ≡ None → ⊥
unfolding begun_by is_split
split_not_nothing s w m t c e q =
    false≢true (ap is_split (sym ((begun_split s w c.is).1 ∙ ap (begun_by s w.record_length) (sym e ∙ q))) ∙ c.is)

pub join_nothing : (s old : List ℕ) (w : Walk) (t : Option Taken) → SplitAt s w (length old) → t ≡ unit_from s w → t ≡ None
    → old ≡ put_at old 0 (record_bytes (record_at s w))
join_nothing s old w t c e q = absurd (split_not_nothing s w (length old) t c e q)

-- the record in numbers
split_sum : (s : List ℕ) (w : Walk) (m : ℕ) (one : Taken) (t : Option Taken) → SplitAt s w m → t ≡ unit_from s w
    → t ≡ Some one
    → one.len + length (bytes_behind s one.behind) ≤ m
split_sum s w m one t c e q =
    let g = splitting s w m one t c e q in
    let a = g.long in
    let sum : length (record_bytes (record_at s w)) ≡ length (part one.start one.len s) + length (bytes_behind s one.behind)
    = ap length g.bytes ∙ length-append (part one.start one.len s) (bytes_behind s one.behind) in
    omega (arith, c.fits)

pub first_within_lem : (s : List ℕ) (w : Walk) (m : ℕ) (one : Taken) (t : Option Taken) → SplitAt s w m → t ≡ unit_from s w
    → t ≡ Some one → one.start + one.len ≤ length s
first_within_lem s w m one t c e q = (from_behind s w one.indicator one.start one.len one.behind c.inside (sym e ∙ q)).within

pub rest_goes : (s old : List ℕ) (w : Walk) (one : Taken) (t : Option Taken) → SplitAt s w (length old) → t ≡ unit_from s w
    → t ≡ Some one
    → RestFits s one.behind one.len (length old)
rest_goes s old w one t c e q =
    let g = splitting s w (length old) one t c e q in
    record { inside = g.inside; ended = g.ended; fits = split_sum s w (length old) one t c e q }

pub join_whole : (s old : List ℕ) (w : Walk) (one : Taken) (t : Option Taken) (new : List ℕ) → SplitAt s w (length old)
    → t ≡ unit_from s w
    → t ≡ Some one → new ≡ put_at old 0 (part one.start one.len s ++ bytes_behind s one.behind) → new ≡ put_at old 0 (record_bytes (record_at s w))
join_whole s old w one t new c e q p = p ∙ ap (put_at old 0) (sym (splitting s w (length old) one t c e q).bytes)

pub split_here : (s : List ℕ) (w : Walk) (m : ℕ) → SplitAt s w m → Inside s w
split_here s w m c = c.inside

pub ruleset joins = (join_nothing, first_within_lem, rest_goes, join_whole, split_here, rules)

-- ---- from the first segment on

pub first_room : (s old : List ℕ) (start n : ℕ) (v : Walk) (l : List ℕ) → start + n ≤ length s → RestFits s v n (length old)
    → l ≡ part start n s
    → 0 + length l ≤ length old
first_room s old start n v l h c e =
    let a : length (part start n s) ≡ n = length_part start n s h in
    let b : length l ≡ length (part start n s) = ap length e in
    let f = c.fits in
    omega arith

pub still_goes : (s old out : List ℕ) (n : ℕ) (v : Walk) → RestFits s v n (length old) → length out ≡ length old
    → RestFits s v n (length out)
still_goes s old out n v c e = let f = c.fits in record { inside = c.inside; ended = c.ended; fits = omega arith }

pub joined_behind : (s old : List ℕ) (start n : ℕ) (v : Walk) (l out new : List ℕ) → start + n ≤ length s
    → RestFits s v n (length old) → l ≡ part start n s
    → out ≡ put_in old 0 l → new ≡ put_at out n (bytes_behind s v) → new ≡ put_at old 0 (part start n s ++ bytes_behind s v)
joined_behind s old start n v l out new h c e p q =
    let a : length (part start n s) ≡ n = length_part start n s h in
    let f = c.fits in
    let z : n ≡ 0 + length (part start n s) = omega arith in
    let room : 0 + length (part start n s) ≤ length old = omega arith in
    q
    ∙ ap₂ (λ (x : List ℕ) (j : ℕ). put_at x j (bytes_behind s v)) (p ∙ put_in_lem old 0 l (first_room s old start n v l h c e) ∙ ap (put_at old 0) e) z
    ∙ put_put old 0 (part start n s) (bytes_behind s v) room

pub ruleset joins_from = (first_room, still_goes, joined_behind, rules)

-- ---- two segments

pub joined_two : (s old : List ℕ) (start n next m : ℕ) (a b out new : List ℕ) → start + n ≤ length s → next + m ≤ length s
    → n + m ≤ length old
    → a ≡ part start n s → out ≡ put_in old 0 a → b ≡ part next m s → new ≡ put_in out n b
    → new ≡ put_at old 0 (part start n s ++ part next m s)
joined_two s old start n next m a b out new g h k e p f q =
    let c : length (part start n s) ≡ n = length_part start n s g in
    let d : length (part next m s) ≡ m = length_part next m s h in
    let la : length a ≡ length (part start n s) = ap length e in
    let lb : length b ≡ length (part next m s) = ap length f in
    let first : 0 + length (part start n s) ≤ length old = omega arith in
    let made : out ≡ put_at old 0 (part start n s) = p ∙ put_in_lem old 0 a (omega arith) ∙ ap (put_at old 0) e in
    let long : length out ≡ length old = ap length made ∙ length_put old 0 (part start n s) first in
    let z : n ≡ 0 + length (part start n s) = omega arith in
    q ∙ put_in_lem out n b (omega arith) ∙ ap (put_at out n) f
    ∙ ap₂ (λ (x : List ℕ) (j : ℕ). put_at x j (part next m s)) made z
    ∙ put_put old 0 (part start n s) (part next m s) first

pub ruleset joins_two = (joined_two, kept_in, rules)
