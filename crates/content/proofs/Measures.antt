-- Laws of the record at a walk's place, by its numbers. Assumes nothing.
use Rattle.std.proofs.lemmas.Option.{same_Some}
use Rattle.std.specs.Prelude.{Option, Some, None}
use mathlib.Core.Path.{◌≡◌, refl, sym, ap, ap₂, ◌∙◌}
use mathlib.Core.Bool.{Bool, true, false, not}
use mathlib.Core.List.{List, ◌++◌}
use Prim.Native.Nat.{ℕ, ◌+◌, ◌-◌, ◌≤◌, ◌<◌}
use native.Mathlib.Omega.{arith}
use mir.Val.{Fits}
use mir.Syntax.{w64}
use borrow.Author.Rules.{rules}
use borrow.Author.Tests.{le-leb, lt-leb, eq-eqb, ne_eqb, not-true, not-false}
use lib.ListN.{length, length-append}
use Rattle.base.proofs.Ifs.{if_true, if_false}
use Rattle.base.specs.Part.{part}
use Rattle.base.proofs.Parts.{length_part}
use Rattle.content.specs.Walk.{is_inside, unit_next, unit_from, Rest, ends, fails, before, rest_by, rest_at, whole, split_by, begun_by, record_at}
use Rattle.content.specs.Code.Heads.{Inside}
use Rattle.content.specs.Measure.{measured_by}
use Rattle.content.specs.Code.Joining.{tail_by, longer, tail}
use Rattle.content.specs.declared.Walk.{Walk}
use Rattle.content.specs.declared.unit.Taken.{Taken}
use Rattle.content.specs.declared.measuring.Tail.{Tail}
use Rattle.content.specs.declared.measuring.Measured.TheVariants.{Whole, Split}
use Rattle.content.proofs.Units.{inside_true}
use Rattle.content.proofs.Rests.{next_behind, from_behind, rest_at_lem, rest_most}

-- ---- the rest of a record, segment by segment

-- where the next unit is known
rest_one : (s : List ℕ) (room : ℕ) (w : Walk) (one : Taken) (t : Option Taken) → t ≡ unit_next s w → t ≡ Some one
    → rest_at s room w ≡ rest_by s room (Some one) (λ r u. rest_at s r u)
rest_one s room w one t e q = rest_at_lem s room w ∙ ap (λ (x : Option Taken). rest_by s room x (λ r u. rest_at s r u)) (sym e ∙ q)

rest_nothing : (s : List ℕ) (room : ℕ) (w : Walk) (t : Option Taken) → t ≡ unit_next s w → t ≡ None → rest_at s room w ≡ fails
unfolding rest_by
rest_nothing s room w t e q = rest_at_lem s room w ∙ ap (λ (x : Option Taken). rest_by s room x (λ r u. rest_at s r u)) (sym e ∙ q)

rest_over : (s : List ℕ) (room : ℕ) (w : Walk) (one : Taken) (t : Option Taken) → t ≡ unit_next s w → t ≡ Some one
    → room < one.len → rest_at s room w ≡ fails
unfolding rest_by
rest_over s room w one t e q h = rest_one s room w one t e q ∙ if_false _ _ _ (lt-leb one.len room h)

pub rest_ends : (s : List ℕ) (room : ℕ) (w : Walk) (one : Taken) (t : Option Taken) → t ≡ unit_next s w → t ≡ Some one
    → one.len ≤ room → one.indicator ≡ 3
    → rest_at s room w ≡ ends (part one.start one.len s) one.behind
unfolding rest_by
rest_ends s room w one t e q h z =
    rest_one s room w one t e q ∙ if_true _ _ _ (le-leb one.len room h) ∙ if_true _ _ _ (eq-eqb one.indicator 3 z)

rest_other : (s : List ℕ) (room : ℕ) (w : Walk) (one : Taken) (t : Option Taken) → t ≡ unit_next s w → t ≡ Some one
    → one.len ≤ room → (one.indicator ≡ 3 → ⊥)
    → (one.indicator ≡ 2 → ⊥) → rest_at s room w ≡ fails
unfolding rest_by
rest_other s room w one t e q h z y =
    rest_one s room w one t e q ∙ if_true _ _ _ (le-leb one.len room h) ∙ if_false _ _ _ (ne_eqb one.indicator 3 z)
    ∙ if_false _ _ _ (ne_eqb one.indicator 2 y)

pub rest_more : (s : List ℕ) (room : ℕ) (w : Walk) (one : Taken) (t : Option Taken) → t ≡ unit_next s w → t ≡ Some one
    → one.len ≤ room → (one.indicator ≡ 3 → ⊥)
    → one.indicator ≡ 2 → rest_at s room w ≡ before (part one.start one.len s) (rest_at s (room - one.len) one.behind)
unfolding rest_by
rest_more s room w one t e q h z y =
    rest_one s room w one t e q ∙ if_true _ _ _ (le-leb one.len room h) ∙ if_false _ _ _ (ne_eqb one.indicator 3 z)
    ∙ if_true _ _ _ (eq-eqb one.indicator 2 y)

-- ---- the loop over segments: with `total` bytes passed, the rest is as long as the whole

pub record RestMeasured (s : List ℕ) (most : ℕ) (from : Walk) (room total : ℕ) (w : Walk) : Type 0 where
  pub inside : Inside s w
  pub sum : total + room ≡ most
  pub same : longer total (tail_by (rest_at s room w)) ≡ tail_by (rest_at s most from)

longer_none : (t : Option Tail) → longer 0 t ≡ t
unfolding longer
longer_none (Some u) = let e : 0 + u.len ≡ u.len = omega arith in ap (λ (m : ℕ). tail m u.behind) e
longer_none None = refl

pub resting_none : (s : List ℕ) (most : ℕ) (from : Walk) → Inside s from → RestMeasured s most from most 0 from
resting_none s most from h = record { inside = h; sum = omega arith; same = longer_none _ }

rest_fails : (s : List ℕ) (most : ℕ) (from : Walk) (room total : ℕ) (w : Walk) → RestMeasured s most from room total w
    → rest_at s room w ≡ fails
    → None ≡ tail_by (rest_at s most from)
unfolding longer tail_by
rest_fails s most from room total w c e = ap (λ (x : Rest). longer total (tail_by x)) (sym e) ∙ c.same

pub resting_nothing : (s : List ℕ) (most : ℕ) (from : Walk) (room total : ℕ) (w : Walk) (t : Option Taken)
    → RestMeasured s most from room total w → t ≡ unit_next s w
    → t ≡ None → None ≡ tail_by (rest_at s most from)
resting_nothing s most from room total w t c e q = rest_fails s most from room total w c (rest_nothing s room w t e q)

pub resting_over : (s : List ℕ) (most : ℕ) (from : Walk) (room total : ℕ) (w : Walk) (one : Taken) (t : Option Taken)
    → RestMeasured s most from room total w
    → t ≡ unit_next s w → t ≡ Some one → room < one.len → None ≡ tail_by (rest_at s most from)
resting_over s most from room total w one t c e q h =
    rest_fails s most from room total w c (rest_over s room w one t e q h)

pub resting_other : (s : List ℕ) (most : ℕ) (from : Walk) (room total : ℕ) (w : Walk) (one : Taken) (t : Option Taken)
    → RestMeasured s most from room total w
    → t ≡ unit_next s w → t ≡ Some one → one.len ≤ room → (one.indicator ≡ 3 → ⊥) → (one.indicator ≡ 2 → ⊥) → None ≡ tail_by (rest_at s most from)
resting_other s most from room total w one t c e q h z y =
    rest_fails s most from room total w c (rest_other s room w one t e q h z y)

-- the segment's bytes are as many as it says
pub segment_long : (s : List ℕ) (w : Walk) (one : Taken) (t : Option Taken) → t ≡ unit_next s w → t ≡ Some one
    → length (part one.start one.len s) ≡ one.len
segment_long s w one t e q = length_part one.start one.len s (next_behind s w one.indicator one.start one.len one.behind (sym e ∙ q)).within

pub resting_ends : (s : List ℕ) (most : ℕ) (from : Walk) (room total : ℕ) (w : Walk) (one : Taken) (t : Option Taken)
    → RestMeasured s most from room total w
    → t ≡ unit_next s w → t ≡ Some one → one.len ≤ room → one.indicator ≡ 3 → tail (total + one.len) one.behind ≡ tail_by (rest_at s most from)
unfolding longer tail_by
resting_ends s most from room total w one t c e q h z =
    ap (λ (m : ℕ). tail (total + m) one.behind) (sym (segment_long s w one t e q))
    ∙ ap (λ (x : Rest). longer total (tail_by x)) (sym (rest_ends s room w one t e q h z)) ∙ c.same

longer_before : (k n : ℕ) (bs : List ℕ) (x : Rest) → length bs ≡ n → longer k (tail_by (before bs x)) ≡ longer (k + n) (tail_by x)
unfolding longer tail_by before
longer_before k n bs (ends cs v) h = let e : k + length (bs ++ cs) ≡ k + n + length cs = omega (arith, length-append bs cs) in ap (λ (m : ℕ). tail m v) e
longer_before k n bs fails h = refl

pub resting_more : (s : List ℕ) (most : ℕ) (from : Walk) (room total : ℕ) (w : Walk) (one : Taken) (t : Option Taken)
    → RestMeasured s most from room total w
    → t ≡ unit_next s w → t ≡ Some one → one.len ≤ room → (one.indicator ≡ 3 → ⊥) → one.indicator ≡ 2 → RestMeasured s most from (room - one.len) (total + one.len) one.behind
resting_more s most from room total w one t c e q h z y =
    let u = c.sum in
    record {
      inside = (next_behind s w one.indicator one.start one.len one.behind (sym e ∙ q)).inside;
      sum = omega arith;
      same = sym (longer_before total one.len (part one.start one.len s) (rest_at s (room - one.len) one.behind) (segment_long s w one t e q))
          ∙ ap (λ (x : Rest). longer total (tail_by x)) (sym (rest_more s room w one t e q h z y)) ∙ c.same;
    }

pub total_fits : (s : List ℕ) (most : ℕ) (from : Walk) (room total n : ℕ) (w : Walk) → RestMeasured s most from room total w
    → n ≤ room → most < 18446744073709551616
    → Fits w64 (total + n)
total_fits s most from room total n w c h k = let u = c.sum in omega arith

pub unit_falls : (s : List ℕ) (w : Walk) (one : Taken) (t : Option Taken) → t ≡ unit_next s w → t ≡ Some one
    → length s - one.behind.at < length s - w.at
unit_falls s w one t e q =
    let b = next_behind s w one.indicator one.start one.len one.behind (sym e ∙ q) in
    let on = b.onward in
    let in' = b.inside in
    omega arith

pub ruleset restings =
    (resting_none, resting_nothing, resting_over, resting_other, resting_ends, resting_more, total_fits, unit_falls, rules)

-- ---- the record

pub record_none : (s : List ℕ) (w : Walk) → w.record_length ≡ 0 → None ≡ measured_by (record_at s w)
unfolding record_at measured_by
record_none s w h = sym (ap measured_by (if_true _ _ _ (eq-eqb w.record_length 0 h)))

pub record_outside : (s : List ℕ) (w : Walk) (b : Bool) → (w.record_length ≡ 0 → ⊥) → b ≡ is_inside s w → not b ≡ true
    → None ≡ measured_by (record_at s w)
unfolding record_at measured_by
record_outside s w b h e t = sym (ap measured_by (if_false _ _ _ (ne_eqb w.record_length 0 h) ∙ if_false _ _ _ (sym e ∙ not-true b t)))

-- a walk by which a record can be read
pub record Readable (s : List ℕ) (w : Walk) : Type 0 where
  pub some : w.record_length ≡ 0 → ⊥
  pub inside : is_inside s w ≡ true

pub good : (s : List ℕ) (w : Walk) (b : Bool) → (w.record_length ≡ 0 → ⊥) → b ≡ is_inside s w → not b ≡ false → Readable s w
good s w b h e t = record { some = h; inside = sym e ∙ not-false b t }

pub good_inside : (s : List ℕ) (w : Walk) (b : Bool) → b ≡ is_inside s w → not b ≡ false → Inside s w
good_inside s w b e t = inside_true s w b e (not-false b t)

pub record_begun : (s : List ℕ) (w : Walk) (t : Option Taken) → Readable s w → t ≡ unit_from s w
    → record_at s w ≡ begun_by s w.record_length t
unfolding record_at
record_begun s w t g e =
    if_false _ _ _ (ne_eqb w.record_length 0 g.some) ∙ if_true _ _ _ g.inside ∙ ap (begun_by s w.record_length) (sym e)

pub begun_nothing : (s : List ℕ) (w : Walk) (t : Option Taken) → Readable s w → t ≡ unit_from s w → t ≡ None
    → None ≡ measured_by (record_at s w)
unfolding begun_by measured_by
begun_nothing s w t g e q = sym (ap measured_by (record_begun s w t g e ∙ ap (begun_by s w.record_length) q))

begun_one : (s : List ℕ) (w : Walk) (one : Taken) (t : Option Taken) → Readable s w → t ≡ unit_from s w → t ≡ Some one
    → record_at s w ≡ begun_by s w.record_length (Some one)
begun_one s w one t g e q = record_begun s w t g e ∙ ap (begun_by s w.record_length) q

pub begun_over : (s : List ℕ) (w : Walk) (one : Taken) (t : Option Taken) → Readable s w → t ≡ unit_from s w
    → t ≡ Some one → w.record_length < one.len
    → None ≡ measured_by (record_at s w)
unfolding begun_by measured_by
begun_over s w one t g e q h =
    sym (ap measured_by (begun_one s w one t g e q ∙ if_false _ _ _ (lt-leb one.len w.record_length h)))

pub is_whole_lem : (s : List ℕ) (w : Walk) (one : Taken) (t : Option Taken) → Readable s w → t ≡ unit_from s w
    → t ≡ Some one → one.len ≤ w.record_length → one.indicator ≡ 0
    → record_at s w ≡ whole one.start one.len one.behind
unfolding begun_by
is_whole_lem s w one t g e q h z =
    begun_one s w one t g e q ∙ if_true _ _ _ (le-leb one.len w.record_length h) ∙ if_true _ _ _ (eq-eqb one.indicator 0 z)

pub begun_whole : (s : List ℕ) (w : Walk) (one : Taken) (t : Option Taken) → Readable s w → t ≡ unit_from s w
    → t ≡ Some one → one.len ≤ w.record_length → one.indicator ≡ 0
    → Some (Whole one.start one.len one.behind) ≡ measured_by (record_at s w)
unfolding measured_by
begun_whole s w one t g e q h z = sym (ap measured_by (is_whole_lem s w one t g e q h z))

pub begun_other : (s : List ℕ) (w : Walk) (one : Taken) (t : Option Taken) → Readable s w → t ≡ unit_from s w
    → t ≡ Some one → one.len ≤ w.record_length → (one.indicator ≡ 0 → ⊥)
    → (one.indicator ≡ 1 → ⊥) → None ≡ measured_by (record_at s w)
unfolding begun_by measured_by
begun_other s w one t g e q h z y =
    sym (ap measured_by (begun_one s w one t g e q ∙ if_true _ _ _ (le-leb one.len w.record_length h) ∙ if_false _ _ _ (ne_eqb one.indicator 0 z)
    ∙ if_false _ _ _ (ne_eqb one.indicator 1 y)))

pub begun_split : (s : List ℕ) (w : Walk) (one : Taken) (t : Option Taken) → Readable s w → t ≡ unit_from s w
    → t ≡ Some one → one.len ≤ w.record_length → (one.indicator ≡ 0 → ⊥)
    → one.indicator ≡ 1 → record_at s w ≡ split_by (part one.start one.len s) (rest_at s (w.record_length - one.len) one.behind)
unfolding begun_by
begun_split s w one t g e q h z y =
    begun_one s w one t g e q ∙ if_true _ _ _ (le-leb one.len w.record_length h) ∙ if_false _ _ _ (ne_eqb one.indicator 0 z)
    ∙ if_true _ _ _ (eq-eqb one.indicator 1 y)

tail_fails : (bs : List ℕ) (x : Rest) → tail_by x ≡ None → measured_by (split_by bs x) ≡ None
unfolding tail_by split_by measured_by
tail_fails bs (ends cs v) e = let z : ◌≡◌ {A = ℕ} 0 1 = cc in absurd (omega arith)
tail_fails bs fails e = refl

tail_ends : (bs : List ℕ) (x : Rest) (n : ℕ) (rest : Tail) → length bs ≡ n → tail_by x ≡ Some rest
    → measured_by (split_by bs x) ≡ Some (Split (n + rest.len) rest.behind)
unfolding tail_by split_by measured_by
tail_ends bs (ends cs v) n rest h e =
    let q = same_Some (record { len = length cs; behind = v }) rest e in
    let a : length cs ≡ rest.len = ap (λ (t : Tail). t.len) q in
    let b : v ≡ rest.behind = ap (λ (t : Tail). t.behind) q in
    let k : length (bs ++ cs) ≡ n + rest.len = omega (arith, length-append bs cs) in
    ap₂ (λ (j : ℕ) (x : Walk). Some (Split j x)) k b
tail_ends bs fails n rest h e = let z : ◌≡◌ {A = ℕ} 0 1 = cc in absurd (omega arith)

pub split_fails : (s : List ℕ) (w : Walk) (one : Taken) (t : Option Taken) (x : Option Tail) → Readable s w → t ≡ unit_from s w
    → t ≡ Some one → one.len ≤ w.record_length
    → (one.indicator ≡ 0 → ⊥) → one.indicator ≡ 1 → x ≡ tail_by (rest_at s (w.record_length - one.len) one.behind) → x ≡ None → None ≡ measured_by (record_at s w)
split_fails s w one t x g e q h z y k f =
    sym (ap measured_by (begun_split s w one t g e q h z y)
    ∙ tail_fails (part one.start one.len s) (rest_at s (w.record_length - one.len) one.behind) (sym k ∙ f))

pub from_long : (s : List ℕ) (w : Walk) (one : Taken) (t : Option Taken) → Inside s w → t ≡ unit_from s w
    → t ≡ Some one → length (part one.start one.len s) ≡ one.len
from_long s w one t h e q = length_part one.start one.len s (from_behind s w one.indicator one.start one.len one.behind h (sym e ∙ q)).within

pub split_ends : (s : List ℕ) (w : Walk) (one : Taken) (t : Option Taken) (x : Option Tail) (rest : Tail) → Readable s w
    → t ≡ unit_from s w → t ≡ Some one
    → one.len ≤ w.record_length → (one.indicator ≡ 0 → ⊥) → one.indicator ≡ 1 → x ≡ tail_by (rest_at s (w.record_length - one.len) one.behind) → x ≡ Some rest
    → Some (Split (one.len + rest.len) rest.behind) ≡ measured_by (record_at s w)
split_ends s w one t x rest g e q h z y k f =
    sym (ap measured_by (begun_split s w one t g e q h z y)
    ∙ tail_ends (part one.start one.len s) (rest_at s (w.record_length - one.len) one.behind) one.len rest
    (from_long s w one t (inside_true s w true (sym g.inside) refl) e q) (sym k ∙ f))

tail_most : (room : ℕ) (x : Rest) (rest : Tail) → ((bs : List ℕ) (v : Walk) → x ≡ ends bs v → length bs ≤ room)
    → tail_by x ≡ Some rest → rest.len ≤ room
unfolding tail_by
tail_most room (ends cs v) rest h e =
    let q = same_Some (record { len = length cs; behind = v }) rest e in
    let a : length cs ≡ rest.len = ap (λ (t : Tail). t.len) q in omega (arith, h cs v refl)
tail_most room fails rest h e = let z : ◌≡◌ {A = ℕ} 0 1 = cc in absurd (omega arith)

pub sum_fits : (s : List ℕ) (r n : ℕ) (v : Walk) (x : Option Tail) (rest : Tail) → n ≤ r → r < 4294967296
    → x ≡ tail_by (rest_at s (r - n) v) → x ≡ Some rest → Fits w64 (n + rest.len)
sum_fits s r n v x rest h l k f =
    let a = tail_most (r - n) (rest_at s (r - n) v) rest (λ bs y e. rest_most s (r - n) v bs y e) (sym k ∙ f) in
    omega arith

pub begun_inside : (s : List ℕ) (w : Walk) (one : Taken) (t : Option Taken) (b : Bool) → b ≡ is_inside s w → not b ≡ false
    → t ≡ unit_from s w → t ≡ Some one
    → Inside s one.behind
begun_inside s w one t b e f k q = (from_behind s w one.indicator one.start one.len one.behind (good_inside s w b e f) (sym k ∙ q)).inside

pub ruleset measures =
    (record_none, record_outside, good, good_inside, begun_nothing, begun_over, begun_whole, begun_other, split_fails, split_ends, sum_fits, begun_inside, rules)
