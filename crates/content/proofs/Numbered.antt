-- The records of a walk by their numbers, as the code goes over them: the measure of the next one, a split one segment by segment,
-- and the loop that counts them. Assumes nothing.
use Rattle.content.specs.declared.measuring.Measured.{Measured}
use Rattle.std.specs.Prelude.{Option, Some, None}
use mathlib.Core.Path.{◌≡◌, refl, sym, ap, ◌∙◌, subst}
use mathlib.Core.Bool.{true}
use mathlib.Core.List.{List, [], ◌∷◌, map}
use Prim.Native.Nat.{ℕ, zero, ◌+◌, ◌-◌, ◌≤◌, ◌<◌}
use native.Mathlib.Omega.{arith}
use mir.Val.{Fits}
use mir.Syntax.{w64}
use borrow.Author.Rules.{rules}
use lib.Dec.{leb, eqb}
use lib.ListN.{length}
use Rattle.base.proofs.Ifs.{if_true, if_case}
use Rattle.base.specs.Part.{part}
use Rattle.base.proofs.Parts.{length_part}
use Rattle.base.specs.Sum.{sum}
use Rattle.block.specs.Unit.{word_of}
use Rattle.content.specs.Walk.{moved, is_inside, unit_next, unit_from, first_segment, next_segment, Rest, ends, fails, rest_at, Record, whole, split, nothing, split_by, begun_by, record_at}
use Rattle.content.specs.Code.Heads.{Inside, whole_at}
use Rattle.content.specs.Whole.{at_block}
use Rattle.content.specs.Measure.{measured_by}
use Rattle.content.specs.Code.Joining.{is_ended, bytes_behind, record_bytes}
use Rattle.content.specs.Walked.{handed, end_of}
use Rattle.content.specs.Records.{records_at, facts_of}
use Rattle.content.specs.declared.Walk.{Walk}
use Rattle.content.specs.declared.counting.Facts.{Facts}
use Rattle.content.specs.declared.measuring.Measured.TheVariants.{Whole, Split}
use Rattle.content.specs.declared.unit.Taken.{Taken}
use Rattle.content.proofs.Units.{inside_true, inside_is}
use Rattle.content.proofs.Rests.{from_behind}
use Rattle.content.proofs.Wholes.{measured_whole as whole_measured, word_least, whole_left, whole_end}
use Rattle.content.proofs.Joins.{JoinGoing, going, not_nothing, Splitting, splitting, split_not_nothing}
use Rattle.content.proofs.Stepping.{split_stands}
use Rattle.content.proofs.Records.{handed_passes, records_more, records_over, end_more, end_over}

-- ---- the record at a walk's place, by its numbers

handed_nothing : (s : List ℕ) (x : Record) → measured_by x ≡ None → handed s x ≡ fails
unfolding measured_by handed
handed_nothing s (whole a m u) e = let z : ◌≡◌ {A = ℕ} 0 1 = cc in absurd (omega arith)
handed_nothing s (split bs u) e = let z : ◌≡◌ {A = ℕ} 0 1 = cc in absurd (omega arith)
handed_nothing s nothing e = refl

handed_whole : (s : List ℕ) (start n : ℕ) (v : Walk) (x : Record) → measured_by x ≡ Some (Whole start n v)
    → handed s x ≡ ends (part start n s) v
unfolding measured_by handed
handed_whole s start n v (whole a m u) e =
    let p : a ≡ start = cc in
    let q : m ≡ n = cc in
    let w : u ≡ v = cc in
    λ i. ends (part (p i) (q i) s) (w i)
handed_whole s start n v (split bs u) e = let z : ◌≡◌ {A = ℕ} 0 1 = cc in absurd (omega arith)
handed_whole s start n v nothing e = let z : ◌≡◌ {A = ℕ} 0 1 = cc in absurd (omega arith)

handed_split : (s : List ℕ) (n : ℕ) (v : Walk) (x : Record) → measured_by x ≡ Some (Split n v)
    → (handed s x ≡ ends (record_bytes x) v) × (length (record_bytes x) ≡ n)
unfolding measured_by handed record_bytes
handed_split s n v (whole a m u) e = let z : ◌≡◌ {A = ℕ} 0 1 = cc in absurd (omega arith)
handed_split s n v (split bs u) e =
    let l : length bs ≡ n = cc in
    let w : u ≡ v = cc in
    (ap (ends bs) w, l)
handed_split s n v nothing e = let z : ◌≡◌ {A = ℕ} 0 1 = cc in absurd (omega arith)

-- by what `measure` says of it
pub measured_nothing : (s : List ℕ) (w : Walk) (m : Option Measured) → m ≡ measured_by (record_at s w) → m ≡ None → records_at s w ≡ []
measured_nothing s w m e q = records_over s w (handed_nothing s (record_at s w) (sym e ∙ q))

-- behind a whole record are the records of the walk behind it
pub measured_whole : (s : List ℕ) (w : Walk) (start n : ℕ) (v : Walk) (m : Option Measured) → m ≡ measured_by (record_at s w)
    → m ≡ Some (Whole start n v)
    → records_at s w ≡ part start n s ∷ records_at s v
measured_whole s w start n v m e q = records_more s w (part start n s) v (handed_whole s start n v (record_at s w) (sym e ∙ q))

-- and so behind a split one
pub measured_split : (s : List ℕ) (w : Walk) (n : ℕ) (v : Walk) (m : Option Measured) → m ≡ measured_by (record_at s w) → m ≡ Some (Split n v)
    → records_at s w ≡ record_bytes (record_at s w) ∷ records_at s v
measured_split s w n v m e q = records_more s w (record_bytes (record_at s w)) v (handed_split s n v (record_at s w) (sym e ∙ q)).0

-- without a record the walk ends where it stands
pub measured_end_nothing : (s : List ℕ) (w : Walk) (m : Option Measured) → m ≡ measured_by (record_at s w) → m ≡ None
    → end_of s w ≡ w.at + w.left
measured_end_nothing s w m e q = end_over s w (handed_nothing s (record_at s w) (sym e ∙ q))

-- a whole record leaves the end of the walk where it is
pub measured_end_whole : (s : List ℕ) (w : Walk) (start n : ℕ) (v : Walk) (m : Option Measured) → m ≡ measured_by (record_at s w)
    → m ≡ Some (Whole start n v) → end_of s w ≡ end_of s v
measured_end_whole s w start n v m e q = end_more s w (part start n s) v (handed_whole s start n v (record_at s w) (sym e ∙ q))

-- and so does a split one
pub measured_end_split : (s : List ℕ) (w : Walk) (n : ℕ) (v : Walk) (m : Option Measured) → m ≡ measured_by (record_at s w) → m ≡ Some (Split n v)
    → end_of s w ≡ end_of s v
measured_end_split s w n v m e q = end_more s w (record_bytes (record_at s w)) v (handed_split s n v (record_at s w) (sym e ∙ q)).0

-- a split record is as long as it was measured
pub split_long : (s : List ℕ) (w : Walk) (n : ℕ) (v : Walk) (m : Option Measured) → m ≡ measured_by (record_at s w) → m ≡ Some (Split n v)
    → length (record_bytes (record_at s w)) ≡ n
split_long s w n v m e q = (handed_split s n v (record_at s w) (sym e ∙ q)).1

-- a whole record lies in the image
abbrev IfWhole : (ℕ → ℕ → Type 0) → Option Measured → Type 0
IfWhole P (Some (Whole start n v)) = P start n
IfWhole P (Some (Split n v)) = zero ≡ zero
IfWhole P None = zero ≡ zero

abbrev Within : List ℕ → Record → Type 0
Within s x = IfWhole (λ start n. start + n ≤ length s) (measured_by x)

split_within : (s bs : List ℕ) (x : Rest) → Within s (split_by bs x)
unfolding split_by measured_by
split_within s bs (ends cs v) = refl
split_within s bs fails = refl

begun_within : (s : List ℕ) (w : Walk) (t : Option Taken) → Inside s w → unit_from s w ≡ t → Within s (begun_by s w.record_length t)
unfolding begun_by measured_by
begun_within s w (Some u) h e =
    if_case (Within s) (leb u.len w.record_length) _ nothing
    (λ _. if_case (Within s) (eqb u.indicator 0) (whole u.start u.len u.behind) _ (λ _. (from_behind s w u.indicator u.start u.len u.behind h e).within)
    (λ _. if_case (Within s) (eqb u.indicator 1) (split_by (part u.start u.len s) (rest_at s (w.record_length - u.len) u.behind)) nothing
    (λ _. split_within s (part u.start u.len s) (rest_at s (w.record_length - u.len) u.behind)) (λ _. refl)))
    (λ _. refl)
begun_within s w None h e = refl

record_within : (s : List ℕ) (w : Walk) → Within s (record_at s w)
unfolding record_at measured_by
record_within s w =
    if_case (Within s) (eqb w.record_length 0) nothing _ (λ _. refl)
    (λ _. if_case (Within s) (is_inside s w) (begun_by s w.record_length (unit_from s w)) nothing
    (λ a. begun_within s w (unit_from s w) (inside_true s w true (sym a) refl) refl) (λ _. refl))

-- a whole record lies inside the image
pub whole_within : (s : List ℕ) (w : Walk) (start n : ℕ) (v : Walk) (m : Option Measured) → m ≡ measured_by (record_at s w)
    → m ≡ Some (Whole start n v) → start + n ≤ length s
whole_within s w start n v m e q = subst (IfWhole (λ a k. a + k ≤ length s)) (sym e ∙ q) (record_within s w)

-- ---- a split record, segment by segment

first_is : (s : List ℕ) (w : Walk) (one : Taken) → first_segment s w ≡ Some one
    → unit_from s w ≡ Some one
unfolding first_segment
first_is s w one =
    if_case (λ (t : Option Taken). t ≡ Some one → unit_from s w ≡ Some one) (is_inside s w) (unit_from s w) None (λ _ e. e)
    (λ _ e. let z : ◌≡◌ {A = ℕ} 0 1 = cc in absurd (omega arith))

next_is : (s : List ℕ) (w : Walk) (one : Taken) → next_segment s w ≡ Some one → unit_next s w ≡ Some one
unfolding next_segment
next_is s w one =
    if_case (λ (t : Option Taken). t ≡ Some one → unit_next s w ≡ Some one) (is_inside s w) (unit_next s w) None (λ _ e. e)
    (λ _ e. let z : ◌≡◌ {A = ℕ} 0 1 = cc in absurd (omega arith))

-- the first segment of a split record, and the rest behind it
pub first_split : (s : List ℕ) (w : Walk) (k : ℕ) (u : Walk) (m : Option Measured) (one : Taken) (t : Option Taken)
    → m ≡ measured_by (record_at s w) → m ≡ Some (Split k u)
    → t ≡ first_segment s w → t ≡ Some one → Splitting s w one.start one.len one.behind
first_split s w k u m one t e q f h =
    splitting s w k one (unit_from s w) (split_stands s w k u m k e q (omega arith)) refl
    (first_is s w one (sym f ∙ h))

-- a further segment, where a record goes on behind w and ends
pub next_going : (s : List ℕ) (w : Walk) (one : Taken) (t : Option Taken) → Inside s w
    → is_ended (rest_at s w.record_length w) ≡ true → t ≡ next_segment s w
    → t ≡ Some one → JoinGoing s w one.indicator one.start one.len one.behind
next_going s w one t h e f q =
    going s w 0 (length (bytes_behind s w)) one (unit_next s w) (record { inside = h; ended = e; fits = omega arith }) refl
    (next_is s w one (sym f ∙ q))

-- there is such a segment
pub first_some : (s : List ℕ) (w : Walk) (k : ℕ) (u : Walk) (m : Option Measured) (t : Option Taken) → m ≡ measured_by (record_at s w)
    → m ≡ Some (Split k u) → t ≡ first_segment s w
    → t ≡ None → ⊥
unfolding first_segment
first_some s w k u m t e q f h =
    let c = split_stands s w k u m k e q (omega arith) in
    split_not_nothing s w k (unit_from s w) c refl (sym (if_true _ _ _ (inside_is s w c.inside)) ∙ sym f ∙ h)

-- a record that goes on to its end has a next segment
pub next_some : (s : List ℕ) (w : Walk) (t : Option Taken) → Inside s w → is_ended (rest_at s w.record_length w) ≡ true
    → t ≡ next_segment s w
    → t ≡ None → ⊥
unfolding next_segment
next_some s w t h e f q =
    not_nothing s w 0 (length (bytes_behind s w)) (unit_next s w) (record { inside = h; ended = e; fits = omega arith }) refl
    (sym (if_true _ _ _ (inside_is s w h)) ∙ sym f ∙ q)

-- ---- records counted: what was counted and what is left make the whole

pub record Counting (s : List ℕ) (from : Walk) (records bytes : ℕ) (w : Walk) : Type 0 where
  pub some : records ≤ w.at
  pub most : bytes ≤ w.at
  pub number : records + length (records_at s w) ≡ length (records_at s from)
  pub total : bytes + sum (map length (records_at s w)) ≡ sum (map length (records_at s from))

pub counting_none : (s : List ℕ) (from : Walk) → Counting s from 0 0 from
counting_none s from = record { some = omega arith; most = omega arith; number = omega arith; total = omega arith }

counting_more : (s : List ℕ) (from : Walk) (records bytes : ℕ) (w : Walk) (r : List ℕ) (n : ℕ) (v : Walk)
    → Counting s from records bytes w
    → handed s (record_at s w) ≡ ends r v → length r ≡ n → Counting s from (records + 1) (bytes + n) v
unfolding sum
counting_more s from records bytes w r n v c e l =
    let p = handed_passes s w r v e in
    let rs = records_more s w r v e in
    record {
      some = omega (arith, c.some, p.onward);
      most = omega (arith, c.most, p.bytes, l);
      number = omega (arith, c.number, ap length rs);
      total = omega (arith, c.total, ap (λ (ts : List (List ℕ)). sum (map length ts)) rs, l);
    }

pub counting_whole : (s : List ℕ) (from : Walk) (records bytes : ℕ) (w : Walk) (start n : ℕ) (v : Walk) (m : Option Measured) (x : Measured)
    → Counting s from records bytes w
    → m ≡ measured_by (record_at s w) → m ≡ Some x → x ≡ Whole start n v → Counting s from (records + 1) (bytes + n) v
counting_whole s from records bytes w start n v m x c e q z =
    counting_more s from records bytes w (part start n s) n v c (handed_whole s start n v (record_at s w) (sym e ∙ q ∙ ap Some z))
    (length_part start n s (whole_within s w start n v m e (q ∙ ap Some z)))

pub counting_split : (s : List ℕ) (from : Walk) (records bytes : ℕ) (w : Walk) (n : ℕ) (v : Walk) (m : Option Measured) (x : Measured)
    → Counting s from records bytes w
    → m ≡ measured_by (record_at s w) → m ≡ Some x → x ≡ Split n v → Counting s from (records + 1) (bytes + n) v
counting_split s from records bytes w n v m x c e q z =
    let both = handed_split s n v (record_at s w) (sym e ∙ q ∙ ap Some z) in
    counting_more s from records bytes w (record_bytes (record_at s w)) n v c both.0 both.1

facts_same : (x y : Facts) → x.records ≡ y.records → x.bytes ≡ y.bytes → x ≡ y
facts_same x y a b = λ i. record { records = a i; bytes = b i }

pub counted_all : (s : List ℕ) (from : Walk) (records bytes : ℕ) (w : Walk) (m : Option Measured) → Counting s from records bytes w
    → m ≡ measured_by (record_at s w) → m ≡ None
    → ◌≡◌ {A = Facts} (record { records = records; bytes = bytes }) (facts_of (records_at s from))
unfolding facts_of sum
counted_all s from records bytes w m c e q =
    let none = measured_nothing s w m e q in
    let a : records ≡ length (records_at s from) = omega (arith, c.number, ap length none) in
    let b : bytes ≡ sum (map length (records_at s from)) = omega (arith, c.total, ap (λ (ts : List (List ℕ)). sum (map length ts)) none) in
    facts_same (record { records = records; bytes = bytes }) (facts_of (records_at s from)) a b

-- the numbers fit, and the walk goes on
record Further (s : List ℕ) (records bytes : ℕ) (w : Walk) (n : ℕ) (v : Walk) : Type 0 where
  number : records + 1 ≤ length s
  total : bytes + n ≤ length s
  falls : length s - v.at < length s - w.at

further : (s : List ℕ) (from : Walk) (records bytes : ℕ) (w : Walk) (r : List ℕ) (n : ℕ) (v : Walk)
    → Counting s from records bytes w
    → handed s (record_at s w) ≡ ends r v → length r ≡ n → Further s records bytes w n v
further s from records bytes w r n v c e l =
    let p = handed_passes s w r v e in
    let k = counting_more s from records bytes w r n v c e l in
    record {
      number = omega (arith, k.some, p.inside);
      total = omega (arith, k.most, p.inside);
      falls = omega (arith, p.onward, p.inside);
    }

further_whole : (s : List ℕ) (from : Walk) (records bytes : ℕ) (w : Walk) (start n : ℕ) (v : Walk) (m : Option Measured) (x : Measured)
    → Counting s from records bytes w
    → m ≡ measured_by (record_at s w) → m ≡ Some x → x ≡ Whole start n v → Further s records bytes w n v
further_whole s from records bytes w start n v m x c e q z =
    further s from records bytes w (part start n s) n v c (handed_whole s start n v (record_at s w) (sym e ∙ q ∙ ap Some z))
    (length_part start n s (whole_within s w start n v m e (q ∙ ap Some z)))

further_split : (s : List ℕ) (from : Walk) (records bytes : ℕ) (w : Walk) (n : ℕ) (v : Walk) (m : Option Measured) (x : Measured)
    → Counting s from records bytes w
    → m ≡ measured_by (record_at s w) → m ≡ Some x → x ≡ Split n v → Further s records bytes w n v
further_split s from records bytes w n v m x c e q z =
    let both = handed_split s n v (record_at s w) (sym e ∙ q ∙ ap Some z) in
    further s from records bytes w (record_bytes (record_at s w)) n v c both.0 both.1

pub whole_number : (s : List ℕ) (from : Walk) (records bytes : ℕ) (w : Walk) (start n : ℕ) (v : Walk) (m : Option Measured) (x : Measured)
    → Counting s from records bytes w
    → m ≡ measured_by (record_at s w) → m ≡ Some x → x ≡ Whole start n v → length s < 18446744073709551616 → Fits w64 (records + 1)
whole_number s from records bytes w start n v m x c e q z h =
    omega (arith, (further_whole s from records bytes w start n v m x c e q z).number)

pub split_number : (s : List ℕ) (from : Walk) (records bytes : ℕ) (w : Walk) (n : ℕ) (v : Walk) (m : Option Measured) (x : Measured)
    → Counting s from records bytes w
    → m ≡ measured_by (record_at s w) → m ≡ Some x → x ≡ Split n v → length s < 18446744073709551616 → Fits w64 (records + 1)
split_number s from records bytes w n v m x c e q z h = omega (arith, (further_split s from records bytes w n v m x c e q z).number)

pub whole_total : (s : List ℕ) (from : Walk) (records bytes : ℕ) (w : Walk) (start n : ℕ) (v : Walk) (m : Option Measured) (x : Measured)
    → Counting s from records bytes w
    → m ≡ measured_by (record_at s w) → m ≡ Some x → x ≡ Whole start n v → length s < 18446744073709551616 → Fits w64 (bytes + n)
whole_total s from records bytes w start n v m x c e q z h =
    omega (arith, (further_whole s from records bytes w start n v m x c e q z).total)

pub split_total : (s : List ℕ) (from : Walk) (records bytes : ℕ) (w : Walk) (n : ℕ) (v : Walk) (m : Option Measured) (x : Measured)
    → Counting s from records bytes w
    → m ≡ measured_by (record_at s w) → m ≡ Some x → x ≡ Split n v → length s < 18446744073709551616 → Fits w64 (bytes + n)
split_total s from records bytes w n v m x c e q z h = omega (arith, (further_split s from records bytes w n v m x c e q z).total)

pub whole_falls : (s : List ℕ) (from : Walk) (records bytes : ℕ) (w : Walk) (start n : ℕ) (v : Walk) (m : Option Measured) (x : Measured)
    → Counting s from records bytes w
    → m ≡ measured_by (record_at s w) → m ≡ Some x → x ≡ Whole start n v → length s - v.at < length s - w.at
whole_falls s from records bytes w start n v m x c e q z = (further_whole s from records bytes w start n v m x c e q z).falls

pub split_falls : (s : List ℕ) (from : Walk) (records bytes : ℕ) (w : Walk) (n : ℕ) (v : Walk) (m : Option Measured) (x : Measured)
    → Counting s from records bytes w
    → m ≡ measured_by (record_at s w) → m ≡ Some x → x ≡ Split n v → length s - v.at < length s - w.at
split_falls s from records bytes w n v m x c e q z = (further_split s from records bytes w n v m x c e q z).falls

-- the same of a record that stands whole in a block, which one number tells: of k bytes, with its control word of c
module _ (s : List ℕ) (from : Walk) (records bytes : ℕ) (w v : Walk) (k c : ℕ) (h : Counting s from records bytes w)
    (e : v ≡ at_block s w) (m : k ≡ whole_at s v) (z : k ≡ 0 → ⊥) (p : c ≡ word_of v.format) where
  abbrev pub here : Walk
  here = moved v (v.at + k) (v.left - k)

  told : Some (Whole (v.at + c) (k - c) here) ≡ measured_by (record_at s w)
  told = whole_measured s w v here k c e m z p refl

  more : Further s records bytes w (k - c) here
  more = further_whole s from records bytes w (v.at + c) (k - c) here _ (Whole (v.at + c) (k - c) here) h told refl refl

  pub here_number : length s < 18446744073709551616 → Fits w64 (records + 1)
  here_number q = omega (arith, more.number)

  pub here_total : length s < 18446744073709551616 → Fits w64 (bytes + (k - c))
  here_total q = omega (arith, more.total)

  pub here_counted : (u : Walk) → u ≡ here → Counting s from (records + 1) (bytes + (k - c)) u
  here_counted u q =
      counting_whole s from records bytes w (v.at + c) (k - c) u _ (Whole (v.at + c) (k - c) u) h
      (whole_measured s w v u k c e m z p q) refl refl

  pub here_falls : (u : Walk) → u ≡ here → length s - u.at < length s - w.at
  here_falls u q = subst (λ (x : Walk). length s - x.at < length s - w.at) (sym q) more.falls

pub ruleset counts = (
  counting_none,
  counting_whole,
  counting_split,
  counted_all,
  whole_number,
  split_number,
  whole_total,
  split_total,
  whole_falls,
  split_falls,
  here_number,
  here_total,
  here_counted,
  here_falls,
  word_least,
  whole_left,
  whole_end,
  rules,
)
