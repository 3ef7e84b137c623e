-- Laws of the step: what each kind of record makes of the answer and of the joining buffer. Assumes nothing.
use Rattle.content.specs.declared.Found.TheVariants.{InImage, Joined}
use Rattle.content.specs.declared.measuring.Measured.{Measured}
use Rattle.std.specs.Prelude.{Option, None, Some, Ok, Err}
use mathlib.Core.Path.{◌≡◌, refl, sym, ap, ap₂, ◌∙◌, subst}
use mathlib.Core.Bool.{true}
use mathlib.Core.List.{List, ◌++◌}
use Prim.Native.Nat.{ℕ, ◌+◌, ◌-◌, ◌≤◌, ◌<◌}
use native.Mathlib.Omega.{arith}
use mir.Val.{Fits}
use mir.Syntax.{w64}
use borrow.Author.Rules.{rules}
use borrow.Author.Tests.{le-leb, lt-leb}
use lib.Dec.{leb}
use lib.ListN.{length, get_or}
use Rattle.base.specs.If.{if_b}
use Rattle.base.proofs.Ifs.{if_true, if_false}
use Rattle.base.specs.Part.{part, put_at}
use Rattle.block.specs.Unit.{word_of}
use Rattle.content.specs.Walk.{moved, unit_here, unit_next, or_next, unit_from, rest_at, Record, whole, split, nothing, begun_by, record_at, step_by, join_by, step_at, join_at, taken_at, Step}
use Rattle.content.specs.Code.Heads.{Inside, whole_at, begun_in, BegunAt}
use Rattle.content.specs.Whole.{at_block, stands_at}
use Rattle.content.specs.Measure.{measured_by}
use Rattle.content.specs.Code.Joining.{tail_by, bytes_behind, RestFits, record_bytes, is_split, SplitAt}
use Rattle.content.specs.declared.Walk.{Walk}
use Rattle.content.specs.declared.unit.Taken.{Taken}
use Rattle.content.specs.declared.measuring.Tail.{Tail}
use Rattle.content.specs.declared.measuring.Measured.TheVariants.{Whole, Split}
use Rattle.content.proofs.Units.{inside_is}
use Rattle.content.proofs.Measures.{Readable, record_begun, split_fails, split_ends, sum_fits}
use Rattle.content.proofs.Wholes.{WholeLeads, leads, record_whole, measured_whole, word_least, whole_left, whole_start, whole_end}
use Rattle.content.proofs.Segments.{begins, begun_no_offset}
use Rattle.content.proofs.Joins.{split_inside, rest_goes, join_whole}
use Rattle.content.proofs.Cases.{said}

-- a record by its measure
nothing_by : (room : ℕ) (old : List ℕ) (x : Record) → measured_by x ≡ None → (Err 13 ≡ step_by room x) × (old ≡ join_by old x)
unfolding measured_by step_by join_by
nothing_by room old (whole start n v) e = let z : ◌≡◌ {A = ℕ} 0 1 = cc in absurd (omega arith)
nothing_by room old (split bs v) e = let z : ◌≡◌ {A = ℕ} 0 1 = cc in absurd (omega arith)
nothing_by room old nothing e = (refl, refl)

whole_by : (room : ℕ) (old : List ℕ) (start n : ℕ) (v : Walk) (x : Record) → measured_by x ≡ Some (Whole start n v)
    → (Ok (InImage start n, v) ≡ step_by room x) × (old ≡ join_by old x)
unfolding measured_by step_by join_by
whole_by room old start n v (whole a m u) e = (cc, refl)
whole_by room old start n v (split bs u) e = let z : ◌≡◌ {A = ℕ} 0 1 = cc in absurd (omega arith)
whole_by room old start n v nothing e = let z : ◌≡◌ {A = ℕ} 0 1 = cc in absurd (omega arith)

-- a split record of n bytes
record Splits (n : ℕ) (v : Walk) (x : Record) : Type 0 where
  is : is_split x ≡ true
  long : length (record_bytes x) ≡ n
  steps : (room : ℕ) → step_by room x ≡ if_b (leb n room) (Ok (Joined n, v)) (Err 10)
  joins : (old : List ℕ) → join_by old x ≡ if_b (leb n (length old)) (put_at old 0 (record_bytes x)) old

split_by : (n : ℕ) (v : Walk) (x : Record) → measured_by x ≡ Some (Split n v) → Splits n v x
unfolding measured_by step_by join_by is_split record_bytes
split_by n v (whole a m u) e = let z : ◌≡◌ {A = ℕ} 0 1 = cc in absurd (omega arith)
split_by n v (split bs u) e =
    let l : length bs ≡ n = cc in
    let w : u ≡ v = cc in
    record {
      is = refl;
      long = l;
      steps = λ room. ap₂ (λ (m : ℕ) (y : Walk). if_b (leb m room) (Ok (Joined m, y)) (Err 10)) l w;
      joins = λ old. ap (λ (m : ℕ). if_b (leb m (length old)) (put_at old 0 bs) old) l;
    }
split_by n v nothing e = let z : ◌≡◌ {A = ℕ} 0 1 = cc in absurd (omega arith)

pub step_nothing : (s : List ℕ) (room : ℕ) (w : Walk) (m : Option Measured) → m ≡ measured_by (record_at s w) → m ≡ None
    → Err 13 ≡ step_at s room w
unfolding step_at
step_nothing s room w m e q = (nothing_by room s (record_at s w) (sym e ∙ q)).0

pub kept_nothing : (s old : List ℕ) (w : Walk) (m : Option Measured) → m ≡ measured_by (record_at s w) → m ≡ None → old ≡ join_at s old w
unfolding join_at
kept_nothing s old w m e q = (nothing_by 0 old (record_at s w) (sym e ∙ q)).1

pub step_whole : (s : List ℕ) (room : ℕ) (w : Walk) (start n : ℕ) (v : Walk) (m : Option Measured) → m ≡ measured_by (record_at s w)
    → m ≡ Some (Whole start n v)
    → Ok (InImage start n, v) ≡ step_at s room w
unfolding step_at
step_whole s room w start n v m e q = (whole_by room s start n v (record_at s w) (sym e ∙ q)).0

pub kept_whole : (s old : List ℕ) (w : Walk) (start n : ℕ) (v : Walk) (m : Option Measured) → m ≡ measured_by (record_at s w)
    → m ≡ Some (Whole start n v) → old ≡ join_at s old w
unfolding join_at
kept_whole s old w start n v m e q = (whole_by 0 old start n v (record_at s w) (sym e ∙ q)).1

pub step_long : (s : List ℕ) (room : ℕ) (w : Walk) (n : ℕ) (v : Walk) (m : Option Measured) → m ≡ measured_by (record_at s w)
    → m ≡ Some (Split n v) → room < n
    → Err 10 ≡ step_at s room w
unfolding step_at
step_long s room w n v m e q h = sym ((split_by n v (record_at s w) (sym e ∙ q)).steps room ∙ if_false _ _ _ (lt-leb n room h))

pub kept_long : (s old : List ℕ) (w : Walk) (n : ℕ) (v : Walk) (m : Option Measured) → m ≡ measured_by (record_at s w) → m ≡ Some (Split n v)
    → length old < n → old ≡ join_at s old w
unfolding join_at
kept_long s old w n v m e q h =
    sym ((split_by n v (record_at s w) (sym e ∙ q)).joins old ∙ if_false _ _ _ (lt-leb n (length old) h))

pub step_joined : (s : List ℕ) (room : ℕ) (w : Walk) (n : ℕ) (v : Walk) (m : Option Measured) → m ≡ measured_by (record_at s w)
    → m ≡ Some (Split n v) → n ≤ room
    → Ok (Joined n, v) ≡ step_at s room w
unfolding step_at
step_joined s room w n v m e q h = sym ((split_by n v (record_at s w) (sym e ∙ q)).steps room ∙ if_true _ _ _ (le-leb n room h))

pub put_joined : (s old new : List ℕ) (w : Walk) (n : ℕ) (v : Walk) (m : Option Measured) → m ≡ measured_by (record_at s w) → m ≡ Some (Split n v)
    → n ≤ length old
    → new ≡ put_at old 0 (record_bytes (record_at s w)) → new ≡ join_at s old w
unfolding join_at
put_joined s old new w n v m e q h p =
    p ∙ sym ((split_by n v (record_at s w) (sym e ∙ q)).joins old ∙ if_true _ _ _ (le-leb n (length old) h))

pub split_stands : (s : List ℕ) (w : Walk) (n : ℕ) (v : Walk) (m : Option Measured) (room : ℕ) → m ≡ measured_by (record_at s w)
    → m ≡ Some (Split n v) → n ≤ room → SplitAt s w room
split_stands s w n v m room e q h =
    let c = split_by n v (record_at s w) (sym e ∙ q) in
    let l = c.long in
    record { is = c.is; inside = split_inside s w c.is; fits = omega arith }

pub ruleset step_units_lem =
    (step_nothing, kept_nothing, step_whole, kept_whole, step_long, kept_long, step_joined, put_joined, split_stands, rules)

-- ---- a record that stands whole in the block

pub step_quick : (s : List ℕ) (room : ℕ) (w v u : Walk) (k c : ℕ) → v ≡ at_block s w → k ≡ whole_at s v → (k ≡ 0 → ⊥)
    → c ≡ word_of v.format
    → u ≡ moved v (v.at + k) (v.left - k) → Ok (InImage (v.at + c) (k - c), u) ≡ step_at s room w
step_quick s room w v u k c e m z p q = step_whole s room w (v.at + c) (k - c) u _ (measured_whole s w v u k c e m z p q) refl

pub kept_quick : (s old : List ℕ) (w v : Walk) (k : ℕ) → v ≡ at_block s w → k ≡ whole_at s v → (k ≡ 0 → ⊥) → old ≡ join_at s old w
unfolding measured_by
kept_quick s old w v k e m z = kept_whole s old w _ _ _ _ (sym (ap measured_by (record_whole s w v k e m z))) refl

pub ruleset steps = (step_quick, kept_quick, word_least, whole_left, whole_start, whole_end, said, rules)

-- ---- a record that begins with a segment

-- the first segment, of k bytes with its control word, and the walk u behind it
record Opens (s : List ℕ) (v u : Walk) (k : ℕ) : Type 0 where
  good : Readable s v
  unit : unit_from s v ≡ taken_at 1 (v.at + 5) (k - 5) u
  short : k - 5 ≤ v.record_length

opens : (s : List ℕ) (v u : Walk) (k : ℕ) → BegunAt s v k → u ≡ moved v (v.at + k) (v.left - k) → Opens s v u k
unfolding unit_from or_next
opens s v u k b q =
    let x = begins s v k b in
    let c = x.segment in
    let one : get_or s v.at 0 - 48 ≡ 1 = omega (arith, x.digit) in
    record {
      good = record { some = x.some; inside = inside_is s v c.inside };
      unit = ap (λ (t : Option Taken). or_next t (unit_next s v)) c.unit
          ∙ ap₂ (λ (i : ℕ) (x : Walk). taken_at i (v.at + 5) (k - 5) x) one (sym q);
      short = x.short;
    }

-- its measure, by what is behind the first segment
opens_fails : (s : List ℕ) (v u : Walk) (k : ℕ) (x : Option Tail) → Opens s v u k
    → x ≡ tail_by (rest_at s (v.record_length - (k - 5)) u)
    → x ≡ None → None ≡ measured_by (record_at s v)
opens_fails s v u k x o e f =
    split_fails s v _ (unit_from s v) x o.good refl o.unit o.short (λ h. omega arith) refl e f

opens_ends : (s : List ℕ) (v u : Walk) (k : ℕ) (x : Option Tail) (rest : Tail) → Opens s v u k
    → x ≡ tail_by (rest_at s (v.record_length - (k - 5)) u) → x ≡ Some rest
    → Some (Split (k - 5 + rest.len) rest.behind) ≡ measured_by (record_at s v)
opens_ends s v u k x rest o e f =
    split_ends s v _ (unit_from s v) x rest o.good refl o.unit o.short (λ h. omega arith) refl e f

pub measured_fails : (s : List ℕ) (v u : Walk) (k : ℕ) (x : Option Tail) → BegunAt s v k → u ≡ moved v (v.at + k) (v.left - k)
    → x ≡ tail_by (rest_at s (v.record_length - (k - 5)) u) → x ≡ None → None ≡ measured_by (record_at s v)
measured_fails s v u k x b q e f = opens_fails s v u k x (opens s v u k b q) e f

pub measured_ends : (s : List ℕ) (v u : Walk) (k : ℕ) (x : Option Tail) (rest : Tail) → BegunAt s v k
    → u ≡ moved v (v.at + k) (v.left - k)
    → x ≡ tail_by (rest_at s (v.record_length - (k - 5)) u) → x ≡ Some rest → Some (Split (k - 5 + rest.len) rest.behind) ≡ measured_by (record_at s v)
measured_ends s v u k x rest b q e f = opens_ends s v u k x rest (opens s v u k b q) e f

pub begun_fails : (s : List ℕ) (room : ℕ) (v u : Walk) (k : ℕ) (x : Option Tail) → BegunAt s v k → u ≡ moved v (v.at + k) (v.left - k)
    → x ≡ tail_by (rest_at s (v.record_length - (k - 5)) u) → x ≡ None → Err 13 ≡ step_at s room v
begun_fails s room v u k x b q e f = step_nothing s room v None (opens_fails s v u k x (opens s v u k b q) e f) refl

pub kept_fails : (s old : List ℕ) (v u : Walk) (k : ℕ) (x : Option Tail) → BegunAt s v k → u ≡ moved v (v.at + k) (v.left - k)
    → x ≡ tail_by (rest_at s (v.record_length - (k - 5)) u) → x ≡ None → old ≡ join_at s old v
kept_fails s old v u k x b q e f = kept_nothing s old v None (opens_fails s v u k x (opens s v u k b q) e f) refl

pub begun_long : (s : List ℕ) (room : ℕ) (v u : Walk) (k : ℕ) (x : Option Tail) (rest : Tail) → BegunAt s v k
    → u ≡ moved v (v.at + k) (v.left - k) → x ≡ tail_by (rest_at s (v.record_length - (k - 5)) u) → x ≡ Some rest
    → room < k - 5 + rest.len
    → Err 10 ≡ step_at s room v
begun_long s room v u k x rest b q e f h =
    step_long s room v (k - 5 + rest.len) rest.behind _ (opens_ends s v u k x rest (opens s v u k b q) e f) refl h

pub kept_begun : (s old : List ℕ) (v u : Walk) (k : ℕ) (x : Option Tail) (rest : Tail) → BegunAt s v k
    → u ≡ moved v (v.at + k) (v.left - k) → x ≡ tail_by (rest_at s (v.record_length - (k - 5)) u) → x ≡ Some rest
    → length old < k - 5 + rest.len
    → old ≡ join_at s old v
kept_begun s old v u k x rest b q e f h =
    kept_long s old v (k - 5 + rest.len) rest.behind _ (opens_ends s v u k x rest (opens s v u k b q) e f) refl h

pub begun_joined : (s : List ℕ) (room : ℕ) (v u : Walk) (k : ℕ) (x : Option Tail) (rest : Tail) → BegunAt s v k
    → u ≡ moved v (v.at + k) (v.left - k) → x ≡ tail_by (rest_at s (v.record_length - (k - 5)) u) → x ≡ Some rest
    → k - 5 + rest.len ≤ room
    → Ok (Joined (k - 5 + rest.len), rest.behind) ≡ step_at s room v
begun_joined s room v u k x rest b q e f h =
    step_joined s room v (k - 5 + rest.len) rest.behind _ (opens_ends s v u k x rest (opens s v u k b q) e f) refl h

-- it has room in the buffer
begun_stands : (s old : List ℕ) (v u : Walk) (k : ℕ) (x : Option Tail) (rest : Tail) → Opens s v u k
    → x ≡ tail_by (rest_at s (v.record_length - (k - 5)) u) → x ≡ Some rest
    → k - 5 + rest.len ≤ length old → SplitAt s v (length old)
begun_stands s old v u k x rest o e f h = split_stands s v (k - 5 + rest.len) rest.behind _ (length old) (opens_ends s v u k x rest o e f) refl h

pub begun_within : (s : List ℕ) (v : Walk) (k : ℕ) → BegunAt s v k → v.at + 5 + (k - 5) ≤ length s
begun_within s v k b =
    let c = (begins s v k b).segment in
    let w = c.least in
    let l = c.left in
    let i = c.inside in
    omega arith

pub begun_goes : (s old : List ℕ) (v u : Walk) (k : ℕ) (x : Option Tail) (rest : Tail) → BegunAt s v k
    → u ≡ moved v (v.at + k) (v.left - k) → x ≡ tail_by (rest_at s (v.record_length - (k - 5)) u) → x ≡ Some rest
    → k - 5 + rest.len ≤ length old
    → RestFits s u (k - 5) (length old)
begun_goes s old v u k x rest b q e f h =
    let o = opens s v u k b q in
    rest_goes s old v _ (unit_from s v) (begun_stands s old v u k x rest o e f h) refl o.unit

pub begun_put : (s old : List ℕ) (v u : Walk) (k : ℕ) (x : Option Tail) (rest : Tail) (new : List ℕ) → BegunAt s v k
    → u ≡ moved v (v.at + k) (v.left - k) → x ≡ tail_by (rest_at s (v.record_length - (k - 5)) u) → x ≡ Some rest
    → k - 5 + rest.len ≤ length old
    → new ≡ put_at old 0 (part (v.at + 5) (k - 5) s ++ bytes_behind s u) → new ≡ join_at s old v
begun_put s old v u k x rest new b q e f h p =
    let o = opens s v u k b q in
    put_joined s old new v (k - 5 + rest.len) rest.behind _ (opens_ends s v u k x rest o e f) refl h
    (join_whole s old v _ (unit_from s v) new (begun_stands s old v u k x rest o e f h) refl o.unit p)

-- what the code computes has its place

pub begun_word : (s : List ℕ) (v : Walk) (k : ℕ) → BegunAt s v k → 5 ≤ k
begun_word s v k b = (begins s v k b).segment.least

pub begun_most : (s : List ℕ) (v : Walk) (k : ℕ) → BegunAt s v k → k - 5 ≤ v.record_length
begun_most s v k b = (begins s v k b).short

pub begun_left : (s : List ℕ) (v : Walk) (k : ℕ) → BegunAt s v k → k ≤ v.left
begun_left s v k b = (begins s v k b).segment.left

pub begun_inside : (s : List ℕ) (v u : Walk) (k : ℕ) → BegunAt s v k → u ≡ moved v (v.at + k) (v.left - k) → Inside s u
begun_inside s v u k b q =
    let c = (begins s v k b).segment in
    let l = c.left in
    let i = c.inside in
    let there : Inside s (moved v (v.at + k) (v.left - k)) = omega arith in
    subst (Inside s) (sym q) there

pub begun_end : (s : List ℕ) (v : Walk) (k : ℕ) → BegunAt s v k → length s < 18446744073709551616 → Fits w64 (v.at + k)
begun_end s v k b h =
    let c = (begins s v k b).segment in
    let l = c.left in
    let i = c.inside in
    omega arith

pub begun_start : (s : List ℕ) (v : Walk) (k : ℕ) → BegunAt s v k → length s < 18446744073709551616 → Fits w64 (v.at + 5)
begun_start s v k b h = omega (arith, begun_within s v k b)

pub begun_sum : (s : List ℕ) (v u : Walk) (k : ℕ) (x : Option Tail) (rest : Tail) → BegunAt s v k → v.record_length < 4294967296
    → x ≡ tail_by (rest_at s (v.record_length - (k - 5)) u) → x ≡ Some rest → Fits w64 (k - 5 + rest.len)
begun_sum s v u k x rest b h e f = sum_fits s v.record_length (k - 5) u x rest (begun_most s v k b) h e f

pub ruleset measures_begun =
    (measured_fails, measured_ends, begun_word, begun_most, begun_left, begun_inside, begun_end, begun_sum, rules)

pub ruleset steps_begun = (
  begun_fails,
  kept_fails,
  begun_long,
  kept_begun,
  begun_joined,
  begun_within,
  begun_goes,
  begun_put,
  begun_word,
  begun_most,
  begun_left,
  begun_inside,
  begun_end,
  begun_start,
  begun_sum,
  rules,
)

-- ---- from the walk to the head of its block

-- the record is the same
head_record : (s : List ℕ) (w v : Walk) (k : ℕ) → v ≡ at_block s w → BegunAt s v k → record_at s v ≡ record_at s w
head_record s w v k e b =
    let o = opens s v (moved v (v.at + k) (v.left - k)) k b refl in
    let l = leads s w v e in
    let c = (begins s v k b).segment in
    let size : v.record_length ≡ w.record_length = l.record_length in
    let some = o.good.some in
    record_begun s v _ o.good refl ∙ ap (λ (r : ℕ). begun_by s r (unit_from s v)) size
    ∙ ap (begun_by s w.record_length) (o.unit ∙ sym (from_head l c.unit (b_digit b)))
    ∙ sym (record_begun s w _ (record { some = λ h. some (size ∙ h); inside = inside_is s w (l.inside c.inside) }) refl)
  where
    b_digit : BegunAt s v k → get_or s v.at 0 - 48 ≡ 1
    b_digit b = omega (arith, (begins s v k b).digit)

    from_head : WholeLeads s w v
        → unit_here s v ≡ taken_at (get_or s v.at 0 - 48) (v.at + 5) (k - 5) (moved v (v.at + k) (v.left - k))
        → get_or s v.at 0 - 48 ≡ 1
        → unit_from s w ≡ taken_at 1 (v.at + 5) (k - 5) (moved v (v.at + k) (v.left - k))
    from_head l h d = l.unit _ _ _ _ h ∙ ap (λ (i : ℕ). taken_at i (v.at + 5) (k - 5) (moved v (v.at + k) (v.left - k))) d

-- as the code asks for it
pub asked_begun : (s : List ℕ) (v : Walk) (k : ℕ) → k ≡ begun_in s (stands_at v.format v.record_length v.at v.left)
    → (k ≡ 0 → ⊥)
    → BegunAt s v k
asked_begun s v k e z = record { is = e ∙ begun_no_offset s v; some = z }

pub head_step : (s : List ℕ) (room : ℕ) (w v : Walk) (k : ℕ) (x : Step) → v ≡ at_block s w
    → k ≡ begun_in s (stands_at v.format v.record_length v.at v.left)
    → (k ≡ 0 → ⊥) → x ≡ step_at s room v → x ≡ step_at s room w
unfolding step_at
head_step s room w v k x e m z q = q ∙ ap (step_by room) (head_record s w v k e (asked_begun s v k m z))

pub head_join : (s old : List ℕ) (w v : Walk) (k : ℕ) (new : List ℕ) → v ≡ at_block s w
    → k ≡ begun_in s (stands_at v.format v.record_length v.at v.left)
    → (k ≡ 0 → ⊥) → new ≡ join_at s old v → new ≡ join_at s old w
unfolding join_at
head_join s old w v k new e m z q = q ∙ ap (join_by old) (head_record s w v k e (asked_begun s v k m z))

pub head_measure : (s : List ℕ) (w v : Walk) (k : ℕ) (x : Option Measured) → v ≡ at_block s w
    → k ≡ begun_in s (stands_at v.format v.record_length v.at v.left)
    → (k ≡ 0 → ⊥) → x ≡ measured_by (record_at s v) → x ≡ measured_by (record_at s w)
head_measure s w v k x e m z q = q ∙ ap measured_by (head_record s w v k e (asked_begun s v k m z))

pub ruleset measures_far = (asked_begun, head_measure, rules)

pub ruleset step_splits = (asked_begun, head_step, head_join, rules)
