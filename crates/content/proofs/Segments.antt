-- The segment that stands at the head of what is left of a block, or of the next block: one number tells it, and it is the unit
-- with which a record begins or goes on. Assumes nothing.
use Rattle.std.specs.Prelude.{Option}
use mathlib.Core.Path.{◌≡◌, refl, sym, ap, ap₂, ◌∙◌, subst}
use mathlib.Core.Bool.{true}
use mathlib.Core.List.{List}
use Prim.Native.Nat.{ℕ, ◌+◌, ◌-◌, ◌≤◌, ◌<◌}
use native.Mathlib.Omega.{arith}
use mir.Val.{Fits}
use mir.Syntax.{w32, w64}
use borrow.Author.Rules.{rules}
use borrow.Author.Tests.{eq-eqb, ne_eqb, le-leb, lt-leb, leb-true, eqb-true, eqb-false}
use lib.Dec.{leb, eqb}
use lib.ListN.{length, take, drop, get_or}
use lib.Seq.{get_or-take}
use Rattle.base.specs.If.{if_b}
use Rattle.base.proofs.Ifs.{if_true, if_false, if_case}
use Rattle.base.specs.Part.{part}
use Rattle.base.proofs.Parts.{part_within}
use Rattle.block.specs.Unit.{segment, unit_of, length_of, one_unit}
use Rattle.block.proofs.Places.{head_at}
use Rattle.block.proofs.Lengths.{unit_segment, segment_of_lem, segment_least, segment_first, segment_fits}
use Rattle.content.specs.Walk.{moved, left_of, is_inside, taken, unit_here, unit_next, or_next, unit_from, taken_at}
use Rattle.content.specs.Code.Heads.{Inside, segment_in, turn_in, begun_in, BegunAt}
use Rattle.content.specs.Whole.{at_block, stands_at}
use Rattle.content.specs.declared.Walk.{Walk}
use Rattle.content.specs.declared.unit.Taken.{Taken}
use Rattle.content.proofs.Units.{inside_not, inside_left, inside_true, inside_is, unit_at}
use Rattle.content.proofs.Wholes.{end_fits, end_within, leads, none_left}

-- ---- the number

pub segment_before : (s : List ℕ) (b f at left : ℕ) → (b ≡ 0 → ⊥) → 0 ≡ segment_in s b (stands_at f 0 at left)
unfolding segment_in
segment_before s b f at left h = sym (if_false _ _ _ (ne_eqb b 0 h))

pub segment_format : (s : List ℕ) (b f at left : ℕ) → b ≡ 0 → (f ≡ 83 → ⊥) → 0 ≡ segment_in s b (stands_at f 0 at left)
unfolding segment_in
segment_format s b f at left z h = sym (if_true _ _ _ (eq-eqb b 0 z) ∙ if_false _ _ _ (ne_eqb f 83 h))

-- in an S file, behind a block of which nothing is left
segment_some : (s : List ℕ) (b : ℕ) (w : Walk) → b ≡ 0 → w.format ≡ 83
    → segment_in s b w ≡ if_b (is_inside s w) (length_of (segment (left_of s w))) 0
unfolding segment_in
segment_some s b w z h = if_true _ _ _ (eq-eqb b 0 z) ∙ if_true _ _ _ (eq-eqb w.format 83 h)

pub segment_past : (s : List ℕ) (b f at left : ℕ) → b ≡ 0 → f ≡ 83 → length s < at → 0 ≡ segment_in s b (stands_at f 0 at left)
segment_past s b f at left z h k =
    let w : Walk = stands_at f 0 at left in
    sym (segment_some s b w z h ∙ if_false _ _ _ (sym (inside_not s w k)))

pub segment_outside : (s : List ℕ) (b f at left : ℕ) → b ≡ 0 → f ≡ 83 → at ≤ length s → length s - at < left
    → 0 ≡ segment_in s b (stands_at f 0 at left)
segment_outside s b f at left z h k m =
    let w : Walk = stands_at f 0 at left in
    sym (segment_some s b w z h ∙ if_false _ _ _ (sym (inside_left s w k) ∙ lt-leb left (length s - at) m))

pub segment_number : (s : List ℕ) (b f at left k : ℕ) → b ≡ 0 → f ≡ 83 → at ≤ length s → left ≤ length s - at
    → k ≡ length_of (segment (drop 0 (take (at + left - at) (drop at s)))) → k ≡ segment_in s b (stands_at f 0 at left)
unfolding left_of
segment_number s b f at left k z h a m e =
    let w : Walk = stands_at f 0 at left in
    e ∙ ap (λ (l : List ℕ). length_of (segment l)) (part_within at left s)
    ∙ sym (segment_some s b w z h ∙ if_true _ _ _ (inside_is s w (omega arith)))

pub ruleset segment_numbers =
    (segment_before, segment_format, segment_past, segment_outside, segment_number, end_fits, end_within, rules)

-- ---- from the number to the unit

-- a segment of k bytes, with its control word, stands at the head of what is left, and nothing is left of the block before
pub record SegmentAt (s : List ℕ) (b : ℕ) (v : Walk) (k : ℕ) : Type 0 where
  pub none : b ≡ 0
  pub inside : Inside s v
  pub is : unit_of v.format v.record_length (left_of s v) ≡ one_unit (get_or s v.at 0 - 48) 5 (k - 5)
  pub unit : unit_here s v ≡ taken_at (get_or s v.at 0 - 48) (v.at + 5) (k - 5) (moved v (v.at + k) (v.left - k))
  pub least : 5 ≤ k
  pub left : k ≤ v.left
  pub digit : 48 ≤ get_or s v.at 0
  pub narrow : Fits w32 (get_or s v.at 0 - 48)

segment_by : (s : List ℕ) (b : ℕ) (v : Walk) (k : ℕ) → b ≡ 0 → v.format ≡ 83 → Inside s v → k ≡ length_of (segment (left_of s v))
    → (k ≡ 0 → ⊥) → SegmentAt s b v k
unfolding unit_here taken left_of part
segment_by s b v k none f inside e z =
    let l : List ℕ = take v.left (drop v.at s) in
    let is : unit_of v.format v.record_length l ≡ one_unit (get_or l 0 0 - 48) 5 (k - 5) = unit_segment v.format v.record_length l f ∙ sym (segment_of_lem l 0 k e z) in
    let m : 5 ≤ k = segment_least l 0 k e z in
    let u = unit_at s v (get_or l 0 0 - 48) 5 (k - 5) is in
    let r : 5 + (k - 5) ≤ v.left = u.left in
    let head : get_or l 0 0 ≡ get_or s v.at 0 = get_or-take v.left (drop v.at s) 0 0 (omega arith) ∙ head_at s v.at in
    let low : 48 ≤ get_or l 0 0 = segment_first l 0 k e z in
    let a : v.at + 5 + (k - 5) ≡ v.at + k = omega arith in
    let c : 5 + (k - 5) ≡ k = omega arith in
    record {
      none = none;
      inside = inside;
      is = is ∙ ap (λ (d : ℕ). one_unit (d - 48) 5 (k - 5)) head;
      unit = ap (taken v) is
          ∙ ap₂ (λ (i j : ℕ). taken_at (get_or l 0 0 - 48) (v.at + 5) (k - 5) (moved v i (v.left - j))) a c
          ∙ ap (λ (d : ℕ). taken_at (d - 48) (v.at + 5) (k - 5) (moved v (v.at + k) (v.left - k))) head;
      least = m;
      left = omega arith;
      digit = omega arith;
      narrow = subst (λ (d : ℕ). Fits w32 (d - 48)) head (segment_fits l 0 k e z);
    }

-- the record length and the offset length have no part in it
no_size : (s : List ℕ) (b : ℕ) (v : Walk) (r : ℕ) → segment_in s b (stands_at v.format r v.at v.left) ≡ segment_in s b v
unfolding segment_in is_inside left_of
no_size s b v r = refl

standing_segment : (s : List ℕ) (b : ℕ) (v : Walk) (k : ℕ) → k ≡ segment_in s b v → (k ≡ 0 → ⊥) → SegmentAt s b v k
unfolding segment_in
standing_segment s b v k e z =
    if_case P (eqb b 0) _ 0
    (λ a. if_case P (eqb v.format 83) _ 0
    (λ f. if_case P (is_inside s v) _ 0
    (λ i q. segment_by s b v k (eqb-true b 0 a) (eqb-true v.format 83 f) (inside_true s v true (sym i) refl) q z)
    (λ _ q. absurd (z q)))
    (λ _ q. absurd (z q)))
    (λ _ q. absurd (z q)) e
  where
    P : ℕ → Type 0
    P x = k ≡ x → SegmentAt s b v k

pub segment_stands : (s : List ℕ) (b : ℕ) (v : Walk) (k : ℕ) → k ≡ segment_in s b (stands_at v.format 0 v.at v.left)
    → (k ≡ 0 → ⊥) → SegmentAt s b v k
segment_stands s b v k e z = standing_segment s b v k (e ∙ no_size s b v 0) z

-- ---- as the code finds it

pub next_segment_lem : (s : List ℕ) (w v u : Walk) (k : ℕ) → v ≡ at_block s w
    → k ≡ segment_in s w.left (stands_at v.format 0 v.at v.left) → (k ≡ 0 → ⊥)
    → u ≡ moved v (v.at + k) (v.left - k) → taken_at (get_or s v.at 0 - 48) (v.at + 5) (k - 5) u ≡ unit_next s w
unfolding unit_from or_next
next_segment_lem s w v u k e m z q =
    let c = segment_stands s w.left v k m z in
    ap (taken_at (get_or s v.at 0 - 48) (v.at + 5) (k - 5)) q ∙ sym ((leads s w v e).unit _ _ _ _ c.unit)
    ∙ ap (λ (t : Option Taken). or_next t (unit_next s w)) (none_left s w c.none)

-- over the walk's numbers
stands_at_lem : (s : List ℕ) (b f at left k : ℕ) → k ≡ segment_in s b (stands_at f 0 at left) → (k ≡ 0 → ⊥)
    → SegmentAt s b (stands_at f 0 at left) k
stands_at_lem s b f at left k m z = standing_segment s b (stands_at f 0 at left) k m z

pub segment_there : (s : List ℕ) (b f at left k : ℕ) → k ≡ segment_in s b (stands_at f 0 at left) → (k ≡ 0 → ⊥) → at < length s
segment_there s b f at left k m z =
    let c = stands_at_lem s b f at left k m z in
    let a = c.least in
    let d = c.left in
    let i = c.inside in
    omega arith

pub segment_digit : (s : List ℕ) (b f at left k : ℕ) → k ≡ segment_in s b (stands_at f 0 at left) → (k ≡ 0 → ⊥) → 48 ≤ get_or s at 0
segment_digit s b f at left k m z = (stands_at_lem s b f at left k m z).digit

pub segment_narrow : (s : List ℕ) (b f at left k : ℕ) → k ≡ segment_in s b (stands_at f 0 at left) → (k ≡ 0 → ⊥)
    → Fits w32 (get_or s at 0 - 48)
segment_narrow s b f at left k m z = (stands_at_lem s b f at left k m z).narrow

pub segment_word : (s : List ℕ) (b f at left k : ℕ) → k ≡ segment_in s b (stands_at f 0 at left) → (k ≡ 0 → ⊥) → 5 ≤ k
segment_word s b f at left k m z = (stands_at_lem s b f at left k m z).least

pub segment_left : (s : List ℕ) (b f at left k : ℕ) → k ≡ segment_in s b (stands_at f 0 at left) → (k ≡ 0 → ⊥) → k ≤ left
segment_left s b f at left k m z = (stands_at_lem s b f at left k m z).left

pub segment_start : (s : List ℕ) (b f at left k : ℕ) → k ≡ segment_in s b (stands_at f 0 at left) → (k ≡ 0 → ⊥)
    → length s < 18446744073709551616 → Fits w64 (at + 5)
segment_start s b f at left k m z h =
    let c = stands_at_lem s b f at left k m z in
    let a = c.least in
    let d = c.left in
    let i = c.inside in
    omega arith

pub segment_end : (s : List ℕ) (b f at left k : ℕ) → k ≡ segment_in s b (stands_at f 0 at left) → (k ≡ 0 → ⊥)
    → length s < 18446744073709551616 → Fits w64 (at + k)
segment_end s b f at left k m z h =
    let c = stands_at_lem s b f at left k m z in
    let d = c.left in
    let i = c.inside in
    omega arith

pub ruleset next_segments =
    (next_segment_lem, segment_there, segment_digit, segment_narrow, segment_word, segment_left, segment_start, segment_end, rules)

-- ---- a segment whose turn it is

pub turn_none : (s : List ℕ) (b d m : ℕ) (w : Walk) (k : ℕ) → k ≡ segment_in s b w → k ≡ 0 → 0 ≡ turn_in s b d m w
unfolding turn_in
turn_none s b d m w k e z = sym (if_true _ _ _ (eq-eqb (segment_in s b w) 0 (sym e ∙ z)))

turn_by : (s : List ℕ) (b d m : ℕ) (w : Walk) (k : ℕ) → k ≡ segment_in s b w → (k ≡ 0 → ⊥)
    → turn_in s b d m w ≡ if_b (eqb (get_or s w.at 0) d) (if_b (leb (k - 5) m) k 0) 0
unfolding turn_in
turn_by s b d m w k e z =
    ap (λ (j : ℕ). if_b (eqb j 0) 0 (if_b (eqb (get_or s w.at 0) d) (if_b (leb (j - 5) m) j 0) 0)) (sym e)
    ∙ if_false _ _ _ (ne_eqb k 0 z)

pub turn_another : (s : List ℕ) (b d m f at left k : ℕ) → k ≡ segment_in s b (stands_at f 0 at left) → (k ≡ 0 → ⊥)
    → (get_or s at 0 ≡ d → ⊥)
    → 0 ≡ turn_in s b d m (stands_at f 0 at left)
turn_another s b d m f at left k e z h =
    sym (turn_by s b d m (stands_at f 0 at left) k e z ∙ if_false _ _ _ (ne_eqb (get_or s at 0) d h))

pub turn_long : (s : List ℕ) (b d m f at left k : ℕ) → k ≡ segment_in s b (stands_at f 0 at left) → (k ≡ 0 → ⊥) → get_or s at 0 ≡ d
    → m < k - 5
    → 0 ≡ turn_in s b d m (stands_at f 0 at left)
turn_long s b d m f at left k e z h l =
    sym (turn_by s b d m (stands_at f 0 at left) k e z ∙ if_true _ _ _ (eq-eqb (get_or s at 0) d h)
    ∙ if_false _ _ _ (lt-leb (k - 5) m l))

pub turn_is : (s : List ℕ) (b d m f at left k : ℕ) → k ≡ segment_in s b (stands_at f 0 at left) → (k ≡ 0 → ⊥) → get_or s at 0 ≡ d
    → k - 5 ≤ m
    → k ≡ turn_in s b d m (stands_at f 0 at left)
turn_is s b d m f at left k e z h l =
    sym (turn_by s b d m (stands_at f 0 at left) k e z ∙ if_true _ _ _ (eq-eqb (get_or s at 0) d h)
    ∙ if_true _ _ _ (le-leb (k - 5) m l))

pub ruleset turn_numbers = (turn_none, turn_another, turn_long, turn_is, segment_there, segment_word, rules)

-- what stands at the head of what is left where that number is one
pub record TurnAt (s : List ℕ) (b d m : ℕ) (v : Walk) (k : ℕ) : Type 0 where
  pub is : k ≡ segment_in s b v
  pub digit : get_or s v.at 0 ≡ d
  pub short : k - 5 ≤ m

pub turns : (s : List ℕ) (b d m : ℕ) (v : Walk) (k : ℕ) → k ≡ turn_in s b d m v → (k ≡ 0 → ⊥) → TurnAt s b d m v k
unfolding turn_in
turns s b d m v k e z =
    if_case P (eqb (segment_in s b v) 0) 0 _ (λ _ q. absurd (z q))
    (λ _. if_case P (eqb (get_or s v.at 0) d) _ 0
    (λ h. if_case P (leb (segment_in s b v - 5) m) (segment_in s b v) 0
    (λ l q. let short = leb-true (segment_in s b v - 5) m l in record { is = q; digit = eqb-true (get_or s v.at 0) d h; short = omega arith })
    (λ _ q. absurd (z q)))
    (λ _ q. absurd (z q))) e
  where
    P : ℕ → Type 0
    P x = k ≡ x → TurnAt s b d m v k

-- ---- a segment that begins a record

pub begun_nowhere : (s : List ℕ) (f r at left : ℕ) → r ≡ 0 → 0 ≡ begun_in s (stands_at f r at left)
unfolding begun_in
begun_nowhere s f r at left h = sym (if_true _ _ _ (eq-eqb r 0 h))

pub begun_is : (s : List ℕ) (f r at left k : ℕ) → (r ≡ 0 → ⊥) → k ≡ turn_in s 0 49 r (stands_at f 0 at left)
    → k ≡ begun_in s (stands_at f r at left)
unfolding begun_in turn_in segment_in is_inside left_of
begun_is s f r at left k o e = e ∙ sym (if_false _ _ _ (ne_eqb r 0 o))

pub ruleset begun_numbers = (begun_nowhere, begun_is, rules)

-- what stands at the head of what is left where that number is one
pub record SegmentBegins (s : List ℕ) (v : Walk) (k : ℕ) : Type 0 where
  pub segment : SegmentAt s 0 v k
  pub some : v.record_length ≡ 0 → ⊥
  pub digit : get_or s v.at 0 ≡ 49
  pub short : k - 5 ≤ v.record_length

pub begins : (s : List ℕ) (v : Walk) (k : ℕ) → BegunAt s v k → SegmentBegins s v k
unfolding begun_in
begins s v k b =
    let z = b.some in
    if_case P (eqb v.record_length 0) 0 (turn_in s 0 49 v.record_length v) (λ _ q. absurd (z q))
    (λ o q. let t = turns s 0 49 v.record_length v k q z in
    record { segment = standing_segment s 0 v k t.is z; some = eqb-false v.record_length 0 o; digit = t.digit; short = t.short })
    b.is
  where
    P : ℕ → Type 0
    P x = k ≡ x → SegmentBegins s v k

pub begun_no_offset : (s : List ℕ) (v : Walk)
    → begun_in s (stands_at v.format v.record_length v.at v.left) ≡ begun_in s v
unfolding begun_in turn_in segment_in is_inside left_of
begun_no_offset s v = refl
