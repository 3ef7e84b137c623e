-- The record that stands whole in the current block, or at the head of the next, is the record at the walk's place. Assumes
-- nothing.
use Rattle.std.specs.Prelude.{Option, Some, None}
use mathlib.Core.Path.{◌≡◌, refl, sym, ap, ap₂, ◌∙◌, subst}
use mathlib.Core.Bool.{true, false}
use mathlib.Core.List.{List}
use Prim.Native.Nat.{ℕ, ◌+◌, ◌-◌, ◌≤◌, ◌<◌}
use native.Mathlib.Omega.{arith}
use mir.Val.{Fits}
use mir.Syntax.{w64}
use borrow.Author.Rules.{rules}
use borrow.Author.Tests.{eq-eqb, ne_eqb, le-leb, lt-leb, leb-true, eqb-true, eqb-false}
use lib.Dec.{leb, eqb}
use lib.ListN.{length, take, drop}
use Rattle.base.proofs.Ifs.{if_true, if_false, if_case}
use Rattle.base.specs.Part.{part, all_are}
use Rattle.base.proofs.Parts.{part_within}
use Rattle.image.specs.Item.{shape, decode}
use Rattle.image.specs.declared.Shape.{Shape}
use Rattle.image.specs.declared.Shape.TheVariants.{Block, Mark, ReelEnd, Broken}
use Rattle.image.proofs.Items.{block_within}
use Rattle.order.specs.declared.Phase.TheVariants.{Data}
use Rattle.block.specs.Unit.{unit_of, pad, word_of, whole_of}
use Rattle.block.specs.declared.Unit.{Unit}
use Rattle.block.proofs.Wholes.{whole_unit}
use Rattle.content.specs.Section.{data_from}
use Rattle.content.specs.Walk.{moved, left_of, is_inside, taken, unit_here, opened, block_next, unit_in, unit_next, or_next, unit_from, whole, record_at, taken_at}
use Rattle.content.specs.Code.Heads.{Inside, whole_at}
use Rattle.content.specs.Whole.{head_by, at_block, stands_at, whole_in}
use Rattle.content.specs.Measure.{measured_by}
use Rattle.content.specs.declared.Walk.{Walk}
use Rattle.content.specs.declared.unit.Taken.{Taken}
use Rattle.content.specs.declared.measuring.Measured.TheVariants.{Whole}
use Rattle.content.proofs.Places.{start_fits}
use Rattle.content.proofs.Sections.{data_first}
use Rattle.content.proofs.Units.{inside_not, inside_left, inside_true, inside_is, no_format, unit_at}
use Rattle.content.proofs.Measures.{is_whole_lem}

-- ---- the head of the next block

pub block_left : (s : List ℕ) (w : Walk) → (w.left ≡ 0 → ⊥) → w ≡ at_block s w
unfolding at_block
block_left s w h = sym (if_false _ _ _ (ne_eqb w.left 0 h))

head_at : (s : List ℕ) (w : Walk) (p : Shape) → w.left ≡ 0 → p ≡ shape (drop w.at s) → head_by w p ≡ at_block s w
unfolding at_block
head_at s w p h e = ap (head_by w) e ∙ sym (if_true _ _ _ (eq-eqb w.left 0 h))

pub head_short : (s : List ℕ) (w : Walk) (p : Shape) (n : ℕ) → w.left ≡ 0 → p ≡ shape (drop w.at s) → p ≡ Block n
    → n < w.offset → w ≡ at_block s w
unfolding head_by
head_short s w p n h e q k = sym (if_false _ _ _ (lt-leb w.offset n k)) ∙ head_at s w (Block n) h (sym q ∙ e)

pub head_block : (s : List ℕ) (w v : Walk) (p : Shape) (n : ℕ) → w.left ≡ 0 → p ≡ shape (drop w.at s) → p ≡ Block n
    → w.offset ≤ n
    → v ≡ moved w (w.at + 3 + w.offset) (n - w.offset) → v ≡ at_block s w
unfolding head_by
head_block s w v p n h e q k m = m ∙ sym (if_true _ _ _ (le-leb w.offset n k)) ∙ head_at s w (Block n) h (sym q ∙ e)

pub head_mark : (s : List ℕ) (w : Walk) (p : Shape) → w.left ≡ 0 → p ≡ shape (drop w.at s) → p ≡ Mark → w ≡ at_block s w
unfolding head_by
head_mark s w p h e q = head_at s w Mark h (sym q ∙ e)

pub head_reel_end : (s : List ℕ) (w : Walk) (p : Shape) → w.left ≡ 0 → p ≡ shape (drop w.at s) → p ≡ ReelEnd → w ≡ at_block s w
unfolding head_by
head_reel_end s w p h e q = head_at s w ReelEnd h (sym q ∙ e)

pub head_broken : (s : List ℕ) (w : Walk) (p : Shape) → w.left ≡ 0 → p ≡ shape (drop w.at s) → p ≡ Broken → w ≡ at_block s w
unfolding head_by
head_broken s w p h e q = head_at s w Broken h (sym q ∙ e)

pub head_fits : (s : List ℕ) (at o n : ℕ) (p : Shape) → p ≡ shape (drop at s) → p ≡ Block n → o ≤ n
    → length s < 18446744073709551616 → Fits w64 (at + 3 + o)
head_fits s at o n p e q k h = omega (arith, block_within s at n p e q)

pub ruleset heads = (block_left, head_short, head_block, head_mark, head_reel_end, head_broken, start_fits, head_fits, rules)

-- ---- the number

pub whole_no_size : (s : List ℕ) (f r at left : ℕ) → r ≡ 0 → 0 ≡ whole_in s (stands_at f r at left)
unfolding whole_in
whole_no_size s f r at left h = sym (if_true _ _ _ (eq-eqb r 0 h))

outside : (s : List ℕ) (w : Walk) → (w.record_length ≡ 0 → ⊥) → is_inside s w ≡ false → 0 ≡ whole_in s w
unfolding whole_in
outside s w h e = sym (if_false _ _ _ (ne_eqb w.record_length 0 h) ∙ if_false _ _ _ e)

pub whole_past : (s : List ℕ) (f r at left : ℕ) → (r ≡ 0 → ⊥) → length s < at → 0 ≡ whole_in s (stands_at f r at left)
whole_past s f r at left h k = outside s (stands_at f r at left) h (sym (inside_not s (stands_at f r at left) k))

pub whole_outside : (s : List ℕ) (f r at left : ℕ) → (r ≡ 0 → ⊥) → at ≤ length s → length s - at < left
    → 0 ≡ whole_in s (stands_at f r at left)
whole_outside s f r at left h k m =
    outside s (stands_at f r at left) h (sym (inside_left s (stands_at f r at left) k) ∙ lt-leb left (length s - at) m)

within : (s : List ℕ) (w : Walk) → (w.record_length ≡ 0 → ⊥) → Inside s w
    → whole_of w.record_length (unit_of w.format w.record_length (left_of s w)) ≡ whole_in s w
unfolding whole_in
within s w h k = sym (if_false _ _ _ (ne_eqb w.record_length 0 h) ∙ if_true _ _ _ (inside_is s w k))

pub whole_no_format : (s : List ℕ) (f r at left : ℕ) → (r ≡ 0 → ⊥) → at ≤ length s → left ≤ length s - at → 256 ≤ f
    → 0 ≡ whole_in s (stands_at f r at left)
unfolding whole_of
whole_no_format s f r at left h k m g =
    ap (whole_of r) (no_format f r (left_of s (stands_at f r at left)) g) ∙ within s (stands_at f r at left) h (omega arith)

pub whole_number : (s : List ℕ) (f r at left k : ℕ) → (r ≡ 0 → ⊥) → at ≤ length s → left ≤ length s - at
    → k ≡ whole_of r (unit_of f r (drop 0 (take (at + left - at) (drop at s)))) → k ≡ whole_in s (stands_at f r at left)
unfolding left_of
whole_number s f r at left k h a m e =
    e ∙ ap (λ (l : List ℕ). whole_of r (unit_of f r l)) (part_within at left s) ∙ within s (stands_at f r at left) h (omega arith)

pub end_fits : (s : List ℕ) (at left : ℕ) → at ≤ length s → left ≤ length s - at → length s < 18446744073709551616
    → Fits w64 (at + left)
end_fits s at left a m h = omega arith

pub end_within : (s : List ℕ) (at left : ℕ) → at ≤ length s → left ≤ length s - at → at + left ≤ length s
end_within s at left a m = omega arith

pub ruleset numbers = (whole_no_size, whole_past, whole_outside, whole_no_format, whole_number, end_fits, end_within, rules)

-- ---- from the number to the record

-- a whole record of k bytes, with its control word, stands at the head of what is left
pub record Standing (s : List ℕ) (v : Walk) (k : ℕ) : Type 0 where
  pub some : v.record_length ≡ 0 → ⊥
  pub inside : Inside s v
  pub unit : unit_here s v ≡ taken_at 0 (v.at + word_of v.format) (k - word_of v.format) (moved v (v.at + k) (v.left - k))
  pub least : word_of v.format ≤ k
  pub short : k - word_of v.format ≤ v.record_length
  pub left : k ≤ v.left

standing_by : (s : List ℕ) (v : Walk) (k : ℕ) → (v.record_length ≡ 0 → ⊥) → Inside s v
    → k ≡ whole_of v.record_length (unit_of v.format v.record_length (left_of s v)) → (k ≡ 0 → ⊥)
    → Standing s v k
unfolding unit_here taken
standing_by s v k some inside e z =
    let c = whole_unit v.format v.record_length (left_of s v) k e z in
    let m = c.least in
    let a : v.at + word_of v.format + (k - word_of v.format) ≡ v.at + k = omega arith in
    let b : word_of v.format + (k - word_of v.format) ≡ k = omega arith in
    let u = unit_at s v 0 (word_of v.format) (k - word_of v.format) c.is in
    let l = u.left in
    record {
      some = some;
      inside = inside;
      unit = ap (taken v) c.is
          ∙ ap₂ (λ (i j : ℕ). taken_at 0 (v.at + word_of v.format) (k - word_of v.format) (moved v i (v.left - j))) a b;
      least = m;
      short = c.short;
      left = omega arith;
    }

-- the offset length has no part in it
no_offset : (s : List ℕ) (w : Walk) → whole_at s w ≡ whole_in s w
unfolding whole_in is_inside left_of
no_offset s w = refl

pub standing : (s : List ℕ) (v : Walk) (k : ℕ) → k ≡ whole_at s v → (k ≡ 0 → ⊥) → Standing s v k
unfolding whole_in
standing s v k e z =
    if_case (λ (x : ℕ). k ≡ x → Standing s v k) (eqb v.record_length 0) 0 _ (λ a q. absurd (z q))
    (λ a. if_case (λ (x : ℕ). k ≡ x → Standing s v k) (is_inside s v) _ 0
    (λ b q. standing_by s v k (eqb-false v.record_length 0 a) (inside_true s v true (sym b) refl) q z)
    (λ b q. absurd (z q)))
    (e ∙ no_offset s v)

-- a unit at the head of what is left for v is the unit at w's place, over the same file
pub record WholeLeads (s : List ℕ) (w v : Walk) : Type 0 where
  pub format : v.format ≡ w.format
  pub record_length : v.record_length ≡ w.record_length
  pub offset : v.offset ≡ w.offset
  pub inside : Inside s v → Inside s w
  pub unit : (i start n : ℕ) (u : Walk) → unit_here s v ≡ taken_at i start n u → unit_from s w ≡ taken_at i start n u

leads_self : (s : List ℕ) (w : Walk) → WholeLeads s w w
unfolding unit_from or_next
leads_self s w =
    record {
      format = refl;
      record_length = refl;
      offset = refl;
      inside = λ h. h;
      unit = λ i start n u e. ap
          (λ (t : Option Taken). or_next t (unit_next s w)) e;
    }

pub none_left : (s : List ℕ) (w : Walk) → w.left ≡ 0 → unit_here s w ≡ None
unfolding unit_here taken
none_left s w h = by_unit (unit_of w.format w.record_length (left_of s w)) refl
  where
    by_unit : (u : Option Unit) → unit_of w.format w.record_length (left_of s w) ≡ u → taken w u ≡ None
    by_unit (Some u) e =
        let k = unit_at s w u.indicator u.word u.len e in
        let a = k.some in
        let b = k.left in
        absurd (omega arith)
    by_unit None e = refl

leads_block : (s : List ℕ) (w : Walk) (n : ℕ) → w.left ≡ 0 → shape (drop w.at s) ≡ Block n → w.offset ≤ n
    → WholeLeads s w (moved w (w.at + 3 + w.offset) (n - w.offset))
unfolding unit_from or_next unit_next unit_in block_next left_of part all_are opened
leads_block s w n h e k =
    let within = block_within s w.at n (Block n) (sym e) refl in
    let here : w.at + w.left ≡ w.at = omega arith in
    record {
      format = refl;
      record_length = refl;
      offset = refl;
      inside = λ _. omega arith;
      unit = λ i start m u q.
          ap₂ (λ (t v : Option Taken). or_next t v) (none_left s w h)
          (ap (unit_in s)
          (if_true _ _ _ (ap (λ (j : ℕ). all_are pad (take j (drop w.at s))) h)
          ∙ ap (λ (j : ℕ). opened w (data_from Data j (decode (drop j s)))) here
          ∙ ap (opened w) (sym (data_first s w.at n (Block n) (sym e) refl))
          ∙ if_true _ _ _ (le-leb w.offset n k)))
          ∙ q;
    }

leads_by : (s : List ℕ) (w : Walk) (p : Shape) → w.left ≡ 0 → shape (drop w.at s) ≡ p → WholeLeads s w (head_by w p)
unfolding head_by
leads_by s w (Block n) h e =
    if_case (WholeLeads s w) (leb w.offset n) _ w (λ a. leads_block s w n h e (leb-true w.offset n a)) (λ _. leads_self s w)
leads_by s w Mark h e = leads_self s w
leads_by s w ReelEnd h e = leads_self s w
leads_by s w Broken h e = leads_self s w

pub leads : (s : List ℕ) (w v : Walk) → v ≡ at_block s w → WholeLeads s w v
unfolding at_block
leads s w v e =
    subst (WholeLeads s w) (sym e)
    (if_case (WholeLeads s w) (eqb w.left 0) _ w (λ a. leads_by s w (shape (drop w.at s)) (eqb-true w.left 0 a) refl)
    (λ _. leads_self s w))

pub record_whole : (s : List ℕ) (w v : Walk) (k : ℕ) → v ≡ at_block s w → k ≡ whole_at s v → (k ≡ 0 → ⊥)
    → record_at s w ≡ whole (v.at + word_of v.format) (k - word_of v.format) (moved v (v.at + k) (v.left - k))
record_whole s w v k e m z =
    let c = standing s v k m z in
    let l = leads s w v e in
    let q = l.record_length in
    let some = c.some in
    let short = c.short in
    is_whole_lem s w _ (unit_from s w) (record { some = λ h. some (q ∙ h); inside = inside_is s w (l.inside c.inside) }) refl
    (l.unit _ _ _ _ c.unit) (omega arith) refl

-- ---- as the code finds it

-- a number that is not 0 measures the record
pub measured_whole : (s : List ℕ) (w v u : Walk) (k c : ℕ) → v ≡ at_block s w → k ≡ whole_at s v → (k ≡ 0 → ⊥)
    → c ≡ word_of v.format
    → u ≡ moved v (v.at + k) (v.left - k) → Some (Whole (v.at + c) (k - c) u) ≡ measured_by (record_at s w)
unfolding measured_by
measured_whole s w v u k c e m z p q =
    ap (λ (x : Walk). Some (Whole (v.at + c) (k - c) x)) q ∙ ap (λ (j : ℕ). Some (Whole (v.at + j) (k - j) (moved v (v.at + k) (v.left - k)))) p
    ∙ sym (ap measured_by (record_whole s w v k e m z))

-- it counts the control word
pub word_least : (s : List ℕ) (v : Walk) (k c : ℕ) → k ≡ whole_at s v → (k ≡ 0 → ⊥) → c ≡ word_of v.format → c ≤ k
word_least s v k c m z p = omega (arith, (standing s v k m z).least)

-- it is not more than what is left of the block
pub whole_left : (s : List ℕ) (v : Walk) (k : ℕ) → k ≡ whole_at s v → (k ≡ 0 → ⊥) → k ≤ v.left
whole_left s v k m z = (standing s v k m z).left

-- the place of such a record fits a register
pub whole_start : (s : List ℕ) (v : Walk) (k c : ℕ) → k ≡ whole_at s v → (k ≡ 0 → ⊥) → c ≡ word_of v.format
    → length s < 18446744073709551616 → Fits w64 (v.at + c)
whole_start s v k c m z p h =
    let g = standing s v k m z in
    let a = g.least in
    let b = g.left in
    let d = g.inside in
    omega arith

-- and so does the place behind it
pub whole_end : (s : List ℕ) (v : Walk) (k : ℕ) → k ≡ whole_at s v → (k ≡ 0 → ⊥) → length s < 18446744073709551616
    → Fits w64 (v.at + k)
whole_end s v k m z h =
    let g = standing s v k m z in
    let b = g.left in
    let d = g.inside in
    omega arith

pub ruleset wholes = (measured_whole, word_least, whole_left, whole_start, whole_end, rules)
