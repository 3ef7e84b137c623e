-- Laws of the next unit of a file. Assumes nothing.
use Rattle.std.specs.Prelude.{Option, None, Some}
use mathlib.Core.Path.{◌≡◌, sym, ap, ◌∙◌}
use mathlib.Core.Bool.{Bool, true, false, not}
use mathlib.Core.List.{List}
use Prim.Native.Nat.{ℕ, ◌+◌, ◌-◌, ◌≤◌, ◌<◌}
use native.Mathlib.Omega.{arith}
use mir.Val.{Fits}
use mir.Syntax.{w64}
use borrow.Author.Rules.{rules}
use borrow.Author.Tests.{ne_eqb, le-leb, lt-leb, leb-true, not-true, not-false}
use lib.Dec.{leb}
use lib.ListN.{length, take, drop, length-take, length-drop}
use Rattle.base.proofs.Ifs.{if_true, if_false, if_case}
use Rattle.base.specs.Format.{format_f, format_d, format_s}
use Rattle.base.specs.Part.{part, all_are}
use Rattle.image.specs.Item.{decode}
use Rattle.order.specs.declared.Phase.TheVariants.{Data}
use Rattle.block.specs.Unit.{unit_of, pad, one_unit}
use Rattle.block.specs.declared.Unit.{Unit}
use Rattle.block.proofs.Units.{unit_stands}
use Rattle.content.specs.Section.{data_from}
use Rattle.content.specs.Walk.{moved, left_of, is_inside, taken, unit_here, opened, block_next, unit_in, unit_next, or_next, unit_from, first_segment, next_segment, taken_at}
use Rattle.content.specs.Code.Heads.{Inside}
use Rattle.content.specs.declared.Walk.{Walk}
use Rattle.content.specs.declared.section.Extent.{Extent}
use Rattle.content.specs.declared.unit.Taken.{Taken}
use Rattle.content.proofs.Sections.{data_within}

-- ---- inside the image

pub inside_not : (s : List ℕ) (w : Walk) → length s < w.at → false ≡ is_inside s w
unfolding is_inside
inside_not s w h = sym (if_false _ _ _ (lt-leb w.at (length s) h))

pub inside_left : (s : List ℕ) (w : Walk) → w.at ≤ length s → leb w.left (length s - w.at) ≡ is_inside s w
unfolding is_inside
inside_left s w h = sym (if_true _ _ _ (le-leb w.at (length s) h))

pub ruleset insides = (inside_not, inside_left, rules)

-- what the test finds inside lies inside
pub inside_true : (s : List ℕ) (w : Walk) (b : Bool) → b ≡ is_inside s w → b ≡ true → Inside s w
unfolding is_inside
inside_true s w b e t =
    if_case (λ (x : Bool). x ≡ true → w.at + w.left ≤ length s) (leb w.at (length s))
    (leb w.left (length s - w.at)) false
    (λ p q. let k = leb-true w.at (length s) p in let m = leb-true w.left (length s - w.at) q in omega arith)
    (λ p q. absurd (mathlib.Core.Bool.false≢true q)) (sym e ∙ t)

pub inside_is : (s : List ℕ) (w : Walk) → Inside s w → is_inside s w ≡ true
unfolding is_inside
inside_is s w h = if_true _ _ _ (le-leb w.at (length s) (omega arith)) ∙ le-leb w.left (length s - w.at) (omega arith)

-- ---- the unit at the head of what is left

-- a format that is no byte is none
pub no_format : (f r : ℕ) (s : List ℕ) → 256 ≤ f → None ≡ unit_of f r s
unfolding unit_of
no_format f r s h =
    sym (if_false _ _ _ (ne_eqb f format_f (λ e. omega arith)) ∙ if_false _ _ _ (ne_eqb f format_d (λ e. omega arith))
    ∙ if_false _ _ _ (ne_eqb f format_s (λ e. omega arith)))

pub ruleset formats = (no_format, rules)

-- a unit of c bytes of control word and n others
pub record UnitAt (s : List ℕ) (w : Walk) (c n : ℕ) : Type 0 where
  pub some : 1 ≤ c + n
  pub left : c + n ≤ w.left
  pub within : w.at + c + n ≤ length s

pub unit_at : (s : List ℕ) (w : Walk) (i c n : ℕ) → unit_of w.format w.record_length (left_of s w) ≡ one_unit i c n
    → UnitAt s w c n
unfolding left_of part
unit_at s w i c n e =
    let k = unit_stands w.format w.record_length (take w.left (drop w.at s)) i c n e in
    let a = length-take w.left (drop w.at s) in
    let b = length-drop w.at s in
    record { some = k.some; left = omega arith; within = omega arith }

-- as the code finds it
unit_found : (s : List ℕ) (w : Walk) (i c n : ℕ) (l : List ℕ) (u : Option Unit) → l ≡ part w.at w.left s
    → u ≡ unit_of w.format w.record_length (drop 0 l) → u ≡ one_unit i c n
    → unit_of w.format w.record_length (left_of s w) ≡ one_unit i c n
unfolding left_of
unit_found s w i c n l u h e q = ap (unit_of w.format w.record_length) (sym h) ∙ sym e ∙ q

pub unit_one : (s : List ℕ) (w : Walk) (one : Unit) (l : List ℕ) (u : Option Unit) (v : Walk) → l ≡ part w.at w.left s
    → u ≡ unit_of w.format w.record_length (drop 0 l) → u ≡ Some one → v ≡ moved w (w.at + one.word + one.len) (w.left - (one.word + one.len))
    → taken_at one.indicator (w.at + one.word) one.len v ≡ unit_here s w
unfolding unit_here taken
unit_one s w one l u v h e q m = ap (taken_at one.indicator (w.at + one.word) one.len) m ∙ sym (ap (taken w) (unit_found s w one.indicator one.word one.len l u h e q))

pub unit_none : (s : List ℕ) (w : Walk) (l : List ℕ) (u : Option Unit) → l ≡ part w.at w.left s
    → u ≡ unit_of w.format w.record_length (drop 0 l) → u ≡ None
    → None ≡ unit_here s w
unfolding unit_here taken left_of
unit_none s w l u h e q = ap (taken w) (sym q ∙ e ∙ ap (unit_of w.format w.record_length) h)

pub start_fits : (s : List ℕ) (w : Walk) (one : Unit) (l : List ℕ) (u : Option Unit) → l ≡ part w.at w.left s
    → u ≡ unit_of w.format w.record_length (drop 0 l)
    → u ≡ Some one → length s < 18446744073709551616 → Fits w64 (w.at + one.word)
start_fits s w one l u h e q m = let k = unit_at s w one.indicator one.word one.len (unit_found s w one.indicator one.word one.len l u h e q) in omega arith

pub behind_fits : (s : List ℕ) (w : Walk) (one : Unit) (l : List ℕ) (u : Option Unit) → l ≡ part w.at w.left s
    → u ≡ unit_of w.format w.record_length (drop 0 l)
    → u ≡ Some one → length s < 18446744073709551616 → Fits w64 (w.at + one.word + one.len)
behind_fits s w one l u h e q m = let k = unit_at s w one.indicator one.word one.len (unit_found s w one.indicator one.word one.len l u h e q) in omega arith

pub unit_fits : (s : List ℕ) (w : Walk) (one : Unit) (l : List ℕ) (u : Option Unit) → l ≡ part w.at w.left s
    → u ≡ unit_of w.format w.record_length (drop 0 l)
    → u ≡ Some one → length s < 18446744073709551616 → Fits w64 (one.word + one.len)
unit_fits s w one l u h e q m = let k = unit_at s w one.indicator one.word one.len (unit_found s w one.indicator one.word one.len l u h e q) in omega arith

pub unit_left : (s : List ℕ) (w : Walk) (one : Unit) (l : List ℕ) (u : Option Unit) → l ≡ part w.at w.left s
    → u ≡ unit_of w.format w.record_length (drop 0 l)
    → u ≡ Some one → one.word + one.len ≤ w.left
unit_left s w one l u h e q = (unit_at s w one.indicator one.word one.len (unit_found s w one.indicator one.word one.len l u h e q)).left

pub ruleset units = (unit_one, unit_none, start_fits, behind_fits, unit_fits, unit_left, rules)

-- ---- the next block

block_by : (s : List ℕ) (w : Walk) (l : List ℕ) (b : Bool) (x : Option Extent) → l ≡ part w.at w.left s → b ≡ all_are pad l
    → not b ≡ false
    → x ≡ data_from Data (w.at + w.left) (decode (drop (w.at + w.left) s)) → opened w x ≡ block_next s w
unfolding block_next left_of
block_by s w l b x h e t d = ap (opened w) d ∙ sym (if_true _ _ _ (ap (all_are pad) (sym h) ∙ sym e ∙ not-false b t))

pub block_filled : (s : List ℕ) (w : Walk) (l : List ℕ) (b : Bool) → l ≡ part w.at w.left s → b ≡ all_are pad l
    → not b ≡ true → None ≡ block_next s w
unfolding block_next left_of
block_filled s w l b h e t = sym (if_false _ _ _ (ap (all_are pad) (sym h) ∙ sym e ∙ not-true b t))

pub block_nowhere : (s : List ℕ) (w : Walk) (l : List ℕ) (b : Bool) (x : Option Extent) → l ≡ part w.at w.left s → b ≡ all_are pad l
    → not b ≡ false
    → x ≡ data_from Data (w.at + w.left) (decode (drop (w.at + w.left) s)) → x ≡ None → None ≡ block_next s w
unfolding opened
block_nowhere s w l b x h e t d n = ap (opened w) (sym n) ∙ block_by s w l b x h e t d

pub block_short : (s : List ℕ) (w : Walk) (l : List ℕ) (b : Bool) (x : Option Extent) (block : Extent) → l ≡ part w.at w.left s
    → b ≡ all_are pad l → not b ≡ false
    → x ≡ data_from Data (w.at + w.left) (decode (drop (w.at + w.left) s)) → x ≡ Some block → block.len < w.offset
    → None ≡ block_next s w
unfolding opened
block_short s w l b x block h e t d q k =
    sym (if_false _ _ _ (lt-leb w.offset block.len k)) ∙ ap (opened w) (sym q) ∙ block_by s w l b x h e t d

pub block_opened : (s : List ℕ) (w : Walk) (l : List ℕ) (b : Bool) (x : Option Extent) (block : Extent) (v : Walk)
    → l ≡ part w.at w.left s → b ≡ all_are pad l
    → not b ≡ false → x ≡ data_from Data (w.at + w.left) (decode (drop (w.at + w.left) s)) → x ≡ Some block → w.offset ≤ block.len
    → v ≡ moved w (block.start + w.offset) (block.len - w.offset) → Some v ≡ block_next s w
unfolding opened
block_opened s w l b x block v h e t d q k m =
    ap Some m ∙ sym (if_true _ _ _ (le-leb w.offset block.len k)) ∙ ap (opened w) (sym q) ∙ block_by s w l b x h e t d

pub offset_fits : (s : List ℕ) (w : Walk) (x : Option Extent) (block : Extent)
    → x ≡ data_from Data (w.at + w.left) (decode (drop (w.at + w.left) s)) → x ≡ Some block
    → w.offset ≤ block.len → length s < 18446744073709551616 → Fits w64 (block.start + w.offset)
offset_fits s w x block d q k m = let h = data_within s Data (w.at + w.left) block.start block.len (sym d ∙ q) in omega arith

pub ruleset blocks = (block_filled, block_nowhere, block_short, block_opened, offset_fits, rules)

-- ---- the unit in the current block or the next

pub next_nothing : (s : List ℕ) (w : Walk) (p : Option Walk) → p ≡ block_next s w → p ≡ None → None ≡ unit_next s w
unfolding unit_next unit_in
next_nothing s w p e q = ap (unit_in s) (sym q ∙ e)

pub next_unit : (s : List ℕ) (w v : Walk) (p : Option Walk) (t : Option Taken) → p ≡ block_next s w → p ≡ Some v → t ≡ unit_here s v
    → t ≡ unit_next s w
unfolding unit_next unit_in
next_unit s w v p t e q h = h ∙ ap (unit_in s) (sym q ∙ e)

pub from_here : (s : List ℕ) (w : Walk) (one : Taken) (t : Option Taken) → t ≡ unit_here s w → t ≡ Some one
    → Some one ≡ unit_from s w
unfolding unit_from or_next
from_here s w one t e q = ap (λ (u : Option Taken). or_next u (unit_next s w)) (sym q ∙ e)

pub from_next : (s : List ℕ) (w : Walk) (t u : Option Taken) → t ≡ unit_here s w → t ≡ None → u ≡ unit_next s w → u ≡ unit_from s w
unfolding unit_from or_next
from_next s w t u e q h = h ∙ ap (λ (x : Option Taken). or_next x (unit_next s w)) (sym q ∙ e)

pub ruleset froms = (next_nothing, next_unit, from_here, from_next, rules)

-- ---- segments from any walk whatever

pub first_inside : (s : List ℕ) (w : Walk) (b : Bool) (t : Option Taken) → b ≡ is_inside s w → b ≡ true → t ≡ unit_from s w
    → t ≡ first_segment s w
unfolding first_segment
first_inside s w b t e h k = k ∙ sym (if_true _ _ _ (sym e ∙ h))

pub first_outside : (s : List ℕ) (w : Walk) (b : Bool) → b ≡ is_inside s w → b ≡ false → None ≡ first_segment s w
unfolding first_segment
first_outside s w b e h = sym (if_false _ _ _ (sym e ∙ h))

pub next_inside : (s : List ℕ) (w : Walk) (b : Bool) (t : Option Taken) → b ≡ is_inside s w → b ≡ true → t ≡ unit_next s w
    → t ≡ next_segment s w
unfolding next_segment
next_inside s w b t e h k = k ∙ sym (if_true _ _ _ (sym e ∙ h))

pub next_outside : (s : List ℕ) (w : Walk) (b : Bool) → b ≡ is_inside s w → b ≡ false → None ≡ next_segment s w
unfolding next_segment
next_outside s w b e h = sym (if_false _ _ _ (sym e ∙ h))

pub ruleset segments = (first_inside, first_outside, next_inside, next_outside, inside_true, rules)
