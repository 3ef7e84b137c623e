-- What holds of the next unit of a file, and the equation of `rest_at` without the number that it counts down. Assumes nothing.
use Rattle.std.specs.Prelude.{Option, Some, None}
use mathlib.Core.Path.{◌≡◌, refl, ap, ◌∙◌, subst}
use mathlib.Core.Bool.{true, false≢true}
use mathlib.Core.List.{List}
use Prim.Native.Nat.{ℕ, zero, suc, ◌+◌, ◌-◌, ◌≤◌, ◌<◌}
use native.Mathlib.Omega.{arith}
use borrow.Author.Tests.{leb-true, le-leb}
use lib.Dec.{leb, eqb}
use lib.ListN.{length, drop, length-take, length-append}
use Rattle.base.specs.If.{if_b}
use Rattle.base.proofs.Ifs.{if_true, if_false, if_case}
use Rattle.base.specs.Part.{part, all_are}
use Rattle.image.specs.Item.{decode}
use Rattle.order.specs.declared.Phase.TheVariants.{Data}
use Rattle.block.specs.Unit.{unit_of, pad}
use Rattle.block.specs.declared.Unit.{Unit}
use Rattle.content.specs.Section.{data_from}
use Rattle.content.specs.Walk.{moved, left_of, taken, unit_here, opened, block_next, unit_in, unit_next, or_next, unit_from, Rest, ends, fails, before, rest_by, rest_f, rest_at, taken_at}
use Rattle.content.specs.Code.Heads.{Inside}
use Rattle.content.specs.Code.Joining.{is_ended}
use Rattle.content.specs.declared.Walk.{Walk}
use Rattle.content.specs.declared.section.Extent.{Extent}
use Rattle.content.specs.declared.unit.Taken.{Taken}
use Rattle.content.proofs.Sections.{data_within}
use Rattle.content.proofs.Searches.{Follows, Leads, data_leads}
use Rattle.content.proofs.Units.{unit_at}

-- ---- a unit is further on and inside the image, the walk behind it is over the same file, and from its block on the same file
-- follows

-- a unit that was found behind a walk, and the walk behind it
pub record UnitBehind (s : List ℕ) (w : Walk) (start n : ℕ) (v : Walk) : Type 0 where
  pub onward : w.at < v.at
  pub bytes : w.at + n ≤ v.at
  pub inside : Inside s v
  pub within : start + n ≤ length s
  pub format : v.format ≡ w.format
  pub record_length : v.record_length ≡ w.record_length
  pub offset : v.offset ≡ w.offset
  pub leads : Leads s (w.at + w.left) (v.at + v.left)

abbrev IfOne : (ℕ → ℕ → Walk → Type 0) → Option Taken → Type 0
IfOne P (Some u) = P u.start u.len u.behind
IfOne P None = ◌≡◌ {A = Option Taken} None None

here_behind : (s : List ℕ) (w : Walk) (u : Option Unit) → Inside s w → unit_of w.format w.record_length (left_of s w) ≡ u
    → IfOne (UnitBehind s w) (taken w u)
unfolding taken
here_behind s w (Some u) h e =
    let k = unit_at s w u.indicator u.word u.len e in
    let some = k.some in
    let within = k.within in
    let left = k.left in
    let same : w.at + w.left ≡ w.at + u.word + u.len + (w.left - (u.word + u.len)) = omega arith in
    record {
      onward = omega arith;
      bytes = omega arith;
      inside = omega arith;
      within = within;
      format = refl;
      record_length = refl;
      offset = refl;
      leads = λ x f. subst (Follows s x) same f;
    }
here_behind s w None h e = refl

-- the next block, behind its offset
pub record BlockOpened (s : List ℕ) (w v : Walk) : Type 0 where
  pub onward : w.at < v.at
  pub inside : Inside s v
  pub format : v.format ≡ w.format
  pub record_length : v.record_length ≡ w.record_length
  pub offset : v.offset ≡ w.offset
  pub leads : Leads s (w.at + w.left) (v.at + v.left)

abbrev IfPlace : (Walk → Type 0) → Option Walk → Type 0
IfPlace P (Some v) = P v
IfPlace P None = ◌≡◌ {A = Option Walk} None None

open_by : (s : List ℕ) (w : Walk) (x : Option Extent) → data_from Data (w.at + w.left) (decode (drop (w.at + w.left) s)) ≡ x
    → IfPlace (BlockOpened s w) (opened w x)
unfolding opened
open_by s w (Some u) e =
    let c = data_within s Data (w.at + w.left) u.start u.len e in
    let a = c.onward in
    let b = c.within in
    if_case (IfPlace (BlockOpened s w)) (leb w.offset u.len) (Some (moved w (u.start + w.offset) (u.len - w.offset))) None
    (λ t.
    let k = leb-true w.offset u.len t in
    let same : u.start + u.len ≡ u.start + w.offset + (u.len - w.offset) = omega arith in
    record {
      onward = omega arith;
      inside = omega arith;
      format = refl;
      record_length = refl;
      offset = refl;
      leads = λ x f. subst (Follows s x) same (data_leads s (w.at + w.left) u.start u.len e x f);
    }) (λ _. refl)
open_by s w None e = refl

block_behind : (s : List ℕ) (w : Walk) → IfPlace (BlockOpened s w) (block_next s w)
unfolding block_next
block_behind s w = if_case (IfPlace (BlockOpened s w)) (all_are pad (left_of s w)) _ None (λ _. open_by s w _ refl) (λ _. refl)

behind_opened : (s : List ℕ) (w v : Walk) (t : Option Taken) → BlockOpened s w v → IfOne (UnitBehind s v) t → IfOne (UnitBehind s w) t
behind_opened s w v (Some x) o b =
    record {
      onward = omega (arith, o.onward, b.onward);
      bytes = omega (arith, o.onward, b.bytes);
      inside = b.inside;
      within = b.within;
      format = b.format ∙ o.format;
      record_length = b.record_length ∙ o.record_length;
      offset = b.offset ∙ o.offset;
      leads = λ x f. b.leads x (o.leads x f);
    }
behind_opened s w v None o b = refl

in_behind : (s : List ℕ) (w : Walk) (p : Option Walk) → IfPlace (BlockOpened s w) p → IfOne (UnitBehind s w) (unit_in s p)
unfolding unit_in unit_here
in_behind s w (Some v) o = behind_opened s w v (taken v (unit_of v.format v.record_length (left_of s v))) o (here_behind s v (unit_of v.format v.record_length (left_of s v)) o.inside refl)
in_behind s w None o = refl

next_any : (s : List ℕ) (w : Walk) → IfOne (UnitBehind s w) (unit_next s w)
unfolding unit_next
next_any s w = in_behind s w (block_next s w) (block_behind s w)

or_any : (s : List ℕ) (w : Walk) (t u : Option Taken) → IfOne (UnitBehind s w) t → IfOne (UnitBehind s w) u
    → IfOne (UnitBehind s w) (or_next t u)
unfolding or_next
or_any s w (Some x) u a b = a
or_any s w None u a b = b

-- the first unit of the next block is one
pub next_behind : (s : List ℕ) (w : Walk) (i start n : ℕ) (v : Walk) → unit_next s w ≡ taken_at i start n v → UnitBehind s w start n v
next_behind s w i start n v e = subst (IfOne (UnitBehind s w)) e (next_any s w)

-- and so is the unit at the walk's place
pub from_behind : (s : List ℕ) (w : Walk) (i start n : ℕ) (v : Walk) → Inside s w → unit_from s w ≡ taken_at i start n v
    → UnitBehind s w start n v
unfolding unit_from unit_here
from_behind s w i start n v h e = subst (IfOne (UnitBehind s w)) e (or_any s w _ _ (here_behind s w _ h refl) (next_any s w))

-- ---- the equation

-- two ways to read the rest that agree behind the next unit
rest_same : (s : List ℕ) (room : ℕ) (t : Option Taken) (g h : ℕ → Walk → Rest)
    → ((i start n : ℕ) (v : Walk) → t ≡ taken_at i start n v → (r : ℕ) → g r v ≡ h r v) → rest_by s room t g ≡ rest_by s room t h
unfolding rest_by
rest_same s room (Some u) g h e =
    ap (λ (x : Rest). if_b (leb u.len room)
    (if_b (eqb u.indicator 3) (ends (part u.start u.len s) u.behind) (if_b (eqb u.indicator 2) (before (part u.start u.len s) x) fails)) fails)
    (e u.indicator u.start u.len u.behind refl (room - u.len))
rest_same s room None g h e = refl

enough : (f g : ℕ) (s : List ℕ) (room : ℕ) (w : Walk) → length s - w.at < f → length s - w.at < g
    → rest_f f s room w ≡ rest_f g s room w
unfolding rest_f
enough zero g s room w h k = absurd (omega arith)
enough (suc f) zero s room w h k = absurd (omega arith)
enough (suc f) (suc g) s room w h k =
    rest_same s room (unit_next s w) (λ r v. rest_f f s r v) (λ r v. rest_f g s r v)
    (λ i start n v e r.
    let b = next_behind s w i start n v e in
    let on = b.onward in
    let in' = b.inside in
    enough f g s r v (omega arith) (omega arith))

pub rest_at_lem : (s : List ℕ) (room : ℕ) (w : Walk) → rest_at s room w ≡ rest_by s room (unit_next s w) (λ r v. rest_at s r v)
unfolding rest_at rest_f
rest_at_lem s room w =
    rest_same s room (unit_next s w) (λ r v. rest_f (length s) s r v) (λ r v. rest_f (suc (length s)) s r v)
    (λ i start n v e r.
    let b = next_behind s w i start n v e in
    let on = b.onward in
    let in' = b.inside in
    enough (length s) (suc (length s)) s r v (omega arith) (omega arith))

-- ---- the rest is no longer than its room, and more room makes no difference

unfoldable pub Most : ℕ → Rest → Type 0
Most room (ends bs v) = length bs ≤ room
Most room fails = fails ≡ fails

part_most : (start n : ℕ) (s : List ℕ) → length (part start n s) ≤ n
unfolding part
part_most start n s = omega (arith, length-take n (drop start s))

most_before : (room n : ℕ) (bs : List ℕ) (x : Rest) → n ≤ room → length bs ≤ n → Most (room - n) x → Most room (before bs x)
unfolding Most before
most_before room n bs (ends cs v) h k m = omega (arith, length-append bs cs)
most_before room n bs fails h k m = refl

most_by : (s : List ℕ) (room : ℕ) (t : Option Taken) (g : ℕ → Walk → Rest) → ((r : ℕ) (v : Walk) → Most r (g r v))
    → Most room (rest_by s room t g)
unfolding rest_by Most
most_by s room (Some u) g h =
    if_case (Most room) (leb u.len room) _ fails
    (λ a. let k = leb-true u.len room a in let p = part_most u.start u.len s in
    if_case (Most room) (eqb u.indicator 3) (ends (part u.start u.len s) u.behind) _ (λ _. omega arith)
    (λ _. if_case (Most room) (eqb u.indicator 2) _ fails (λ _. most_before room u.len (part u.start u.len s) (g (room - u.len) u.behind) k p (h (room - u.len) u.behind))
    (λ _. refl)))
    (λ _. refl)
most_by s room None g h = refl

most_fuel : (f : ℕ) (s : List ℕ) (room : ℕ) (w : Walk) → Most room (rest_f f s room w)
unfolding rest_f Most
most_fuel zero s room w = refl
most_fuel (suc f) s room w = most_by s room (unit_next s w) (λ r v. rest_f f s r v) (λ r v. most_fuel f s r v)

pub rest_most : (s : List ℕ) (room : ℕ) (w : Walk) (bs : List ℕ) (v : Walk) → rest_at s room w ≡ ends bs v → length bs ≤ room
unfolding rest_at Most
rest_most s room w bs v e = subst (Most room) e (most_fuel (suc (length s)) s room w)

-- ---- what ended in some room ends so in more

pub ended_before : (bs : List ℕ) (x : Rest) → is_ended (before bs x) ≡ true → is_ended x ≡ true
unfolding is_ended before
ended_before bs (ends cs v) h = refl
ended_before bs fails h = h

roomy_by : (s : List ℕ) (room more : ℕ) (t : Option Taken) (g : ℕ → Walk → Rest) → room ≤ more
    → ((r q : ℕ) (v : Walk) → r ≤ q → is_ended (g r v) ≡ true → g q v ≡ g r v) → is_ended (rest_by s room t g) ≡ true
    → rest_by s more t g ≡ rest_by s room t g
unfolding rest_by is_ended
roomy_by s room more (Some u) g h again =
    if_case (λ (x : Rest). is_ended x ≡ true → if_b (leb u.len more) (goes more) fails ≡ x) (leb u.len room) (goes room) fails
    (λ a. let k = leb-true u.len room a in λ q. if_true _ _ _ (le-leb u.len more (omega arith)) ∙ inner k q) (λ _ q. absurd (false≢true q))
  where
    goes : ℕ → Rest
    goes r = if_b (eqb u.indicator 3) (ends (part u.start u.len s) u.behind) (if_b (eqb u.indicator 2) (before (part u.start u.len s) (g (r - u.len) u.behind)) fails)

    inner : u.len ≤ room → is_ended (goes room) ≡ true → goes more ≡ goes room
    inner k =
        if_case (λ (x : Rest). is_ended x ≡ true → goes more ≡ x) (eqb u.indicator 3) (ends (part u.start u.len s) u.behind) _ (λ e _. if_true _ _ _ e)
        (λ e. if_case (λ (x : Rest). is_ended x ≡ true → goes more ≡ x) (eqb u.indicator 2) (before (part u.start u.len s) (g (room - u.len) u.behind)) fails
        (λ f q. if_false _ _ _ e ∙ if_true _ _ _ f
        ∙ ap (before (part u.start u.len s))
        (again (room - u.len) (more - u.len) u.behind (omega arith) (ended_before (part u.start u.len s) (g (room - u.len) u.behind) q)))
        (λ _ q. absurd (false≢true q)))
roomy_by s room more None g h again = λ q. refl

roomy_fuel : (f : ℕ) (s : List ℕ) (room more : ℕ) (w : Walk) → room ≤ more → is_ended (rest_f f s room w) ≡ true
    → rest_f f s more w ≡ rest_f f s room w
unfolding rest_f is_ended
roomy_fuel zero s room more w h e = refl
roomy_fuel (suc f) s room more w h e =
    roomy_by s room more (unit_next s w) (λ r v. rest_f f s r v) h (λ r q v l k. roomy_fuel f s r q v l k) e

pub rest_roomy : (s : List ℕ) (room more : ℕ) (w : Walk) → room ≤ more → is_ended (rest_at s room w) ≡ true
    → rest_at s more w ≡ rest_at s room w
unfolding rest_at
rest_roomy s room more w h e = roomy_fuel (suc (length s)) s room more w h e
