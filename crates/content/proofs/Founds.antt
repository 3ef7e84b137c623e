-- Laws of the beginning of a walk and of the record asked by number. Assumes nothing.
use Rattle.content.specs.declared.Found.TheVariants.{InImage, Joined}
use Rattle.content.specs.declared.Found.{Found}
use Rattle.content.specs.declared.measuring.Measured.{Measured}
use Rattle.std.specs.Prelude.{Option, Some, None, Result, Ok, Err}
use mathlib.Core.Path.{◌≡◌, refl, sym, ap, ◌∙◌}
use mathlib.Core.List.{List}
use Prim.Native.Nat.{ℕ, zero, suc, ◌-◌, ◌≤◌, ◌<◌}
use native.Mathlib.Omega.{arith}
use borrow.Author.Rules.{rules}
use borrow.Author.Tests.{eq-eqb, ne_eqb}
use Rattle.base.proofs.Ifs.{if_true, if_false}
use Rattle.base.specs.Part.{part}
use Rattle.base.specs.Answer.{verdict}
use Rattle.base.specs.declared.Verdict.{Verdict}
use Rattle.volume.specs.Run.{image_verdict}
use Rattle.content.specs.Walk.{Record, whole, split, nothing, record_at, step_at, join_at, Step}
use Rattle.content.specs.Measure.{measured_by}
use Rattle.content.specs.File.{file_numbered, begun_by, begun_at}
use Rattle.content.specs.Found.{passed_by, passed, found_by, found_in, left_in, found_from, left_from, found_at, left_at, part_of}
use Rattle.content.specs.declared.Walk.{Walk}
use Rattle.content.specs.declared.FileAt.{FileAt}
use Rattle.content.specs.declared.measuring.Measured.TheVariants.{Whole, Split}
use Rattle.content.proofs.Cases.{said}

-- ---- a walk begun

pub begin_refused : (s : List ℕ) (n : ℕ) (v : Verdict) → v ≡ image_verdict s → (v.number ≡ 0 → ⊥) → Err v ≡ begun_at s n
unfolding begun_at
begin_refused s n v e h =
    ap Err e ∙ sym (if_false _ _ _ (ne_eqb (image_verdict s).number 0 (λ z. h (ap (λ (x : Verdict). x.number) e ∙ z))))

begun_by_lem : (s : List ℕ) (n : ℕ) (v : Verdict) (x : Option FileAt) → v ≡ image_verdict s → v.number ≡ 0 → x ≡ file_numbered s n
    → begun_by x ≡ begun_at s n
unfolding begun_at
begun_by_lem s n v x e h k =
    ap begun_by k ∙ sym (if_true _ _ _ (eq-eqb (image_verdict s).number 0 (ap (λ (x : Verdict). x.number) (sym e) ∙ h)))

pub begin_done : (s : List ℕ) (n : ℕ) (v : Verdict) (x : Option FileAt) (b : Result FileAt Verdict) → v ≡ image_verdict s → v.number ≡ 0
    → x ≡ file_numbered s n → b ≡ begun_by x
    → b ≡ begun_at s n
begin_done s n v x b e h k q = q ∙ begun_by_lem s n v x e h k

pub ruleset begins = (begin_refused, begin_done, said, rules)

-- ---- records passed

pub record RecordsBehind (s : List ℕ) (from : Walk) (records left : ℕ) (w : Walk) : Type 0 where
  pub same : passed s left w ≡ passed s records from

pub passed_none : (s : List ℕ) (from : Walk) (records : ℕ) → RecordsBehind s from records records from
passed_none s from records = record { same = refl }

passed_one : (s : List ℕ) (left : ℕ) (w : Walk) → 0 < left
    → passed s left w ≡ passed_by (record_at s w) (λ v. passed s (left - 1) v)
unfolding passed
passed_one s zero w h = absurd (omega arith)
passed_one s (suc k) w h = let e : k ≡ suc k - 1 = omega arith in ap (λ (j : ℕ). passed_by (record_at s w) (λ v. passed s j v)) e

by_whole : (start n : ℕ) (v : Walk) (x : Record) (f : Walk → Option Walk) → measured_by x ≡ Some (Whole start n v) → passed_by x f ≡ f v
unfolding measured_by passed_by
by_whole start n v (whole a m u) f e = let w : u ≡ v = cc in ap f w
by_whole start n v (split bs u) f e = let z : ◌≡◌ {A = ℕ} 0 1 = cc in absurd (omega arith)
by_whole start n v nothing f e = let z : ◌≡◌ {A = ℕ} 0 1 = cc in absurd (omega arith)

by_split : (n : ℕ) (v : Walk) (x : Record) (f : Walk → Option Walk) → measured_by x ≡ Some (Split n v) → passed_by x f ≡ f v
unfolding measured_by passed_by
by_split n v (whole a m u) f e = let z : ◌≡◌ {A = ℕ} 0 1 = cc in absurd (omega arith)
by_split n v (split bs u) f e = let w : u ≡ v = cc in ap f w
by_split n v nothing f e = let z : ◌≡◌ {A = ℕ} 0 1 = cc in absurd (omega arith)

by_nothing : (x : Record) (f : Walk → Option Walk) → measured_by x ≡ None → passed_by x f ≡ None
unfolding measured_by passed_by
by_nothing (whole a m u) f e = let z : ◌≡◌ {A = ℕ} 0 1 = cc in absurd (omega arith)
by_nothing (split bs u) f e = let z : ◌≡◌ {A = ℕ} 0 1 = cc in absurd (omega arith)
by_nothing nothing f e = refl

pub passed_whole : (s : List ℕ) (from : Walk) (records left : ℕ) (w : Walk) (start n : ℕ) (v : Walk) (m : Option Measured) (x : Measured)
    → RecordsBehind s from records left w → 0 < left
    → m ≡ measured_by (record_at s w) → m ≡ Some x → x ≡ Whole start n v → RecordsBehind s from records (left - 1) v
passed_whole s from records left w start n v m x c h e q z =
    record {
      same = sym (passed_one s left w h ∙ by_whole start n v (record_at s w) (λ u. passed s (left - 1) u) (sym e ∙ q ∙ ap Some z))
          ∙ c.same;
    }

pub passed_split : (s : List ℕ) (from : Walk) (records left : ℕ) (w : Walk) (n : ℕ) (v : Walk) (m : Option Measured) (x : Measured)
    → RecordsBehind s from records left w → 0 < left
    → m ≡ measured_by (record_at s w) → m ≡ Some x → x ≡ Split n v → RecordsBehind s from records (left - 1) v
passed_split s from records left w n v m x c h e q z =
    record { same = sym (passed_one s left w h ∙ by_split n v (record_at s w) (λ u. passed s (left - 1) u) (sym e ∙ q ∙ ap Some z)) ∙ c.same }

pub passed_nothing : (s : List ℕ) (from : Walk) (records left : ℕ) (w : Walk) (m : Option Measured) → RecordsBehind s from records left w
    → 0 < left
    → m ≡ measured_by (record_at s w) → m ≡ None → None ≡ passed s records from
passed_nothing s from records left w m c h e q =
    sym (passed_one s left w h ∙ by_nothing (record_at s w) (λ u. passed s (left - 1) u) (sym e ∙ q)) ∙ c.same

pub passed_all : (s : List ℕ) (from : Walk) (records left : ℕ) (w : Walk) → RecordsBehind s from records left w → left ≤ 0
    → Some w ≡ passed s records from
unfolding passed
passed_all s from records zero w c h = c.same
passed_all s from records (suc k) w c h = absurd (omega arith)

pub ruleset passes = (passed_none, passed_whole, passed_split, passed_nothing, passed_all, rules)

-- ---- what is found

pub found_there : (x : Step) (start n : ℕ) (v : Walk) → x ≡ Ok (InImage start n, v) → Ok (InImage start n) ≡ found_by x
unfolding found_by
found_there x start n v e = sym (ap found_by e)

pub found_here : (x : Step) (n : ℕ) (v : Walk) → x ≡ Ok (Joined n, v) → Ok (Joined n) ≡ found_by x
unfolding found_by
found_here x n v e = sym (ap found_by e)

pub found_no : (x : Step) (k : ℕ) (a : Verdict) → x ≡ Err k → a ≡ verdict k 0 0 → Err a ≡ found_by x
unfolding found_by
found_no x k a e h = ap Err h ∙ sym (ap found_by e)

pub in_nowhere : (s : List ℕ) (room : ℕ) (p : Option Walk) (a : Verdict) → p ≡ None → a ≡ verdict 13 0 0 → Err a ≡ found_in s room p
unfolding found_in
in_nowhere s room p a e h = ap Err h ∙ sym (ap (found_in s room) e)

pub in_at : (s : List ℕ) (room : ℕ) (p : Option Walk) (w : Walk) (x : Step) (f : Result Found Verdict) → p ≡ Some w → x ≡ step_at s room w
    → f ≡ found_by x → f ≡ found_in s room p
unfolding found_in
in_at s room p w x f e h k = k ∙ ap found_by h ∙ sym (ap (found_in s room) e)

pub left_nowhere : (s old : List ℕ) (p : Option Walk) → p ≡ None → old ≡ left_in s old p
unfolding left_in
left_nowhere s old p e = sym (ap (left_in s old) e)

pub left_at_lem : (s old new : List ℕ) (p : Option Walk) (w : Walk) → p ≡ Some w → new ≡ join_at s old w → new ≡ left_in s old p
unfolding left_in
left_at_lem s old new p w e h = h ∙ sym (ap (left_in s old) e)

pub from_no : (s : List ℕ) (r room : ℕ) (b : Result FileAt Verdict) (v : Verdict) → b ≡ Err v → Err v ≡ found_from s r room b
unfolding found_from
from_no s r room b v e = sym (ap (found_from s r room) e)

pub from_zero : (s : List ℕ) (r room : ℕ) (b : Result FileAt Verdict) (g : FileAt) (a : Verdict) → b ≡ Ok g → r ≡ 0 → a ≡ verdict 13 0 0
    → Err a ≡ found_from s r room b
unfolding found_from
from_zero s r room b g a e z h = ap Err h ∙ sym (ap (found_from s r room) e ∙ if_true _ _ _ (eq-eqb r 0 z))

pub from_at : (s : List ℕ) (r room : ℕ) (b : Result FileAt Verdict) (g : FileAt) (p : Option Walk) (f : Result Found Verdict) → b ≡ Ok g → (r ≡ 0 → ⊥)
    → p ≡ passed s (r - 1) g.walk → f ≡ found_in s room p
    → f ≡ found_from s r room b
unfolding found_from
from_at s r room b g p f e z h k = k ∙ ap (found_in s room) h ∙ sym (ap (found_from s r room) e ∙ if_false _ _ _ (ne_eqb r 0 z))

pub kept_no : (s old : List ℕ) (r : ℕ) (b : Result FileAt Verdict) (v : Verdict) → b ≡ Err v → old ≡ left_from s r old b
unfolding left_from
kept_no s old r b v e = sym (ap (left_from s r old) e)

pub kept_zero : (s old : List ℕ) (r : ℕ) (b : Result FileAt Verdict) (g : FileAt) → b ≡ Ok g → r ≡ 0 → old ≡ left_from s r old b
unfolding left_from
kept_zero s old r b g e z = sym (ap (left_from s r old) e ∙ if_true _ _ _ (eq-eqb r 0 z))

pub left_from_lem : (s old new : List ℕ) (r : ℕ) (b : Result FileAt Verdict) (g : FileAt) (p : Option Walk) → b ≡ Ok g → (r ≡ 0 → ⊥)
    → p ≡ passed s (r - 1) g.walk → new ≡ left_in s old p
    → new ≡ left_from s r old b
unfolding left_from
left_from_lem s old new r b g p e z h k = k ∙ ap (left_in s old) h ∙ sym (ap (left_from s r old) e ∙ if_false _ _ _ (ne_eqb r 0 z))

pub found_at_lem : (s : List ℕ) (n r room : ℕ) (b : Result FileAt Verdict) (f : Result Found Verdict) → b ≡ begun_at s n → f ≡ found_from s r room b
    → f ≡ found_at s n r room
unfolding found_at
found_at_lem s n r room b f e h = h ∙ ap (found_from s r room) e

pub left_by : (s old new : List ℕ) (n r : ℕ) (b : Result FileAt Verdict) → b ≡ begun_at s n → new ≡ left_from s r old b → new ≡ left_at s n r old
unfolding left_at
left_by s old new n r b e h = h ∙ ap (left_from s r old) e

pub ruleset founds =
    (found_there, found_here, found_no, in_nowhere, in_at, left_nowhere, left_at_lem, from_no, from_zero, from_at, kept_no, kept_zero, left_from_lem, found_at_lem, left_by, said, rules)

-- ---- the part itself

pub part_there : (s join : List ℕ) (f : Result Found Verdict) (start n : ℕ) (l : List ℕ) → f ≡ Ok (InImage start n) → l ≡ part start n s
    → l ≡ part_of s join f
unfolding part_of
part_there s join f start n l e h = h ∙ sym (ap (part_of s join) e)

pub part_here : (s join : List ℕ) (f : Result Found Verdict) (n : ℕ) (l : List ℕ) → f ≡ Ok (Joined n) → l ≡ part 0 n join → l ≡ part_of s join f
unfolding part_of
part_here s join f n l e h = h ∙ sym (ap (part_of s join) e)

pub part_no : (s join : List ℕ) (f : Result Found Verdict) (v : Verdict) (l : List ℕ) → f ≡ Err v → l ≡ part 0 0 s → l ≡ part_of s join f
unfolding part_of part
part_no s join f v l e h = h ∙ sym (ap (part_of s join) e)

pub ruleset parts = (part_there, part_here, part_no, rules)
