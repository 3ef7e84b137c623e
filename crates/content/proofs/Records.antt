-- Laws of the records from a walk on: the walk behind each, and the equations of `records_at`, `last_of` and `end_of`. Assumes
-- nothing.
use Rattle.std.specs.Prelude.{Option, Some, None}
use mathlib.Core.Path.{◌≡◌, refl, sym, ap, ◌∙◌, subst}
use mathlib.Core.Bool.{true}
use mathlib.Core.List.{List, [], ◌∷◌, ◌++◌}
use Prim.Native.Nat.{ℕ, zero, suc, ◌+◌, ◌-◌, ◌≤◌, ◌<◌}
use native.Mathlib.Omega.{arith}
use lib.Dec.{leb, eqb}
use lib.ListN.{length, length-append}
use Rattle.base.proofs.Ifs.{if_case}
use Rattle.base.specs.Part.{part}
use Rattle.base.proofs.Parts.{length_part}
use Rattle.content.specs.Walk.{is_inside, unit_next, unit_from, Rest, ends, fails, before, rest_by, rest_f, rest_at, Record, whole, nothing, split_by, begun_by, record_at}
use Rattle.content.specs.Code.Heads.{Inside}
use Rattle.content.specs.Walked.{handed, Walks, along_by, along_f, along, last_of, end_of}
use Rattle.content.specs.Records.{records_at}
use Rattle.content.specs.declared.Walk.{Walk}
use Rattle.content.specs.declared.unit.Taken.{Taken}
use Rattle.content.proofs.Units.{inside_true}
use Rattle.content.proofs.Searches.{Follows, Leads}
use Rattle.content.proofs.Rests.{UnitBehind, next_behind, from_behind}

-- ---- a record handed out is passed: the walk behind it is further on by at least its bytes, inside the image and over the same
-- file, and
-- from its block on the same file follows

pub record Passes (s : List ℕ) (w : Walk) (r : List ℕ) (v : Walk) : Type 0 where
  pub onward : w.at < v.at
  pub bytes : w.at + length r ≤ v.at
  pub inside : Inside s v
  pub format : v.format ≡ w.format
  pub record_length : v.record_length ≡ w.record_length
  pub offset : v.offset ≡ w.offset
  pub leads : Leads s (w.at + w.left) (v.at + v.left)

abbrev IfEnds : (List ℕ → Walk → Type 0) → Rest → Type 0
IfEnds P (ends r v) = P r v
IfEnds P fails = fails ≡ fails

-- one unit, and one before others
passes_unit : (s : List ℕ) (w : Walk) (start n : ℕ) (v : Walk) → UnitBehind s w start n v → Passes s w (part start n s) v
passes_unit s w start n v b =
    let long = length_part start n s b.within in
    record {
      onward = b.onward;
      bytes = omega (arith, b.bytes);
      inside = b.inside;
      format = b.format;
      record_length = b.record_length;
      offset = b.offset;
      leads = b.leads;
    }

passes_more : (s : List ℕ) (w : Walk) (start n : ℕ) (v : Walk) (r : List ℕ) (u : Walk) → UnitBehind s w start n v → Passes s v r u
    → Passes s w (part start n s ++ r) u
passes_more s w start n v r u b p =
    let long = length_part start n s b.within in
    record {
      onward = omega (arith, b.onward, p.onward);
      bytes = omega (arith, length-append (part start n s) r, b.bytes, p.bytes);
      inside = p.inside;
      format = p.format ∙ b.format;
      record_length = p.record_length ∙ b.record_length;
      offset = p.offset ∙ b.offset;
      leads = λ x f. p.leads x (b.leads x f);
    }

passes_before : (s : List ℕ) (w : Walk) (start n : ℕ) (v : Walk) (x : Rest) → UnitBehind s w start n v → IfEnds (Passes s v) x
    → IfEnds (Passes s w) (before (part start n s) x)
unfolding before
passes_before s w start n v (ends r u) b p = passes_more s w start n v r u b p
passes_before s w start n v fails b p = refl

rest_by_lem : (s : List ℕ) (room : ℕ) (w : Walk) (t : Option Taken) (g : ℕ → Walk → Rest) → unit_next s w ≡ t
    → ((r : ℕ) (v : Walk) → IfEnds (Passes s v) (g r v))
    → IfEnds (Passes s w) (rest_by s room t g)
unfolding rest_by
rest_by_lem s room w (Some u) g e h =
    let b = next_behind s w u.indicator u.start u.len u.behind e in
    if_case (IfEnds (Passes s w)) (leb u.len room) _ fails
    (λ _. if_case (IfEnds (Passes s w)) (eqb u.indicator 3) (ends (part u.start u.len s) u.behind) _ (λ _. passes_unit s w u.start u.len u.behind b)
    (λ _. if_case (IfEnds (Passes s w)) (eqb u.indicator 2) (before (part u.start u.len s) (g (room - u.len) u.behind)) fails
    (λ _. passes_before s w u.start u.len u.behind (g (room - u.len) u.behind) b (h (room - u.len) u.behind)) (λ _. refl)))
    (λ _. refl)
rest_by_lem s room w None g e h = refl

rest_fuel : (f : ℕ) (s : List ℕ) (room : ℕ) (w : Walk) → IfEnds (Passes s w) (rest_f f s room w)
unfolding rest_f
rest_fuel zero s room w = refl
rest_fuel (suc f) s room w = rest_by_lem s room w (unit_next s w) (λ r v. rest_f f s r v) refl (λ r v. rest_fuel f s r v)

split_passes : (s : List ℕ) (w : Walk) (start n : ℕ) (v : Walk) (x : Rest) → UnitBehind s w start n v → IfEnds (Passes s v) x
    → IfEnds (Passes s w) (handed s (split_by (part start n s) x))
unfolding handed split_by
split_passes s w start n v (ends r u) b p = passes_more s w start n v r u b p
split_passes s w start n v fails b p = refl

begun_passes : (s : List ℕ) (w : Walk) (t : Option Taken) → Inside s w → unit_from s w ≡ t
    → IfEnds (Passes s w) (handed s (begun_by s w.record_length t))
unfolding begun_by handed rest_at
begun_passes s w (Some u) h e =
    let b = from_behind s w u.indicator u.start u.len u.behind h e in
    if_case (λ (x : Record). IfEnds (Passes s w) (handed s x)) (leb u.len w.record_length) _ nothing
    (λ _. if_case (λ (x : Record). IfEnds (Passes s w) (handed s x)) (eqb u.indicator 0) (whole u.start u.len u.behind) _
    (λ _. passes_unit s w u.start u.len u.behind b)
    (λ _. if_case (λ (x : Record). IfEnds (Passes s w) (handed s x)) (eqb u.indicator 1)
    (split_by (part u.start u.len s) (rest_at s (w.record_length - u.len) u.behind)) nothing
    (λ _. split_passes s w u.start u.len u.behind (rest_at s (w.record_length - u.len) u.behind) b (rest_fuel (suc (length s)) s (w.record_length - u.len) u.behind)) (λ _. refl)))
    (λ _. refl)
begun_passes s w None h e = refl

handed_any : (s : List ℕ) (w : Walk) → IfEnds (Passes s w) (handed s (record_at s w))
unfolding record_at handed
handed_any s w =
    if_case (λ (x : Record). IfEnds (Passes s w) (handed s x)) (eqb w.record_length 0) nothing _ (λ _. refl)
    (λ _. if_case (λ (x : Record). IfEnds (Passes s w) (handed s x)) (is_inside s w) (begun_by s w.record_length (unit_from s w)) nothing
    (λ a. begun_passes s w (unit_from s w) (inside_true s w true (sym a) refl) refl) (λ _. refl))

-- a record that is handed out is passed, and its bytes are those of the record
pub handed_passes : (s : List ℕ) (w : Walk) (r : List ℕ) (v : Walk) → handed s (record_at s w) ≡ ends r v → Passes s w r v
handed_passes s w r v e = subst (IfEnds (Passes s w)) e (handed_any s w)

-- ---- the equations

same_by : {A : Type 0} (over : Walk → A) (more : List ℕ → A → A) (w : Walk) (x : Rest) (g h : Walk → A)
    → ((r : List ℕ) (v : Walk) → x ≡ ends r v → g v ≡ h v) → along_by over more w x g ≡ along_by over more w x h
unfolding along_by
same_by over more w (ends r v) g h e = ap (more r) (e r v refl)
same_by over more w fails g h e = refl

enough : {A : Type 0} (over : Walk → A) (more : List ℕ → A → A) (f g : ℕ) (s : List ℕ) (w : Walk) → length s - w.at < f
    → length s - w.at < g
    → along_f over more f s w ≡ along_f over more g s w
unfolding along_f
enough over more zero g s w h k = absurd (omega arith)
enough over more (suc f) zero s w h k = absurd (omega arith)
enough over more (suc f) (suc g) s w h k =
    same_by over more w (handed s (record_at s w)) (λ v. along_f over more f s v) (λ v. along_f over more g s v)
    (λ r v e.
    let p = handed_passes s w r v e in
    let on = p.onward in
    let in' = p.inside in
    enough over more f g s v (omega arith) (omega arith))

along_at : {A : Type 0} (over : Walk → A) (more : List ℕ → A → A) (s : List ℕ) (w : Walk)
    → along over more s w ≡ along_by over more w (handed s (record_at s w)) (λ v. along over more s v)
unfolding along along_f
along_at over more s w =
    same_by over more w (handed s (record_at s w)) (λ v. along_f over more (length s) s v)
    (λ v. along_f over more (suc (length s)) s v)
    (λ r v e.
    let p = handed_passes s w r v e in
    let on = p.onward in
    let in' = p.inside in
    enough over more (length s) (suc (length s)) s v (omega arith) (omega arith))

along_more : {A : Type 0} (over : Walk → A) (more : List ℕ → A → A) (s : List ℕ) (w : Walk) (r : List ℕ) (v : Walk)
    → handed s (record_at s w) ≡ ends r v
    → along over more s w ≡ more r (along over more s v)
unfolding along_by
along_more over more s w r v e = along_at over more s w ∙ ap (λ (x : Rest). along_by over more w x (λ u. along over more s u)) e

along_over : {A : Type 0} (over : Walk → A) (more : List ℕ → A → A) (s : List ℕ) (w : Walk) → handed s (record_at s w) ≡ fails
    → along over more s w ≡ over w
unfolding along_by
along_over over more s w e = along_at over more s w ∙ ap (λ (x : Rest). along_by over more w x (λ u. along over more s u)) e

-- a record, and those from the walk behind it on
pub records_more : (s : List ℕ) (w : Walk) (r : List ℕ) (v : Walk) → handed s (record_at s w) ≡ ends r v
    → records_at s w ≡ r ∷ records_at s v
unfolding records_at
records_more s w r v e = along_more (λ u. []) (λ t ts. t ∷ ts) s w r v e

-- no record, and so none at all
pub records_over : (s : List ℕ) (w : Walk) → handed s (record_at s w) ≡ fails → records_at s w ≡ []
unfolding records_at
records_over s w e = along_over (λ u. []) (λ t ts. t ∷ ts) s w e

-- a walk ends where the walk behind its next record does
last_more : (s : List ℕ) (w : Walk) (r : List ℕ) (v : Walk) → handed s (record_at s w) ≡ ends r v → last_of s w ≡ last_of s v
unfolding last_of
last_more s w r v e = along_more (λ u. u) (λ t u. u) s w r v e

pub end_more : (s : List ℕ) (w : Walk) (r : List ℕ) (v : Walk) → handed s (record_at s w) ≡ ends r v → end_of s w ≡ end_of s v
unfolding end_of
end_more s w r v e = ap (λ (u : Walk). u.at + u.left) (last_more s w r v e)

-- and without one where it stands
last_over : (s : List ℕ) (w : Walk) → handed s (record_at s w) ≡ fails → last_of s w ≡ w
unfolding last_of
last_over s w e = along_over (λ u. u) (λ t u. u) s w e

pub end_over : (s : List ℕ) (w : Walk) → handed s (record_at s w) ≡ fails → end_of s w ≡ w.at + w.left
unfolding end_of
end_over s w e = ap (λ (u : Walk). u.at + u.left) (last_over s w e)

-- a walk that hands out exactly these records
pub walks_records : (s : List ℕ) (w : Walk) (rs : List (List ℕ)) → Walks s w rs → records_at s w ≡ rs
walks_records s w [] h = records_over s w h
walks_records s w (r ∷ rs) (v, e, h) = records_more s w r v e ∙ ap (λ (ts : List (List ℕ)). r ∷ ts) (walks_records s v rs h)

-- it ends inside the image, and from there on the same file follows
pub walks_end : (s : List ℕ) (w : Walk) (rs : List (List ℕ)) → Walks s w rs → Inside s w
    → (end_of s w ≤ length s) × Leads s (w.at + w.left) (end_of s w)
walks_end s w [] h inside =
    let e = sym (end_over s w h) in
    (subst (λ (n : ℕ). n ≤ length s) e inside, λ x f. subst (Follows s x) e f)
walks_end s w (r ∷ rs) (v, e, h) inside =
    let p = handed_passes s w r v e in
    let (in', on) = walks_end s v rs h p.inside in
    let q = sym (end_more s w r v e) in
    (subst (λ (n : ℕ). n ≤ length s) q in', λ x f. subst (Follows s x) q (on x (p.leads x f)))
