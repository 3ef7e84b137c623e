-- Every row of a table holds: said by the row's number, and the same as that the walk finds no bad field. Assumes nothing.
use mathlib.Core.Path.{◌≡◌, refl, ◌∙◌, subst}
use mathlib.Core.Bool.{Bool, true, false, false≢true}
use mathlib.Core.List.{List, [], ◌∷◌}
use Prim.Native.Nat.{ℕ, zero, suc, ◌+◌}
use native.Mathlib.Omega.{arith}
use lib.Dec.{eqb}
use borrow.Author.Tests.{eq-eqb, eqb-true, eqb-false}
use Rattle.base.proofs.Ifs.{if_true, if_case}
use Rattle.base.specs.Answer.{fault}
use Rattle.base.specs.declared.Fault.{Fault}
use Rattle.order.specs.declared.Kind.{Kind}
use Rattle.label.specs.Table.{place_of, width_of, fields_of}
use Rattle.label.specs.Judged.{first_bad, wrong_in, access_of, access_at, field_fault, label_fault}

-- the rule of row k
abbrev pub rule_of : List ℕ → ℕ → ℕ
rule_of [] k = 0
rule_of (w ∷ []) k = 0
rule_of (w ∷ r ∷ []) k = 0
rule_of (w ∷ r ∷ s ∷ rows) zero = r
rule_of (w ∷ r ∷ s ∷ rows) (suc k) = rule_of rows k

-- its scope
abbrev pub scope_of : List ℕ → ℕ → ℕ
scope_of [] k = 0
scope_of (w ∷ []) k = 0
scope_of (w ∷ r ∷ []) k = 0
scope_of (w ∷ r ∷ s ∷ rows) zero = s
scope_of (w ∷ r ∷ s ∷ rows) (suc k) = scope_of rows k

-- whether there is a row k
abbrev pub is_row : List ℕ → ℕ → Bool
is_row [] k = false
is_row (w ∷ []) k = false
is_row (w ∷ r ∷ []) k = false
is_row (w ∷ r ∷ s ∷ rows) zero = true
is_row (w ∷ r ∷ s ∷ rows) (suc k) = is_row rows k

-- every row is as asked, of fields from place `at` on
abbrev HoldFrom : (ℕ → ℕ → ℕ → ℕ → Bool) → ℕ → List ℕ → Type 0
HoldFrom ok at rows =
    (k : ℕ) → is_row rows k ≡ true → ok (rule_of rows k) (scope_of rows k) (at + place_of rows k) (width_of rows k) ≡ true

-- every row is as asked
abbrev pub Hold : (ℕ → ℕ → ℕ → ℕ → Bool) → List ℕ → Type 0
Hold ok rows = (k : ℕ) → is_row rows k ≡ true → ok (rule_of rows k) (scope_of rows k) (place_of rows k) (width_of rows k) ≡ true

none_from : (ok : ℕ → ℕ → ℕ → ℕ → Bool) (at : ℕ) (rows : List ℕ) → HoldFrom ok at rows → first_bad ok at rows ≡ 0
unfolding first_bad
none_from ok at [] h = refl
none_from ok at (w ∷ []) h = refl
none_from ok at (w ∷ r ∷ []) h = refl
none_from ok at (w ∷ r ∷ s ∷ rows) h =
    let none : at + 0 ≡ at = omega arith in
    if_true _ _ _ (subst (λ (n : ℕ). ok r s n w ≡ true) none (h zero refl))
    ∙ none_from ok (at + w) rows
    (λ k e. let place : at + (w + place_of rows k) ≡ at + w + place_of rows k = omega arith in
    subst (λ (n : ℕ). ok (rule_of rows k) (scope_of rows k) n (width_of rows k) ≡ true) place (h (suc k) e))

all_from : (ok : ℕ → ℕ → ℕ → ℕ → Bool) (at : ℕ) (rows : List ℕ) → first_bad ok at rows ≡ 0 → HoldFrom ok at rows
unfolding first_bad
all_from ok at [] h k e = absurd (false≢true e)
all_from ok at (w ∷ []) h k e = absurd (false≢true e)
all_from ok at (w ∷ r ∷ []) h k e = absurd (false≢true e)
all_from ok at (w ∷ r ∷ s ∷ rows) h zero e =
    let none : at ≡ at + 0 = omega arith in
    if_case (λ (n : ℕ). n ≡ 0 → ok r s (at + 0) w ≡ true) (ok r s at w) (first_bad ok (at + w) rows) (at + 1)
    (λ t _. subst (λ (n : ℕ). ok r s n w ≡ true) none t) (λ _ q. absurd (omega arith)) h
all_from ok at (w ∷ r ∷ s ∷ rows) h (suc k) e =
    let place : at + w + place_of rows k ≡ at + (w + place_of rows k) = omega arith in
    let rest : first_bad ok (at + w) rows ≡ 0
    = if_case (λ (n : ℕ). n ≡ 0 → first_bad ok (at + w) rows ≡ 0) (ok r s at w) (first_bad ok (at + w) rows) (at + 1) (λ _ q. q) (λ _ q. absurd (omega arith)) h in
    subst (λ (n : ℕ). ok (rule_of rows k) (scope_of rows k) n (width_of rows k) ≡ true) place (all_from ok (at + w) rows rest k e)

-- where every row holds, the walk finds no bad field
pub none_bad : (ok : ℕ → ℕ → ℕ → ℕ → Bool) (rows : List ℕ) → Hold ok rows → first_bad ok 0 rows ≡ 0
none_bad ok rows h =
    none_from ok 0 rows
    (λ k e. let place : place_of rows k ≡ 0 + place_of rows k = omega arith in
    subst (λ (n : ℕ). ok (rule_of rows k) (scope_of rows k) n (width_of rows k) ≡ true) place (h k e))

-- and the other way round
pub all_hold_lem : (ok : ℕ → ℕ → ℕ → ℕ → Bool) (rows : List ℕ) → first_bad ok 0 rows ≡ 0 → Hold ok rows
all_hold_lem ok rows h k e =
    let place : 0 + place_of rows k ≡ place_of rows k = omega arith in
    subst (λ (n : ℕ). ok (rule_of rows k) (scope_of rows k) n (width_of rows k) ≡ true) place (all_from ok 0 rows h k e)

-- ---- a label without fault

field_none : (w : ℕ) (f : Fault) → (field_fault w f).number ≡ 0 → w ≡ 0
unfolding field_fault fault
field_none w f =
    if_case (λ (g : Fault). g.number ≡ 0 → w ≡ 0) (eqb w 0) f (fault 4 w) (λ e _. eqb-true w 0 e)
    (λ _ q. absurd (eqb-false 4 0 refl q))

-- a label without fault has no wrong field
pub sound_fields : (k : Kind) (l : List ℕ) → (label_fault k l).number ≡ 0 → wrong_in l (fields_of k) ≡ 0
unfolding label_fault
sound_fields k l h = field_none (wrong_in l (fields_of k)) (access_at (access_of k) l) h

-- one without a wrong field and with free access has no fault
pub sound : (k : Kind) (l : List ℕ) → wrong_in l (fields_of k) ≡ 0 → access_at (access_of k) l ≡ fault 0 0
    → label_fault k l ≡ fault 0 0
unfolding label_fault field_fault
sound k l h a = if_true _ _ _ (eq-eqb (wrong_in l (fields_of k)) 0 h) ∙ a
