-- Labels laid of fields, against their table: that they have no wrong field, and none that is unequal. A field set anew asks for
-- one fact on its row alone, which a table gives by computing. Assumes nothing.
use mathlib.Core.Path.{◌≡◌, refl, sym, ap, ap₂, ◌∙◌}
use mathlib.Core.Bool.{Bool, true, false, false≢true}
use mathlib.Core.List.{List, [], ◌∷◌}
use Prim.Native.Nat.{ℕ, zero, suc, ◌+◌, ◌≤◌}
use native.Mathlib.Omega.{arith}
use lib.Dec.{eqb, leb}
use lib.ListN.{length}
use borrow.Author.Tests.{eqb-true}
use Rattle.base.specs.If.{if_b}
use Rattle.base.proofs.Ifs.{if_true, if_false, if_case}
use Rattle.base.specs.Part.{part, same, all_are}
use Rattle.base.specs.Digits.{all_digits}
use Rattle.base.proofs.Bytes.{same_refl}
use Rattle.base.proofs.Parts.{length_part}
use Rattle.charset.specs.Class.{all_a}
use Rattle.charset.specs.Number.{number_in}
use Rattle.charset.specs.Date.{is_date}
use Rattle.label.specs.Table.{place_of, width_of, record_length}
use Rattle.label.specs.Field.{is_positive, is_format, has_record_length, good}
use Rattle.label.specs.Judged.{good_at, agree_at, wrong_in, unequal_in}
use Rattle.label.specs.Made.{fitted, laid}
use Rattle.label.proofs.Laid.{rest_of, field_at, fielded, widths, filled_back, fitted_all}
use Rattle.label.proofs.Every.{rule_of, scope_of, is_row, Hold, none_bad, all_hold_lem}

-- ---- one field

-- but for the record length, a rule sees the field alone
good_alike : (r : ℕ) (l m f : List ℕ) → eqb r record_length ≡ false → good r l f ≡ good r m f
unfolding good
good_alike r l m f h =
    ap (λ (t : Bool).
    if_b (eqb r 1) (all_a f)
    (if_b (eqb r 2) (all_are 32 f)
    (if_b (eqb r 3) (all_digits f)
    (if_b (eqb r 4) (all_are 48 f)
    (if_b (eqb r 5) (is_positive (number_in f))
    (if_b (eqb r 6) (is_date f)
    (if_b (eqb r 7) (same f (52 ∷ []))
    (if_b (eqb r 8) (is_format f) t))))))))
    (if_false (eqb r 9) (has_record_length l) true h ∙ sym (if_false (eqb r 9) (has_record_length m) true h))

-- so a field that suits its rule in one label suits it in another, if that one's record length is good where it is asked for
good_other : (r : ℕ) (l m f : List ℕ) → (eqb r record_length ≡ true → has_record_length m ≡ true) → good r l f ≡ true
    → good r m f ≡ true
unfolding good if_b
good_other r l m f h g = by (eqb r record_length) refl
  where
    by : (t : Bool) → eqb r record_length ≡ t → good r m f ≡ true
    by true e = ap (λ (x : ℕ). good x m f) (eqb-true r record_length e) ∙ h e
    by false e = good_alike r m l f e ∙ g

-- ---- the fields of a label

-- each field, cut or filled to its width, suits its rule in label l
abbrev pub Suit : List ℕ → List ℕ → List (List ℕ) → Type 0
Suit rows l fs = (k : ℕ) → is_row rows k ≡ true → good (rule_of rows k) l (fitted (width_of rows k) (field_at k fs)) ≡ true

-- fields that suit the table, laid end to end, have no wrong field
pub filled_fine : (rows : List ℕ) (fs : List (List ℕ)) → Suit rows (laid rows fs) fs → wrong_in (laid rows fs) rows ≡ 0
unfolding good_at
filled_fine rows fs s =
    none_bad (good_at (laid rows fs)) rows (λ k e. ap (good (rule_of rows k) (laid rows fs)) (filled_back rows fs k) ∙ s k e)

-- and the other way round
pub fine_filled : (rows : List ℕ) (fs : List (List ℕ)) → wrong_in (laid rows fs) rows ≡ 0 → Suit rows (laid rows fs) fs
unfolding good_at
fine_filled rows fs h k e =
    ap (good (rule_of rows k) (laid rows fs)) (sym (filled_back rows fs k)) ∙ all_hold_lem (good_at (laid rows fs)) rows h k e

-- the table with rule x in row j
abbrev pub ruled : ℕ → ℕ → List ℕ → List ℕ
ruled j x [] = []
ruled j x (w ∷ []) = w ∷ []
ruled j x (w ∷ r ∷ []) = w ∷ r ∷ []
ruled zero x (w ∷ r ∷ s ∷ rows) = w ∷ x ∷ s ∷ rows
ruled (suc j) x (w ∷ r ∷ s ∷ rows) = w ∷ r ∷ s ∷ ruled j x rows

-- a field set anew, with a rule that it suits
pub suit_with : (rows l : List ℕ) (fs : List (List ℕ)) (j x : ℕ) (f : List ℕ) → Suit rows l fs
    → good x l (fitted (width_of rows j) f) ≡ true
    → Suit (ruled j x rows) l (fielded j f fs)
suit_with [] l fs j x f h g k e = absurd (false≢true e)
suit_with (w ∷ []) l fs j x f h g k e = absurd (false≢true e)
suit_with (w ∷ r ∷ []) l fs j x f h g k e = absurd (false≢true e)
suit_with (w ∷ r ∷ s ∷ rows) l fs zero x f h g zero e = g
suit_with (w ∷ r ∷ s ∷ rows) l fs zero x f h g (suc k) e = h (suc k) e
suit_with (w ∷ r ∷ s ∷ rows) l fs (suc j) x f h g zero e = h zero e
suit_with (w ∷ r ∷ s ∷ rows) l fs (suc j) x f h g (suc k) e = suit_with rows l (rest_of fs) j x f (λ i. h (suc i)) g k e

-- whether no field of a table is a record length
abbrev pub is_plain : List ℕ → Bool
is_plain [] = true
is_plain (w ∷ []) = true
is_plain (w ∷ r ∷ []) = true
is_plain (w ∷ r ∷ s ∷ rows) = if_b (eqb r record_length) false (is_plain rows)

plain_row : (rows : List ℕ) (k : ℕ) → is_row rows k ≡ true → eqb (rule_of rows k) record_length ≡ true → is_plain rows ≡ false
plain_row [] k e h = absurd (false≢true e)
plain_row (w ∷ []) k e h = absurd (false≢true e)
plain_row (w ∷ r ∷ []) k e h = absurd (false≢true e)
plain_row (w ∷ r ∷ s ∷ rows) zero e h = if_true _ _ _ h
plain_row (w ∷ r ∷ s ∷ rows) (suc k) e h =
    if_case (λ (t : Bool). t ≡ false) (eqb r record_length) false (is_plain rows) (λ _. refl) (λ _. plain_row rows k e h)

-- fields that suit the table in one label suit it in another
pub suit_other : (rows l m : List ℕ) (fs : List (List ℕ)) → (is_plain rows ≡ false → has_record_length m ≡ true) → Suit rows l fs
    → Suit rows m fs
suit_other rows l m fs h s k e = good_other (rule_of rows k) l m _ (λ r. h (plain_row rows k e r)) (s k e)

-- ---- the fields of a label that was read

-- they, from place `at` on
abbrev pub fields_in : List ℕ → ℕ → List ℕ → List (List ℕ)
fields_in [] at l = []
fields_in (w ∷ []) at l = []
fields_in (w ∷ r ∷ []) at l = []
fields_in (w ∷ r ∷ s ∷ rows) at l = part at w l ∷ fields_in rows (at + w) l

read_from : (rows l : List ℕ) (at : ℕ) → at + widths rows ≤ length l → (k : ℕ) → is_row rows k ≡ true
    → fitted (width_of rows k) (field_at k (fields_in rows at l)) ≡ part (at + place_of rows k) (width_of rows k) l
unfolding widths
read_from [] l at h k e = absurd (false≢true e)
read_from (w ∷ []) l at h k e = absurd (false≢true e)
read_from (w ∷ r ∷ []) l at h k e = absurd (false≢true e)
read_from (w ∷ r ∷ s ∷ rows) l at h zero e =
    let none : at ≡ at + 0 = omega arith in
    fitted_all w (part at w l) (length_part at w l (omega arith)) ∙ ap (λ (n : ℕ). part n w l) none
read_from (w ∷ r ∷ s ∷ rows) l at h (suc k) e =
    let place : at + w + place_of rows k ≡ at + (w + place_of rows k) = omega arith in
    read_from rows l (at + w) (omega arith) k e ∙ ap (λ (n : ℕ). part n (width_of rows k) l) place

-- a label without a wrong field: its fields suit the table
pub read_suit : (rows l : List ℕ) → widths rows ≤ length l → wrong_in l rows ≡ 0 → Suit rows l (fields_in rows 0 l)
unfolding good_at
read_suit rows l long h k e =
    let place : 0 + place_of rows k ≡ place_of rows k = omega arith in
    ap (good (rule_of rows k) l) (read_from rows l 0 (omega arith) k e ∙ ap (λ (n : ℕ). part n (width_of rows k) l) place)
    ∙ all_hold_lem (good_at l) rows h k e

-- ---- two labels

-- the fields of scope n are the same
abbrev pub Alike : ℕ → List ℕ → List (List ℕ) → List (List ℕ) → Type 0
Alike n rows fs gs = (k : ℕ) → is_row rows k ≡ true → leb n (scope_of rows k) ≡ true → field_at k fs ≡ field_at k gs

-- a field of a smaller scope set anew
pub alike_with : (n : ℕ) (rows : List ℕ) (fs gs : List (List ℕ)) (j : ℕ) (f : List ℕ) → leb n (scope_of rows j) ≡ false
    → Alike n rows fs gs
    → Alike n rows fs (fielded j f gs)
alike_with n [] fs gs j f d h k e t = absurd (false≢true e)
alike_with n (w ∷ []) fs gs j f d h k e t = absurd (false≢true e)
alike_with n (w ∷ r ∷ []) fs gs j f d h k e t = absurd (false≢true e)
alike_with n (w ∷ r ∷ s ∷ rows) fs gs zero f d h zero e t = absurd (false≢true (sym d ∙ t))
alike_with n (w ∷ r ∷ s ∷ rows) fs gs zero f d h (suc k) e t = h (suc k) e t
alike_with n (w ∷ r ∷ s ∷ rows) fs gs (suc j) f d h zero e t = h zero e t
alike_with n (w ∷ r ∷ s ∷ rows) fs gs (suc j) f d h (suc k) e t =
    alike_with n rows (rest_of fs) (rest_of gs) j f d (λ i. h (suc i)) k e t

-- labels whose fields are the same where they are compared have no unequal field
pub filled_alike : (n : ℕ) (rows : List ℕ) (fs gs : List (List ℕ)) → Alike n rows fs gs
    → unequal_in n (laid rows fs) (laid rows gs) rows ≡ 0
unfolding agree_at
filled_alike n rows fs gs h = none_bad (agree_at n (laid rows fs) (laid rows gs)) rows row
  where
    row : Hold (agree_at n (laid rows fs) (laid rows gs)) rows
    row k e =
        if_case (λ (t : Bool). t ≡ true) (leb n (scope_of rows k)) _ true
        (λ t. ap₂ same (filled_back rows fs k) (filled_back rows gs k)
        ∙ ap (λ (f : List ℕ). same (fitted (width_of rows k) f) (fitted (width_of rows k) (field_at k gs))) (h k e t) ∙ same_refl _)
        (λ _. refl)
