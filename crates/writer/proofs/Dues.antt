-- What is due of a file, and how a unit changes it. Assumes nothing.
use mathlib.Core.Path.{◌≡◌, sym, ap, ◌∙◌}
use mathlib.Core.Bool.{Bool, true, false}
use mathlib.Core.List.{List, [], ◌∷◌, ◌++◌, append_assoc, append-nil}
use Prim.Native.Nat.{ℕ, ◌+◌, ◌-◌, ◌≤◌}
use native.Mathlib.Omega.{arith}
use borrow.Author.Tests.{eq-eqb, ne_eqb, eqb-true, eqb-false}
use lib.Dec.{eqb}
use lib.ListN.{length, take, drop, length-drop}
use lib.Seq.{take-add, drop-drop}
use Rattle.base.specs.If.{if_b}
use Rattle.base.proofs.Ifs.{if_true, if_false, if_same}
use Rattle.block.specs.Unit.{word_of}
use Rattle.writing.specs.Pack.{going, start_of, control_word, unit_in, fill, after}
use Rattle.block.specs.Room.{enters, taken, indicator_of}
use Rattle.writing.proofs.Packing.{by_test}
use Rattle.writing.proofs.Units.{length_unit}
use Rattle.writer.specs.Code.Pass.{fill_of, after_of, between, within, fill_due, left_due}

-- ---- a record that does not enter

pub fill_full : (f b u t : ℕ) (x : List ℕ) (xs : List (List ℕ)) → enters f b u (length x) ≡ false → fill f b u t x xs ≡ []
unfolding fill
fill_full f b u t x [] e = if_false _ _ _ e
fill_full f b u t x (y ∷ ys) e = if_false _ _ _ e

pub after_full : (f b u t : ℕ) (x : List ℕ) (xs : List (List ℕ)) → enters f b u (length x) ≡ false
    → after f b u t x xs ≡ going t x xs
unfolding after
after_full f b u t x [] e = if_false _ _ _ e
after_full f b u t x (y ∷ ys) e = if_false _ _ _ e

-- ---- a unit is begun

module _ (f b u t : ℕ) (x : List ℕ) (e : enters f b u (length x) ≡ true) where
  abbrev k : ℕ
  k = taken f b u (length x)

  behind_unit : u + length (unit_in f b u t x) ≡ u + word_of f + k
  behind_unit = omega (arith, length_unit f b u t x e)

  pub enter_fill : (xs : List (List ℕ))
      → fill_due f b true u (between (going t x xs)) ≡ control_word f (indicator_of t k (length x)) k ++
      fill_due f b true (u + word_of f) (within k x xs)
  unfolding fill_due fill_of fill start_of unit_in if_b
  enter_fill [] =
      if_true _ _ _ e
      ∙ sym (append-nil (control_word f (indicator_of t k (length x)) k ++ take k x))
      ∙ ap (λ (l : List ℕ). control_word f (indicator_of t k (length x)) k ++ take k x ++ l) (sym (if_same (eqb k (length x)) []))
      ∙ append_assoc (control_word f (indicator_of t k (length x)) k) (take k x) _
  enter_fill (y ∷ ys) =
      if_true _ _ _ e
      ∙ by_test (eqb k (length x))
      (λ h.
      if_true _ _ _ h
      ∙ ap (λ (n : ℕ). control_word f (indicator_of t k (length x)) k ++ take k x ++ fill f b n 0 y ys) behind_unit
      ∙ append_assoc (control_word f (indicator_of t k (length x)) k) (take k x) _
      ∙ ap (λ (l : List ℕ). control_word f (indicator_of t k (length x)) k ++ (take k x ++ l)) (sym (if_true _ _ _ h)))
      (λ h.
      if_false _ _ _ h
      ∙ sym (append-nil (control_word f (indicator_of t k (length x)) k ++ take k x))
      ∙ append_assoc (control_word f (indicator_of t k (length x)) k) (take k x) []
      ∙ ap (λ (l : List ℕ). control_word f (indicator_of t k (length x)) k ++ (take k x ++ l)) (sym (if_false _ _ _ h)))

  pub enter_left : (xs : List (List ℕ))
      → left_due f b true u (between (going t x xs)) ≡ left_due f b true (u + word_of f) (within k x xs)
  unfolding left_due after_of after start_of if_b
  enter_left [] = if_true _ _ _ e
  enter_left (y ∷ ys) =
      if_true _ _ _ e
      ∙ ap (λ (n : ℕ). if_b (eqb k (length x)) (after f b n 0 y ys) (going 1 (drop k x) (y ∷ ys))) behind_unit

-- ---- m bytes of the open unit

module _ (f b : ℕ) (is_on : Bool) (u k m : ℕ) (x : List ℕ) (xs : List (List ℕ)) (h : m ≤ k) (l : k ≤ length x) where
  rest_length : length (drop m x) ≡ length x - m
  rest_length = length-drop m x

  same_end : eqb k (length x) ≡ eqb (k - m) (length (drop m x))
  same_end =
      by_test (eqb k (length x))
      (λ e. let q : k ≡ length x = eqb-true _ _ e in e ∙ sym (eq-eqb (k - m) (length (drop m x)) (omega (arith, rest_length))))
      (λ e.
      let d : k ≡ length x → ⊥ = eqb-false _ _ e in
      let n : k - m ≡ length (drop m x) → ⊥ = λ q. d (omega (arith, rest_length)) in
      e ∙ sym (ne_eqb (k - m) (length (drop m x)) n))

  pub some_fill : fill_due f b is_on u (within k x xs) ≡ take m x ++ fill_due f b is_on (u + m) (within (k - m) (drop m x) xs)
  unfolding fill_due
  some_fill =
      let sum : k ≡ m + (k - m) = omega arith in
      let place : u + k ≡ u + m + (k - m) = omega arith in
      ap (λ (l : List ℕ). l ++ if_b (eqb k (length x)) (fill_of f b (u + k) (start_of xs)) [])
      (ap (λ (n : ℕ). take n x) sum ∙ take-add m (k - m) x)
      ∙ ap (λ (t : Bool). take m x ++ take (k - m) (drop m x) ++ if_b t (fill_of f b (u + k) (start_of xs)) []) same_end
      ∙ ap (λ (n : ℕ). take m x ++ take (k - m) (drop m x) ++
      if_b (eqb (k - m) (length (drop m x))) (fill_of f b n (start_of xs)) []) place
      ∙ append_assoc (take m x) (take (k - m) (drop m x)) _

  pub some_left : left_due f b is_on u (within k x xs) ≡ left_due f b is_on (u + m) (within (k - m) (drop m x) xs)
  unfolding left_due
  some_left =
      let sum : k ≡ m + (k - m) = omega arith in
      let place : u + k ≡ u + m + (k - m) = omega arith in
      ap (λ (t : Bool). if_b t (after_of f b (u + k) (start_of xs)) (going 1 (drop k x) xs)) same_end
      ∙ ap (λ (n : ℕ). if_b (eqb (k - m) (length (drop m x))) (after_of f b n (start_of xs)) (going 1 (drop k x) xs)) place
      ∙ ap (λ (l : List ℕ). if_b (eqb (k - m) (length (drop m x))) (after_of f b (u + m + (k - m)) (start_of xs)) (going 1 l xs))
      (ap (λ (n : ℕ). drop n x) sum ∙ sym (drop-drop (k - m) m x))

-- ---- the end of a unit

-- a record that goes on closes its block
pub broken_fill : (f b : ℕ) (is_on : Bool) (u : ℕ) (x : List ℕ) (xs : List (List ℕ)) → (length x ≡ 0 → ⊥)
    → fill_due f b is_on u (within 0 x xs) ≡ []
unfolding fill_due
broken_fill f b is_on u x xs d = if_false _ _ _ (ne_eqb 0 (length x) (λ e. d (sym e)))

pub broken_left : (f b : ℕ) (is_on : Bool) (u : ℕ) (x : List ℕ) (xs : List (List ℕ)) → (length x ≡ 0 → ⊥)
    → left_due f b is_on u (within 0 x xs) ≡ going 1 x xs
unfolding left_due
broken_left f b is_on u x xs d = if_false _ _ _ (ne_eqb 0 (length x) (λ e. d (sym e)))

-- a record that is over
pub over_fill : (f b u : ℕ) (xs : List (List ℕ)) → fill_due f b true u (within 0 [] xs) ≡ fill_due f b true u (between (start_of xs))
unfolding fill_due if_b
over_fill f b u xs = let e : u + 0 ≡ u = omega arith in ap (λ (n : ℕ). fill_of f b n (start_of xs)) e

pub over_left : (f b u : ℕ) (xs : List (List ℕ)) → left_due f b true u (within 0 [] xs) ≡ left_due f b true u (between (start_of xs))
unfolding left_due if_b
over_left f b u xs = let e : u + 0 ≡ u = omega arith in ap (λ (n : ℕ). after_of f b n (start_of xs)) e
