-- The most bytes of a unit: what a block can hold, or what four digits can say with the control word. Assumes nothing.
use mathlib.Core.Path.{◌≡◌, refl, sym, ◌∙◌, subst}
use mathlib.Core.Bool.{false}
use Prim.Native.Nat.{ℕ, ◌+◌, ◌≤◌}
use native.Mathlib.Omega.{arith}
use borrow.Author.Tests.{eq-eqb, ne_eqb, eqb-true, eqb-false}
use lib.Dec.{eqb}
use Rattle.base.proofs.Ifs.{if_true, if_false}
use Rattle.block.specs.Unit.{word_of}
use Rattle.block.proofs.Wholes.{word_variable}
use Rattle.writing.proofs.Packing.{by_test}
use Rattle.writer.specs.Code.Pens.{most_of}

pub broken_word : (f : ℕ) → (f ≡ 70 → ⊥) → (f ≡ 68 → ⊥) → word_of f ≡ 5
unfolding word_of
broken_word f d e = if_false _ _ _ (ne_eqb f 70 d) ∙ if_false _ _ _ (ne_eqb f 68 e)

pub block_full : (f m : ℕ) → m ≡ most_of f → f ≡ 70 → m ≡ 99999
unfolding most_of
block_full f m is e = is ∙ if_true _ _ _ (eq-eqb f 70 e)

pub four_digits : (f w m : ℕ) → w ≡ word_of f → m ≡ most_of f → (f ≡ 70 → ⊥) → m + w ≡ 9999
unfolding most_of
four_digits f w m word is e =
    let no : eqb f 70 ≡ false = ne_eqb f 70 e in
    by_test (eqb f 68)
    (λ d.
    let u : m ≡ 9995 = is ∙ if_false _ _ _ no ∙ if_true _ _ _ d in
    let v : w ≡ 4 = word ∙ word_variable f (eqb-true f 68 d) in
    omega arith)
    (λ d.
    let u : m ≡ 9994 = is ∙ if_false _ _ _ no ∙ if_false _ _ _ d in
    let v : w ≡ 5 = word ∙ broken_word f e (eqb-false f 68 d) in
    omega arith)

-- a form's number is that
pub most_is : (f w m : ℕ) → w ≡ word_of f → (f ≡ 70 → m ≡ 99999) → ((f ≡ 70 → ⊥) → m + w ≡ 9999) → m ≡ most_of f
most_is f w m word full said =
    by_test (eqb f 70)
    (λ e. let d = eqb-true f 70 e in full d ∙ sym (block_full f _ refl d))
    (λ e.
    let d = eqb-false f 70 e in
    let a = said d in
    let b = four_digits f w _ word refl d in
    omega arith)

-- what is no longer than a form's number is no longer than the most bytes of a unit
pub few : (f w m n : ℕ) → w ≡ word_of f → (f ≡ 70 → m ≡ 99999) → ((f ≡ 70 → ⊥) → m + w ≡ 9999) → n ≤ m → n ≤ most_of f
few f w m n word full said h = subst (λ (k : ℕ). n ≤ k) (most_is f w m word full said) h

pub ruleset forms = (block_full, four_digits)
