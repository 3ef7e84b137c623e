-- What a block can be to the order of a reel, where a label is due: a label, or a block of no kind. Assumes nothing.
use mathlib.Core.Path.{◌≡◌, refl}
use mathlib.Core.Bool.{true, false}
use mathlib.Core.List.{List}
use Prim.Native.Nat.{ℕ, ◌-◌, ◌<◌}
use native.Mathlib.Omega.{arith}
use borrow.Author.Tests.{leb-true, ne_eqb}
use lib.Dec.{leb, eqb}
use lib.ListN.{length, get_or}
use Rattle.base.proofs.Ifs.{if_case, and_left}
use Rattle.base.specs.Part.{part, same}
use Rattle.order.specs.Kind.{kind, is_kind}
use Rattle.order.specs.declared.Kind.{Kind}
use Rattle.label.specs.Name.{required, family, numbered, optional, or_else, named, kind_of}

-- the families of labels are 1 to 7, and 0 is no kind
abbrev Label : Kind → Type 0
Label k = leb k.family 7 ≡ true

required_label : (n : List ℕ) → Label (required n)
unfolding required
required_label n =
    if_case Label (same n _) _ _ (λ _. refl)
    (λ _. if_case Label (same n _) _ _ (λ _. refl)
    (λ _. if_case Label (same n _) _ _ (λ _. refl)
    (λ _. if_case Label (same n _) _ _ (λ _. refl)
    (λ _. if_case Label (same n _) _ _ (λ _. refl)
    (λ _. if_case Label (same n _) _ _ (λ _. refl)
    (λ _. if_case Label (same n _) _ _ (λ _. refl) (λ _. refl)))))))

family_label : (i : List ℕ) (n : ℕ) → Label (family i n)
unfolding family
family_label i n =
    if_case Label (same i _) _ _ (λ _. refl)
    (λ _. if_case Label (same i _) _ _ (λ _. refl)
    (λ _. if_case Label (same i _) _ _ (λ _. refl)
    (λ _. if_case Label (same i _) _ _ (λ _. refl)
    (λ _. if_case Label (same i _) _ _ (λ _. refl) (λ _. refl)))))

optional_label : (i : List ℕ) (d : ℕ) → Label (optional i d)
unfolding optional numbered
optional_label i d =
    if_case Label (same i _) _ _ (λ _. refl)
    (λ _. if_case Label (same i _) _ _ (λ _. refl)
    (λ _. if_case Label (leb 49 d) _ _ (λ _. if_case Label (leb d 57) _ _ (λ _. family_label i (d - 48)) (λ _. refl))
    (λ _. refl)))

kind_label : (l : List ℕ) → Label (kind_of l)
unfolding kind_of named or_else
kind_label l =
    if_case Label (eqb (length l) 80) _ _
    (λ _. if_case Label _ (optional (part 0 3 l) (get_or l 3 0)) (required (part 0 4 l))
    (λ _. optional_label (part 0 3 l) (get_or l 3 0)) (λ _. required_label (part 0 4 l)))
    (λ _. refl)

-- a block is of no kind that labels do not have
pub kind_other : (l : List ℕ) (f n : ℕ) → 7 < f → is_kind (kind_of l) (kind f n) ≡ false
unfolding is_kind
kind_other l f n h = and_left _ _ (ne_eqb (kind_of l).family f (λ e. omega (arith, leb-true (kind_of l).family 7 (kind_label l))))
