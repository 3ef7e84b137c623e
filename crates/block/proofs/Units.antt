-- Laws of the unit at the head of some bytes: what holds of every unit, in `unit_stands`. Assumes nothing.
use Rattle.std.specs.Prelude.{Option, Some, None}
use mathlib.Core.Path.{◌≡◌, refl, subst}
use mathlib.Core.List.{List}
use Prim.Native.Nat.{ℕ, ◌+◌, ◌-◌, ◌≤◌, ◌<◌}
use native.Mathlib.Omega.{arith}
use borrow.Author.Tests.{leb-true, eqb-true, eqb-false}
use lib.Dec.{leb, eqb}
use lib.ListN.{length, take, get_or}
use Rattle.base.proofs.Ifs.{if_case}
use Rattle.base.specs.Part.{part, all_are}
use Rattle.charset.specs.Number.{number_in}
use Rattle.block.specs.Unit.{fixed, measured, variable, segment, unit_of, one_unit}
use Rattle.block.specs.declared.Unit.{Unit}

-- a unit of indicator i, with w bytes of control word and n of record or segment, in l bytes; in a format other than S it is a
-- whole record of at most r bytes
pub record Stands (f r l i w n : ℕ) : Type 0 where
  pub some : 1 ≤ w + n
  pub within : w + n ≤ l
  pub indicator : i ≤ 3
  pub whole : (f ≡ 83 → ⊥) → i ≡ 0
  pub short : (f ≡ 83 → ⊥) → n ≤ r

-- what is said of a unit is said of what stands there, if anything does
abbrev pub IfAny : (ℕ → ℕ → ℕ → Type 0) → Option Unit → Type 0
IfAny P (Some u) = P u.indicator u.word u.len
IfAny P None = ◌≡◌ {A = Option Unit} None None

pub measured_any : (P : ℕ → ℕ → ℕ → Type 0) (i w m l : ℕ) (x : Option ℕ)
    → ((k : ℕ) → w ≤ k → k ≤ m → k ≤ l → P i w (k - w)) → IfAny P (measured i w m l x)
unfolding measured
measured_any P i w m l None g = refl
measured_any P i w m l (Some k) g =
    if_case (IfAny P) (leb w k) _ None
    (λ a. if_case (IfAny P) (leb k m) _ None
    (λ b. if_case (IfAny P) (leb k l) _ None (λ c. g k (leb-true w k a) (leb-true k m b) (leb-true k l c)) (λ c. refl))
    (λ b. refl))
    (λ a. refl)

pub fixed_any : (f r : ℕ) (s : List ℕ) → IfAny (Stands f r (length s)) (fixed r s)
unfolding fixed
fixed_any f r s =
    if_case (IfAny (Stands f r (length s))) (eqb r 0) None _ (λ a. refl)
    (λ a. if_case (IfAny (Stands f r (length s))) (leb r (length s)) _ None
    (λ b. if_case (IfAny (Stands f r (length s))) (all_are 94 (take r s)) None (one_unit 0 0 r) (λ c. refl)
    (λ c. let some : r ≡ 0 → ⊥ = eqb-false r 0 a in
    let within : r ≤ length s = leb-true r (length s) b in
    record { some = omega arith; within = omega arith; indicator = omega arith; whole = λ _. refl; short = λ _. omega arith }))
    (λ b. refl))

pub variable_any : (f r : ℕ) (s : List ℕ) → IfAny (Stands f r (length s)) (variable r s)
unfolding variable
variable_any f r s =
    measured_any (Stands f r (length s)) 0 4 r (length s) (number_in (part 0 4 s))
    (λ k a b c. record { some = omega arith; within = omega arith; indicator = omega arith; whole = λ _. refl; short = λ _. omega arith })

pub segment_any : (f r : ℕ) (s : List ℕ) → f ≡ 83 → IfAny (Stands f r (length s)) (segment s)
unfolding segment
segment_any f r s e =
    if_case (IfAny (Stands f r (length s))) (leb 48 (get_or s 0 0)) _ None
    (λ a. if_case (IfAny (Stands f r (length s))) (leb (get_or s 0 0) 51) _ None
    (λ b. measured_any (Stands f r (length s)) (get_or s 0 0 - 48) 5 9999 (length s) (number_in (part 1 4 s))
    (λ k p q t. let most : get_or s 0 0 ≤ 51 = leb-true (get_or s 0 0) 51 b in
    record {
      some = omega arith;
      within = omega arith;
      indicator = omega arith;
      whole = λ h. absurd (h e);
      short = λ h. absurd
          (h e);
    }))
    (λ b. refl))
    (λ a. refl)

unit_any : (f r : ℕ) (s : List ℕ) → IfAny (Stands f r (length s)) (unit_of f r s)
unfolding unit_of
unit_any f r s =
    if_case (IfAny (Stands f r (length s))) (eqb f 70) _ _ (λ a. fixed_any f r s)
    (λ a. if_case (IfAny (Stands f r (length s))) (eqb f 68) _ _ (λ b. variable_any f r s)
    (λ b. if_case (IfAny (Stands f r (length s))) (eqb f 83) _ None (λ c. segment_any f r s (eqb-true f 83 c)) (λ c. refl)))

-- a unit that is found at the head of some bytes lies within them
pub unit_stands : (f r : ℕ) (s : List ℕ) (i w n : ℕ) → unit_of f r s ≡ one_unit i w n → Stands f r (length s) i w n
unit_stands f r s i w n e = subst (IfAny (Stands f r (length s))) e (unit_any f r s)

-- ---- too few bytes for a control word

nothing : (u : Option Unit) → IfAny (λ i w n. ⊥) u → u ≡ None
nothing (Some u) h = absurd h
nothing None h = refl

pub measured_short : (i w m l : ℕ) (x : Option ℕ) → l < w → measured i w m l x ≡ None
measured_short i w m l x h = nothing (measured i w m l x) (measured_any (λ i w n. ⊥) i w m l x (λ k a b c. omega arith))
