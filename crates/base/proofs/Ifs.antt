-- Laws of a choice by a Bool, and what a test says of the two sides that it compares. Assumes nothing.
use mathlib.Core.Path.{◌≡◌, refl, sym, ap, ◌∙◌}
use mathlib.Core.Bool.{Bool, true, false, false≢true, ◌&&◌, ◌||◌}
use Rattle.base.specs.If.{if_b}

-- a test that holds gives the first
pub if_true {ℓ} : {A : Type ℓ} (t : Bool) (a b : A) → t ≡ true → if_b t a b ≡ a
unfolding if_b
if_true t a b p = ap (λ (s : Bool). if_b s a b) p

-- one that does not gives the second
pub if_false {ℓ} : {A : Type ℓ} (t : Bool) (a b : A) → t ≡ false → if_b t a b ≡ b
unfolding if_b
if_false t a b p = ap (λ (s : Bool). if_b s a b) p

-- what holds of both branches holds of the choice
pub if_case {ℓ κ} : {A : Type ℓ} (P : A → Type κ) (t : Bool) (a b : A) → (t ≡ true → P a) → (t ≡ false → P b) → P (if_b t a b)
unfolding if_b
if_case P true a b f g = f refl
if_case P false a b f g = g refl

-- a function goes into both branches
pub ap_if {ℓ κ} : {A : Type ℓ} {B : Type κ} (f : A → B) (t : Bool) (a b : A) → f (if_b t a b) ≡ if_b t (f a) (f b)
unfolding if_b
ap_if f true a b = refl
ap_if f false a b = refl

-- the same test in the same place, with equal branches
pub if_same {ℓ} : {A : Type ℓ} (t : Bool) (a : A) → if_b t a a ≡ a
unfolding if_b
if_same true a = refl
if_same false a = refl

-- a test that decides by itself
pub if_itself : (t : Bool) → if_b t true false ≡ t
unfolding if_b
if_itself true = refl
if_itself false = refl

-- a call returned p, which its contract equates with x: what the code tested of p holds of x
pub so_true : (p x : Bool) → p ≡ x → p ≡ true → x ≡ true
so_true p x e h = sym e ∙ h

-- the same where it does not hold
pub so_false : (p x : Bool) → p ≡ x → p ≡ false → x ≡ false
so_false p x e h = sym e ∙ h

-- both hold
pub and_true : (a b : Bool) → a ≡ true → b ≡ true → a && b ≡ true
and_true a b p q = ap (λ (s : Bool). s && b) p ∙ q

-- the first does not hold
pub and_left : (a b : Bool) → a ≡ false → a && b ≡ false
and_left a b p = ap (λ (s : Bool). s && b) p

-- the second does not hold
pub and_right : (a b : Bool) → b ≡ false → a && b ≡ false
and_right true b p = p
and_right false b p = refl

-- both parts of an `and` that holds
pub and_first : (a b : Bool) → a && b ≡ true → a ≡ true
and_first true b h = refl
and_first false b h = h

-- of two that hold, the second does
pub and_second : (a b : Bool) → a && b ≡ true → b ≡ true
and_second true b h = h
and_second false b h = absurd (false≢true h)

-- the first holds
pub or_left : (a b : Bool) → a ≡ true → a || b ≡ true
or_left a b p = ap (λ (s : Bool). s || b) p

-- the second holds
pub or_right : (a b : Bool) → b ≡ true → a || b ≡ true
or_right true b p = refl
or_right false b p = p

-- neither holds
pub or_false : (a b : Bool) → a ≡ false → b ≡ false → a || b ≡ false
or_false a b p q = ap (λ (s : Bool). s || b) p ∙ q
