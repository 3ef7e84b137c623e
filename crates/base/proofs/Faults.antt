-- Laws of the first of two faults. Assumes nothing.
use mathlib.Core.Path.{◌≡◌}
use borrow.Author.Tests.{eqb-true, eqb-false}
use lib.Dec.{eqb}
use Rattle.base.proofs.Ifs.{if_case}
use Rattle.base.specs.Answer.{or_else}
use Rattle.base.specs.declared.Fault.{Fault}

-- where the first of two faults that is one is none, neither is
pub or_first : (f g : Fault) → (or_else f g).number ≡ 0 → f.number ≡ 0
unfolding or_else
or_first f g =
    if_case (λ (h : Fault). h.number ≡ 0 → f.number ≡ 0) (eqb f.number 0) g f (λ e _. eqb-true f.number 0 e) (λ _ q. q)

-- without a fault of either, the second has none
pub or_second : (f g : Fault) → (or_else f g).number ≡ 0 → g.number ≡ 0
unfolding or_else
or_second f g =
    if_case (λ (h : Fault). h.number ≡ 0 → g.number ≡ 0) (eqb f.number 0) g f (λ _ q. q)
    (λ e q. absurd (eqb-false f.number 0 e q))
