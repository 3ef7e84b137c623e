-- Laws of reading, a step at a time, as a loop wants them. Assumes nothing.
use mathlib.Core.Path.{◌≡◌, refl, ap, ◌∙◌}
use mathlib.Core.Bool.{true, false}
use mathlib.Core.List.{List, [], ◌∷◌}
use Prim.Native.Nat.{ℕ, suc, ◌+◌}
use native.Mathlib.Omega.{arith}
use Rattle.base.proofs.Ifs.{if_true, if_false}
use Rattle.base.specs.Answer.{verdict}
use Rattle.image.specs.Item.{Item}
use Rattle.order.specs.Kind.{end_of_image}
use Rattle.order.specs.Due.{due_after}
use Rattle.volume.specs.State.{State}
use Rattle.volume.specs.Step.{Event, Next, go, step, is_due}
use Rattle.volume.specs.Code.Told.{told_next, told_from}
use Rattle.volume.specs.Run.{Run, ended, stopped, further, runs, answer_of}

-- ---- the answer, item by item

pub answer_further : (n : ℕ) (es : List Event) (r : Run) → answer_of n (further es r) ≡ answer_of (n + 1) r
unfolding answer_of further
answer_further n es (ended fs) = refl
answer_further n es (stopped k i b) = let e : n + suc i ≡ n + 1 + i = omega arith in ap (λ (m : ℕ). verdict k m b) e

-- an item that goes on
pub told_go : (n : ℕ) (s t : State) (x : Item) (xs : List Item) (es : List Event) → step s x ≡ go t es
    → told_from n s (x ∷ xs) ≡ told_from (n + 1) t xs
unfolding told_from told_next
told_go n s t x xs es e = ap (λ (r : Next). told_next n s (x ∷ xs) r (λ u. told_from (n + 1) u xs)) e

-- the end of the image, where it may stand and where not
pub answer_end : (n : ℕ) (s : State) → is_due (due_after s.phase end_of_image) ≡ true → answer_of n (runs s []) ≡ verdict 0 0 0
unfolding runs answer_of
answer_end n s h = ap (answer_of n) (if_true _ _ _ h)

pub answer_early : (n : ℕ) (s : State) → is_due (due_after s.phase end_of_image) ≡ false → answer_of n (runs s []) ≡ verdict 3 n 0
unfolding runs answer_of
answer_early n s h = let z : n + 0 ≡ n = omega arith in ap (answer_of n) (if_false _ _ _ h) ∙ ap (λ (m : ℕ). verdict 3 m 0) z
