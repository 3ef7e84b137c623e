-- The reading of a whole set, and the verdict on an image. Document 01, "Numbers given back": over-long image, then 1, then 2 for
-- the whole image, then the first wrong item; an image that ends too early for the reel order names the number after its last
-- item.
use Rattle.std.specs.Prelude.{List, [], ◌∷◌, ◌++◌, ℕ, suc, ◌+◌, eqb}
use Rattle.base.specs.If.{if_b}
use Rattle.base.specs.Answer.{verdict}
use Rattle.base.specs.declared.Verdict.{Verdict}
use Rattle.image.specs.Item.{Item}
use Rattle.image.specs.Framing.{framing, items}
use Rattle.order.specs.Kind.{end_of_image}
use Rattle.order.specs.Due.{due_after}
use Rattle.volume.specs.State.{State, start}
use Rattle.volume.specs.Step.{Event, Next, go, no, step, is_due}

-- ended with what it handed out, or stopped: number, items read before the wrong one, byte
pub data Run : Type 0 where
  ended : List Event → Run
  stopped : ℕ → ℕ → ℕ → Run

-- one item was read before what is told here, and handed out es
unfoldable pub further : List Event → Run → Run
further es (ended fs) = ended (es ++ fs)
further es (stopped n i b) = stopped n (suc i) b

unfoldable pub next : Next → (State → Run) → Run
next (go t es) rest = further es (rest t)
next (no n b) rest = stopped n 0 b

-- reading on from a state to the end of the image
unfoldable pub runs : State → List Item → Run
runs s [] = if_b (is_due (due_after s.phase end_of_image)) (ended []) (stopped 3 0 0)
runs s (x ∷ xs) = next (step s x) (λ t. runs t xs)

-- the answer, where the first item read has number n
unfoldable pub answer_of : ℕ → Run → Verdict
answer_of n (ended es) = verdict 0 0 0
answer_of n (stopped k i b) = verdict k (n + i) b

-- the verdict on an image
unfoldable pub image_verdict : List ℕ → Verdict
image_verdict s = if_b (eqb (framing s).number 0) (answer_of 0 (runs start (items s))) (framing s)
