-- The verdict as a walk finds it: reading goes on to the first wrong item, and from that item on the framing is asked for. All
-- before it was read without fault and is well framed, so this is the verdict on the whole image: `told_whole`
-- (proofs/Reels.antt).
use Rattle.std.specs.Prelude.{Bool, false, not, List, [], ◌∷◌, ℕ, ◌+◌, ◌-◌, eqb, length}
use Rattle.base.specs.If.{if_b}
use Rattle.base.specs.Answer.{verdict}
use Rattle.base.specs.declared.Verdict.{Verdict}
use Rattle.image.specs.Item.{Item}
use Rattle.image.specs.Framing.{framed_from}
use Rattle.order.specs.Kind.{vol, end_of_image}
use Rattle.order.specs.Due.{due_after}
use Rattle.order.specs.declared.Phase.{Phase}
use Rattle.volume.specs.State.{State}
use Rattle.volume.specs.Step.{Next, go, no, step, is_due}

-- ---- the reels before an item

-- inside a reel, from its VOL1 to its end, neither a VOL1 nor the end of the image is due
unfoldable pub is_inside : Phase → Bool
is_inside p = if_b (is_due (due_after p (vol 1))) false (not (is_due (due_after p end_of_image)))

-- behind m volume labels as many reels have ended, but for the one that goes on
unfoldable pub ended_in : Phase → ℕ → ℕ
ended_in p m = if_b (eqb m 0) 0 (if_b (is_inside p) (m - 1) m)

-- whether the last item ended one
unfoldable pub closed_in : Phase → ℕ → Bool
closed_in p m = if_b (eqb m 0) false (not (is_inside p))

-- ---- the verdict

-- the framing of what is left behind a state, from item n on
unfoldable pub framed_in : ℕ → State → List Item → Verdict
framed_in n s xs = framed_from n (ended_in s.phase (length s.volumes)) (closed_in s.phase (length s.volumes)) xs

-- number 2 of it, or else v
unfoldable pub framed_or : ℕ → State → List Item → Verdict → Verdict
framed_or n s xs v = if_b (eqb (framed_in n s xs).number 0) v (framed_in n s xs)

unfoldable pub told_next : ℕ → State → List Item → Next → (State → Verdict) → Verdict
told_next n s xs (go t es) rest = rest t
told_next n s xs (no k b) rest = framed_or n s xs (verdict k n b)

-- reading on from a state, where the first item read has number n
unfoldable pub told_from : ℕ → State → List Item → Verdict
told_from n s [] = if_b (is_due (due_after s.phase end_of_image)) (verdict 0 0 0) (framed_or n s [] (verdict 3 n 0))
told_from n s (x ∷ xs) = told_next n s (x ∷ xs) (step s x) (λ t. told_from (n + 1) t xs)
