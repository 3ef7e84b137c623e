-- An accepted set, as a reader would state it: the framing is good, every item is due where it stands and has no fault against
-- what was read before it, and the image ends where the order of a reel lets it. And a refused one: what its verdict says of it.
use Rattle.std.specs.Prelude.{◌≡◌, Bool, true, false, not, List, [], ◌∷◌, ℕ, zero, suc, ◌+◌, ◌≤◌, ◌<◌, eqb, length, take, drop, Some}
use Rattle.base.specs.If.{if_b}
use Rattle.base.specs.Part.{same}
use Rattle.base.specs.Answer.{verdict}
use Rattle.base.specs.declared.Verdict.{Verdict}
use Rattle.image.specs.Item.{Item, block, mark, reel_end, broken}
use Rattle.image.specs.Framing.{head, most_image, most_reels, framing, items, opens}
use Rattle.order.specs.Kind.{end_of_image}
use Rattle.order.specs.Due.{due_after}
use Rattle.order.specs.declared.Phase.{Phase}
use Rattle.volume.specs.State.{State, start}
use Rattle.volume.specs.Fault.{item_fault}
use Rattle.volume.specs.Step.{kind_in, bytes_in, state_after, is_due, step, no}

-- item x is due behind s, and has no fault there; p is the phase behind it
pub record Faultless (s : State) (x : Item) (p : Phase) : Type 0 where
  pub due : due_after s.phase (kind_in s.phase x) ≡ Some p
  pub sound : (item_fault s (kind_in s.phase x) (bytes_in x)).number ≡ 0

-- the state behind it
abbrev pub state_behind : State → Item → Phase → State
state_behind s x p = state_after s p (kind_in s.phase x) (bytes_in x)

-- every item from s on is without fault, and P holds of the state behind the last
abbrev pub All : (State → Type 0) → State → List Item → Type 0
All P s [] = P s
All P s (x ∷ xs) = (p : Phase) × Faultless s x p × All P (state_behind s x p) xs

-- the image may end here
abbrev pub MayEnd : State → Type 0
MayEnd s = is_due (due_after s.phase end_of_image) ≡ true

pub record Accepted (s : List ℕ) : Type 0 where
  pub framed : (framing s).number ≡ 0
  pub followed : All MayEnd start (items s)

-- what is left begins with an item that is refused with number k at byte b, or is the end of the image, which is 3 where it is
-- not due
abbrev pub Refused : List Item → ℕ → ℕ → State → Type 0
Refused [] k b s = (k ≡ 3) × (b ≡ 0) × (is_due (due_after s.phase end_of_image) ≡ false)
Refused (x ∷ xs) k b s = step s x ≡ no k b

-- there are i items or more, the first i are without fault, and what follows them is refused
pub record FirstWrong (s : State) (xs : List Item) (k i b : ℕ) : Type 0 where
  pub within : i ≤ length xs
  pub refused : All (Refused (drop i xs) k b) s (take i xs)

-- ---- the framing's first wrong item

-- an item behind r ended reels may stand there: it is whole, and fewer than 16 have ended
unfoldable pub may_stand : ℕ → Item → Bool
may_stand r (block l) = not (eqb r most_reels)
may_stand r mark = not (eqb r most_reels)
may_stand r reel_end = not (eqb r most_reels)
may_stand r broken = false

unfoldable pub is_reel_end : Item → Bool
is_reel_end (block l) = false
is_reel_end mark = false
is_reel_end reel_end = true
is_reel_end broken = false

-- behind r ended reels, with `closed` where the last item was an end of reel: i items may stand, and what follows them may
-- not, or is the end of an image that does not end behind an end of reel
abbrev pub Unframed : ℕ → Bool → List Item → ℕ → Type 0
Unframed r closed [] zero = closed ≡ false
Unframed r closed [] (suc i) = ⊥
Unframed r closed (x ∷ xs) zero = may_stand r x ≡ false
Unframed r closed (x ∷ xs) (suc i) = (may_stand r x ≡ true) × Unframed (if_b (is_reel_end x) (r + 1) r) (is_reel_end x) xs i

-- ---- what a refusal says

-- over-long, then 1, then 2 for the whole image, then the first wrong item
pub data FirstFault (s : List ℕ) : Verdict → Type 0 where
  over_long : most_image < length s → FirstFault s (verdict 9 0 0)
  no_image : length s ≤ most_image → same (take 5 s) head ≡ false → FirstFault s (verdict 1 0 0)
  unframed : (i : ℕ) → opens s ≡ true → Unframed 0 false (items s) i → FirstFault s (verdict 2 i 0)
  wrong : (k i b : ℕ) → (framing s).number ≡ 0 → FirstWrong start (items s) k i b → FirstFault s (verdict k i b)

-- a number of reading, with the byte of a field for 4, 5 and 6, and no byte for another
pub record Placed (number byte : ℕ) : Type 0 where
  pub known : number ≤ 9
  pub field : 4 ≤ number → number ≤ 6 → 1 ≤ byte
  pub before : number < 4 → byte ≡ 0
  pub behind : 6 < number → byte ≡ 0
