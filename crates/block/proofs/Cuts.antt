-- The equations of `cut`, without the number that it counts down. Assumes nothing.
use Rattle.std.specs.Prelude.{Option, Some, None}
use mathlib.Core.Path.{◌≡◌, refl, ap, ◌∙◌}
use mathlib.Core.List.{List, []}
use Prim.Native.Nat.{ℕ, zero, suc, ◌+◌, ◌<◌}
use native.Mathlib.Omega.{arith}
use lib.ListN.{length, drop, length-drop}
use Rattle.base.specs.If.{if_b}
use Rattle.base.specs.Part.{part, all_are}
use Rattle.block.specs.Unit.{unit_of, pad, one_unit}
use Rattle.block.specs.Cut.{Segment, segment_of, onto, cut_one, cut_f, cut}
use Rattle.block.specs.declared.Unit.{Unit}
use Rattle.block.proofs.Units.{unit_stands}

-- two ways to cut what follows a unit that agree there
cut_one_lem : (u : Option Unit) (s : List ℕ) (g h : List ℕ → Option (List Segment))
    → ((i w n : ℕ) → u ≡ one_unit i w n → g (drop (w + n) s) ≡ h (drop (w + n) s)) → cut_one u s g ≡ cut_one u s h
unfolding cut_one
cut_one_lem (Some u) s g h e = ap (onto (segment_of u.indicator (part u.word u.len s))) (e u.indicator u.word u.len refl)
cut_one_lem None s g h e = refl

-- a unit has bytes, so less is left behind it
less_behind : (f r : ℕ) (s : List ℕ) (i w n k : ℕ) → unit_of f r s ≡ one_unit i w n → length s < suc k → length (drop (w + n) s) < k
less_behind f r s i w n k e h = let c = unit_stands f r s i w n e in simp length-drop (omega arith)

enough : (k j f r : ℕ) (s : List ℕ) → length s < k → length s < j → cut_f k f r s ≡ cut_f j f r s
unfolding cut_f
enough zero j f r s h m = absurd (omega arith)
enough (suc k) zero f r s h m = absurd (omega arith)
enough (suc k) (suc j) f r s h m =
    cut_one_lem (unit_of f r s) s (λ t. cut_f k f r t) (λ t. cut_f j f r t)
    (λ i w n e. enough k j f r (drop (w + n) s) (less_behind f r s i w n k e h) (less_behind f r s i w n j e m))

-- a unit at the head is cut off, and then what is behind it
pub cut_unit : (f r : ℕ) (s : List ℕ) (i w n : ℕ) → unit_of f r s ≡ one_unit i w n
    → cut f r s ≡ onto (segment_of i (part w n s)) (cut f r (drop (w + n) s))
unfolding cut cut_f cut_one
cut_unit f r s i w n e =
    ap (λ (u : Option Unit). cut_one u s (λ t. cut_f (length s) f r t)) e
    ∙ ap (onto (segment_of i (part w n s)))
    (enough (length s) (suc (length (drop (w + n) s))) f r (drop (w + n) s) (less_behind f r s i w n (length s) e (omega arith))
    (omega arith))

-- without a unit at the head only padding may be left
pub cut_end : (f r : ℕ) (s : List ℕ) → unit_of f r s ≡ None → cut f r s ≡ if_b (all_are pad s) (Some []) None
unfolding cut cut_f cut_one
cut_end f r s e = ap (λ (u : Option Unit). cut_one u s (λ t. cut_f (length s) f r t)) e
