-- Where the loops of the code over a block stand.
use Rattle.std.specs.Prelude.{◌≡◌, Bool, true, List, ℕ, ◌-◌, ◌≤◌, ◌<◌, ◌*◌, eqb, length, drop, Option}
use Rattle.base.specs.If.{if_b}
use Rattle.block.specs.Cut.{Segment, cut, some_units, is_cut}
use Rattle.block.specs.Turn.{turned}
use Rattle.base.specs.Part.{all_are}
use Rattle.block.specs.Unit.{pad}
use Rattle.block.specs.declared.Held.{Held}
use Rattle.block.specs.Held.{holding, empty}

-- at the head of the block there must be a unit, and later there need be none
unfoldable pub due_at : Bool → Option (List Segment) → Option (List Segment)
due_at head c = if_b head (some_units c) c

-- what the block holds where no unit follows
unfoldable pub held_up_to : List ℕ → ℕ → ℕ → ℕ → ℕ → ℕ → Held
held_up_to s o at w u n = if_b (eqb u 0) empty (if_b (all_are pad (drop at s)) (holding w o (length s) u n (at - o - u * w)) empty)

-- begun at `from` with q open, it is at `at` with o open: what is left from there can be cut where all can, and has the answer on
-- all
pub record Turning (r : ℕ) (s : List ℕ) (q from o at : ℕ) : Type 0 where
  pub room : length s < 18446744073709551616
  pub past : from ≤ at
  pub cuts : is_cut (due_at (eqb at from) (cut 83 r (drop at s))) ≡ is_cut (some_units (cut 83 r (drop from s)))
  pub left : turned r o (eqb at from) (due_at (eqb at from) (cut 83 r (drop at s)))
      ≡ turned r q true (some_units (cut 83 r (drop from s)))
