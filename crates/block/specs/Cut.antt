-- Cutting a data block into units. Document 01, "Blocks and records": a data block is at most B bytes, and at least O. Skip O
-- bytes. Then come one or more units, then only bytes 5E hexadecimal.
-- `cut` counts down a number that is large enough; `cut_unit` and `cut_end` (proofs/Cuts.antt) are its equations.
use Rattle.std.specs.Prelude.{Bool, true, false, List, [], ◌∷◌, ℕ, zero, suc, ◌+◌, leb, length, drop, Option, Some, None}
use Rattle.base.specs.If.{if_b}
use Rattle.base.specs.Part.{part, all_are}
use Rattle.block.specs.Unit.{unit_of, pad}
use Rattle.block.specs.declared.Unit.{Unit}

-- a record or a segment of one: its indicator (0 for F and D) and its bytes
pub record Segment : Type 0 where
  pub indicator : ℕ
  pub bytes : List ℕ

abbrev pub segment_of : ℕ → List ℕ → Segment
segment_of i bs = record { indicator = i; bytes = bs }

-- one unit more in front
unfoldable pub onto : Segment → Option (List Segment) → Option (List Segment)
onto x None = None
onto x (Some xs) = Some (x ∷ xs)

-- what the unit at the head of s makes of the cut of what follows it, `rest`; where there is no unit, all is padding
unfoldable pub cut_one : Option Unit → List ℕ → (List ℕ → Option (List Segment)) → Option (List Segment)
cut_one (Some u) s rest = onto (segment_of u.indicator (part u.word u.len s)) (rest (drop (u.word + u.len) s))
cut_one None s rest = if_b (all_are pad s) (Some []) None

unfoldable pub cut_f : ℕ → ℕ → ℕ → List ℕ → Option (List Segment)
cut_f zero f r s = None
cut_f (suc k) f r s = cut_one (unit_of f r s) s (λ t. cut_f k f r t)

-- units, none or more, then padding
unfoldable pub cut : ℕ → ℕ → List ℕ → Option (List Segment)
cut f r s = cut_f (suc (length s)) f r s

-- one or more
unfoldable pub some_units : Option (List Segment) → Option (List Segment)
some_units None = None
some_units (Some []) = None
some_units (Some (x ∷ xs)) = Some (x ∷ xs)

-- whether the bytes could be cut
unfoldable pub is_cut : Option (List Segment) → Bool
is_cut None = false
is_cut (Some xs) = true

-- the units of a block, in a file of format f, block length b, record length r and offset length o
unfoldable pub units : ℕ → ℕ → ℕ → ℕ → List ℕ → Option (List Segment)
units f b r o s = if_b (leb (length s) b) (if_b (leb o (length s)) (some_units (cut f r (drop o s))) None) None
