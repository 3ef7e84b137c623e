-- A set without the dates of its later sections. Document 02, P2: dates belong to a file section, and the meaning takes those of
-- section 0001, so that two accepted sets which are the same without these dates have one meaning (`reading/proofs/Dates.antt`).
use Rattle.std.specs.Prelude.{◌≡◌, Bool, ◌&&◌, ◌||◌, List, [], ◌∷◌, ℕ, ◌+◌, replicate}
use Rattle.base.specs.If.{if_b}
use Rattle.base.specs.Part.{put_at}
use Rattle.image.specs.Item.{Item, block, mark, reel_end, broken}
use Rattle.order.specs.Kind.{hdr, eov, eof, is_kind}
use Rattle.order.specs.declared.Kind.{Kind}
use Rattle.order.specs.declared.Phase.{Phase}
use Rattle.label.specs.Table.{hdr1, place_of, width_of, field, created_row, expires_row}
use Rattle.volume.specs.State.{State}
use Rattle.volume.specs.Step.{Next, go, no, kind_in, step}

-- the labels that have the dates of their section
unfoldable pub is_dated : Kind → Bool
is_dated k = is_kind k (hdr 1) || (is_kind k (eov 1) || is_kind k (eof 1))

-- a label with SPACEs in place of its dates
unfoldable pub undated : List ℕ → List ℕ
undated l = put_at l (place_of hdr1 created_row) (replicate (width_of hdr1 created_row + width_of hdr1 expires_row) 32)

-- an item of a phase, without its dates where a file goes on: there it stands in a later section
unfoldable pub undated_in : Bool → Phase → Item → Item
undated_in continues p (block l) = if_b (continues && is_dated (kind_in p (block l))) (block (undated l)) (block l)
undated_in continues p mark = mark
undated_in continues p reel_end = reel_end
undated_in continues p broken = broken

unfoldable pub undated_behind : Next → (State → List Item) → List Item
undated_behind (go t es) rest = rest t
undated_behind (no n b) rest = []

-- the items from a state on, up to the first that is refused and with it
unfoldable pub undated_from : State → List Item → List Item
undated_from s [] = []
undated_from s (x ∷ xs) = undated_in s.continues s.phase x ∷ undated_behind (step s x) (λ t. undated_from t xs)

-- the dates of a label are those of another
pub record SameDates (a b : List ℕ) : Type 0 where
  pub creation : field hdr1 created_row a ≡ field hdr1 created_row b
  pub expiration : field hdr1 expires_row a ≡ field hdr1 expires_row b
