-- An image item by item, for whoever shows or lists it: what stands at a place, whatever stood before it, accepted or not. Of an
-- accepted set these are its items, with the kinds by which it was checked (`Met` below; `items_met` in proofs/Shown.antt).
-- The first item stands at place 5 among labels; the next one behind it, in the group that the answer names.
use Rattle.std.specs.Prelude.{◌≡◌, Bool, List, [], ◌∷◌, ℕ, ◌+◌, ◌-◌, eqb, leb, length, drop, Option, Some, None}
use Rattle.base.specs.If.{if_b}
use Rattle.base.specs.Part.{part}
use Rattle.image.specs.Item.{Item, shape}
use Rattle.image.specs.declared.Shape.{Shape}
use Rattle.image.specs.declared.Shape.TheVariants.{Block, Mark, ReelEnd, Broken}
use Rattle.order.specs.Kind.{kind, data_block, tape_mark, end_of_reel, end_of_image}
use Rattle.order.specs.Group.{among_data, group_after}
use Rattle.order.specs.declared.Kind.{Kind}
use Rattle.order.specs.declared.Phase.{Phase}
use Rattle.label.specs.Name.{kind_of}
use Rattle.volume.specs.State.{State}
use Rattle.volume.specs.Step.{kind_in, bytes_in}
use Rattle.volume.specs.Accepted.{Faultless, state_behind}
use Rattle.content.specs.declared.items.Seen.{Seen}
use Rattle.content.specs.declared.items.ItemAt.{ItemAt}

-- an item of that kind and n bytes
abbrev pub seen : Kind → ℕ → Option Seen
seen k n = Some (record { kind = k; len = n })

-- what stands at a place, where a block is data or else a label: a kind of item and the number of its bytes
unfoldable pub seen_by : List ℕ → ℕ → Bool → Shape → Option Seen
seen_by s at datum (Block n) = seen (if_b datum data_block (kind_of (part (at + 3) n s))) n
seen_by s at datum Mark = seen tape_mark 0
seen_by s at datum ReelEnd = seen end_of_reel 0
seen_by s at datum Broken = None

unfoldable pub seen_at : List ℕ → ℕ → Bool → Option Seen
seen_at s at datum = seen_by s at datum (shape (drop at s))

-- no item: its length is none, or the image ends within it
abbrev pub torn : Kind
torn = kind 12 0

-- an item of kind k in a group, its bytes, and what is behind it
unfoldable pub item_of : ℕ → Kind → ℕ → ℕ → ItemAt
item_of g k start n =
    record { family = k.family; number = k.number; group = group_after g k; start = start; len = n; behind = start + n }

-- where no item is: the end of the image, or all that is left of it
unfoldable pub rest_at : List ℕ → ℕ → ℕ → ItemAt
rest_at s g at = if_b (leb (length s) at) (item_of g end_of_image at 0) (item_of g torn at (length s - at))

unfoldable pub item_by : List ℕ → ℕ → ℕ → Option Seen → ItemAt
item_by s g at (Some u) = item_of g u.kind (at + 3) u.len
item_by s g at None = rest_at s g at

-- what stands at a place, in a group: among data blocks a block is data
unfoldable pub item_at : List ℕ → ℕ → ℕ → ItemAt
item_at s at g = item_by s g at (seen_at s at (eqb g among_data))

-- ---- the items of a set, met one after the other by some way of asking for the item at a place in a group

-- item x, in state st, is what the answer says: its kind is the one by which it is judged, its bytes are its own, and the others
-- are met behind it
pub record Told (s : List ℕ) (st : State) (x : Item) (answer : ItemAt) (others : State → Type 0) : Type 0 where
  pub kinds : kind answer.family answer.number ≡ kind_in st.phase x
  pub bytes : part answer.start answer.len s ≡ bytes_in x
  pub phase : Phase
  pub due : Faultless st x phase
  pub rest : others (state_behind st x phase)

abbrev pub Met : (ℕ → ℕ → ItemAt) → List ℕ → ℕ → ℕ → State → List Item → Type 0
Met item s at g st [] = item at g ≡ item_of g end_of_image at 0
Met item s at g st (x ∷ xs) = Told s st x (item at g) (λ t. Met item s (item at g).behind (item at g).group t xs)
