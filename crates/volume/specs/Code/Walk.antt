-- The walk of the code over an image: what is left from a spot, behind the volumes whose names stand at some places, and what
-- a turn of the walk owes.
use Rattle.std.specs.Prelude.{◌≡◌, Bool, true, false, List, [], ◌∷◌, ◌++◌, ℕ, ◌+◌, ◌≤◌, ◌<◌, eqb, length, take, drop}
use Rattle.base.specs.If.{if_b}
use Rattle.base.specs.Part.{part}
use Rattle.base.specs.Answer.{verdict}
use Rattle.base.specs.declared.Verdict.{Verdict}
use Rattle.base.specs.declared.Fault.{Fault}
use Rattle.image.specs.Item.{Item, block, decode}
use Rattle.image.specs.Framing.{most_image, most_reels, items, framed_from}
use Rattle.image.specs.declared.Frame.{Frame}
use Rattle.order.specs.Kind.{kind, vol, hdr, is_kind}
use Rattle.order.specs.Due.{due_after}
use Rattle.order.specs.declared.Kind.{Kind}
use Rattle.order.specs.declared.Phase.{Phase}
use Rattle.volume.specs.declared.Reading.{Reading}
use Rattle.volume.specs.declared.walk.Spot.{Spot}
use Rattle.volume.specs.declared.walk.Turn.{Turn}
use Rattle.volume.specs.State.{State, start}
use Rattle.volume.specs.Fault.{item_fault}
use Rattle.volume.specs.Step.{Next, ordered, judged, state_after, kind_in, bytes_in}
use Rattle.volume.specs.Code.Told.{ended_in, closed_in, told_next, told_from}
use Rattle.volume.specs.Code.Place.{contents}

-- the verdict from a spot on
unfoldable pub told_at : List ℕ → List ℕ → Spot → Verdict
told_at s volumes x = told_from x.item (contents s volumes x.state) (decode (drop x.at s))

-- the verdict by the step of the item that stands there, behind which place `behind` follows
unfoldable pub told_step : List ℕ → List ℕ → Spot → ℕ → Next → Verdict
told_step s volumes x behind r =
    told_next x.item (contents s volumes x.state) (decode (drop x.at s)) r
    (λ u. told_from (x.item + 1) u (decode (drop behind s)))

-- the same where it is of kind k and contents l
unfoldable pub told_by : List ℕ → List ℕ → Spot → Kind → List ℕ → ℕ → Verdict
told_by s volumes x k l behind =
    told_step s volumes x behind (ordered (contents s volumes x.state) k l (due_after x.state.phase k))

-- and where it is due, with phase p behind it
unfoldable pub told_due : List ℕ → List ℕ → Spot → Phase → Kind → List ℕ → ℕ → Verdict
told_due s volumes x p k l behind =
    told_step s volumes x behind (judged (contents s volumes x.state) p k l (item_fault (contents s volumes x.state) k l))

-- the frame of a place
abbrev pub frame : ℕ → ℕ → ℕ → Bool → Frame
frame at item reels closed = record { at = at; reels = reels; item = item; closed = closed }

-- the framing from a place on, in a phase and behind so many volume labels
abbrev pub framed_at : List ℕ → ℕ → ℕ → Phase → ℕ → Verdict
framed_at s at item p reels = framed_from item (ended_in p reels) (closed_in p reels) (decode (drop at s))

-- number 2 of it, or else v
abbrev pub framed_else : List ℕ → ℕ → ℕ → Phase → ℕ → Verdict → Verdict
framed_else s at item p reels v = if_b (eqb (framed_at s at item p reels).number 0) v (framed_at s at item p reels)

-- the verdict where reading ends at a spot: with no fault, or with a fault of the item that stands there, before which the
-- framing from it on goes
unfoldable pub told_end : List ℕ → List ℕ → Spot → Fault → Verdict
told_end s volumes x f =
    if_b (eqb f.number 0) (verdict 0 0 0)
    (framed_else s x.at x.item x.state.phase (length volumes) (verdict f.number x.item f.byte))

-- the places of the volumes' names behind a turn
unfoldable pub places_after : List ℕ → Turn → List ℕ
places_after volumes r = if_b r.named (volumes ++ (r.name ∷ [])) volumes

-- the verdict that a turn leads to: that from its spot on, or that of the end there
unfoldable pub told_after : List ℕ → List ℕ → Turn → Verdict
told_after s volumes r = if_b r.on (told_at s (places_after volumes r) r.spot) (told_end s volumes r.spot r.fault)

-- a place of an image that is not too long, behind few reels: each item before it took a byte or more
pub record FrameHere (s : List ℕ) (at item reels : ℕ) : Type 0 where
  pub short : length s ≤ most_image
  pub within : at ≤ length s
  pub items : item ≤ at
  pub few : reels ≤ most_reels

-- a spot of an image that is not too long: each item before it took a byte or more, and files and blocks are items
pub record Bounded (s : List ℕ) (at item : ℕ) (x : Reading) : Type 0 where
  pub short : length s ≤ most_image
  pub within : at ≤ length s
  pub items : item ≤ at
  pub files : x.files ≤ item
  pub blocks : x.count ≤ item

-- counts that can go up by one
pub record Small (x : Reading) : Type 0 where
  pub files : x.files < 4294967295
  pub blocks : x.count < 4294967295

-- a label of a kind that is kept by its place has 80 bytes
pub record LabelSized (k : Kind) (len : ℕ) : Type 0 where
  pub volume : is_kind k (vol 1) ≡ true → len ≡ 80
  pub hdr1 : is_kind k (hdr 1) ≡ true → len ≡ 80
  pub hdr2 : is_kind k (hdr 2) ≡ true → len ≡ 80

-- a reading behind an item of kind k at `start`, whatever volume labels were read before it, and its counts, each of at most one
-- more
pub record DidRead (s : List ℕ) (x : Reading) (p : Phase) (k : Kind) (start len : ℕ) (r : Reading) : Type 0 where
  pub same : (volumes : List ℕ)
      → contents s (if_b (is_kind k (vol 1)) (volumes ++ ((start + 4) ∷ [])) volumes) r
      ≡ state_after (contents s volumes x) p k (part start len s)
  pub files : r.files ≤ x.files + 1
  pub blocks : r.count ≤ x.count + 1

-- a turn that ends the walk with a fault, and one that goes on
abbrev pub last_turn : Spot → ℕ → ℕ → Turn
last_turn x number byte =
    record { spot = x; fault = record { number = number; byte = byte }; name = 0; on = false; named = false }

abbrev pub on_turn : ℕ → ℕ → Reading → Bool → ℕ → Turn
on_turn at item state named name =
    record {
      spot = record { at = at; state = state; item = item };
      fault = record { number = 0; byte = 0 };
      name = name;
      on = true;
      named = named;
    }

-- a turn that goes on behind a block of n bytes and of kind k, with phase p
pub record DidGoOn (s : List ℕ) (x : Spot) (p : Phase) (k : Kind) (n : ℕ) (r : Turn) : Type 0 where
  pub on : r.on ≡ true
  pub at : r.spot.at ≡ x.at + 3 + n
  pub item : r.spot.item ≡ x.item + 1
  pub named : r.named ≡ is_kind k (vol 1)
  pub name : r.name ≡ x.at + 3 + 4
  pub behind : DidRead s x.state p k (x.at + 3) n r.spot.state

-- a block of n bytes stands at a spot
pub record BlockHere (s : List ℕ) (x : Spot) (n : ℕ) : Type 0 where
  pub bounded : Bounded s x.at x.item x.state
  pub here : decode (drop x.at s) ≡ block (part (x.at + 3) n s) ∷ decode (drop (x.at + 3 + n) s)
  pub within : x.at + 3 + n ≤ length s

-- a state, and a reading, in another phase
abbrev pub phased : State → Phase → State
phased t p =
    record {
      phase = p;
      volumes = t.volumes;
      files = t.files;
      continues = t.continues;
      hdr1 = t.hdr1;
      hdr2 = t.hdr2;
      count = t.count;
      pending = t.pending;
    }

abbrev pub in_phase : Reading → Phase → Reading
in_phase x p =
    record {
      hdr1 = x.hdr1;
      hdr2 = x.hdr2;
      count = x.count;
      pending = x.pending;
      files = x.files;
      phase = p;
      continues = x.continues;
    }

-- a turn that goes on past an item without bytes, with phase p behind it
abbrev pub bare_turn : Spot → Phase → Turn
bare_turn x p = on_turn (x.at + 3) (x.item + 1) (in_phase x.state p) false 0

-- an item of kind k and without bytes has no fault in a state, and changes nothing but the phase
pub record Bare (t : State) (p : Phase) (k : Kind) : Type 0 where
  pub sound : (item_fault t k []).number ≡ 0
  pub same : state_after t p k [] ≡ phased t p

-- an item without bytes, which is of this family, stands at a spot
pub record BareHere (s : List ℕ) (x : Spot) (family : ℕ) : Type 0 where
  pub bounded : Bounded s x.at x.item x.state
  pub within : x.at + 3 ≤ length s
  pub here : (y : Item) × (decode (drop x.at s) ≡ y ∷ decode (drop (x.at + 3) s))
      × (kind_in x.state.phase y ≡ kind family 0) × (bytes_in y ≡ [])
  pub bare : (t : State) (p : Phase) → Bare t p (kind family 0)

-- a turn from `at` on owes the verdict v; where it goes on, it went on by a byte or more; and it passes no 17th volume label
pub record DidTurn (s volumes : List ℕ) (at : ℕ) (v : Verdict) (r : Turn) : Type 0 where
  pub same : told_after s volumes r ≡ v
  pub onward : r.on ≡ true → at < r.spot.at
  pub bounded : Bounded s r.spot.at r.spot.item r.spot.state
  pub few : length volumes ≤ most_reels → length (places_after volumes r) ≤ most_reels

-- a spot further on from which the verdict is the same, whatever volume labels were read
pub record DidPass (s : List ℕ) (x y : Spot) : Type 0 where
  pub same : (volumes : List ℕ) → told_at s volumes y ≡ told_at s volumes x
  pub onward : x.at ≤ y.at
  pub bounded : Bounded s y.at y.item y.state

-- a spot from which the verdict is that from the first item on
pub record DidStart (s volumes : List ℕ) (x : Spot) : Type 0 where
  pub same : told_at s volumes x ≡ told_from 0 start (items s)
  pub bounded : Bounded s x.at x.item x.state

-- the same behind the first `reels` of sixteen places
pub record Walked (s volumes : List ℕ) (reels : ℕ) (x : Spot) : Type 0 where
  pub begun : DidStart s (take reels volumes) x
  pub few : reels ≤ most_reels
  pub kept : length volumes ≡ most_reels
