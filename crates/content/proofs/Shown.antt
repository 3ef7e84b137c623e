-- An image item by item: laws of what stands at a place, and that the items of an accepted set are met with the kinds by which it
-- was checked. Assumes nothing.
use Rattle.std.specs.Prelude.{Some, None, Option}
use mathlib.Core.Path.{◌≡◌, refl, sym, ap, ◌∙◌, subst}
use mathlib.Core.Bool.{Bool, true, false}
use mathlib.Core.List.{List, ◌∷◌}
use Prim.Native.Nat.{ℕ, ◌+◌, ◌-◌, ◌≤◌, ◌<◌}
use native.Mathlib.Omega.{arith}
use borrow.Author.Rules.{rules}
use borrow.Author.Tests.{le-leb, lt-leb}
use lib.Dec.{eqb}
use lib.ListN.{length, drop}
use Rattle.base.specs.If.{if_b}
use Rattle.base.proofs.Ifs.{if_true, if_false}
use Rattle.base.specs.Part.{part}
use Rattle.image.specs.Item.{Item, decode}
use Rattle.image.specs.Framing.{items}
use Rattle.image.specs.declared.Shape.{Shape}
use Rattle.image.proofs.Items.{shape_past}
use Rattle.order.specs.Kind.{end_of_image}
use Rattle.order.specs.Group.{among_labels, among_data, group_after}
use Rattle.order.specs.declared.Kind.{Kind}
use Rattle.order.specs.declared.Phase.{Phase}
use Rattle.order.specs.declared.Phase.TheVariants.{Data}
use Rattle.order.proofs.Phases.{group_of}
use Rattle.order.proofs.Groups.{due_group, data_group}
use Rattle.volume.specs.State.{State, start}
use Rattle.volume.specs.Step.{is_due, kind_in, bytes_in, state_after}
use Rattle.volume.proofs.Reels.{broken_undue}
use Rattle.volume.specs.Accepted.{state_behind, All, MayEnd, Accepted}
use Rattle.content.specs.Items.{seen_by, seen_at, torn, item_of, rest_at, item_by, item_at, Told, Met, seen}
use Rattle.content.specs.Code.Seen.{seen_in}
use Rattle.content.specs.declared.items.Seen.{Seen}
use Rattle.content.specs.declared.items.ItemAt.{ItemAt}
use Rattle.content.proofs.Places.{sees, unseen, item_start, item_room, by_place}

-- ---- the item at a place

pub item_made : (g h start n : ℕ) (k : Kind) → h ≡ group_after g k
    → ◌≡◌ {A = ItemAt} (record { family = k.family; number = k.number; group = h; start = start; len = n; behind = start + n }) (item_of g k start n)
unfolding item_of
item_made g h start n k e =
    λ i. record { family = k.family; number = k.number; group = e i; start = start; len = n; behind = start + n }

pub rest_end : (s : List ℕ) (g at : ℕ) (r : ItemAt) → r ≡ item_of g end_of_image at 0 → length s ≤ at → r ≡ rest_at s g at
unfolding rest_at
rest_end s g at r e h = e ∙ sym (if_true _ _ _ (le-leb (length s) at h))

pub rest_torn : (s : List ℕ) (g at : ℕ) (r : ItemAt) → r ≡ item_of g torn at (length s - at) → at < length s → r ≡ rest_at s g at
unfolding rest_at
rest_torn s g at r e h = e ∙ sym (if_false _ _ _ (lt-leb (length s) at h))

pub at_item : (s : List ℕ) (at g : ℕ) (datum : Bool) (x : Option Seen) (item : Seen) (r : ItemAt) → datum ≡ eqb g among_data
    → x ≡ seen_at s at datum → x ≡ Some item → r ≡ item_of g item.kind (at + 3) item.len → r ≡ item_at s at g
unfolding item_at item_by
at_item s at g datum x item r d e q f = f ∙ ap (item_by s g at) (sym q ∙ e ∙ ap (seen_at s at) d)

pub at_nothing : (s : List ℕ) (at g : ℕ) (datum : Bool) (x : Option Seen) (r : ItemAt) → datum ≡ eqb g among_data → x ≡ seen_at s at datum
    → x ≡ None → r ≡ rest_at s g at → r ≡ item_at s at g
unfolding item_at item_by
at_nothing s at g datum x r d e q f = f ∙ ap (item_by s g at) (sym q ∙ e ∙ ap (seen_at s at) d)

pub ruleset places = (at_item, at_nothing, item_start, item_room, rules)

-- ---- the items of an accepted set

-- in the group of a phase, what stands at a place is what stands there in that phase
item_in : (s : List ℕ) (at g : ℕ) (p : Phase) → g ≡ group_of p → item_at s at g ≡ item_by s g at (seen_in s p at)
unfolding item_at is_due if_b
item_in s at g p e =
    ap (λ (b : Bool). item_by s g at (seen_at s at b))
    (ap (λ (j : ℕ). eqb j among_data) e ∙ sym (ap is_due (data_group p) ∙ due_so (eqb (group_of p) among_data)))
  where
    due_so : (b : Bool) → is_due (if_b b (Some Data) None) ≡ b
    due_so true = refl
    due_so false = refl

-- an item of kind k at a place, as the answer has it, is the first of those that are left
told : (s : List ℕ) (at g n : ℕ) (st : State) (x : Item) (xs : List Item) (k : Kind) → g ≡ group_of st.phase
    → k ≡ kind_in st.phase x
    → part (at + 3) n s ≡ bytes_in x
    → ((p : Phase) → group_after g k ≡ group_of p → All MayEnd (state_behind st x p) xs
    → Met (item_at s) s (at + 3 + n) (group_after g k) (state_behind st x p) xs)
    → item_at s at g ≡ item_of g k (at + 3) n → All MayEnd st (x ∷ xs) → Met (item_at s) s at g st (x ∷ xs)
unfolding item_of
told s at g n st x xs k e h b again i (p, f, rest) =
    subst (λ (r : ItemAt). Told s st x r (λ t. Met (item_at s) s r.behind r.group t xs)) (sym i)
    (record { kinds = h; bytes = b; phase = p; due = f; rest = again p group rest })
  where
    group : group_after g k ≡ group_of p
    group =
        ap (λ (j : ℕ). group_after j k) e ∙ ap (group_after (group_of st.phase)) h
        ∙ sym (due_group st.phase p (kind_in st.phase x) f.due)

-- nothing is left: the image ends here
met_end : (s : List ℕ) (at g : ℕ) → length s ≤ at → item_at s at g ≡ item_of g end_of_image at 0
unfolding item_at item_by seen_at seen_by
met_end s at g h =
    ap (λ (q : Shape). item_by s g at (seen_by s at (eqb g among_data) q)) (sym (shape_past s at h)) ∙ sym (rest_end s g at _ refl h)

-- from any place on, what is left without fault is met item by item
met : (s : List ℕ) (at g : ℕ) (st : State) → g ≡ group_of st.phase → All MayEnd st (decode (drop at s))
    → Met (item_at s) s at g st (decode (drop at s))
unfolding item_by state_after kind_in
met s = by_place s P each
  where
    P : ℕ → Type 0
    P at = (g : ℕ) (st : State) → g ≡ group_of st.phase → All MayEnd st (decode (drop at s))
        → Met (item_at s) s at g st (decode (drop at s))

    each : (at : ℕ) → ((m : ℕ) → at < m → m ≤ length s → P m) → P at
    each at again g st e = by_seen (seen_in s st.phase at) refl
      where
        Goal : List Item → Type 0
        Goal xs = All MayEnd st xs → Met (item_at s) s at g st xs

        by_seen : (y : Option Seen) → y ≡ seen_in s st.phase at → Goal (decode (drop at s))
        by_seen None h =
            unseen s st.phase at None h refl Goal (λ past _. met_end s at g past)
            (λ (p, f, _). absurd (broken_undue st.phase p f.due))
        by_seen (Some u) h =
            let c = sees s st.phase at u.len u.kind (seen u.kind u.len) h refl in
            subst Goal (sym c.here)
            (told s at g u.len st c.item (decode (drop (at + 3 + u.len) s)) u.kind e (sym c.kind) (sym c.bytes)
            (λ p. again (at + 3 + u.len) (omega arith) c.within (group_after g u.kind) (state_behind st c.item p))
            (item_in s at g st.phase e ∙ ap (item_by s g at) (sym h)))

-- the items of an accepted set are met from its first place on, with the kinds by which it was checked
pub items_met : (s : List ℕ) → Accepted s → Met (item_at s) s 5 among_labels start (items s)
unfolding items start
items_met s a = met s 5 among_labels start refl a.followed
