-- Laws of the search for the parts of an image. Assumes nothing.
use Rattle.content.specs.Items.{seen}
use Rattle.content.specs.declared.part.Part.{Part}
use Rattle.std.specs.Prelude.{Option, Some, None}
use mathlib.Core.Path.{◌≡◌, refl, sym, ap, ap₂, ◌∙◌, subst}
use mathlib.Core.Bool.{Bool, true, false, false≢true}
use mathlib.Core.List.{List, [], ◌∷◌, map}
use Prim.Native.Nat.{ℕ, ◌+◌, ◌-◌, ◌≤◌, ◌<◌}
use native.Mathlib.Omega.{arith}
use borrow.Author.Rules.{rules}
use borrow.Author.Tests.{eqb-true}
use lib.Dec.{eqb}
use lib.ListN.{length, drop}
use Rattle.base.specs.If.{if_b}
use Rattle.base.proofs.Ifs.{if_true, if_false, if_case, and_first}
use Rattle.image.specs.Item.{Item, broken, decode}
use Rattle.order.specs.Kind.{hdr, data_block, other, is_kind}
use Rattle.order.specs.Due.{due_after}
use Rattle.order.specs.declared.Kind.{Kind}
use Rattle.order.specs.declared.Phase.{Phase}
use Rattle.volume.specs.Step.{is_due, kind_in}
use Rattle.reading.proofs.Legality.{header_long}
use Rattle.content.specs.Part.{begins_file, led_to, continues_behind, first_behind, after, part_in, onto, parts_by, parts_from, parts_at, parts, is_wanted, first_in, first_from}
use Rattle.content.specs.Code.Seen.{seen_in}
use Rattle.content.specs.declared.items.Seen.{Seen}
use Rattle.content.specs.declared.part.Position.{Position}
use Rattle.content.specs.declared.part.Part.TheVariants.{File, Section, Block}
use Rattle.content.specs.declared.part.PartAt.{PartAt}
use Rattle.content.proofs.Places.{Sees, sees, unseen, item_within, item_start, item_room, by_place}

-- ---- the parts from an item on

-- the position at a place: the last HDR1, the phase, and whether the next HDR1 goes on with a file
abbrev pub stands : ℕ → ℕ → Phase → Bool → Position
stands at hdr1 p g = record { at = at; hdr1 = hdr1; phase = p; continues = g }

pub position_made : (c : Position) (k : Kind) (n hdr1 : ℕ) (q : Phase) (g : Bool) → hdr1 ≡ first_behind c.hdr1 (c.at + 3) k
    → g ≡ continues_behind c.continues k → stands (c.at + 3 + n) hdr1 q g ≡ after c k n q
position_made c k n hdr1 q g e f = ap₂ (λ (a : ℕ) (b : Bool). stands (c.at + 3 + n) a q b) e f

-- an item of kind k and n bytes
pub parts_seen : (s : List ℕ) (c : Position) (n : ℕ) (k : Kind) (x : Option Seen) → x ≡ seen_in s c.phase c.at → x ≡ seen k n
    → parts_at s c
    ≡ parts_by (led_to c.continues c.phase k)
    (λ q. onto (part_in c.continues c.hdr1 (c.at + 3) n k) (after c k n q) (parts_at s (after c k n q)))
unfolding parts_from
parts_seen s c n k x e q =
    let d = sees s c.phase c.at n k x e q in
    ap (parts_from c) d.here
    ∙ ap₂ (λ (j : Kind) (m : ℕ).
    parts_by (led_to c.continues c.phase j)
    (λ r. onto (part_in c.continues c.hdr1 (c.at + 3) m j) (after c j m r)
    (parts_from (after c j m r) (decode (drop (c.at + 3 + n) s))))) d.kind d.long

by_none : (d : Option Phase) → parts_by d (λ q. []) ≡ []
unfolding parts_by
by_none (Some q) = refl
by_none None = refl

parts_end : (c : Position) → parts_from c [] ≡ []
unfolding parts_from
parts_end c = refl

parts_broken : (c : Position) → parts_from c (broken ∷ []) ≡ []
unfolding parts_from led_to begins_file part_in onto kind_in is_kind if_b
parts_broken c = by_none (due_after c.phase other)

-- where no item stands there is no part
pub parts_unseen : (s : List ℕ) (c : Position) (x : Option Seen) → x ≡ seen_in s c.phase c.at → x ≡ None → parts_at s c ≡ []
parts_unseen s c x e q =
    unseen s c.phase c.at x e q (λ (xs : List Item). parts_from c xs ≡ []) (λ _. parts_end c) (parts_broken c)

-- ---- the search

first_onto : (c d : Position) (sections blocks : Bool) (p : Option Part) (ps : List PartAt) → is_wanted sections blocks p ≡ true
    → first_from c sections blocks (onto p d ps) ≡ record { part = p; behind = d }
unfolding onto first_from
first_onto c d sections blocks (Some (File a b)) ps h = if_true _ _ _ h
first_onto c d sections blocks (Some (Section a b)) ps h = if_true _ _ _ h
first_onto c d sections blocks (Some (Block a n)) ps h = if_true _ _ _ h
first_onto c d sections blocks None ps h = absurd (false≢true (unfold is_wanted in h))

first_past : (c d : Position) (sections blocks : Bool) (p : Option Part) (ps : List PartAt) → is_wanted sections blocks p ≡ false
    → first_from c sections blocks (onto p d ps) ≡ first_from c sections blocks ps
unfolding onto first_from
first_past c d sections blocks (Some (File a b)) ps h = if_false _ _ _ h
first_past c d sections blocks (Some (Section a b)) ps h = if_false _ _ _ h
first_past c d sections blocks (Some (Block a n)) ps h = if_false _ _ _ h
first_past c d sections blocks None ps h = refl

-- what is found from a place on is what is found from the first
pub record Searching (s : List ℕ) (from : Position) (sections blocks : Bool) (c : Position) : Type 0 where
  pub room : length s < 18446744073709551616
  pub same : first_from from sections blocks (parts_at s c) ≡ first_from from sections blocks (parts_at s from)

pub search_begun : (s : List ℕ) (from : Position) (sections blocks : Bool) → length s < 18446744073709551616
    → Searching s from sections blocks from
search_begun s from sections blocks h = record { room = h; same = refl }

module _ (s : List ℕ) (from : Position) (sections blocks : Bool) (c : Position) (h : Searching s from sections blocks c)
    (x : Option Seen) (e : x ≡ seen_in s c.phase c.at) where
  pub search_nothing : x ≡ None
      → ◌≡◌ {A = PartAt} (record { part = None; behind = from }) (first_from from sections blocks (parts_at s from))
  unfolding first_from
  search_nothing q = sym (ap (first_from from sections blocks) (parts_unseen s c x e q)) ∙ h.same

  module _ (item : Seen) (d : Option Phase) (q : x ≡ Some item) (u : d ≡ led_to c.continues c.phase item.kind) where
    parts_led : (y : Option Phase) → d ≡ y
        → parts_at s c
        ≡ parts_by y (λ r. onto (part_in c.continues c.hdr1 (c.at + 3) item.len item.kind) (after c item.kind item.len r) (parts_at s (after c item.kind item.len r)))
    parts_led y w =
        parts_seen s c item.len item.kind x e q
        ∙ ap (λ (y : Option Phase). parts_by y
        (λ r. onto (part_in c.continues c.hdr1 (c.at + 3) item.len item.kind) (after c item.kind item.len r) (parts_at s (after c item.kind item.len r)))) (sym u ∙ w)

    pub search_wrong : d ≡ None
        → ◌≡◌ {A = PartAt} (record { part = None; behind = from }) (first_from from sections blocks (parts_at s from))
    unfolding first_from parts_by
    search_wrong w = sym (ap (first_from from sections blocks) (parts_led None w)) ∙ h.same

    -- an item that leads on
    module _ (r : Phase) (w : d ≡ Some r) (p : Option Part) (m : p ≡ part_in c.continues c.hdr1 (c.at + 3) item.len item.kind)
        (a : Position) (i : a ≡ after c item.kind item.len r) (b : Bool) (f : b ≡ is_wanted sections blocks p) where
      search_step : parts_at s c ≡ onto p a (parts_at s a)
      unfolding parts_by
      search_step = parts_led (Some r) w ∙ (λ z. onto (sym m z) (sym i z) (parts_at s (sym i z)))

      pub search_found : b ≡ true
          → ◌≡◌ {A = PartAt} (record { part = p; behind = a }) (first_from from sections blocks (parts_at s from))
      search_found t =
          sym (ap (first_from from sections blocks) search_step ∙ first_onto from a sections blocks p (parts_at s a) (sym f ∙ t))
          ∙ h.same

      pub search_more : b ≡ false → Searching s from sections blocks a
      search_more t =
          record {
            room = h.room;
            same =
                sym (ap (first_from from sections blocks) search_step
                ∙ first_past from a sections blocks p (parts_at s a) (sym f ∙ t)) ∙ h.same;
          }

pub search_falls : (s : List ℕ) (c : Position) (item : Seen) (r : Phase) (x : Option Seen) (a : Position)
    → x ≡ seen_in s c.phase c.at → x ≡ Some item → a ≡ after c item.kind item.len r → length s - a.at < length s - c.at
search_falls s c item r x a e q i =
    let w = item_within s c.at (is_due (due_after c.phase data_block)) item x e q in
    subst (λ (b : Position). length s - b.at < length s - c.at) (sym i) (omega arith)

pub ruleset searchings =
    (search_begun, search_nothing, search_wrong, search_found, search_more, search_falls, item_start, item_room, rules)

-- which parts are looked for
pub wants_file : (sections blocks : Bool) (p : Option Part) (a b : ℕ) → p ≡ Some (File a b) → true ≡ is_wanted sections blocks p
unfolding is_wanted
wants_file sections blocks p a b e = sym (ap (is_wanted sections blocks) e)

pub wants_section : (sections blocks : Bool) (p : Option Part) (a b : ℕ) → p ≡ Some (Section a b) → sections ≡ is_wanted sections blocks p
unfolding is_wanted
wants_section sections blocks p a b e = sym (ap (is_wanted sections blocks) e)

pub wants_block : (sections blocks : Bool) (p : Option Part) (a n : ℕ) → p ≡ Some (Block a n) → blocks ≡ is_wanted sections blocks p
unfolding is_wanted
wants_block sections blocks p a n e = sym (ap (is_wanted sections blocks) e)

pub wants_none : (sections blocks : Bool) (p : Option Part) → p ≡ None → false ≡ is_wanted sections blocks p
unfolding is_wanted
wants_none sections blocks p e = sym (ap (is_wanted sections blocks) e)

pub ruleset wants = (wants_file, wants_section, wants_block, wants_none, rules)

-- what is found, without its place
pub found_part : (c : Position) (sections blocks : Bool) (ps : List PartAt)
    → (first_from c sections blocks ps).part ≡ first_in sections blocks (map (λ (p : PartAt). p.part) ps)
unfolding first_from first_in
found_part c sections blocks [] = refl
found_part c sections blocks (p ∷ ps) = by_wanted (is_wanted sections blocks p.part) (found_part c sections blocks ps)
  where
    by_wanted : (b : Bool) → (first_from c sections blocks ps).part ≡ first_in sections blocks (map (λ (q : PartAt). q.part) ps)
        → (if_b b p (first_from c sections blocks ps)).part
        ≡ if_b b p.part (first_in sections blocks (map (λ (q : PartAt). q.part) ps))
    by_wanted true again = unfold if_b in refl
    by_wanted false again = unfold if_b in again

-- ---- a part is further on, and inside the image

-- n bytes from place `start` on, behind place `at`
pub record BlockAhead (s : List ℕ) (at start n : ℕ) : Type 0 where
  pub onward : at + 3 ≤ start
  pub within : start + n ≤ length s

-- a block, or the HDR2 of a file or section
abbrev pub IsAhead : List ℕ → ℕ → Option Part → Type 0
IsAhead s at (Some (File a b)) = BlockAhead s at b 80
IsAhead s at (Some (Section a b)) = BlockAhead s at b 80
IsAhead s at (Some (Block start n)) = BlockAhead s at start n
IsAhead s at None = Unit {0}

ahead_more : (s : List ℕ) (at m : ℕ) (p : Option Part) → at < m → IsAhead s m p → IsAhead s at p
ahead_more s at m (Some (File a b)) h c = record { onward = omega (arith, c.onward); within = c.within }
ahead_more s at m (Some (Section a b)) h c = record { onward = omega (arith, c.onward); within = c.within }
ahead_more s at m (Some (Block start n)) h c = record { onward = omega (arith, c.onward); within = c.within }
ahead_more s at m None h c = tt

kind_family : (k : Kind) → is_kind k (hdr 2) ≡ true → k.family ≡ 3
unfolding is_kind
kind_family k h = eqb-true k.family 3 (and_first (eqb k.family 3) (eqb k.number 2) h)

item_ahead : (s : List ℕ) (p : Phase) (g : Bool) (hdr1 at n : ℕ) (k : Kind) → Sees s p at k n
    → IsAhead s at (part_in g hdr1 (at + 3) n k)
unfolding part_in
item_ahead s p g hdr1 at n k c =
    if_case (IsAhead s at) (is_kind k data_block) _ _ (λ _. record { onward = omega arith; within = c.within })
    (λ _. if_case (IsAhead s at) (is_kind k (hdr 2)) _ _ (λ h. label (long h) g) (λ _. tt))
  where
    long : is_kind k (hdr 2) ≡ true → n ≡ 80
    long h = sym c.long ∙ header_long p c.item (ap (λ (j : Kind). j.family) c.kind ∙ kind_family k h)

    label : n ≡ 80 → (b : Bool) → IsAhead s at (if_b b (Some (Section hdr1 (at + 3))) (Some (File hdr1 (at + 3))))
    label e true = unfold if_b in record { onward = omega arith; within = omega (arith, e, c.within) }
    label e false = unfold if_b in record { onward = omega arith; within = omega (arith, e, c.within) }

first_map : (sections blocks : Bool) (p : Option Part) (c : Position) (ps : List PartAt)
    → first_in sections blocks (map (λ (q : PartAt). q.part) (onto p c ps))
    ≡ if_b (is_wanted sections blocks p) p (first_in sections blocks (map (λ (q : PartAt). q.part) ps))
unfolding first_in onto
first_map sections blocks (Some (File a b)) c ps = refl
first_map sections blocks (Some (Section a b)) c ps = refl
first_map sections blocks (Some (Block a n)) c ps = refl
first_map sections blocks None c ps = unfold is_wanted if_b in refl

-- what is found from a place on stands no earlier
pub first_ahead : (s : List ℕ) (sections blocks : Bool) (at hdr1 : ℕ) (p : Phase) (g : Bool)
    → IsAhead s at (first_in sections blocks (parts (stands at hdr1 p g) (decode (drop at s))))
first_ahead s sections blocks at = by_place s P each at
  where
    first : Position → Option Part
    first c = first_in sections blocks (parts c (decode (drop c.at s)))

    P : ℕ → Type 0
    P i = (hdr1 : ℕ) (p : Phase) (g : Bool) → IsAhead s i (first (stands i hdr1 p g))

    each : (i : ℕ) → ((m : ℕ) → i < m → m ≤ length s → P m) → P i
    each i again hdr1 p g = by_seen (seen_in s p i) refl
      where
        c : Position
        c = stands i hdr1 p g

        nothing : parts_at s c ≡ [] → IsAhead s i (first c)
        nothing e = subst (λ (ps : List PartAt). IsAhead s i (first_in sections blocks (map (λ (q : PartAt). q.part) ps))) (sym e) (unfold first_in in tt)

        by_seen : (x : Option Seen) → x ≡ seen_in s p i → IsAhead s i (first c)
        by_seen None e = nothing (parts_unseen s c None e refl)
        by_seen (Some u) e = by_due (led_to g p u.kind) refl
          where
            there : Sees s p i u.kind u.len
            there = sees s p i u.len u.kind (seen u.kind u.len) e refl

            all : (d : Option Phase) → led_to g p u.kind ≡ d
                → parts_at s c ≡ parts_by d (λ q. onto (part_in g hdr1 (i + 3) u.len u.kind) (after c u.kind u.len q) (parts_at s (after c u.kind u.len q)))
            all d h =
                parts_seen s c u.len u.kind (seen u.kind u.len) e refl
                ∙ ap (λ (y : Option Phase). parts_by y
                (λ q. onto (part_in g hdr1 (i + 3) u.len u.kind) (after c u.kind u.len q) (parts_at s (after c u.kind u.len q)))) h

            by_due : (d : Option Phase) → led_to g p u.kind ≡ d → IsAhead s i (first c)
            by_due None h = unfold parts_by in nothing (all None h)
            by_due (Some q) h = unfold parts_by in
                subst (IsAhead s i)
                (sym (ap (λ (ps : List PartAt). first_in sections blocks (map (λ (r : PartAt). r.part) ps)) (all (Some q) h)
                ∙ first_map sections blocks (part_in g hdr1 (i + 3) u.len u.kind) (after c u.kind u.len q) (parts_at s (after c u.kind u.len q))))
                (if_case (IsAhead s i) (is_wanted sections blocks (part_in g hdr1 (i + 3) u.len u.kind)) (part_in g hdr1 (i + 3) u.len u.kind)
                (first (after c u.kind u.len q))
                (λ _. item_ahead s p g hdr1 i u.len u.kind there)
                (λ _.
                ahead_more s i (i + 3 + u.len) (first (after c u.kind u.len q)) (omega arith)
                (again (i + 3 + u.len) (omega arith) there.within (first_behind hdr1 (i + 3) u.kind) q (continues_behind g u.kind))))
