-- The turn of what stands at a spot: a block, or an item without bytes. Assumes nothing.
use Rattle.std.specs.Prelude.{Option, Some, None}
use mathlib.Core.Path.{◌≡◌, refl, sym, ap, ◌∙◌, subst}
use mathlib.Core.Bool.{true, false, false≢true}
use mathlib.Core.List.{List, [], ◌∷◌}
use Prim.Native.Nat.{ℕ, ◌+◌, ◌-◌, ◌≤◌, ◌<◌}
use native.Mathlib.Omega.{arith}
use borrow.Author.Rules.{rules}
use borrow.Author.Tests.{eq-eqb, eqb-true}
use mir.Val.{Fits}
use mir.Syntax.{w32, w64}
use lib.Dec.{eqb}
use lib.ListN.{length, take, drop}
use Rattle.image.specs.Framing.{most_image}
use Rattle.base.specs.If.{if_b}
use Rattle.base.proofs.Ifs.{if_true, if_false, if_case}
use Rattle.base.specs.Part.{part}
use Rattle.base.specs.Answer.{fault, or_else}
use Rattle.base.specs.declared.Verdict.{Verdict}
use Rattle.image.specs.Item.{Item, block, mark, reel_end, broken, decode, shape}
use Rattle.image.specs.declared.Shape.{Shape}
use Rattle.image.specs.declared.Shape.TheVariants.{Block, Mark, ReelEnd, Broken}
use Rattle.image.proofs.Items.{decode_past, decode_block, decode_mark, decode_reel_end, decode_broken, block_within, mark_within, reel_end_within}
use Rattle.order.specs.Kind.{kind, other, data_block, is_kind}
use Rattle.order.specs.Due.{due_after}
use Rattle.order.specs.declared.Kind.{Kind}
use Rattle.order.specs.declared.Phase.{Phase}
use Rattle.base.proofs.Parts.{part_within, length_part}
use Rattle.label.specs.Name.{kind_of, named}
use Rattle.label.specs.Table.{fields_of}
use Rattle.label.specs.Judged.{label_fault, field_fault, first_bad, access_of, access_at}
use Rattle.volume.specs.declared.Reading.{Reading}
use Rattle.volume.specs.declared.walk.Spot.{Spot}
use Rattle.volume.specs.declared.walk.Turn.{Turn}
use Rattle.volume.specs.State.{State}
use Rattle.volume.specs.Fault.{item_fault, context_fault}
use Rattle.volume.specs.Step.{step, is_due, ordered, judged, kind_in, bytes_in, state_after, events_of, volumes_after, files_after, continues_after, hdr1_after, hdr2_after, count_after, pending_after}
use Rattle.volume.specs.Code.Told.{told_next, told_from}
use Rattle.volume.specs.Code.Place.{contents}
use Rattle.volume.specs.Code.Walk.{told_at, told_step, told_by, told_after, places_after, last_turn, on_turn, bare_turn, phased, in_phase, Bare, BlockHere, BareHere, LabelSized, Bounded, DidTurn}
use Rattle.volume.proofs.Reels.{broken_undue}
use Rattle.volume.proofs.Walks.{small, owes_last, undue_told, owes_undue, owes_fault, told_on, onward_made, owes_on, owes_due, owes_end, owes_early}

-- ---- the item that stands at a spot

told_item : (s volumes : List ℕ) (x : Spot) (y : Item) (behind : ℕ) → decode (drop x.at s) ≡ y ∷ decode (drop behind s)
    → told_by s volumes x (kind_in x.state.phase y) (bytes_in y) behind ≡ told_at s volumes x
unfolding told_by told_step told_at told_from step contents
told_item s volumes x y behind h =
    let t : State = contents s volumes x.state in
    ap (λ (xs : List Item). told_next x.item t xs (step t y) (λ u. told_from (x.item + 1) u (decode (drop behind s)))) h
    ∙ sym (ap (told_from x.item t) h)

-- ---- what a block is

pub kind_label : (p : Phase) (l : List ℕ) (d : Option Phase) (k : Kind) → d ≡ due_after p data_block → d ≡ None → k ≡ kind_of l
    → k ≡ kind_in p (block l)
unfolding kind_in is_due
kind_label p l d k e w q = q ∙ sym (if_false _ _ _ (ap is_due (sym e ∙ w)))

pub kind_data : (p t : Phase) (l : List ℕ) (d : Option Phase) → d ≡ due_after p data_block → d ≡ Some t → data_block ≡ kind_in p (block l)
unfolding kind_in is_due
kind_data p t l d e w = sym (if_true _ _ _ (ap is_due (sym e ∙ w)))

-- a block that is kept by its place is a label of 80 bytes
sized_of : (p : Phase) (l : List ℕ) (f n : ℕ) → (is_kind data_block (kind f n) ≡ false) → (is_kind other (kind f n) ≡ false)
    → is_kind (kind_in p (block l)) (kind f n) ≡ true → length l ≡ 80
unfolding kind_in kind_of
sized_of p l f n d o =
    if_case (λ (k : Kind). is_kind k (kind f n) ≡ true → length l ≡ 80) (is_due (due_after p data_block)) data_block (kind_of l)
    (λ _ h. absurd (false≢true (sym d ∙ h)))
    (λ _. if_case (λ (k : Kind). is_kind k (kind f n) ≡ true → length l ≡ 80) (eqb (length l) 80) (named l) other
    (λ e _. eqb-true (length l) 80 e) (λ _ h. absurd (false≢true (sym o ∙ h))))

pub sized_block : (s : List ℕ) (x : Spot) (n : ℕ) (k : Kind) → BlockHere s x n
    → k ≡ kind_in x.state.phase (block (take (x.at + 3 + n - (x.at + 3)) (drop (x.at + 3) s))) → LabelSized k n
unfolding is_kind
sized_block s x n k h e =
    let l : List ℕ = take (x.at + 3 + n - (x.at + 3)) (drop (x.at + 3) s) in
    let long : length l ≡ n = ap length (part_within (x.at + 3) n s) ∙ length_part (x.at + 3) n s (omega (arith, h.within)) in
    let at : (f m : ℕ) → is_kind data_block (kind f m) ≡ false → is_kind other (kind f m) ≡ false → is_kind k (kind f m) ≡ true → n ≡ 80
    = λ f m d o q. sym long ∙ sized_of x.state.phase l f m d o (ap (λ (j : Kind). is_kind j (kind f m)) (sym e) ∙ q) in
    record { volume = at 1 1 refl refl; hdr1 = at 3 1 refl refl; hdr2 = at 3 2 refl refl }

pub owes_block : (s volumes : List ℕ) (x : Spot) (n : ℕ) (k : Kind) (r : Turn) → BlockHere s x n
    → k ≡ kind_in x.state.phase (block (take (x.at + 3 + n - (x.at + 3)) (drop (x.at + 3) s)))
    → DidTurn s volumes x.at (told_by s volumes x k (part (x.at + 3) n s) (x.at + 3 + n)) r
    → DidTurn s volumes x.at (told_at s volumes x) r
unfolding bytes_in
owes_block s volumes x n k r h e o =
    let l : List ℕ = part (x.at + 3) n s in
    let same : k ≡ kind_in x.state.phase (block l) = e ∙ ap (λ (m : List ℕ). kind_in x.state.phase (block m)) (part_within (x.at + 3) n s) in
    subst (λ (v : Verdict). DidTurn s volumes x.at v r)
    (ap (λ (j : Kind). told_by s volumes x j l (x.at + 3 + n)) same ∙ told_item s volumes x (block l) (x.at + 3 + n) h.here) o

-- ---- items without bytes

bare_told : (s volumes : List ℕ) (x : Spot) (family : ℕ) → BareHere s x family
    → told_by s volumes x (kind family 0) [] (x.at + 3) ≡ told_at s volumes x
bare_told s volumes x family h =
    let y : Item = h.here.0 in
    ap (λ (l : List ℕ). told_by s volumes x (kind family 0) l (x.at + 3)) (sym h.here.3)
    ∙ ap (λ (j : Kind). told_by s volumes x j (bytes_in y) (x.at + 3)) (sym h.here.2)
    ∙ told_item s volumes x y (x.at + 3) h.here.1

pub bare_undue : (s volumes : List ℕ) (x : Spot) (family : ℕ) (d : Option Phase) (r : Turn) → BareHere s x family
    → d ≡ due_after x.state.phase (kind family 0) → d ≡ None
    → r ≡ last_turn x 3 0 → DidTurn s volumes x.at (told_at s volumes x) r
bare_undue s volumes x family d r h e w q =
    owes_last s volumes x _ 3 0 r h.bounded q
    (sym (bare_told s volumes x family h) ∙ undue_told s volumes x (kind family 0) [] (x.at + 3) d e w)

pub bare_on : (s volumes : List ℕ) (x : Spot) (family : ℕ) (d : Option Phase) (p : Phase) (r : Turn) → BareHere s x family
    → d ≡ due_after x.state.phase (kind family 0) → d ≡ Some p → r ≡ bare_turn x p
    → DidTurn s volumes x.at (told_at s volumes x) r
unfolding told_by ordered judged told_after told_at places_after if_b contents
bare_on s volumes x family d p r h e w q =
    let u : State = contents s volumes x.state in
    let k : Kind = kind family 0 in
    let behind : ℕ = x.at + 3 in
    let b : Bounded s x.at x.item x.state = h.bounded in
    let bare : Bare u p k = h.bare u p in
    let told : told_at s volumes x ≡ told_from (x.item + 1) (phased u p) (decode (drop behind s))
    = sym (bare_told s volumes x family h)
    ∙ ap (λ (y : Option Phase). told_step s volumes x behind (ordered u k [] y)) (sym e ∙ w)
    ∙ ap (told_step s volumes x behind) (if_true _ _ _ (eq-eqb _ 0 bare.sound))
    ∙ told_on s volumes x behind (state_after u p k []) (events_of u k [])
    ∙ ap (λ (y : State). told_from (x.item + 1) y (decode (drop behind s))) bare.same in
    subst (DidTurn s volumes x.at (told_at s volumes x)) (sym q)
    (record {
      same = sym told;
      onward = λ _. omega arith;
      bounded =
          record {
            short = b.short;
            within = h.within;
            items = omega (arith, b.items);
            files = omega (arith, b.files);
            blocks = omega (arith, b.blocks);
          };
      few = λ most. most;
    })

pub bare_mark : (s : List ℕ) (x : Spot) (p : Shape) → Bounded s x.at x.item x.state
    → x.at < length s
    → p ≡ shape (drop x.at s) → p ≡ Mark → BareHere s x 9
unfolding is_kind kind_in bytes_in item_fault or_else label_fault field_fault fields_of first_bad access_of access_at context_fault if_b fault state_after volumes_after files_after continues_after hdr1_after hdr2_after count_after pending_after
bare_mark s x p b m e q =
    record {
      bounded = b;
      within = mark_within s x.at p e q;
      here = (mark, decode_mark s x.at p m e q, refl, refl);
      bare = λ t p. record { sound = refl; same = refl };
    }

pub bare_reel_end : (s : List ℕ) (x : Spot) (p : Shape) → Bounded s x.at x.item x.state
    → x.at < length s
    → p ≡ shape (drop x.at s) → p ≡ ReelEnd
    → BareHere s x 10
unfolding is_kind kind_in bytes_in item_fault or_else label_fault field_fault fields_of first_bad access_of access_at context_fault if_b fault state_after volumes_after files_after continues_after hdr1_after hdr2_after count_after pending_after
bare_reel_end s x p b m e q =
    record {
      bounded = b;
      within = reel_end_within s x.at p e q;
      here = (reel_end, decode_reel_end s x.at p m e q, refl, refl);
      bare = λ t p. record { sound = refl; same = refl };
    }

-- what is broken is never due
broken_wrong : (p : Phase) (d : Option Phase) → d ≡ due_after p other → d ≡ None
broken_wrong p None e = refl
broken_wrong p (Some q) e = absurd (broken_undue p q (sym e))

pub owes_broken : (s volumes : List ℕ) (x : Spot) (p : Shape) (r : Turn) → Bounded s x.at x.item x.state
    → x.at < length s
    → p ≡ shape (drop x.at s) → p ≡ Broken
    → r ≡ last_turn x 3 0 → DidTurn s volumes x.at (told_at s volumes x) r
unfolding kind_in bytes_in
owes_broken s volumes x p r b m e q t =
    let here : decode (drop x.at s) ≡ broken ∷ decode (drop (length s) s)
    = decode_broken s x.at p m e q ∙ ap (λ (xs : List Item). broken ∷ xs) (sym (decode_past s (length s) (omega arith))) in
    owes_last s volumes x _ 3 0 r b t
    (sym (told_item s volumes x broken (length s) here)
    ∙ undue_told s volumes x other [] (length s) (due_after x.state.phase other) refl (broken_wrong x.state.phase _ refl))

pub block_stands : (s : List ℕ) (x : Spot) (n : ℕ) (p : Shape) → Bounded s x.at x.item x.state
    → x.at < length s
    → p ≡ shape (drop x.at s) → p ≡ Block n
    → BlockHere s x n
block_stands s x n p b m e q =
    record { bounded = b; here = decode_block s x.at n p m e q; within = block_within s x.at n p e q }

-- the place behind an item fits, and one item more can be counted
pub start_fits : (s : List ℕ) (x : Spot) (n : ℕ) → BlockHere s x n → Fits w64 (x.at + 3)
start_fits s x n h = record { fits = omega (arith, h.bounded.short, h.within) }

pub end_fits : (s : List ℕ) (x : Spot) (n : ℕ) → BlockHere s x n → Fits w64 (x.at + 3 + n)
end_fits s x n h = record { fits = omega (arith, h.bounded.short, h.within) }

pub name_fits : (s : List ℕ) (x : Spot) (n : ℕ) → BlockHere s x n → Fits w64 (x.at + 3 + 4)
name_fits s x n h = record { fits = omega (arith, h.bounded.short, h.within) }

pub item_fits : (s : List ℕ) (x : Spot) (n : ℕ) → BlockHere s x n → Fits w32 (x.item + 1)
item_fits s x n h = record { fits = omega (arith, h.bounded.short, h.bounded.within, h.bounded.items) }

pub block_within_image : (s : List ℕ) (x : Spot) (n : ℕ) → BlockHere s x n → x.at + 3 + n ≤ length s
block_within_image s x n h = h.within

pub bare_items : (s : List ℕ) (x : Spot) (family : ℕ) → BareHere s x family → x.item ≤ x.at
bare_items s x family h = h.bounded.items

pub bare_most : (s : List ℕ) (x : Spot) (family : ℕ) → BareHere s x family → x.at + 3 ≤ most_image
bare_most s x family h = omega (arith, h.bounded.short, h.within)

pub passed : (x : Spot) (p : Phase) (t : Reading) (r : Turn) → t ≡ in_phase x.state p
    → r ≡ on_turn (x.at + 3) (x.item + 1) t false 0 → r ≡ bare_turn x p
passed x p t r e q = q ∙ ap (λ (y : Reading). on_turn (x.at + 3) (x.item + 1) y false 0) e

pub ruleset turns = (
  small,
  owes_undue,
  owes_fault,
  owes_on,
  owes_due,
  onward_made,
  start_fits,
  name_fits,
  end_fits,
  item_fits,
  block_within_image,
  rules,
)

pub ruleset items =
    (owes_end, owes_early, kind_label, kind_data, sized_block, owes_block, bare_undue, bare_on, bare_mark, bare_reel_end, owes_broken, block_stands, start_fits, end_fits, block_within_image, bare_items, bare_most, passed, rules)
