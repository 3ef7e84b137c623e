-- Laws of the items of an image by their places: what stands at a place, and induction over places. Assumes nothing.
use Rattle.std.specs.Prelude.{Option, Some, None}
use mathlib.Core.Path.{◌≡◌, refl, sym, ap, ◌∙◌, subst}
use mathlib.Core.Bool.{Bool, true, false}
use mathlib.Core.List.{List, [], ◌∷◌}
use Prim.Native.Nat.{ℕ, zero, suc, ◌+◌, ◌-◌, ◌≤◌, ◌<◌}
use native.Mathlib.Omega.{arith}
use native.Mathlib.Decide.{dec_lt}
use mir.Val.{Fits}
use mir.Syntax.{w64}
use borrow.Author.Rules.{rules}
use lib.ListN.{length, take, drop}
use Rattle.base.specs.If.{if_b}
use Rattle.base.proofs.Ifs.{if_true, if_false}
use Rattle.base.specs.Part.{part}
use Rattle.base.proofs.Parts.{length_part, part_within}
use Rattle.image.specs.Item.{Item, block, mark, reel_end, broken, shape, decode}
use Rattle.image.specs.declared.Shape.{Shape}
use Rattle.image.specs.declared.Shape.TheVariants.{Block as Bytes, Mark, ReelEnd, Broken}
use Rattle.image.proofs.Items.{block_within, mark_within, reel_end_within, decode_block, decode_mark, decode_reel_end, decode_broken, decode_past}
use Rattle.order.specs.Kind.{data_block, tape_mark, end_of_reel, is_kind}
use Rattle.order.specs.Due.{dues, choose, due_after}
use Rattle.order.specs.declared.Kind.{Kind}
use Rattle.order.specs.declared.Phase.{Phase}
use Rattle.order.specs.declared.Phase.TheVariants.{Reel, Data}
use Rattle.label.specs.Name.{kind_of}
use Rattle.volume.specs.Step.{is_due, kind_in, bytes_in}
use Rattle.content.specs.Items.{seen_by, seen_at, seen}
use Rattle.content.specs.Code.Seen.{seen_in}
use Rattle.content.specs.declared.items.Seen.{Seen}

-- ---- what stands at a place

module _ (s : List ℕ) (at : ℕ) (datum : Bool) (q : Shape) (e : q ≡ shape (drop at s)) where
  seen_by_lem : (r : Shape) → q ≡ r → seen_by s at datum r ≡ seen_at s at datum
  unfolding seen_at
  seen_by_lem r b = ap (seen_by s at datum) (sym b ∙ e)

  pub seen_data : (n : ℕ) (x : Option Seen) → q ≡ Bytes n → datum ≡ true → x ≡ seen data_block n → x ≡ seen_at s at datum
  unfolding seen_by
  seen_data n x b h f = f ∙ sym (ap (λ (k : Kind). seen k n) (if_true _ _ _ h)) ∙ seen_by_lem (Bytes n) b

  pub seen_label : (n : ℕ) (k : Kind) → q ≡ Bytes n → datum ≡ false
      → k ≡ kind_of (take (at + 3 + n - (at + 3)) (drop (at + 3) s)) → seen k n ≡ seen_at s at datum
  unfolding seen_by
  seen_label n k b h f =
      ap (λ (j : Kind). seen j n) (f ∙ ap kind_of (part_within (at + 3) n s) ∙ sym (if_false _ _ _ h)) ∙ seen_by_lem (Bytes n) b

  pub seen_mark : (x : Option Seen) → q ≡ Mark → x ≡ seen tape_mark 0 → x ≡ seen_at s at datum
  unfolding seen_by
  seen_mark x b f = f ∙ seen_by_lem Mark b

  pub seen_reel_end : (x : Option Seen) → q ≡ ReelEnd → x ≡ seen end_of_reel 0 → x ≡ seen_at s at datum
  unfolding seen_by
  seen_reel_end x b f = f ∙ seen_by_lem ReelEnd b

  pub seen_nothing : q ≡ Broken → None ≡ seen_at s at datum
  unfolding seen_by
  seen_nothing b = seen_by_lem Broken b

pub start_fits : (s : List ℕ) (at n : ℕ) (q : Shape) → q ≡ shape (drop at s) → q ≡ Bytes n → length s < 18446744073709551616
    → Fits w64 (at + 3)
start_fits s at n q e b h = record { fits = omega (arith, block_within s at n q e b) }

pub end_fits : (s : List ℕ) (at n : ℕ) (q : Shape) → q ≡ shape (drop at s) → q ≡ Bytes n → length s < 18446744073709551616
    → Fits w64 (at + 3 + n)
end_fits s at n q e b h = record { fits = omega (arith, block_within s at n q e b) }

pub ruleset seens = (seen_data, seen_label, seen_mark, seen_reel_end, seen_nothing, start_fits, end_fits, block_within, rules)

-- in a phase
module _ (s : List ℕ) (p : Phase) (at : ℕ) (d : Option Phase) (x : Option Seen) (e : d ≡ due_after p data_block) where
  pub seen_due : (r : Phase) → d ≡ Some r → x ≡ seen_at s at true → x ≡ seen_in s p at
  unfolding is_due
  seen_due r q f = f ∙ ap (λ (y : Option Phase). seen_at s at (is_due y)) (sym q ∙ e)

  pub seen_undue : d ≡ None → x ≡ seen_at s at false → x ≡ seen_in s p at
  unfolding is_due
  seen_undue q f = f ∙ ap (λ (y : Option Phase). seen_at s at (is_due y)) (sym q ∙ e)

pub ruleset seens_in = (seen_due, seen_undue, rules)

-- an item of kind k and n bytes stands at a place, and the others follow it
pub record Sees (s : List ℕ) (p : Phase) (at : ℕ) (k : Kind) (n : ℕ) : Type 0 where
  pub item : Item
  pub here : decode (drop at s) ≡ item ∷ decode (drop (at + 3 + n) s)
  pub kind : kind_in p item ≡ k
  pub bytes : bytes_in item ≡ part (at + 3) n s
  pub long : length (bytes_in item) ≡ n
  pub within : at + 3 + n ≤ length s

block_seen : (s : List ℕ) (p : Phase) (at n : ℕ) → shape (drop at s) ≡ Bytes n
    → Sees s p at (kind_in p (block (part (at + 3) n s))) n
unfolding bytes_in
block_seen s p at n e =
    let w : at + 3 + n ≤ length s = block_within s at n (Bytes n) (sym e) refl in
    record {
      item = block (part (at + 3) n s);
      here = decode_block s at n (Bytes n) (omega arith) (sym e) refl;
      kind = refl;
      bytes = refl;
      long = length_part (at + 3) n s w;
      within = w;
    }

bare_seen : (s : List ℕ) (p : Phase) (at : ℕ) (x : Item) (k : Kind) → decode (drop at s) ≡ x ∷ decode (drop (at + 3) s)
    → kind_in p x ≡ k → bytes_in x ≡ []
    → at + 3 ≤ length s → Sees s p at k 0
unfolding part
bare_seen s p at x k h e b w =
    let z : at + 3 ≡ at + 3 + 0 = omega arith in
    record {
      item = x;
      here = h
          ∙ ap (λ (i : ℕ). x ∷ decode (drop i s)) z;
      kind = e;
      bytes = b;
      long = ap length b;
      within = omega arith;
    }

-- what is said of the item at a place is said where there is one
abbrev IfSeen : (Kind → ℕ → Type 0) → Option Seen → Type 0
IfSeen P (Some u) = P u.kind u.len
IfSeen P None = ◌≡◌ {A = Option Seen} None None

seen_any : (s : List ℕ) (p : Phase) (at : ℕ) (q : Shape) → shape (drop at s) ≡ q
    → IfSeen (Sees s p at) (seen_by s at (is_due (due_after p data_block)) q)
unfolding seen_by kind_in bytes_in
seen_any s p at (Bytes n) e = block_seen s p at n e
seen_any s p at Mark e =
    let w : at + 3 ≤ length s = mark_within s at Mark (sym e) refl in
    bare_seen s p at mark tape_mark (decode_mark s at Mark (omega arith) (sym e) refl) refl refl w
seen_any s p at ReelEnd e =
    let w : at + 3 ≤ length s = reel_end_within s at ReelEnd (sym e) refl in
    bare_seen s p at reel_end end_of_reel (decode_reel_end s at ReelEnd (omega arith) (sym e) refl) refl refl w
seen_any s p at Broken e = refl

pub sees : (s : List ℕ) (p : Phase) (at n : ℕ) (k : Kind) (x : Option Seen) → x ≡ seen_in s p at → x ≡ seen k n → Sees s p at k n
unfolding seen_at
sees s p at n k x e q = subst (IfSeen (Sees s p at)) (sym e ∙ q) (seen_any s p at (shape (drop at s)) refl)

-- no item stands there: the image ends, or the item is broken
pub unseen : (s : List ℕ) (p : Phase) (at : ℕ) (x : Option Seen) → x ≡ seen_in s p at → x ≡ None → (P : List Item → Type 0)
    → (length s ≤ at → P []) → P (broken ∷ []) → P (decode (drop at s))
unfolding seen_at seen_by
unseen s p at x e q P none one = by_shape (shape (drop at s)) refl (sym e ∙ q)
  where
    by_shape : (r : Shape) → shape (drop at s) ≡ r → seen_by s at (is_due (due_after p data_block)) r ≡ None
        → P (decode (drop at s))
    by_shape (Bytes n) h t = let z : ◌≡◌ {A = ℕ} 0 1 = cc in absurd (omega arith)
    by_shape Mark h t = let z : ◌≡◌ {A = ℕ} 0 1 = cc in absurd (omega arith)
    by_shape ReelEnd h t = let z : ◌≡◌ {A = ℕ} 0 1 = cc in absurd (omega arith)
    by_shape Broken h t = by_end (dec_lt at (length s))
      where
        by_end : Dec (at < length s) → P (decode (drop at s))
        by_end (yes l) = subst P (sym (decode_broken s at Broken l (sym h) refl)) one
        by_end (no g) = let past : length s ≤ at = omega arith in subst P (sym (decode_past s at past)) (none past)

-- places behind an item are inside the image, whether blocks are data there or not
pub item_within : (s : List ℕ) (at : ℕ) (datum : Bool) (item : Seen) (x : Option Seen) → x ≡ seen_at s at datum → x ≡ Some item
    → at + 3 + item.len ≤ length s
unfolding is_due due_after dues choose is_kind if_b
item_within s at true item x e q = (sees s Data at item.len item.kind x e q).within
item_within s at false item x e q = (sees s Reel at item.len item.kind x e q).within

module _ (s : List ℕ) (at : ℕ) (datum : Bool) (item : Seen) (x : Option Seen) (e : x ≡ seen_at s at datum) (q : x ≡ Some item) where
  pub item_start : length s < 18446744073709551616 → Fits w64 (at + 3)
  item_start h = record { fits = omega (arith, item_within s at datum item x e q) }

  pub item_room : length s < 18446744073709551616 → at + 3 + item.len < 18446744073709551616
  item_room h = omega (arith, item_within s at datum item x e q)

-- ---- induction over the places of an image, from its end

by_room : (s : List ℕ) (P : ℕ → Type 0) → ((at : ℕ) → ((m : ℕ) → at < m → m ≤ length s → P m) → P at) → (f at : ℕ)
    → length s - at < f → P at
by_room s P each zero at h = absurd (omega arith)
by_room s P each (suc f) at h = each at (λ m l w. by_room s P each f m (omega arith))

pub by_place : (s : List ℕ) (P : ℕ → Type 0) → ((at : ℕ) → ((m : ℕ) → at < m → m ≤ length s → P m) → P at) → (at : ℕ) → P at
by_place s P each at = by_room s P each (suc (length s - at)) at (omega arith)
