-- Along a set that follows the order, where an item stands is known from its phase alone; and what follows what, as the law of
-- the walks wants it.
-- Assumes nothing.
use Rattle.std.specs.Prelude.{Option, Some, None}
use mathlib.Core.Path.{◌≡◌, refl, sym, ap, ◌∙◌}
use mathlib.Core.Bool.{Bool, true, false, not, false≢true}
use Prim.Native.Nat.{ℕ}
use borrow.Author.Tests.{eq-eqb, eqb-true}
use lib.Dec.{eqb}
use Rattle.base.specs.If.{if_b}
use Rattle.base.proofs.Ifs.{if_true, and_true, and_first}
use Rattle.order.specs.Kind.{hdr, eof, data_block, tape_mark, end_of_reel, is_kind}
use Rattle.order.specs.Due.{dues, choose, due_after}
use Rattle.order.specs.Group.{among_headers, among_data, group_after}
use Rattle.order.specs.declared.Kind.{Kind}
use Rattle.order.specs.declared.Phase.{Phase}
use Rattle.order.specs.declared.Phase.TheVariants.{Header, Data}
use Rattle.order.proofs.Phases.{group_of, Seen, only_data, due_seen}

-- an item that is due leads to the group of the phase behind it
pub due_group : (p q : Phase) (k : Kind) → due_after p k ≡ Some q → group_of q ≡ group_after (group_of p) k
due_group p q k e = ap (λ (x : Seen). x.group) (due_seen p k q e)

-- behind HDR2 the phase is that of HDR2
pub second_behind : (p q : Phase) → due_after p (hdr 2) ≡ Some q → q ≡ Header 2
unfolding is_kind if_b
second_behind p q e = ap (λ (x : Seen). x.second) (due_seen p (hdr 2) q e)

-- a data block leads on to data
pub block_data : (p q : Phase) → due_after p data_block ≡ Some q → q ≡ Data
unfolding group_after if_b
block_data p q e = only_data q (due_group p q data_block e)

-- among the labels before the data a mark leads to the data
pub mark_data : (p q : Phase) → group_of p ≡ among_headers → due_after p tape_mark ≡ Some q → q ≡ Data
unfolding group_after if_b
mark_data p q h e = only_data q (due_group p q tape_mark e ∙ ap (λ (g : ℕ). group_after g tape_mark) h)

-- all else is a label, and leads on among them
pub record Label (k : Kind) (q : Phase) : Type 0 where
  pub group : group_of q ≡ among_headers
  pub datum : is_kind k data_block ≡ false
  pub file_end : is_kind k (eof 1) ≡ false
  pub reel_end : is_kind k end_of_reel ≡ false

-- that is what is due among the header labels, but for the mark
pub label_labels : (p : Phase) (k : Kind) (q : Phase) → group_of p ≡ among_headers → is_kind k tape_mark ≡ false → due_after p k ≡ Some q
    → Label k q
label_labels p k q h m e =
    let l =
    sym (if_true _ _ _ (and_true _ _ (eq-eqb (group_of p) among_headers h) (ap not m)))
    ∙ ap (λ (x : Seen). x.label) (due_seen p k q e) in
    record { group = λ i. (l i).0; datum = λ i. (l i).1; file_end = λ i. (l i).2; reel_end = λ i. (l i).3 }

-- a data block is due exactly among data blocks
pub data_group : (p : Phase) → due_after p data_block ≡ if_b (eqb (group_of p) among_data) (Some Data) None
unfolding due_after dues choose is_kind if_b
data_group p = by_group (eqb (group_of p) among_data) refl
  where
    by_group : (b : Bool) → eqb (group_of p) among_data ≡ b → due_after p data_block ≡ if_b b (Some Data) None
    by_group true e = ap (λ (q : Phase). due_after q data_block) (only_data p (eqb-true (group_of p) among_data e))
    by_group false e = by_due (due_after p data_block) refl
      where
        by_due : (d : Option Phase) → due_after p data_block ≡ d → d ≡ None
        by_due (Some q) f = absurd (false≢true (sym e ∙ and_first _ _ (ap (λ (x : Seen). x.suited) (due_seen p data_block q f))))
        by_due None f = refl
