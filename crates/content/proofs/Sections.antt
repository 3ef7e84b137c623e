-- Laws of the next data block of a file. Assumes nothing.
use Rattle.content.specs.Items.{seen}
use Rattle.std.specs.Prelude.{Option, Some, None}
use Rattle.content.specs.declared.part.Part.{Part}
use mathlib.Core.Path.{◌≡◌, refl, sym, ap, ◌∙◌, subst}
use mathlib.Core.Bool.{true, false}
use mathlib.Core.List.{List, map}
use Prim.Native.Nat.{ℕ, ◌+◌}
use borrow.Author.Rules.{rules}
use lib.ListN.{drop}
use Rattle.image.specs.Item.{shape, decode}
use Rattle.image.specs.declared.Shape.{Shape}
use Rattle.image.specs.declared.Shape.TheVariants.{Block as Bytes}
use Rattle.order.specs.Kind.{data_block, is_kind}
use Rattle.order.specs.Due.{dues, choose, due_after}
use Rattle.order.specs.declared.Phase.{Phase}
use Rattle.order.specs.declared.Phase.TheVariants.{Data}
use Rattle.base.specs.If.{if_b}
use Rattle.volume.specs.Step.{is_due}
use Rattle.content.specs.Part.{begins_file, led_to, part_in, onto, parts_by, parts_at, is_wanted, first_in, first_from}
use Rattle.content.specs.Code.Seen.{seen_in}
use Rattle.content.specs.Section.{in_file, as_block, block_in, data_from, extent}
use Rattle.content.specs.declared.part.Part.TheVariants.{File, Section, Block}
use Rattle.content.specs.declared.part.PartAt.{PartAt}
use Rattle.content.specs.declared.section.Extent.{Extent}
use Rattle.content.proofs.Places.{seen_data, start_fits}
use Rattle.content.proofs.Parts.{parts_seen, found_part, BlockAhead, IsAhead, first_ahead}

-- what the search finds
pub data_found : (s : List ℕ) (at : ℕ) (r : PartAt) (p : Option Part) (x : Option Extent)
    → r ≡ first_from (in_file Data at) false true (parts_at s (in_file Data at)) → p ≡ r.part
    → x ≡ as_block p → x ≡ data_from Data at (decode (drop at s))
unfolding data_from block_in
data_found s at r p x e f q =
    q ∙ ap as_block (f ∙ ap (λ (y : PartAt). y.part) e ∙ found_part (in_file Data at) false true (parts_at s (in_file Data at)))

pub as_file_lem : (p : Option Part) (a b : ℕ) → p ≡ Some (File a b) → None ≡ as_block p
unfolding as_block
as_file_lem p a b e = sym (ap as_block e)

pub as_section : (p : Option Part) (a b : ℕ) → p ≡ Some (Section a b) → None ≡ as_block p
unfolding as_block
as_section p a b e = sym (ap as_block e)

pub as_block_lem : (p : Option Part) (start n : ℕ) → p ≡ Some (Block start n) → extent start n ≡ as_block p
unfolding as_block
as_block_lem p start n e = sym (ap as_block e)

pub as_none : (p : Option Part) → p ≡ None → None ≡ as_block p
unfolding as_block
as_none p e = sym (ap as_block e)

pub ruleset blocks = (as_file_lem, as_section, as_block_lem, as_none, rules)

pub data_first : (s : List ℕ) (from n : ℕ) (q : Shape) → q ≡ shape (drop from s) → q ≡ Bytes n
    → extent (from + 3) n ≡ data_from Data from (decode (drop from s))
unfolding data_from block_in as_block first_in is_wanted onto parts_by part_in led_to begins_file is_due due_after dues choose is_kind if_b
data_first s from n q e b =
    let stood : seen data_block n ≡ seen_in s Data from = seen_data s from true q e n (seen data_block n) b refl refl in
    sym (ap (λ (ps : List PartAt). as_block (first_in false true (map (λ (p : PartAt). p.part) ps)))
    (parts_seen s (in_file Data from) n data_block (seen data_block n) stood refl))

pub ruleset firsts = (data_found, data_first, start_fits, rules)

-- ---- the next data block is further on, and inside the image

abbrev IfAt : (ℕ → ℕ → Type 0) → Option Extent → Type 0
IfAt P (Some u) = P u.start u.len
IfAt P None = ◌≡◌ {A = Option Extent} None None

block_ahead : (s : List ℕ) (at : ℕ) (p : Option Part) → IsAhead s at p → IfAt (BlockAhead s at) (as_block p)
unfolding as_block
block_ahead s at (Some (File a b)) h = refl
block_ahead s at (Some (Section a b)) h = refl
block_ahead s at (Some (Block start n)) h = h
block_ahead s at None h = refl

pub data_within : (s : List ℕ) (p : Phase) (at start n : ℕ) → data_from p at (decode (drop at s)) ≡ extent start n
    → BlockAhead s at start n
unfolding data_from block_in
data_within s p at start n e = subst (IfAt (BlockAhead s at)) e (block_ahead s at _ (first_ahead s false true at 0 p false))
