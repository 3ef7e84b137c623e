-- What the walks want to know of a block and of HDR2: a block is no mark, and a record length is 1 or more. Assumes nothing.
use Rattle.std.specs.Prelude.{Option, Some, None}
use mathlib.Core.Path.{◌≡◌, refl, sym, ap, ◌∙◌}
use mathlib.Core.Bool.{Bool, true, false, false≢true}
use mathlib.Core.List.{List}
use Prim.Native.Nat.{ℕ, ◌≤◌}
use native.Mathlib.Omega.{arith}
use borrow.Author.Tests.{leb-true}
use lib.Dec.{leb, eqb}
use Rattle.base.specs.If.{if_b}
use Rattle.base.proofs.Ifs.{if_case}
use Rattle.image.specs.Item.{block}
use Rattle.order.specs.Kind.{hdr, tape_mark, is_kind}
use Rattle.order.specs.declared.Phase.{Phase}
use Rattle.label.specs.Field.{format_of, block_length_of, record_length_of, offset_of, least_record, suits_both, is_length, is_record_length, has_record_length, good}
use Rattle.label.specs.Table.{hdr2, record_length_row, fields_of}
use Rattle.label.specs.Judged.{first_bad, good_at, label_fault}
use Rattle.volume.specs.Fault.{value_of}
use Rattle.volume.specs.Step.{kind_in}
use Rattle.volume.proofs.Reels.{block_other}
use Rattle.label.proofs.Every.{all_hold_lem, sound_fields}

-- ---- a block is no mark

pub block_no_mark : (p : Phase) (l : List ℕ) → is_kind (kind_in p (block l)) tape_mark ≡ false
block_no_mark p l = block_other p l 9 0 (omega arith)

-- ---- a record length is 1 or more

least_one : (f : ℕ) → 1 ≤ least_record f
unfolding least_record
least_one f = if_case (λ (n : ℕ). 1 ≤ n) (eqb f 68) 5 1 (λ _. omega arith) (λ _. omega arith)

length_some : (f : ℕ) (b r o : Option ℕ) → is_record_length f b r o ≡ true → value_of r ≡ 0 → ⊥
unfolding is_record_length is_length value_of
length_some f b None o h z = false≢true h
length_some f b (Some r) o h z =
    if_case (λ (t : Bool). t ≡ true → ⊥) (leb (least_record f) r) (suits_both f b r o) false
    (λ a _. let k = leb-true (least_record f) r a in let m = least_one f in omega arith) (λ _ q. false≢true q) h

pub record_some : (l : List ℕ) → (label_fault (hdr 2) l).number ≡ 0 → value_of (record_length_of l) ≡ 0 → ⊥
unfolding good_at good has_record_length if_b
record_some l h =
    length_some (format_of l) (block_length_of l) (record_length_of l) (offset_of l)
    (all_hold_lem (good_at l) hdr2 (ap (first_bad (good_at l) 0) (sym table) ∙ sound_fields (hdr 2) l h) record_length_row refl)
  where
    table : fields_of (hdr 2) ≡ hdr2
    table = unfold fields_of is_kind if_b in refl
