-- Laws of reading data blocks in a row. Assumes nothing.
use mathlib.Core.Path.{◌≡◌, refl, sym, ap, ◌∙◌}
use mathlib.Core.List.{List}
use Prim.Native.Nat.{ℕ, ◌+◌, ◌-◌, ◌≤◌, ◌<◌}
use native.Mathlib.Nat.{le_refl}
use native.Mathlib.Omega.{arith}
use mir.Val.{Fits}
use mir.Syntax.{w32, w64}
use borrow.Author.Rules.{rules}
use borrow.Author.Tests.{eq-eqb}
use lib.ListN.{length, take, drop}
use Rattle.base.specs.If.{if_b}
use Rattle.base.proofs.Ifs.{if_true}
use Rattle.base.specs.Part.{part}
use Rattle.base.specs.Answer.{fault, or_else}
use Rattle.base.proofs.Parts.{part_within}
use Rattle.image.specs.Item.{block, decode, shape, block_length}
use Rattle.image.specs.declared.Shape.TheVariants.{Block}
use Rattle.image.proofs.Items.{block_within, block_there, decode_block}
use Rattle.order.specs.Kind.{data_block, is_kind}
use Rattle.order.specs.Due.{due_after, dues, choose}
use Rattle.label.specs.Table.{fields_of}
use Rattle.label.specs.Judged.{label_fault, field_fault, first_bad, access_of, access_at}
use Rattle.block.specs.Turn.{block_outcome}
use Rattle.block.specs.declared.Outcome.{Outcome}
use Rattle.volume.specs.declared.blocks.Lengths.{Lengths}
use Rattle.volume.specs.declared.blocks.Between.{Between}
use Rattle.volume.specs.State.{State}
use Rattle.volume.specs.Fault.{outcome_in, block_fault, context_fault, item_fault}
use Rattle.volume.specs.Step.{go, step, ordered, judged, kind_in, bytes_in, is_due, state_after, events_of, volumes_after, files_after, continues_after, hdr1_after, hdr2_after, count_after, pending_after}
use Rattle.volume.specs.Code.Told.{told_from}
use Rattle.volume.specs.Code.Body.{body, Given, PlaceInside, told_between, DidSkip, between}
use Rattle.volume.proofs.Runs.{told_go}

-- a data block has the fault of its units and turns, and no other
pub data_fault : (s : State) (l : List ℕ) → item_fault s data_block l ≡ block_fault s.hdr2 s.pending l
unfolding item_fault or_else label_fault field_fault fields_of first_bad access_of access_at context_fault is_kind if_b fault
data_fault s l = refl

-- one that has none is counted, and what is pending behind it kept
pub step_block : (t : State) (count pending : ℕ) (l : List ℕ) → (outcome_in t.hdr2 pending l).number ≡ 0
    → step (body t count pending) (block l)
    ≡ go (body t (count + 1) (outcome_in t.hdr2 pending l).pending) (events_of (body t count pending) data_block l)
unfolding step kind_in bytes_in is_due due_after dues choose is_kind if_b ordered judged state_after volumes_after files_after continues_after hdr1_after hdr2_after count_after pending_after block_fault fault
step_block t count pending l h =
    if_true _ _ _ (eq-eqb _ 0 (ap (λ f. f.number) (data_fault (body t count pending) l) ∙ h))

-- ---- the loop over blocks

pub skip_none : (s : List ℕ) (h : Lengths) (at item count pending : ℕ) → PlaceInside s at item count
    → DidSkip s h (between at item count pending) (between at item count pending)
skip_none s h at item count pending i = record { same = λ t g. refl; onward = le_refl at; passed = le_refl item; inside = i }

-- what the code found of a block is what the section's HDR2 makes of it
outcome_given : (h : Lengths) (second : List ℕ) (pending : ℕ) (l : List ℕ) → Given h second
    → block_outcome h.format h.block h.record_length h.offset pending l ≡ outcome_in second pending l
unfolding outcome_in
outcome_given h second pending l g = cc (g.format, g.block, g.record_length, g.offset)

-- a block of n bytes stands at a place, as the code tells it
pub record BlockStands (s : List ℕ) (at n : ℕ) : Type 0 where
  pub is : shape (drop at s) ≡ Block n
  pub within : at + 3 + n ≤ length s

pub block_at : (s : List ℕ) (at n : ℕ) → n ≡ block_length (shape (drop at s)) → (n ≡ 0 → ⊥) → BlockStands s at n
block_at s at n e h = let b = block_there (shape (drop at s)) n e h in record { is = b; within = block_within s at n _ refl b }

pub block_ends : (s : List ℕ) (at n : ℕ) → n ≡ block_length (shape (drop at s)) → (n ≡ 0 → ⊥) → at + 3 + n ≤ length s
block_ends s at n e h = (block_at s at n e h).within

pub skip_block : (s : List ℕ) (h : Lengths) (a : Between) (at item count pending n : ℕ) (o : Outcome)
    → DidSkip s h a (between at item count pending) → n ≡ block_length (shape (drop at s)) → (n ≡ 0 → ⊥)
    → o ≡ block_outcome h.format h.block h.record_length h.offset pending (take (at + 3 + n - (at + 3)) (drop (at + 3) s))
    → o.number ≡ 0
    → DidSkip s h a (between (at + 3 + n) (item + 1) (count + 1) o.pending)
unfolding told_between
skip_block s h a at item count pending n o k e f q z =
    let b = block_at s at n e f in
    let w : at + 3 + n ≤ length s = b.within in
    let i : PlaceInside s at item count = k.inside in
    let l : List ℕ = part (at + 3) n s in
    let made : o ≡ block_outcome h.format h.block h.record_length h.offset pending l
    = q ∙ ap (block_outcome h.format h.block h.record_length h.offset pending) (part_within (at + 3) n s) in
    record {
      same = λ t g.
          k.same t g
          ∙ ap (told_from item (body t count pending)) (decode_block s at n _ (omega arith) refl b.is)
          ∙ told_go item (body t count pending) (body t (count + 1) (outcome_in t.hdr2 pending l).pending) (block l)
          (decode (drop (at + 3 + n) s)) _
          (step_block t count pending l (ap (λ x. x.number) (sym (made ∙ outcome_given h t.hdr2 pending l g)) ∙ z))
          ∙ ap (λ (x : Outcome). told_from (item + 1) (body t (count + 1) x.pending) (decode (drop (at + 3 + n) s)))
          (sym (made ∙ outcome_given h t.hdr2 pending l g));
      onward = omega (arith, k.onward);
      passed = omega (arith, k.passed);
      inside = record { short = i.short; within = w; items = omega (arith, i.items); blocks = omega (arith, i.blocks) };
    }

pub block_falls : (s : List ℕ) (at n : ℕ) → n ≡ block_length (shape (drop at s)) → (n ≡ 0 → ⊥)
    → length s - (at + 3 + n) < length s - at
block_falls s at n e f = omega (arith, (block_at s at n e f).within)

pub start_fits : (s : List ℕ) (at item count n : ℕ) → PlaceInside s at item count → n ≡ block_length (shape (drop at s))
    → (n ≡ 0 → ⊥) → Fits w64 (at + 3)
start_fits s at item count n i e f = record { fits = omega (arith, (block_at s at n e f).within, i.short) }

pub end_fits : (s : List ℕ) (at item count n : ℕ) → PlaceInside s at item count → n ≡ block_length (shape (drop at s))
    → (n ≡ 0 → ⊥) → Fits w64 (at + 3 + n)
end_fits s at item count n i e f = record { fits = omega (arith, (block_at s at n e f).within, i.short) }

-- an item and a block more can be counted
pub item_fits : (s : List ℕ) (at item count n : ℕ) → PlaceInside s at item count → n ≡ block_length (shape (drop at s))
    → (n ≡ 0 → ⊥) → Fits w32 (item + 1)
item_fits s at item count n i e f = record { fits = omega (arith, (block_at s at n e f).within, i.short, i.items) }

pub count_fits : (s : List ℕ) (at item count n : ℕ) → PlaceInside s at item count → n ≡ block_length (shape (drop at s))
    → (n ≡ 0 → ⊥) → Fits w64 (count + 1)
count_fits s at item count n i e f = record { fits = omega (arith, (block_at s at n e f).within, i.short, i.blocks) }

pub ruleset skips = (skip_none, skip_block, block_falls, start_fits, end_fits, item_fits, count_fits, block_ends, rules)
