-- Laws of the state behind an item, by the places that the code keeps. Assumes nothing.
use mathlib.Core.Path.{◌≡◌, refl, sym, ap, ap₂, ◌∙◌, subst}
use mathlib.Core.Bool.{Bool, true, false}
use mathlib.Core.List.{List, [], ◌∷◌, ◌++◌}
use Prim.Native.Nat.{ℕ, ◌+◌, ◌≤◌, ◌<◌}
use native.Mathlib.Omega.{arith}
use borrow.Author.Rules.{rules}
use borrow.Author.Tests.{eqb-false, leb-false}
use lib.Dec.{leb}
use lib.ListN.{length}
use Rattle.base.specs.If.{if_b}
use Rattle.base.proofs.Ifs.{if_true, if_false, if_case, ap_if, so_true, so_false}
use Rattle.base.specs.Part.{part}
use Rattle.base.proofs.Parts.{part_part}
use Rattle.base.proofs.Faults.{or_second}
use Rattle.base.specs.Answer.{fault}
use Rattle.base.specs.declared.Fault.{Fault}
use Rattle.image.specs.Framing.{most_reels}
use Rattle.order.specs.Kind.{vol, hdr, eov, eof, data_block, is_kind}
use Rattle.order.proofs.Laws.{kind_is}
use Rattle.order.specs.declared.Kind.{Kind}
use Rattle.order.specs.declared.Phase.{Phase}
use Rattle.label.specs.Field.{volume_of}
use Rattle.label.specs.Judged.{label_fault}
use Rattle.block.specs.declared.Outcome.{Outcome}
use Rattle.volume.specs.declared.Reading.{Reading}
use Rattle.volume.specs.Fault.{names_at, outcome_in, volume_fault, context_fault, item_fault}
use Rattle.volume.specs.Step.{state_after, volumes_after, files_after, continues_after, hdr1_after, hdr2_after, count_after, pending_after}
use Rattle.volume.specs.Code.Place.{label_at, contents}
use Rattle.volume.specs.Code.Walk.{LabelSized, DidRead}
use Rattle.volume.proofs.Faults.{length_names}

-- ---- field by field

-- one place more is one name more
pub names_append : (s places : List ℕ) (a : ℕ) → names_at s (places ++ (a ∷ [])) ≡ names_at s places ++ (part a 6 s ∷ [])
unfolding names_at
names_append s [] a = refl
names_append s (x ∷ places) a = ap (λ (l : List (List ℕ)). part x 6 s ∷ l) (names_append s places a)

label_sized : (s : List ℕ) (start len : ℕ) → len ≡ 80 → label_at s start ≡ part start len s
unfolding label_at
label_sized s start len e = ap (λ (n : ℕ). part start n s) (sym e)

-- a label kept by its place
label_after : (s : List ℕ) (t : Bool) (start len kept : ℕ) → (t ≡ true → len ≡ 80)
    → label_at s (if_b t start kept) ≡ if_b t (part start len s) (label_at s kept)
label_after s t start len kept z =
    if_case (λ (x : ℕ). label_at s x ≡ if_b t (part start len s) (label_at s kept)) t start kept
    (λ h. label_sized s start len (z h) ∙ sym (if_true t (part start len s) (label_at s kept) h))
    (λ h. sym (if_false t (part start len s) (label_at s kept) h))

-- the volume identifiers, with one more
names_kept : (s volumes : List ℕ) (start len : ℕ) (t : Bool) → (t ≡ true → len ≡ 80)
    → names_at s (if_b t (volumes ++ ((start + 4) ∷ [])) volumes)
    ≡ if_b t (names_at s volumes ++ (volume_of (part start len s) ∷ [])) (names_at s volumes)
unfolding if_b volume_of
names_kept s volumes start len true z =
    names_append s volumes (start + 4)
    ∙ ap (λ (l : List ℕ). names_at s volumes ++ (l ∷ [])) (sym (part_part start 4 6 len s (omega (arith, z refl))))
names_kept s volumes start len false z = refl

-- ---- the whole state

-- what the code makes of each field stands for the state behind the item
pub contents_after : (s : List ℕ) (st : Reading) (p : Phase) (k : Kind) (start len files first second count pending : ℕ)
    (continues : Bool) (volumes : List ℕ)
    → LabelSized k len
    → files ≡ if_b (is_kind k (hdr 2)) (if_b st.continues st.files (st.files + 1)) st.files
    → continues ≡ if_b (is_kind k (eov 1)) true (if_b (is_kind k (eof 1)) false st.continues)
    → first ≡ if_b (is_kind k (hdr 1)) start st.hdr1
    → second ≡ if_b (is_kind k (hdr 2)) start st.hdr2
    → count ≡ if_b (is_kind k data_block) (st.count + 1) (if_b (is_kind k (hdr 1)) 0 st.count)
    → pending ≡ if_b (is_kind k data_block) (outcome_in (label_at s st.hdr2) st.pending (part start len s)).pending
    st.pending
    → contents s (if_b (is_kind k (vol 1)) (volumes ++ ((start + 4) ∷ [])) volumes)
    (record { hdr1 = first; hdr2 = second; count = count; pending = pending; files = files; phase = p; continues = continues })
    ≡ state_after (contents s volumes st) p k (part start len s)
unfolding contents state_after volumes_after files_after continues_after hdr1_after hdr2_after count_after pending_after
contents_after s st p k start len files first second count pending continues volumes z ef eo e1 e2 ec ep =
    let a : names_at s (if_b (is_kind k (vol 1)) (volumes ++ ((start + 4) ∷ [])) volumes)
    ≡ if_b (is_kind k (vol 1)) (names_at s volumes ++ (volume_of (part start len s) ∷ [])) (names_at s volumes)
    = names_kept s volumes start len (is_kind k (vol 1)) z.volume in
    let b : label_at s first ≡ if_b (is_kind k (hdr 1)) (part start len s) (label_at s st.hdr1)
    = ap (label_at s) e1 ∙ label_after s (is_kind k (hdr 1)) start len st.hdr1 z.hdr1 in
    let d : label_at s second ≡ if_b (is_kind k (hdr 2)) (part start len s) (label_at s st.hdr2)
    = ap (label_at s) e2 ∙ label_after s (is_kind k (hdr 2)) start len st.hdr2 z.hdr2 in
    λ i. record { phase = p; volumes = a i; files = ef i; continues = eo i; hdr1 = b i; hdr2 = d i; count = ec i; pending = ep i }

-- what is chosen of two numbers is at most what both are at most
if_most : (t : Bool) (a b m x : ℕ) → a ≤ m → b ≤ m → x ≡ if_b t a b → x ≤ m
if_most t a b m x p q e = subst (λ (y : ℕ). y ≤ m) (sym e) (if_case (λ (y : ℕ). y ≤ m) t a b (λ _. p) (λ _. q))

pub behind_made : (s : List ℕ) (st : Reading) (p : Phase) (k : Kind) (start len files first second count pending : ℕ)
    (continues : Bool)
    → LabelSized k len
    → files ≡ if_b (is_kind k (hdr 2)) (if_b st.continues st.files (st.files + 1)) st.files
    → continues ≡ if_b (is_kind k (eov 1)) true (if_b (is_kind k (eof 1)) false st.continues)
    → first ≡ if_b (is_kind k (hdr 1)) start st.hdr1
    → second ≡ if_b (is_kind k (hdr 2)) start st.hdr2
    → count ≡ if_b (is_kind k data_block) (st.count + 1) (if_b (is_kind k (hdr 1)) 0 st.count)
    → pending ≡ if_b (is_kind k data_block) (outcome_in (label_at s st.hdr2) st.pending (part start len s)).pending
    st.pending
    → DidRead s st p k start len
    (record { hdr1 = first; hdr2 = second; count = count; pending = pending; files = files; phase = p; continues = continues })
behind_made s st p k start len files first second count pending continues z ef eo e1 e2 ec ep =
    record {
      same = λ volumes. contents_after s st p k start len files first second count pending continues volumes z ef eo e1 e2 ec ep;
      files =
          if_most _ _ _ _ _ (if_case (λ (y : ℕ). y ≤ st.files + 1) st.continues _ _ (λ _. omega arith) (λ _. omega arith))
          (omega arith) ef;
      blocks =
          if_most _ _ _ _ _ (omega arith)
          (if_case (λ (y : ℕ). y ≤ st.count + 1) (is_kind k (hdr 1)) _ _ (λ _. omega arith) (λ _. omega arith)) ec;
    }

-- what is pending behind a data block
pub pending_data : (s : List ℕ) (t m : Bool) (o : Outcome) (a b : List ℕ) (second pending start len : ℕ) → m ≡ t → m ≡ true
    → a ≡ part second 80 s → b ≡ part start len s
    → o ≡ outcome_in a pending b → o.pending ≡ if_b t (outcome_in (label_at s second) pending (part start len s)).pending pending
unfolding label_at
pending_data s t m o a b second pending start len e h p q c =
    ap (λ (x : Outcome). x.pending) c ∙ ap₂ (λ (x y : List ℕ). (outcome_in x pending y).pending) p q
    ∙ sym (if_true t _ pending (so_true m t e h))

pub ruleset behinds = (behind_made, pending_data, if_true, if_false, so_true, so_false, rules)

-- ---- room for a name

-- a volume label behind sixteen others is refused
names_room : (names : List (List ℕ)) (l : List ℕ) → (volume_fault names l).number ≡ 0 → length names < 16
unfolding volume_fault fault
names_room names l =
    if_case (λ (x : Fault). x.number ≡ 0 → length names < 16) (leb most_reels (length names)) _ _
    (λ _ h. absurd (eqb-false 2 0 refl h)) (λ e _. leb-false most_reels (length names) e)

-- so one without fault is at most the sixteenth
pub room_for_name : (s volumes : List ℕ) (st : Reading) (k : Kind) (l : List ℕ)
    → (item_fault (contents s volumes st) k l).number ≡ 0
    → is_kind k (vol 1) ≡ true → length volumes < most_reels
unfolding item_fault context_fault is_kind if_b contents
room_for_name s volumes st k l z v =
    let here : (item_fault (contents s volumes st) (vol 1) l).number ≡ 0
    = subst (λ (j : Kind). (item_fault (contents s volumes st) j l).number ≡ 0) (kind_is k (vol 1) v) z in
    let few : length (names_at s volumes) < 16 = names_room _ l (or_second (label_fault (vol 1) l) (volume_fault _ l) here) in
    omega (arith, length_names s volumes)
