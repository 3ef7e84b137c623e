-- A refusal names what is first wrong, by a number of reading with its place. Assumes nothing.
use Rattle.std.specs.Prelude.{Option, Some, None}
use mathlib.Core.Path.{◌≡◌, refl, sym, ap, ◌∙◌, subst}
use mathlib.Core.Bool.{Bool, true, false, not}
use mathlib.Core.List.{List, [], ◌∷◌}
use Prim.Native.Nat.{ℕ, zero, suc, ◌+◌, ◌≤◌}
use native.Mathlib.Omega.{arith}
use borrow.Author.Tests.{eqb-true, eqb-false, ltb-true, ltb-false}
use lib.Dec.{eqb, leb, ltb}
use lib.ListN.{length, take, drop}
use Rattle.base.specs.If.{if_b}
use Rattle.base.proofs.Ifs.{if_false, if_case}
use Rattle.base.specs.Part.{part, same}
use Rattle.base.specs.Answer.{fault, verdict, or_else}
use Rattle.base.specs.declared.Fault.{Fault}
use Rattle.base.specs.declared.Verdict.{Verdict}
use Rattle.image.specs.Item.{Item, block, mark, reel_end, broken}
use Rattle.image.specs.Framing.{head, most_image, most_reels, framed_from, framing, items, opens}
use Rattle.order.specs.declared.Phase.{Phase}
use Rattle.order.specs.Kind.{vol, hdr, eov, eof, data_block, is_kind}
use Rattle.order.specs.Due.{due_after}
use Rattle.order.specs.declared.Kind.{Kind}
use Rattle.label.specs.Judged.{access_at, access_of, field_fault, label_fault, wrong_in}
use Rattle.label.specs.Table.{fields_of}
use Rattle.block.specs.Cut.{Segment}
use Rattle.block.specs.Turn.{outcome, is_turn, open_after, turns_from, turned, block_outcome}
use Rattle.block.specs.declared.Outcome.{Outcome}
use Rattle.volume.specs.State.{State}
use Rattle.volume.specs.Fault.{crossed, volume_fault, new_file_place, file_fault, most_files, hdr1_fault, hdr2_fault, trailer1_fault, open_fault, file_end_fault, trailer2_fault, outcome_in, block_fault, context_fault, item_fault}
use Rattle.volume.specs.Step.{Next, go, no, step, judged, ordered, kind_in, bytes_in}
use Rattle.volume.specs.Run.{image_verdict}
use Rattle.volume.specs.Accepted.{state_behind, All, Refused, may_stand, is_reel_end, Unframed, FirstFault, over_long, no_image, unframed, wrong, Placed}
use Rattle.volume.proofs.Accepted.{accepted_done, accepted_iff, refused_first}

-- ---- the framing

abbrev Framed : ℕ → ℕ → Bool → List Item → Verdict → Type 0
Framed n r closed xs v = (v.number ≡ 0 → ⊥) → (i : ℕ) × (v ≡ verdict 2 (n + i) 0) × Unframed r closed xs i

-- an item that may not stand is the first wrong one
here : (n : ℕ) → verdict 2 n 0 ≡ verdict 2 (n + 0) 0
here n = let e : n ≡ n + 0 = omega arith in ap (λ (m : ℕ). verdict 2 m 0) e

further : (n i : ℕ) (v : Verdict) → v ≡ verdict 2 (n + 1 + i) 0 → v ≡ verdict 2 (n + suc i) 0
further n i v e = let q : n + 1 + i ≡ n + suc i = omega arith in e ∙ ap (λ (m : ℕ). verdict 2 m 0) q

framed_first : (n r : ℕ) (closed : Bool) (xs : List Item) → Framed n r closed xs (framed_from n r closed xs)
unfolding framed_from verdict may_stand is_reel_end if_b
framed_first n r true [] = λ z. absurd (z refl)
framed_first n r false [] = λ z. (0, here n, refl)
framed_first n r closed (block l ∷ xs) =
    if_case (Framed n r closed (block l ∷ xs)) (eqb r most_reels) _ _
    (λ e z. (0, here n, ap not e))
    (λ e z. let (i, q, u) = framed_first (n + 1) r false xs z in (suc i, further n i _ q, (ap not e, u)))
framed_first n r closed (mark ∷ xs) =
    if_case (Framed n r closed (mark ∷ xs)) (eqb r most_reels) _ _
    (λ e z. (0, here n, ap not e))
    (λ e z. let (i, q, u) = framed_first (n + 1) r false xs z in (suc i, further n i _ q, (ap not e, u)))
framed_first n r closed (reel_end ∷ xs) =
    if_case (Framed n r closed (reel_end ∷ xs)) (eqb r most_reels) _ _
    (λ e z. (0, here n, ap not e))
    (λ e z. let (i, q, u) = framed_first (n + 1) (r + 1) true xs z in (suc i, further n i _ q, (ap not e, u)))
framed_first n r closed (broken ∷ xs) = λ z. (0, here n, refl)

opens_true : (s : List ℕ) → ltb most_image (length s) ≡ false → same (take 5 s) head ≡ true → opens s ≡ true
unfolding opens
opens_true s l h = if_false _ _ _ l ∙ h

unframed_at : (s : List ℕ) (v : Verdict) (i : ℕ) → opens s ≡ true → v ≡ verdict 2 (0 + i) 0 → Unframed 0 false (items s) i
    → FirstFault s v
unframed_at s v i o e u =
    let q : 0 + i ≡ i = omega arith in
    subst (FirstFault s) (sym (e ∙ ap (λ (m : ℕ). verdict 2 m 0) q)) (unframed i o u)

framing_fault : (s : List ℕ) → ((framing s).number ≡ 0 → ⊥) → FirstFault s (framing s)
unfolding framing
framing_fault s =
    if_case (λ (v : Verdict). (v.number ≡ 0 → ⊥) → FirstFault s v) (ltb most_image (length s)) _ _
    (λ l _. over_long (ltb-true most_image (length s) l))
    (λ l. if_case (λ (v : Verdict). (v.number ≡ 0 → ⊥) → FirstFault s v) (same (take 5 s) head) _ _
    (λ h z. let (i, e, u) = framed_first 0 0 false (items s) z in unframed_at s _ i (opens_true s l h) e u)
    (λ h _. no_image (ltb-false most_image (length s) l) h))

-- ---- the first wrong item

-- a refusal names what is first wrong
pub first_fault : (s : List ℕ) → ((image_verdict s).number ≡ 0 → ⊥) → FirstFault s (image_verdict s)
first_fault s z = by_framing (eqb (framing s).number 0) refl
  where
    by_framing : (t : Bool) → eqb (framing s).number 0 ≡ t → FirstFault s (image_verdict s)
    by_framing true e = unfold verdict in wrong (image_verdict s).number (image_verdict s).item (image_verdict s).byte (eqb-true (framing s).number 0 e)
        (refused_first s (image_verdict s).number (image_verdict s).item (image_verdict s).byte
        (eqb-true (framing s).number 0 e) z refl)
    by_framing false e = unfold image_verdict in subst (FirstFault s) (sym (if_false _ _ _ e)) (framing_fault s (eqb-false (framing s).number 0 e))

-- ---- numbers and places

abbrev Sound : Fault → Type 0
Sound f = Placed f.number f.byte

-- a number that names no field
bare : (n : ℕ) → (4 ≤ n → n ≤ 6 → ⊥) → n ≤ 9 → Sound (fault n 0)
unfolding fault
bare n other known = record { known = known; field = λ l h. absurd (other l h); before = λ _. refl; behind = λ _. refl }

none_wrong : Sound (fault 0 0)
none_wrong = bare 0 (λ l h. omega arith) (omega arith)

in_field : (n b : ℕ) → 4 ≤ n → n ≤ 6 → (b ≡ 0 → ⊥) → Sound (fault n b)
unfolding fault
in_field n b l h z = record { known = omega arith; field = λ _ _. omega (arith, z); before = λ q. absurd (omega arith); behind = λ q. absurd (omega arith) }

sound_or : (f g : Fault) → Sound f → Sound g → Sound (or_else f g)
unfolding or_else
sound_or f g x y = if_case Sound (eqb f.number 0) g f (λ _. y) (λ _. x)

sound_crossed : (bp : ℕ) → Sound (crossed bp)
unfolding crossed
sound_crossed bp = if_case Sound (eqb bp 0) _ _ (λ _. none_wrong) (λ e. in_field 6 bp (omega arith) (omega arith) (eqb-false bp 0 e))

sound_volume : (names : List (List ℕ)) (l : List ℕ) → Sound (volume_fault names l)
unfolding volume_fault
sound_volume names l =
    if_case Sound (leb most_reels (length names)) _ _ (λ _. bare 2 (λ l h. omega arith) (omega arith)) (λ _. sound_crossed _)

sound_file : (files : ℕ) → Sound (file_fault files)
unfolding file_fault
sound_file files = if_case Sound (leb most_files files) _ _ (λ _. bare 9 (λ l h. omega arith) (omega arith)) (λ _. none_wrong)

sound_header : (continues : Bool) (files : ℕ) (first l : List ℕ) → Sound (hdr1_fault continues files first l)
unfolding hdr1_fault
sound_header continues files first l =
    if_case Sound continues _ _ (λ _. sound_crossed _)
    (λ _. sound_or (crossed (new_file_place files first l)) (file_fault files) (sound_crossed _) (sound_file files))

sound_second : (continues : Bool) (second l : List ℕ) → Sound (hdr2_fault continues second l)
unfolding hdr2_fault
sound_second continues second l = if_case Sound continues _ _ (λ _. sound_crossed _) (λ _. none_wrong)

sound_trailer : (first : List ℕ) (count : ℕ) (l : List ℕ) → Sound (trailer1_fault first count l)
unfolding trailer1_fault
sound_trailer first count l = sound_crossed _

sound_open : (pending : ℕ) → Sound (open_fault pending)
unfolding open_fault
sound_open pending = if_case Sound (eqb pending 0) _ _ (λ _. none_wrong) (λ _. bare 8 (λ l h. omega arith) (omega arith))

sound_end : (first : List ℕ) (count pending : ℕ) (l : List ℕ) → Sound (file_end_fault first count pending l)
unfolding file_end_fault
sound_end first count pending l =
    sound_or (trailer1_fault first count l) (open_fault pending) (sound_trailer first count l) (sound_open pending)

-- 7, 8 or none
abbrev Cuts : Outcome → Type 0
Cuts o = Sound (fault o.number 0)

turns_cut : (r o : ℕ) (head : Bool) (xs : List Segment) → Cuts (turns_from r o head xs)
unfolding turns_from outcome
turns_cut r o head [] = none_wrong
turns_cut r o head (x ∷ xs) =
    if_case Cuts (is_turn r o head x.indicator (length x.bytes)) _ _
    (λ _. turns_cut r (open_after o x.indicator (length x.bytes)) false xs)
    (λ _. bare 8 (λ l h. omega arith) (omega arith))

turned_cut : (r o : ℕ) (head : Bool) (x : Option (List Segment)) → Cuts (turned r o head x)
unfolding turned outcome
turned_cut r o head None = bare 7 (λ l h. omega arith) (omega arith)
turned_cut r o head (Some xs) = turns_cut r o head xs

sound_block : (second : List ℕ) (pending : ℕ) (l : List ℕ) → Sound (block_fault second pending l)
unfolding block_fault outcome_in block_outcome
sound_block second pending l = turned_cut _ _ _ _

sound_context : (s : State) (k : Kind) (l : List ℕ) → Sound (context_fault s k l)
unfolding context_fault trailer2_fault
sound_context s k l =
    if_case Sound (is_kind k data_block) _ _ (λ _. sound_block s.hdr2 s.pending l)
    (λ _. if_case Sound (is_kind k (vol 1)) _ _ (λ _. sound_volume s.volumes l)
    (λ _. if_case Sound (is_kind k (hdr 1)) _ _ (λ _. sound_header s.continues s.files s.hdr1 l)
    (λ _. if_case Sound (is_kind k (hdr 2)) _ _ (λ _. sound_second s.continues s.hdr2 l)
    (λ _. if_case Sound (is_kind k (eov 1)) _ _ (λ _. sound_trailer s.hdr1 s.count l)
    (λ _. if_case Sound (is_kind k (eof 1)) _ _ (λ _. sound_end s.hdr1 s.count s.pending l)
    (λ _. if_case Sound (is_kind k (eov 2)) _ _ (λ _. sound_crossed _)
    (λ _. if_case Sound (is_kind k (eof 2)) _ _ (λ _. sound_crossed _) (λ _. none_wrong))))))))

sound_access : (a : ℕ) (l : List ℕ) → Sound (access_at a l)
unfolding access_at
sound_access a l =
    if_case Sound (eqb a 0) _ _ (λ _. none_wrong)
    (λ e. if_case Sound (same (part _ 1 l) (32 ∷ [])) _ _ (λ _. none_wrong) (λ _. in_field 5 a (omega arith) (omega arith) (eqb-false a 0 e)))

sound_label : (k : Kind) (l : List ℕ) → Sound (label_fault k l)
unfolding label_fault field_fault
sound_label k l =
    if_case Sound (eqb (wrong_in l (fields_of k)) 0) _ _ (λ _. sound_access (access_of k) l)
    (λ e. in_field 4 (wrong_in l (fields_of k)) (omega arith) (omega arith) (eqb-false (wrong_in l (fields_of k)) 0 e))

sound_item : (s : State) (k : Kind) (l : List ℕ) → Sound (item_fault s k l)
unfolding item_fault
sound_item s k l = sound_or (label_fault k l) (context_fault s k l) (sound_label k l) (sound_context s k l)

-- ---- the verdict

Stops : Next → Type 0
Stops (go t es) = Unit {0}
Stops (no k b) = Placed k b

step_stops : (s : State) (x : Item) → Stops (step s x)
unfolding step ordered judged Stops fault
step_stops s x = by_due (due_after s.phase (kind_in s.phase x))
  where
    by_due : (d : Option Phase) → Stops (ordered s (kind_in s.phase x) (bytes_in x) d)
    by_due (Some p) =
        if_case Stops (eqb (item_fault s (kind_in s.phase x) (bytes_in x)).number 0) _ _ (λ _. tt)
        (λ _. sound_item s (kind_in s.phase x) (bytes_in x))
    by_due None = bare 3 (λ l h. omega arith) (omega arith)

stops_at : (s : State) (xs : List Item) (k i b : ℕ) → All (Refused (drop i xs) k b) s (take i xs) → Placed k b
unfolding Stops fault
stops_at s [] k zero b (e, q, _) =
    subst (λ (m : ℕ). Placed m b) (sym e) (subst (Placed 3) (sym q) (bare 3 (λ l h. omega arith) (omega arith)))
stops_at s [] k (suc i) b (e, q, _) =
    subst (λ (m : ℕ). Placed m b) (sym e) (subst (Placed 3) (sym q) (bare 3 (λ l h. omega arith) (omega arith)))
stops_at s (x ∷ xs) k zero b e = subst Stops e (step_stops s x)
stops_at s (x ∷ xs) k (suc i) b (p, _, all) = stops_at (state_behind s x p) xs k i b all

fault_placed : (s : List ℕ) (v : Verdict) → FirstFault s v → Placed v.number v.byte
unfolding verdict fault
fault_placed s v (over_long l) = bare 9 (λ l h. omega arith) (omega arith)
fault_placed s v (no_image l h) = bare 1 (λ l h. omega arith) (omega arith)
fault_placed s v (unframed i o u) = bare 2 (λ l h. omega arith) (omega arith)
fault_placed s v (wrong k i b f w) = stops_at _ (items s) k i b w.refused

-- a verdict is a number of reading, with its place
pub verdict_placed : (s : List ℕ) → Placed (image_verdict s).number (image_verdict s).byte
unfolding fault
verdict_placed s = by_number (image_verdict s).number refl
  where
    by_number : (n : ℕ) → (image_verdict s).number ≡ n → Placed (image_verdict s).number (image_verdict s).byte
    by_number zero e = subst (λ (v : Verdict). Placed v.number v.byte) (sym (accepted_done s ((accepted_iff s).0 e))) (unfold verdict in none_wrong)
    by_number (suc n) e = fault_placed s (image_verdict s) (first_fault s (λ z. let q : ◌≡◌ {A = ℕ} 0 (suc n) = sym z ∙ e in omega arith))
