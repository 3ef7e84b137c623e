-- The meaning of an accepted set is a legal one, so that rewriting refuses no set for what it holds. Assumes nothing.
use Rattle.std.specs.Prelude.{Option, Some, None}
use mathlib.Core.Path.{◌≡◌, refl, sym, ap, ◌∙◌, subst}
use mathlib.Core.Bool.{true, false, false≢true}
use mathlib.Core.List.{List, [], ◌∷◌, ◌++◌}
use Prim.Native.Nat.{ℕ, ◌+◌, ◌≤◌}
use native.Mathlib.Omega.{arith}
use borrow.Author.Tests.{eqb-true, eqb-false, le-leb}
use lib.Dec.{eqb}
use lib.ListN.{length}
use Rattle.base.specs.If.{if_b}
use Rattle.base.proofs.Ifs.{if_true, if_case}
use Rattle.image.specs.Item.{Item, block, mark, reel_end, broken}
use Rattle.image.specs.Framing.{items}
use Rattle.order.specs.Kind.{other, data_block, end_of_image, is_kind}
use Rattle.order.specs.Due.{due_after}
use Rattle.order.specs.declared.Kind.{Kind}
use Rattle.order.specs.declared.Phase.{Phase}
use Rattle.label.specs.Name.{named as named_kind, kind_of}
use Rattle.volume.specs.State.{State, start}
use Rattle.volume.specs.Step.{Event, Next, kind_in, bytes_in, is_due, state_after, events_of}
use Rattle.volume.specs.Run.{Run, ended, stopped, further, next, runs, image_verdict}
use Rattle.volume.specs.Meaning.{collect, set_from, meaning_of, handed_out, content}
use Rattle.volume.specs.Accepted.{Faultless, state_behind}
use Rattle.volume.proofs.Accepted.{by_step, Ends, all_ends, accepted_iff}
use Rattle.reading.specs.Legal.{legal_files, legal_meaning, legal_quota, legal_names, legal_sheet}
use Rattle.order.proofs.Moves.{Stage, file_over, Move, stays, next_reel, header1, next_file, header2, datum, eof1, eov1, finish}
use Rattle.order.proofs.Phases.{stage, Numbered, due_goes}
use Rattle.reading.proofs.Stages.{view, Holds, Promised, none_promise}
use Rattle.reading.proofs.Steps.{step_holds, step_promise}

-- ---- what an item is

-- a header label is a block of 80 bytes
pub header_long : (p : Phase) (x : Item) → (kind_in p x).family ≡ 3 → length (bytes_in x) ≡ 80
unfolding kind_in bytes_in kind_of
header_long p (block l) =
    if_case (λ (k : Kind). k.family ≡ 3 → length l ≡ 80) (is_due (due_after p data_block)) data_block
    (if_b (eqb (length l) 80) (named_kind l) other)
    (λ _ h. absurd (eqb-false 8 3 refl h))
    (λ _. if_case (λ (k : Kind). k.family ≡ 3 → length l ≡ 80) (eqb (length l) 80) (named_kind l) other
    (λ e _. eqb-true (length l) 80 e) (λ _ h. absurd (eqb-false 0 3 refl h)))
header_long p mark = λ h. absurd (eqb-false 9 3 refl h)
header_long p reel_end = λ h. absurd (eqb-false 10 3 refl h)
header_long p broken = λ h. absurd (eqb-false 0 3 refl h)

-- ---- where the image may end, a file is over

not_image_end : (k : Kind) → is_kind k end_of_image ≡ false → k ≡ end_of_image → ⊥
unfolding is_kind
not_image_end k h e = false≢true (sym (subst (λ (j : Kind). is_kind j end_of_image ≡ false) e h))

end_stage : {k : Kind} {a b : Stage} → Move k a b → k ≡ end_of_image → a ≡ file_over
end_stage {k} (stays c) e = absurd (not_image_end k c.image_end e)
end_stage {k} (next_reel c) e = absurd (not_image_end k c.image_end e)
end_stage header1 e = absurd (eqb-false 3 11 refl (ap (λ (k : Kind). k.family) e))
end_stage next_file e = absurd (eqb-false 3 11 refl (ap (λ (k : Kind). k.family) e))
end_stage header2 e = absurd (eqb-false 3 11 refl (ap (λ (k : Kind). k.family) e))
end_stage datum e = absurd (eqb-false 8 11 refl (ap (λ (k : Kind). k.family) e))
end_stage eof1 e = absurd (eqb-false 5 11 refl (ap (λ (k : Kind). k.family) e))
end_stage eov1 e = absurd (eqb-false 6 11 refl (ap (λ (k : Kind). k.family) e))
end_stage finish e = refl

-- an image may end only where a file is over
pub image_end_lem : (p : Phase) → Numbered p → is_due (due_after p end_of_image) ≡ true → stage p ≡ file_over
unfolding is_due
image_end_lem p n = by_due (due_after p end_of_image) refl
  where
    by_due : (d : Option Phase) → due_after p end_of_image ≡ d → is_due d ≡ true → stage p ≡ file_over
    by_due (Some q) e _ = end_stage (due_goes p end_of_image q n e).move refl
    by_due None e h = absurd (false≢true h)

-- ---- a whole reading

-- the invariant of a reading
pub record Kept (s : State) : Type 0 where
  pub numbered : Numbered s.phase
  pub holds : Holds (stage s.phase) (view s)

-- before the first item all is kept
pub kept_start : Kept start
unfolding start
kept_start =
    record { numbered = refl; holds = record { few = omega arith; idle = λ _. refl; some = λ on. absurd (false≢true on) } }

-- and behind each item without fault
pub kept_step : (s : State) (x : Item) (p : Phase) → Kept s → Faultless s x p → Kept (state_behind s x p)
unfolding state_after
kept_step s x p h f =
    record {
      numbered = (due_goes s.phase (kind_in s.phase x) p h.numbered f.due).numbered;
      holds =
          step_holds s p (bytes_in x) (due_goes s.phase (kind_in s.phase x) p h.numbered f.due).move
          (header_long s.phase x) h.holds f.sound;
    }

promise_step : (s : State) (x : Item) (p : Phase) → Kept s → Faultless s x p → (es : List Event)
    → Promised (stage p) (view (state_behind s x p)) es
    → Promised (stage s.phase) (view s) (events_of s (kind_in s.phase x) (bytes_in x) ++ es)
promise_step s x p h f =
    step_promise s p (bytes_in x) (due_goes s.phase (kind_in s.phase x) p h.numbered f.due).move
    (header_long s.phase x) h.holds f.sound

-- what is promised of a reading that ends
abbrev Told : State → Run → Type 0
Told s (ended es) = Promised (stage s.phase) (view s) es
Told s (stopped k i b) = Unit {0}

told_further : (s t : State) (fs : List Event) (r : Run)
    → ((es : List Event) → Promised (stage t.phase) (view t) es → Promised (stage s.phase) (view s) (fs ++ es)) → Told t r
    → Told s (further fs r)
unfolding further
told_further s t fs (ended es) g h = g es h
told_further s t fs (stopped k i b) g h = tt

told_end_lem : (s : State) → Kept s → is_due (due_after s.phase end_of_image) ≡ true → Promised (stage s.phase) (view s) []
told_end_lem s h e =
    let over : stage s.phase ≡ file_over = image_end_lem s.phase h.numbered e in
    subst (λ (a : Stage). Promised a (view s) []) (sym over)
    (none_promise (view s) (subst (λ (a : Stage). Holds a (view s)) over h.holds))

told : (xs : List Item) (s : State) → Kept s → Told s (runs s xs)
unfolding runs next state_after
told [] s h = if_case (Told s) (is_due (due_after s.phase end_of_image)) (ended []) (stopped 3 0 0) (λ e. told_end_lem s h e) (λ _. tt)
told (x ∷ xs) s h =
    by_step (λ (r : Next). Told s (next r (λ t. runs t xs))) s x
    (λ p f. told_further s (state_behind s x p) (events_of s (kind_in s.phase x) (bytes_in x)) (runs (state_behind s x p) xs)
    (promise_step s x p h f) (told xs (state_behind s x p) (kept_step s x p h f)))
    (λ k b _ _. tt)

-- ---- the meaning

promised_legal : (es : List Event) → Promised (stage start.phase) (view start) es → legal_meaning (meaning_of es) ≡ true
unfolding start legal_meaning meaning_of
promised_legal es h =
    let some : 1 ≤ 0 + length (collect es).files = h.some in
    let few : 0 + length (collect es).files ≤ 64 = h.few in
    if_true _ _ _ (le-leb 1 (length (collect es).files) (omega arith))
    ∙ (if_true _ _ _ (le-leb (length (collect es).files) 64 (omega arith))
    ∙ subst (λ (x : List ℕ). legal_files x (collect es).files ≡ true) (if_true (eqb 0 0) (set_from es) _ refl) h.legal)

ended_legal : (r : Run) → Ends r → Told start r → legal_meaning (meaning_of (handed_out r)) ≡ true
unfolding Ends handed_out
ended_legal (ended es) e h = promised_legal es h
ended_legal (stopped k i b) e h = absurd e

-- the meaning of an accepted set is legal
pub accepted_legal : (s : List ℕ) → (image_verdict s).number ≡ 0 → legal_meaning (content s) ≡ true
unfolding content
accepted_legal s h =
    ended_legal (runs start (items s)) (all_ends start (items s) ((accepted_iff s).0 h).followed)
    (told (items s) start kept_start)

-- so is the sheet with its meaning, a legal quota and legal names
pub accepted_sheet : (s : List ℕ) (quota : ℕ) (names : List (List ℕ)) → (image_verdict s).number ≡ 0 → legal_quota quota ≡ true
    → legal_names names ≡ true
    → legal_sheet (record { meaning = content s; quota = quota; names = names }) ≡ true
unfolding legal_sheet
accepted_sheet s quota names h q n = if_true _ _ _ q ∙ (if_true _ _ _ n ∙ accepted_legal s h)
