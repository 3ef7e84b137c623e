-- One item without fault: the invariant goes from the stage before it to the stage behind it, the promise the other way. Assumes
-- nothing.
use mathlib.Core.Path.{◌≡◌, refl, sym, ◌∙◌, subst}
use mathlib.Core.List.{List, [], ◌++◌}
use Prim.Native.Nat.{ℕ}
use lib.ListN.{length}
use Rattle.base.specs.If.{if_b}
use Rattle.base.proofs.Ifs.{if_false}
use Rattle.base.specs.Answer.{fault}
use Rattle.order.specs.Kind.{hdr, eof, data_block, is_kind}
use Rattle.order.specs.declared.Kind.{Kind}
use Rattle.order.specs.declared.Phase.{Phase}
use Rattle.label.specs.Judged.{label_fault}
use Rattle.volume.specs.State.{State}
use Rattle.volume.specs.Fault.{context_fault, item_fault, block_fault}
use Rattle.volume.specs.Step.{Event, segments_in, files_after, continues_after, hdr1_after, hdr2_after, pending_after, state_after, events_of}
use Rattle.order.proofs.Moves.{Stage, reel_over, Quiet, Move, stays, next_reel, header1, next_file, header2, datum, eof1, eov1, finish}
use Rattle.base.proofs.Faults.{or_first, or_second}
use Rattle.reading.proofs.Stages.{View, view, view_of, Holds, Promised, Outside, file_outside, reel_outside, end_idle, first_holds, first_promise, second_holds, second_promise, block_promise, end_promise, reel_promise}

-- ---- a quiet item changes nothing that the meaning hangs on, and hands out nothing

-- a quiet kind changes nothing of it
pub view_quiet : (s : State) (q : Phase) (k : Kind) (l : List ℕ) → Quiet k → view (state_after s q k l) ≡ view s
unfolding state_after files_after continues_after hdr1_after hdr2_after pending_after
view_quiet s q k l c =
    let files : files_after s k ≡ s.files = if_false _ _ _ c.hdr2 in
    let goes_on : continues_after s k ≡ s.continues = if_false _ _ _ c.reel_end ∙ if_false _ _ _ c.file_end in
    let first : hdr1_after s k l ≡ s.hdr1 = if_false _ _ _ c.hdr1 in
    let second : hdr2_after s k l ≡ s.hdr2 = if_false _ _ _ c.hdr2 in
    let pending : pending_after s k l ≡ s.pending = if_false _ _ _ c.datum in
    λ i. view_of (files i) (goes_on i) (first i) (second i) (pending i)

-- and hands out nothing
pub events_quiet : (s : State) (k : Kind) (l : List ℕ) → Quiet k → events_of s k l ≡ []
unfolding events_of
events_quiet s k l c = if_false _ _ _ c.datum ∙ if_false _ _ _ c.hdr2

-- ---- an item without fault has no fault by itself, and none against what was read before it

-- an item without fault has no fault of its label
pub label_none : (s : State) (k : Kind) (l : List ℕ) → (item_fault s k l).number ≡ 0 → (label_fault k l).number ≡ 0
unfolding item_fault
label_none s k l h = or_first (label_fault k l) (context_fault s k l) h

-- and none against what was read before
pub context_none : (s : State) (k : Kind) (l : List ℕ) → (item_fault s k l).number ≡ 0 → (context_fault s k l).number ≡ 0
unfolding item_fault
context_none s k l h = or_second (label_fault k l) (context_fault s k l) h

-- ---- the invariant

pub step_holds : (s : State) (q : Phase) (l : List ℕ) {k : Kind} {a b : Stage} → Move k a b → (k.family ≡ 3 → length l ≡ 80)
    → Holds a (view s)
    → (item_fault s k l).number ≡ 0 → Holds b (view (state_after s q k l))
unfolding state_after files_after continues_after hdr1_after hdr2_after pending_after context_fault is_kind if_b
step_holds s q l {k} (stays {a = a} c) long h e = subst (Holds a) (sym (view_quiet s q k l c)) h
step_holds s q l {k} (next_reel c) long h e = subst Outside (sym (view_quiet s q k l c)) (reel_outside (view s) h)
step_holds s q l header1 long h e =
    first_holds s.files s.continues s.hdr1 s.hdr2 s.pending l h (long refl) (label_none s (hdr 1) l e)
    (context_none s (hdr 1) l e)
step_holds s q l next_file long h e =
    first_holds s.files s.continues s.hdr1 s.hdr2 s.pending l (file_outside (view s) h) (long refl)
    (label_none s (hdr 1) l e) (context_none s (hdr 1) l e)
step_holds s q l header2 long h e = second_holds s.files s.continues s.hdr1 s.hdr2 s.pending l h
step_holds s q l datum long h e = record { some = h.some; few = h.few }
step_holds s q l eof1 long h e =
    record {
      within = record { some = h.some; few = h.few };
      off = refl;
      idle = end_idle s.hdr1 s.count s.pending l
          (context_none s (eof 1) l e);
    }
step_holds s q l eov1 long h e = record { within = record { some = h.some; few = h.few }; on = refl }
step_holds s q l finish long h e = h

-- ---- the promise

pub step_promise : (s : State) (q : Phase) (l : List ℕ) {k : Kind} {a b : Stage} → Move k a b → (k.family ≡ 3 → length l ≡ 80)
    → Holds a (view s)
    → (item_fault s k l).number ≡ 0 → (es : List Event) → Promised b (view (state_after s q k l)) es
    → Promised a (view s) (events_of s k l ++ es)
unfolding state_after files_after continues_after hdr1_after hdr2_after pending_after events_of segments_in context_fault block_fault fault is_kind if_b
step_promise s q l {k} (stays {a = a} c) long h e es p =
    subst (λ (xs : List Event). Promised a (view s) (xs ++ es)) (sym (events_quiet s k l c))
    (subst (λ (v : View). Promised a v es) (view_quiet s q k l c) p)
step_promise s q l {k} (next_reel c) long h e es p =
    subst (λ (xs : List Event). Promised reel_over (view s) (xs ++ es)) (sym (events_quiet s k l c))
    (subst (λ (v : View). Promised reel_over v es) (view_quiet s q k l c) p)
step_promise s q l header1 long h e es p =
    first_promise s.files s.continues s.hdr1 s.hdr2 s.pending l es (context_none s (hdr 1) l e) p
step_promise s q l next_file long h e es p =
    first_promise s.files s.continues s.hdr1 s.hdr2 s.pending l es (context_none s (hdr 1) l e) p
step_promise s q l header2 long h e es p =
    second_promise s.continues s.files s.hdr1 s.hdr2 s.pending l es h (long refl) (label_none s (hdr 2) l e)
    (context_none s (hdr 2) l e) p
step_promise s q l datum long h e es p =
    block_promise s.files s.continues s.hdr1 s.hdr2 s.pending l es (context_none s data_block l e) p
step_promise s q l eof1 long h e es p =
    end_promise s.files s.continues s.hdr1 s.hdr2 s.pending es
    (end_idle s.hdr1 s.count s.pending l (context_none s (eof 1) l e)) p
step_promise s q l eov1 long h e es p = reel_promise s.files s.continues s.hdr1 s.hdr2 s.pending es p
step_promise s q l finish long h e es p = p
