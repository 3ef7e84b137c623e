-- What a reading hands out, item by item; when the meaning of two readings is one; as many files as begin; segments and bytes.
-- Assumes nothing.
use Rattle.std.specs.Prelude.{Option, Some, None}
use mathlib.Core.Path.{◌≡◌, refl, sym, ap, ◌∙◌, subst}
use mathlib.Core.Bool.{Bool, true, false}
use mathlib.Core.List.{List, [], ◌∷◌, ◌++◌}
use Prim.Native.Nat.{ℕ, suc}
use borrow.Author.Tests.{eqb-false}
use lib.ListN.{length}
use Rattle.base.specs.If.{if_b}
use Rattle.base.proofs.Ifs.{if_true}
use Rattle.base.specs.Answer.{fault}
use Rattle.base.specs.declared.Fault.{Fault}
use Rattle.base.proofs.Faults.{or_second}
use Rattle.image.specs.Item.{Item}
use Rattle.order.specs.Kind.{hdr, data_block, is_kind}
use Rattle.order.specs.declared.Kind.{Kind}
use Rattle.order.specs.declared.Phase.{Phase}
use Rattle.order.proofs.Laws.{kind_is}
use Rattle.label.specs.Field.{format_of, block_length_of, record_length_of, offset_of}
use Rattle.label.specs.Judged.{label_fault}
use Rattle.block.specs.Cut.{Segment, units}
use Rattle.block.specs.Turn.{outcome, turned, block_outcome}
use Rattle.volume.specs.State.{State}
use Rattle.volume.specs.Fault.{value_of, outcome_in, block_fault, context_fault, item_fault}
use Rattle.volume.specs.Step.{Event, begins, resumes, holds, kind_in, bytes_in, segments_of, segments_in, hdr2_after, state_after, events_of}
use Rattle.volume.specs.Run.{Run, ended, stopped, further, runs}
use Rattle.volume.specs.Meaning.{joined, Collected, fields_from, collect, set_from, handed_out}
use Rattle.volume.specs.Accepted.{Faultless, All, MayEnd, state_behind}
use Rattle.volume.proofs.Accepted.{Ends, faultless_runs, all_ends}

-- ---- item by item

handed_further : (es : List Event) (r : Run) → Ends r → handed_out (further es r) ≡ es ++ handed_out r
unfolding Ends further handed_out
handed_further es (ended fs) h = refl
handed_further es (stopped k i b) h = absurd h

-- an item without fault hands out its events before those of the rest
pub handed_more : (t : State) (x : Item) (xs : List Item) (q : Phase) → Faultless t x q → All MayEnd (state_behind t x q) xs
    → handed_out (runs t (x ∷ xs)) ≡ events_of t (kind_in t.phase x) (bytes_in x) ++ handed_out (runs (state_behind t x q) xs)
handed_more t x xs q f all =
    ap handed_out (faultless_runs t x xs q f)
    ∙ handed_further (events_of t (kind_in t.phase x) (bytes_in x)) (runs (state_behind t x q) xs)
    (all_ends (state_behind t x q) xs all)

-- where the image may end nothing more is handed out
pub handed_none : (t : State) → MayEnd t → handed_out (runs t []) ≡ []
unfolding runs handed_out
handed_none t h = ap handed_out (if_true _ _ _ h)

-- ---- events of one meaning

-- both are folded to the same files, the same segments before the first of them, and the same set identifier
pub record OneMeaning (es fs : List Event) : Type 0 where
  pub collected : collect es ≡ collect fs
  pub set : set_from es ≡ set_from fs

-- so they are behind the same event
pub meaning_behind : (x : Event) (es fs : List Event) → OneMeaning es fs → OneMeaning (x ∷ es) (x ∷ fs)
unfolding collect set_from
meaning_behind (begins f s) es fs h =
    record {
      collected =
          ap (λ (c : Collected). record {
            segments = [];
            files = record {
              fields = fields_from f s;
              records = joined
                  c.segments;
            } ∷ c.files;
          }) h.collected;
      set = refl;
    }
meaning_behind (resumes f s) es fs h = record { collected = h.collected; set = h.set }
meaning_behind (holds l xs) es fs h =
    record {
      collected = ap (λ (c : Collected). record { segments = xs ++ c.segments; files = c.files })
          h.collected;
      set = h.set;
    }

-- and behind a later section of a file, whatever its HDR1 and HDR2
pub meaning_continued : (f s g t : List ℕ) (es fs : List Event) → OneMeaning es fs
    → OneMeaning (resumes f s ∷ es) (resumes g t ∷ fs)
unfolding collect set_from
meaning_continued f s g t es fs h = record { collected = h.collected; set = h.set }

-- ---- as many files as begin

-- how many files begin in what is handed out
unfoldable pub begun : List Event → ℕ
begun [] = 0
begun (begins f s ∷ es) = suc (begun es)
begun (resumes f s ∷ es) = begun es
begun (holds l xs ∷ es) = begun es

-- The meaning has a file for each that begins, and no other.
pub files_begun : (es : List Event) → length (collect es).files ≡ begun es
unfolding collect begun
files_begun [] = refl
files_begun (begins f s ∷ es) = ap suc (files_begun es)
files_begun (resumes f s ∷ es) = files_begun es
files_begun (holds l xs ∷ es) = files_begun es

-- ---- segments and bytes

-- the units of a data block's bytes, by the lengths of its section's HDR2
abbrev units_by : List ℕ → List ℕ → Option (List Segment)
units_by h l = units (format_of h) (value_of (block_length_of h)) (value_of (record_length_of h)) (value_of (offset_of h)) l

-- the segments of each block are the units of its bytes, by the HDR2 handed out last before it, which is h before the first
abbrev pub Cuts : List ℕ → List Event → Type 0
Cuts h [] = Unit {0}
Cuts h (begins f s ∷ es) = Cuts s es
Cuts h (resumes f s ∷ es) = Cuts s es
Cuts h (holds l xs ∷ es) = (units_by h l ≡ Some xs) × Cuts h es

turned_some : (r q : ℕ) (c : Option (List Segment)) → (turned r q true c).number ≡ 0 → c ≡ Some (segments_of c)
unfolding turned outcome segments_of
turned_some r q None h = absurd (eqb-false 7 0 refl h)
turned_some r q (Some xs) h = refl

block_cuts : (t : State) (k : Kind) (l : List ℕ) → (item_fault t k l).number ≡ 0 → is_kind k data_block ≡ true
    → units_by t.hdr2 l ≡ Some (segments_in t l)
unfolding item_fault context_fault block_fault outcome_in block_outcome segments_in fault
block_cuts t k l h e =
    turned_some (value_of (record_length_of t.hdr2)) t.pending (units_by t.hdr2 l)
    (ap (λ (f : Fault). f.number) (sym (if_true (is_kind k data_block) _ _ e)) ∙ or_second (label_fault k l) (context_fault t k l) h)

no_header : (k : Kind) → is_kind k data_block ≡ true → is_kind k (hdr 2) ≡ false
unfolding is_kind
no_header k h = ap (λ (j : Kind). is_kind j (hdr 2)) (kind_is k data_block h)

cuts_step : (t : State) (k : Kind) (l : List ℕ) (es : List Event) → (item_fault t k l).number ≡ 0 → Cuts (hdr2_after t k l) es
    → Cuts t.hdr2 (events_of t k l ++ es)
unfolding hdr2_after events_of if_b
cuts_step t k l es h = by_kind (is_kind k data_block) (is_kind k (hdr 2)) t.continues (block_cuts t k l h) (no_header k)
  where
    by_kind : (a b g : Bool) → (a ≡ true → units_by t.hdr2 l ≡ Some (segments_in t l)) → (a ≡ true → b ≡ false)
        → Cuts (if_b b l t.hdr2) es
        → Cuts t.hdr2 (if_b a (holds l (segments_in t l) ∷ [])
        (if_b b (if_b g (resumes t.hdr1 l) (begins t.hdr1 l) ∷ []) []) ++ es)
    by_kind true b g e n c = (e refl, subst (λ (x : Bool). Cuts (if_b x l t.hdr2) es) (n refl) c)
    by_kind false true true e n c = c
    by_kind false true false e n c = c
    by_kind false false g e n c = c

-- From any state on, the segments of each block that is handed out are the units of its bytes.
pub handed_cuts : (xs : List Item) (t : State) → All MayEnd t xs → Cuts t.hdr2 (handed_out (runs t xs))
unfolding state_after
handed_cuts [] t h = subst (Cuts t.hdr2) (sym (handed_none t h)) tt
handed_cuts (x ∷ xs) t (p, f, all) =
    subst (Cuts t.hdr2) (sym (handed_more t x xs p f all))
    (cuts_step t (kind_in t.phase x) (bytes_in x) _ f.sound (handed_cuts xs (state_behind t x p) all))
