-- What holds at each stage of the reading of an accepted set, and what is promised there of all that is still handed out: one
-- item at a time.
-- An invariant goes forwards over the items, a promise backwards over the events. Assumes nothing.
use Rattle.std.specs.Prelude.{Option}
use mathlib.Core.Path.{◌≡◌, refl, sym, ap, ap₂, ◌∙◌, subst}
use mathlib.Core.Bool.{Bool, true, false, false≢true}
use mathlib.Core.List.{List, [], ◌∷◌}
use Prim.Native.Nat.{ℕ, ◌+◌, ◌≤◌, ◌<◌}
use native.Mathlib.Omega.{arith}
use borrow.Author.Tests.{ne_eqb, eqb-true, eqb-false, leb-false}
use lib.Dec.{leb, eqb}
use lib.ListN.{length, get_or}
use Rattle.base.proofs.Faults.{or_first, or_second}
use Rattle.base.specs.If.{if_b}
use Rattle.base.proofs.Ifs.{if_true, if_false, if_case, if_same}
use Rattle.base.specs.Part.{part, same}
use Rattle.base.specs.Answer.{fault, or_else}
use Rattle.base.specs.declared.Fault.{Fault}
use Rattle.base.proofs.Bytes.{same_true}
use Rattle.charset.specs.Number.{number_in}
use Rattle.order.specs.Kind.{hdr}
use Rattle.label.specs.Field.{set_of, section_of, format_of, block_length_of, record_length_of, offset_of}
use Rattle.label.specs.Table.{hdr1, hdr2, per_file, bp_of, set_row, section_row, format_row, record_length_row, offset_row}
use Rattle.label.proofs.Every.{Hold, all_hold_lem}
use Rattle.label.specs.Judged.{label_fault, agree_at, first_bad}
use Rattle.block.specs.Cut.{Segment, units}
use Rattle.block.specs.Turn.{block_outcome}
use Rattle.volume.specs.State.{State}
use Rattle.volume.specs.Fault.{value_of, says, lower, crossed, new_file_place, later_place, file_fault, hdr1_fault, hdr2_fault, trailer1_fault, open_fault, file_end_fault, outcome_in}
use Rattle.volume.specs.Step.{Event, begins, resumes, holds, segments_of}
use Rattle.volume.specs.Meaning.{File, joined, collect, set_from, fields_from}
use Rattle.reading.specs.Legal.{format_from, record_length_from, legal_entry, legal_records, legal_file, legal_files}
use Rattle.reading.proofs.Assembled.{Owed, units_fair, block_owed}
use Rattle.reading.proofs.Entries.{byte_part, entry_legal, entry_format, entry_record}
use Rattle.order.proofs.Moves.{Stage, before, named, within, file_over, reel_over}

-- ---- what the meaning hangs on

-- the parts of a state that the meaning hangs on: all but the phase, the reel names and the block count
pub record View : Type 0 where
  pub files : ℕ
  pub continues : Bool
  pub hdr1 : List ℕ
  pub hdr2 : List ℕ
  pub pending : ℕ

abbrev pub view_of : ℕ → Bool → List ℕ → List ℕ → ℕ → View
view_of n g f s q = record { files = n; continues = g; hdr1 = f; hdr2 = s; pending = q }

-- what the stages look at of a state
abbrev pub view : State → View
view s = view_of s.files s.continues s.hdr1 s.hdr2 s.pending

-- ---- the invariant, stage by stage

-- before the headers: a file that goes on was begun, and where none goes on no record is open
pub record Outside (v : View) : Type 0 where
  pub few : v.files ≤ 64
  pub idle : v.continues ≡ false → v.pending ≡ 0
  pub some : v.continues ≡ true → 1 ≤ v.files

-- behind HDR1, which has no fault: a new file is at most the 64th
pub record Named (v : View) : Type 0 where
  pub outside : Outside v
  pub room : v.continues ≡ false → v.files < 64
  pub long : length v.hdr1 ≡ 80
  pub sound : (label_fault (hdr 1) v.hdr1).number ≡ 0

-- from HDR2 on
pub record Within (v : View) : Type 0 where
  pub some : 1 ≤ v.files
  pub few : v.files ≤ 64

-- behind EOF1: the next HDR1 begins a file, and no record is open
pub record FileOver (v : View) : Type 0 where
  pub within : Within v
  pub off : v.continues ≡ false
  pub idle : v.pending ≡ 0

-- behind EOV1: the next HDR1 goes on with the file
pub record ReelOver (v : View) : Type 0 where
  pub within : Within v
  pub on : v.continues ≡ true

-- what is true at each stage
abbrev pub Holds : Stage → View → Type 0
Holds before v = Outside v
Holds named v = Named v
Holds within v = Within v
Holds file_over v = FileOver v
Holds reel_over v = ReelOver v

-- behind a file and behind a reel all is as before the headers
pub file_outside : (v : View) → FileOver v → Outside v
file_outside v h =
    record { few = h.within.few; idle = λ _. h.idle; some = λ _. h.within.some }

pub reel_outside : (v : View) → ReelOver v → Outside v
reel_outside v h =
    record { few = h.within.few; idle = λ g. absurd (false≢true (sym g ∙ h.on)); some = λ _. h.within.some }

-- ---- the promise

-- whether a file is open: a later block or section of it may follow
abbrev pub is_open : Stage → Bool → Bool
is_open before g = g
is_open named g = g
is_open within g = true
is_open file_over g = g
is_open reel_over g = g

-- the one set identifier: that of the first file to come, where none was begun
abbrev pub set_at : View → List Event → List ℕ
set_at v es = if_b (eqb v.files 0) (set_from es) (set_of v.hdr1)

-- of all that is handed out from here on: how many files there are in all, each legal; what the open file is owed, and nothing
-- where none is open
pub record Promise (ongoing : Bool) (v : View) (es : List Event) : Type 0 where
  pub some : 1 ≤ v.files + length (collect es).files
  pub few : v.files + length (collect es).files ≤ 64
  pub legal : legal_files (set_at v es) (collect es).files ≡ true
  pub owed : ongoing ≡ true
      → Owed (format_of v.hdr2) (value_of (record_length_of v.hdr2)) v.pending (joined (collect es).segments)
  pub none : ongoing ≡ false → (collect es).segments ≡ []

abbrev pub Promised : Stage → View → List Event → Type 0
Promised a v es = Promise (is_open a v.continues) v es

pub crossed_none : (bp : ℕ) → (crossed bp).number ≡ 0 → bp ≡ 0
unfolding crossed fault
crossed_none bp =
    if_case (λ (f : Fault). f.number ≡ 0 → bp ≡ 0) (eqb bp 0) (fault 0 0) (fault 6 bp) (λ e _. eqb-true bp 0 e)
    (λ _ q. absurd (eqb-false 6 0 refl q))

pub lower_first : (a b : ℕ) → lower a b ≡ 0 → a ≡ 0
unfolding lower
lower_first a b =
    if_case (λ (n : ℕ). n ≡ 0 → a ≡ 0) (eqb a 0) b _ (λ e _. eqb-true a 0 e)
    (λ _. if_case (λ (n : ℕ). n ≡ 0 → a ≡ 0) (eqb b 0) a _ (λ _ q. q)
    (λ e. if_case (λ (n : ℕ). n ≡ 0 → a ≡ 0) (leb a b) a b (λ _ q. q) (λ _ q. absurd (eqb-false b 0 e q))))

later_set : (f l : List ℕ) → later_place f l ≡ 0 → set_of f ≡ set_of l
unfolding later_place set_of agree_at if_b
later_set f l h =
    same_true (part 21 6 f) (part 21 6 l)
    (all_hold_lem (agree_at per_file f l) hdr1
    (lower_first (first_bad (agree_at per_file f l) 0 hdr1)
    (if_b (says (value_of (section_of f) + 1) (section_of l)) 0 (bp_of hdr1 section_row)) h) set_row refl)

new_set : (n : ℕ) (f l : List ℕ) → new_file_place n f l ≡ 0 → (n ≡ 0 → ⊥) → set_of f ≡ set_of l
unfolding new_file_place
new_set n f l h other =
    if_case (λ (k : ℕ). k ≡ 0 → set_of f ≡ set_of l) (if_b (eqb n 0) true (same (set_of l) (set_of f))) _ 22
    (λ e _. sym (same_true (set_of l) (set_of f) (sym (if_false (eqb n 0) true _ (ne_eqb n 0 other)) ∙ e)))
    (λ _ q. absurd (eqb-false 22 0 refl q)) h

-- HDR1: the set identifier is that of the files before it
first_set : (g : Bool) (n : ℕ) (f l : List ℕ) → (hdr1_fault g n f l).number ≡ 0 → (n ≡ 0 → ⊥) → set_of f ≡ set_of l
unfolding hdr1_fault
first_set g n f l h other =
    if_case (λ (x : Fault). x.number ≡ 0 → set_of f ≡ set_of l) g (crossed (later_place f l))
    (or_else (crossed (new_file_place n f l)) (file_fault n))
    (λ _ q. later_set f l (crossed_none (later_place f l) q))
    (λ _ q. new_set n f l (crossed_none (new_file_place n f l) (or_first _ _ q)) other) h

-- and a new file is at most the 64th
first_room : (n : ℕ) (f l : List ℕ) → (hdr1_fault false n f l).number ≡ 0 → n < 64
unfolding hdr1_fault file_fault fault
first_room n f l h =
    if_case (λ (x : Fault). x.number ≡ 0 → n < 64) (leb 64 n) (fault 9 0) (fault 0 0) (λ _ q. absurd (eqb-false 9 0 refl q))
    (λ e _. leb-false 64 n e)
    (or_second (crossed (new_file_place n f l)) (file_fault n) (ap (λ (x : Fault). x.number) (sym (if_false _ _ _ refl)) ∙ h))

-- HDR2 of a later section: format, record length and offset length are those of the section before
pub second_same : (f l : List ℕ) → (hdr2_fault true f l).number ≡ 0
    → (format_of f ≡ format_of l) × (record_length_of f ≡ record_length_of l) × (offset_of f ≡ offset_of l)
unfolding hdr2_fault format_of record_length_of offset_of agree_at if_b
second_same f l h = (
  byte_part 4 f ∙ ap (λ (x : List ℕ). get_or x 0 0) (same_true (part 4 1 f) (part 4 1 l) (rows format_row refl))
      ∙ sym (byte_part 4 l),
  ap number_in (same_true (part 10 5 f) (part 10 5 l) (rows record_length_row refl)),
  ap number_in (same_true (part 50 2 f) (part 50 2 l) (rows offset_row refl)),
)
  where
    rows : Hold (agree_at per_file f l) hdr2
    rows = all_hold_lem (agree_at per_file f l) hdr2 (crossed_none (first_bad (agree_at per_file f l) 0 hdr2) h)

-- EOF1: no record is open
pub end_idle : (f : List ℕ) (c q : ℕ) (l : List ℕ) → (file_end_fault f c q l).number ≡ 0 → q ≡ 0
unfolding file_end_fault open_fault fault
end_idle f c q l h =
    if_case (λ (x : Fault). x.number ≡ 0 → q ≡ 0) (eqb q 0) (fault 0 0) (fault 8 0) (λ e _. eqb-true q 0 e)
    (λ _ k. absurd (eqb-false 8 0 refl k))
    (or_second (trailer1_fault f c l) (open_fault q) h)

-- ---- one item: the invariant behind it, and the promise before it

-- HDR1
pub first_holds : (n : ℕ) (g : Bool) (f s : List ℕ) (q : ℕ) (l : List ℕ) → Outside (view_of n g f s q) → length l ≡ 80
    → (label_fault (hdr 1) l).number ≡ 0
    → (hdr1_fault g n f l).number ≡ 0 → Named (view_of n g l s q)
first_holds n g f s q l h long sound e =
    record {
      outside = record { few = h.few; idle = h.idle; some = h.some };
      room = λ off. first_room n f l (subst (λ (b : Bool). (hdr1_fault b n f l).number ≡ 0) off e);
      long = long;
      sound = sound;
    }

pub first_promise : (n : ℕ) (g : Bool) (f s : List ℕ) (q : ℕ) (l : List ℕ) (es : List Event)
    → (hdr1_fault g n f l).number ≡ 0
    → Promise g (view_of n g l s q) es → Promise g (view_of n g f s q) es
unfolding if_b
first_promise n g f s q l es e h =
    record {
      some = h.some;
      few = h.few;
      legal = subst (λ (x : List ℕ). legal_files x (collect es).files ≡ true) (one_set (eqb n 0) refl) h.legal;
      owed = h.owed;
      none = h.none;
    }
  where
    one_set : (t : Bool) → eqb n 0 ≡ t → if_b t (set_from es) (set_of l) ≡ if_b t (set_from es) (set_of f)
    one_set true z = refl
    one_set false z = ap (if_b false (set_from es)) (sym (first_set g n f l e (eqb-false n 0 z)))

-- HDR2
pub second_holds : (n : ℕ) (g : Bool) (f s : List ℕ) (q : ℕ) (l : List ℕ) → Named (view_of n g f s q)
    → Within (view_of (if_b g n (n + 1)) g f l q)
second_holds n g f s q l h =
    record {
      some = if_case (λ (m : ℕ). 1 ≤ m) g n (n + 1) (λ on. h.outside.some on) (λ _. omega arith);
      few = if_case (λ (m : ℕ). m ≤ 64) g n (n + 1) (λ _. h.outside.few) (λ off. let room : n < 64 = h.room off in omega arith);
    }

again_promise : (n : ℕ) (f s : List ℕ) (q : ℕ) (l : List ℕ) (es : List Event) → (hdr2_fault true s l).number ≡ 0
    → Promise true (view_of n true f l q) es → Promise true (view_of n true f s q) (resumes f l ∷ es)
unfolding collect set_from
again_promise n f s q l es e h =
    record {
      some = h.some;
      few = h.few;
      legal = h.legal;
      owed = λ on.
          subst (λ (x : ℕ). Owed x (value_of (record_length_of s)) q (joined (collect es).segments)) (sym (second_same s l e).0)
          (subst (λ (x : Option ℕ). Owed (format_of l) (value_of x) q (joined (collect es).segments)) (sym (second_same s l e).1)
          (h.owed on));
      none = h.none;
    }

file_more : (set : List ℕ) (d : File) (ds : List File) → legal_file set d ≡ true → legal_files set ds ≡ true
    → legal_files set (d ∷ ds) ≡ true
unfolding legal_files
file_more set d ds h k = if_true _ _ _ h ∙ k

file_legal : (set e : List ℕ) (rs : List (List ℕ)) → legal_entry set e ≡ true
    → legal_records (format_from e) (record_length_from e) rs ≡ true
    → legal_file set (record { fields = e; records = rs }) ≡ true
unfolding legal_file
file_legal set e rs h k = if_true _ _ _ h ∙ k

-- a file that begins with labels without fault, and is owed nothing at its end, is legal
begun_legal : (f l : List ℕ) (rs : List (List ℕ)) → length f ≡ 80 → length l ≡ 80 → (label_fault (hdr 1) f).number ≡ 0
    → (label_fault (hdr 2) l).number ≡ 0
    → legal_records (format_of l) (value_of (record_length_of l)) rs ≡ true
    → legal_file (set_of f) (record { fields = fields_from f l; records = rs }) ≡ true
begun_legal f l rs lf ll hf hl h =
    file_legal (set_of f) (fields_from f l) rs (entry_legal f l lf ll hf hl)
    (ap₂ (λ (a b : ℕ). legal_records a b rs) (entry_format f l lf ll) (entry_record f l lf ll) ∙ h)

begun_promise : (n : ℕ) (f s : List ℕ) (q : ℕ) (l : List ℕ) (es : List Event) → Named (view_of n false f s q) → length l ≡ 80
    → (label_fault (hdr 2) l).number ≡ 0
    → Promise true (view_of (n + 1) false f l q) es → Promise false (view_of n false f s q) (begins f l ∷ es)
unfolding collect set_from
begun_promise n f s q l es start long sound h =
    record {
      some = let k : 1 ≤ n + 1 + length (collect es).files = h.some in omega arith;
      few = let k : n + 1 + length (collect es).files ≤ 64 = h.few in omega arith;
      legal =
          subst (λ (x : List ℕ). legal_files x (d ∷ (collect es).files) ≡ true) (sym (if_same (eqb n 0) (set_of f)))
          (file_more (set_of f) d (collect es).files
          (begun_legal f l (joined (collect es).segments) start.long long start.sound sound owed)
          (subst (λ (x : List ℕ). legal_files x (collect es).files ≡ true)
          (if_false (eqb (n + 1) 0) (set_from es) (set_of f) (ne_eqb (n + 1) 0 (λ z. omega arith))) h.legal));
      owed = λ on. absurd (false≢true on);
      none = λ _. refl;
    }
  where
    d : File
    d = record { fields = fields_from f l; records = joined (collect es).segments }

    owed : legal_records (format_of l) (value_of (record_length_of l)) (joined (collect es).segments) ≡ true
    owed =
        subst (λ (k : ℕ). Owed (format_of l) (value_of (record_length_of l)) k (joined (collect es).segments))
        (start.outside.idle refl) (h.owed refl)

pub second_promise : (g : Bool) (n : ℕ) (f s : List ℕ) (q : ℕ) (l : List ℕ) (es : List Event) → Named (view_of n g f s q)
    → length l ≡ 80
    → (label_fault (hdr 2) l).number ≡ 0 → (hdr2_fault g s l).number ≡ 0
    → Promise true (view_of (if_b g n (n + 1)) g f l q) es → Promise g (view_of n g f s q) (if_b g (resumes f l) (begins f l) ∷ es)
unfolding if_b
second_promise true n f s q l es start long sound e h = again_promise n f s q l es e h
second_promise false n f s q l es start long sound e h = begun_promise n f s q l es start long sound h

-- a data block
pub block_promise : (n : ℕ) (g : Bool) (f s : List ℕ) (q : ℕ) (l : List ℕ) (es : List Event) → (outcome_in s q l).number ≡ 0
    → Promise true (view_of n g f s (outcome_in s q l).pending) es
    → Promise true (view_of n g f s q)
    (holds l (segments_of (units (format_of s) (value_of (block_length_of s)) (value_of (record_length_of s)) (value_of (offset_of s)) l)) ∷
    es)
unfolding collect set_from outcome_in block_outcome
block_promise n g f s q l es e h =
    record {
      some = h.some;
      few = h.few;
      legal = h.legal;
      owed =
          λ on. block_owed (format_of s) (value_of (record_length_of s)) q _ (collect es).segments
          (units_fair (format_of s) (value_of (block_length_of s)) (value_of (record_length_of s)) (value_of (offset_of s)) l) e
          (h.owed on);
      none = λ off. absurd (false≢true (sym off));
    }

-- EOF1
pub end_promise : (n : ℕ) (g : Bool) (f s : List ℕ) (q : ℕ) (es : List Event) → q ≡ 0 → Promise false (view_of n false f s q) es
    → Promise true (view_of n g f s q) es
unfolding joined legal_records
end_promise n g f s q es e h =
    record {
      some = h.some;
      few = h.few;
      legal = h.legal;
      owed = λ _.
          subst (λ (k : ℕ). Owed (format_of s) (value_of (record_length_of s)) k (joined (collect es).segments)) (sym e)
          (ap (λ (x : List Segment). legal_records (format_of s) (value_of (record_length_of s)) (joined x)) (h.none refl));
      none = λ off. absurd (false≢true (sym off));
    }

-- EOV1
pub reel_promise : (n : ℕ) (g : Bool) (f s : List ℕ) (q : ℕ) (es : List Event) → Promise true (view_of n true f s q) es
    → Promise true (view_of n g f s q) es
reel_promise n g f s q es h = record { some = h.some; few = h.few; legal = h.legal; owed = h.owed; none = h.none }

-- the end of the image
pub none_promise : (v : View) → FileOver v → Promise v.continues v []
unfolding collect legal_files
none_promise v h =
    record {
      some = let k : 1 ≤ v.files = h.within.some in omega arith;
      few = let k : v.files ≤ 64 = h.within.few in omega arith;
      legal = refl;
      owed = λ on. absurd (false≢true (sym h.off ∙ on));
      none = λ _. refl;
    }
