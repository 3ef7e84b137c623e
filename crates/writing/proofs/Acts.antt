-- The items that the writer lays, read one at a time: each is due where it stands and has no fault, and this is the state behind
-- it. Assumes nothing.
use Rattle.std.specs.Prelude.{Option, Some}
use mathlib.Core.Path.{◌≡◌, refl, sym, ap, ◌∙◌}
use mathlib.Core.Bool.{Bool, true, false}
use mathlib.Core.List.{List, [], ◌∷◌, ◌++◌}
use Prim.Native.Nat.{ℕ, suc, ◌+◌, ◌<◌}
use native.Mathlib.Omega.{arith}
use native.Mathlib.Numerals.{add-one}
use borrow.Author.Tests.{eq-eqb, lt-leb}
use lib.Dec.{eqb}
use lib.ListN.{length}
use Rattle.base.specs.If.{if_b}
use Rattle.base.proofs.Ifs.{if_true, if_false}
use Rattle.base.specs.Part.{same}
use Rattle.base.specs.Answer.{fault, or_else}
use Rattle.base.specs.declared.Fault.{Fault}
use Rattle.charset.specs.Number.{number_in}
use Rattle.image.specs.Item.{block, mark, reel_end}
use Rattle.order.specs.Kind.{vol, hdr, eov, eof, data_block, tape_mark, end_of_reel, is_kind}
use Rattle.order.specs.Due.{dues, choose, up_to_nine, due_after}
use Rattle.order.specs.declared.Kind.{Kind}
use Rattle.order.specs.declared.Phase.{Phase}
use Rattle.order.specs.declared.Phase.TheVariants.{Reel, Volume, FirstHeader, Header, Data, Trailer, FirstEof, Eof, FirstEov, Eov}
use Rattle.label.specs.Name.{hdr1_name, hdr2_name, eov1_name, eov2_name, eof1_name, eof2_name, kind_of}
use Rattle.label.specs.Field.{volume_of, set_of, section_of, sequence_of, count_of}
use Rattle.label.specs.Table.{fields_of}
use Rattle.label.specs.Judged.{first_bad, access_of, access_at, field_fault, label_fault}
use Rattle.label.specs.Made.{made_volume, made_first, made_second, record_length_in}
use Rattle.block.specs.Cut.{Segment}
use Rattle.block.specs.Turn.{outcome, turned, block_outcome}
use Rattle.block.specs.declared.Outcome.{Outcome}
use Rattle.volume.specs.State.{State}
use Rattle.volume.specs.Fault.{says, value_of, lower, crossed, is_among, volume_fault, new_file_place, later_place, file_fault, hdr1_fault, hdr2_fault, trailer1_fault, open_fault, file_end_fault, trailer2_fault, outcome_in, block_fault, context_fault, item_fault}
use Rattle.volume.specs.Step.{begins, resumes, holds, is_due, kind_in, bytes_in, volumes_after, files_after, continues_after, hdr1_after, hdr2_after, count_after, pending_after, state_after, segments_of, segments_in, events_of, go, judged, ordered, step}
use Rattle.reading.specs.Legal.{format_from, block_length_from, record_length_from}
use Rattle.writing.proofs.PackedFiles.{Block}
use Rattle.writing.proofs.Labels.{GoodFirst, GoodSecond, header_sound, header_kind, volume_end_sound, volume_end_kind, file_end_sound, file_end_kind, section_back, sequence_back, count_back, set_back, trailer_agrees, section_agrees, second_agrees, second_section_agrees, format_back, block_back, record_back, offset_back, second_header_sound, second_header_kind, second_volume_end_sound, second_volume_end_kind, second_file_end_sound, second_file_end_kind}
use Rattle.label.proofs.Read.{volume_back, kind_volume}

-- a state, field by field
abbrev pub at : Phase → List (List ℕ) → ℕ → Bool → List ℕ → List ℕ → ℕ → ℕ → State
at phase names files continues first second count pending =
    record { phase = phase; volumes = names; files = files; continues = continues; hdr1 = first; hdr2 = second; count = count; pending = pending }

-- a label that is due and has no fault
labelled : (s : State) (l : List ℕ) (k : Kind) (p : Phase) → is_due (due_after s.phase data_block) ≡ false → kind_of l ≡ k
    → due_after s.phase k ≡ Some p
    → (label_fault k l).number ≡ 0 → (context_fault s k l).number ≡ 0 → step s (block l) ≡ go (state_after s p k l) (events_of s k l)
unfolding step ordered judged kind_in bytes_in item_fault or_else
labelled s l k p d e h a c =
    let sound : (item_fault s k l).number ≡ 0 = ap (λ (f : Fault). f.number) (if_true _ _ _ (eq-eqb (label_fault k l).number 0 a)) ∙ c in
    ap (λ (j : Kind). ordered s j l (due_after s.phase j)) (if_false _ _ _ d ∙ e)
    ∙ ap (ordered s k l) h
    ∙ if_true _ _ _ (eq-eqb (item_fault s k l).number 0 sound)

-- ---- marks and ends of reels

pub act_mark : (p z : Phase) (names : List (List ℕ)) (files : ℕ) (on : Bool) (f s : List ℕ) (c o : ℕ) → due_after p tape_mark ≡ Some z
    → step (at p names files on f s c o) mark ≡ go (at z names files on f s c o) []
unfolding step ordered judged kind_in bytes_in item_fault or_else label_fault field_fault fields_of first_bad access_of access_at context_fault fault is_kind if_b state_after volumes_after files_after continues_after hdr1_after hdr2_after count_after pending_after events_of
act_mark p z names files on f s c o h = ap (ordered (at p names files on f s c o) tape_mark []) h

pub act_reel_end : (p z : Phase) (names : List (List ℕ)) (files : ℕ) (on : Bool) (f s : List ℕ) (c o : ℕ)
    → due_after p end_of_reel ≡ Some z
    → step (at p names files on f s c o) reel_end ≡ go (at z names files on f s c o) []
unfolding step ordered judged kind_in bytes_in item_fault or_else label_fault field_fault fields_of first_bad access_of access_at context_fault fault is_kind if_b state_after volumes_after files_after continues_after hdr1_after hdr2_after count_after pending_after events_of
act_reel_end p z names files on f s c o h = ap (ordered (at p names files on f s c o) end_of_reel []) h

-- ---- the volume label

volume_fault_lem : (names : List (List ℕ)) (n : List ℕ) → length n ≡ 6 → length names < 16 → is_among n names ≡ false
    → (volume_fault names (made_volume n)).number ≡ 0
unfolding volume_fault crossed fault
volume_fault_lem names n h m d =
    let other : is_among (volume_of (made_volume n)) names ≡ false = ap (λ (v : List ℕ). is_among v names) (volume_back n h) ∙ d in
    ap (λ (f : Fault). f.number)
    (if_false _ _ _ (lt-leb 16 (length names) m) ∙ ap crossed (if_false _ _ _ other) ∙ if_true _ _ _ refl)

pub act_volume : (names : List (List ℕ)) (files : ℕ) (on : Bool) (f s : List ℕ) (c o : ℕ) (n : List ℕ)
    → length n ≡ 6 → (label_fault (vol 1) (made_volume n)).number ≡ 0 → length names < 16 → is_among n names ≡ false
    → step (at Reel names files on f s c o) (block (made_volume n)) ≡ go (at (Volume 1) (names ++ (n ∷ [])) files on f s c o) []
unfolding due_after dues choose is_due context_fault is_kind if_b state_after volumes_after files_after continues_after hdr1_after hdr2_after count_after pending_after events_of
act_volume names files on f s c o n h a m d =
    labelled (at Reel names files on f s c o) (made_volume n) (vol 1) (Volume 1) refl (kind_volume n) refl a
    (volume_fault_lem names n h m d)
    ∙ ap (λ (v : List ℕ). go (at (Volume 1) (names ++ (v ∷ [])) files on f s c o) []) (volume_back n h)

-- ---- the first header label

-- the set identifier is that of the file before, if there is one
abbrev pub OneSet : ℕ → List ℕ → List ℕ → Type 0
OneSet files set first = if_b (eqb files 0) true (same set (set_of first)) ≡ true

new_place : (files : ℕ) (set e f : List ℕ) → GoodFirst set e → OneSet files set f → files < 64
    → new_file_place files f (made_first hdr1_name set e 1 (suc files) 0) ≡ 0
unfolding new_file_place says
new_place files set e f g one few =
    let sequence : sequence_of (made_first hdr1_name set e 1 (suc files) 0) ≡ Some (suc files) = sequence_back hdr1_name set e 1 (suc files) 0 (omega arith) in
    if_true _ _ _ (ap (λ (x : List ℕ). if_b (eqb files 0) true (same x (set_of f))) (set_back hdr1_name set e 1 (suc files) 0 g.six)
    ∙ one)
    ∙ if_true _ _ _ (ap (says 1) (section_back hdr1_name set e 1 (suc files) 0 (omega arith)))
    ∙ if_true _ _ _ (ap (says (files + 1)) sequence ∙ eq-eqb (suc files) (files + 1) (sym (add-one files)))

crossed_none : crossed 0 ≡ fault 0 0
unfolding crossed if_b
crossed_none = refl

or_else_lem : (f h : Fault) → f ≡ fault 0 0 → h ≡ fault 0 0 → (or_else f h).number ≡ 0
unfolding or_else fault
or_else_lem f h p q = ap (λ (x : Fault). x.number) (if_true _ _ _ (eq-eqb f.number 0 (ap (λ (x : Fault). x.number) p)) ∙ q)

number_none : (f : Fault) → f ≡ fault 0 0 → f.number ≡ 0
unfolding fault
number_none f p = ap (λ (x : Fault). x.number) p

file_few : (files : ℕ) → files < 64 → file_fault files ≡ fault 0 0
unfolding file_fault
file_few files h = if_false _ _ _ (lt-leb 64 files h)

pub act_header : (p : Phase) (names : List (List ℕ)) (files : ℕ) (f s : List ℕ) (c o : ℕ) (set e : List ℕ)
    → is_due (due_after p data_block) ≡ false → due_after p (hdr 1) ≡ Some FirstHeader → GoodFirst set e → OneSet files set f
    → files < 64
    → step (at p names files false f s c o) (block (made_first hdr1_name set e 1 (suc files) 0))
    ≡ go (at FirstHeader names files false (made_first hdr1_name set e 1 (suc files) 0) s 0 o) []
unfolding context_fault hdr1_fault is_kind if_b state_after volumes_after files_after continues_after hdr1_after hdr2_after count_after pending_after events_of
act_header p names files f s c o set e d h g one few =
    labelled (at p names files false f s c o) (made_first hdr1_name set e 1 (suc files) 0) (hdr 1) FirstHeader d
    (header_kind set e 1 (suc files)) h
    (number_none _ (header_sound set e 1 (suc files) g))
    (or_else_lem _ _ (ap crossed (new_place files set e f g one few) ∙ crossed_none) (file_few files few))

later_place_lem : (set e : List ℕ) (a q : ℕ) → a < 9999
    → later_place (made_first hdr1_name set e a q 0) (made_first hdr1_name set e (suc a) q 0) ≡ 0
unfolding later_place lower says value_of if_b
later_place_lem set e a q h =
    let before : section_of (made_first hdr1_name set e a q 0) ≡ Some a = section_back hdr1_name set e a q 0 (omega arith) in
    let here : section_of (made_first hdr1_name set e (suc a) q 0) ≡ Some (suc a) = section_back hdr1_name set e (suc a) q 0 (omega arith) in
    ap (λ (n : ℕ). lower n
    (if_b (says (value_of (section_of (made_first hdr1_name set e a q 0)) + 1) (section_of (made_first hdr1_name set e (suc a) q 0))) 0 28))
    (section_agrees set e a (suc a) q)
    ∙ ap (λ (n : Option ℕ). if_b (says (value_of n + 1) (section_of (made_first hdr1_name set e (suc a) q 0))) 0 28) before
    ∙ ap (λ (n : Option ℕ). if_b (says (a + 1) n) 0 28) here
    ∙ ap (λ (t : Bool). if_b t 0 28) (eq-eqb (suc a) (a + 1) (sym (add-one a)))

pub act_header_later : (names : List (List ℕ)) (files : ℕ) (s : List ℕ) (c o : ℕ) (set e : List ℕ) (a q : ℕ) → GoodFirst set e
    → a < 9999
    → step (at (Volume 1) names files true (made_first hdr1_name set e a q 0) s c o) (block (made_first hdr1_name set e (suc a) q 0))
    ≡ go (at FirstHeader names files true (made_first hdr1_name set e (suc a) q 0) s 0 o) []
unfolding due_after dues choose up_to_nine is_due context_fault hdr1_fault is_kind if_b state_after volumes_after files_after continues_after hdr1_after hdr2_after count_after pending_after events_of
act_header_later names files s c o set e a q g h =
    labelled (at (Volume 1) names files true (made_first hdr1_name set e a q 0) s c o) (made_first hdr1_name set e (suc a) q 0)
    (hdr 1) FirstHeader refl
    (header_kind set e (suc a) q) refl (number_none _ (header_sound set e (suc a) q g))
    (number_none _ (ap crossed (later_place_lem set e a q h) ∙ crossed_none))

-- ---- the second header label

pub act_second : (names : List (List ℕ)) (files : ℕ) (f s : List ℕ) (c o : ℕ) (e : List ℕ) → GoodSecond e
    → step (at FirstHeader names files false f s c o) (block (made_second hdr2_name e))
    ≡ go (at (Header 2) names (suc files) false f (made_second hdr2_name e) c o) (begins f (made_second hdr2_name e) ∷ [])
unfolding due_after dues choose is_due context_fault hdr2_fault fault is_kind if_b state_after volumes_after files_after continues_after hdr1_after hdr2_after count_after pending_after events_of
act_second names files f s c o e g =
    labelled (at FirstHeader names files false f s c o) (made_second hdr2_name e) (hdr 2) (Header 2) refl (second_header_kind e) refl
    (number_none _ (second_header_sound e g)) refl
    ∙ ap (λ (n : ℕ). go (at (Header 2) names n false f (made_second hdr2_name e) c o) (begins f (made_second hdr2_name e) ∷ []))
    (add-one files)

pub act_second_later : (names : List (List ℕ)) (files : ℕ) (f : List ℕ) (c o : ℕ) (e : List ℕ) → GoodSecond e
    → step (at FirstHeader names files true f (made_second hdr2_name e) c o) (block (made_second hdr2_name e))
    ≡ go (at (Header 2) names files true f (made_second hdr2_name e) c o) (resumes f (made_second hdr2_name e) ∷ [])
unfolding due_after dues choose is_due context_fault hdr2_fault is_kind if_b state_after volumes_after files_after continues_after hdr1_after hdr2_after count_after pending_after events_of
act_second_later names files f c o e g =
    labelled (at FirstHeader names files true f (made_second hdr2_name e) c o) (made_second hdr2_name e) (hdr 2) (Header 2) refl
    (second_header_kind e) refl
    (number_none _ (second_header_sound e g)) (number_none _ (ap crossed (second_section_agrees e) ∙ crossed_none))

-- ---- trailers

trailer_fault : (name set e : List ℕ) (a q c : ℕ) → c < 1000000
    → trailer1_fault (made_first hdr1_name set e a q 0) c (made_first name set e a q c) ≡ fault 0 0
unfolding trailer1_fault lower says if_b
trailer_fault name set e a q c h =
    ap (λ (n : ℕ). crossed (lower n (if_b (says c (count_of (made_first name set e a q c))) 0 55))) (trailer_agrees name set e a q c)
    ∙ ap (λ (n : Option ℕ). crossed (if_b (says c n) 0 55)) (count_back name set e a q c h)
    ∙ ap (λ (t : Bool). crossed (if_b t 0 55)) (eq-eqb c c refl)
    ∙ crossed_none

pub act_eof1 : (names : List (List ℕ)) (files : ℕ) (on : Bool) (s : List ℕ) (set e : List ℕ) (a q c : ℕ) → GoodFirst set e
    → c < 1000000
    → step (at Trailer names files on (made_first hdr1_name set e a q 0) s c 0) (block (made_first eof1_name set e a q c))
    ≡ go (at FirstEof names files false (made_first hdr1_name set e a q 0) s c 0) []
unfolding due_after dues choose is_due context_fault file_end_fault open_fault is_kind if_b state_after volumes_after files_after continues_after hdr1_after hdr2_after count_after pending_after events_of
act_eof1 names files on s set e a q c g h =
    labelled (at Trailer names files on (made_first hdr1_name set e a q 0) s c 0) (made_first eof1_name set e a q c) (eof 1) FirstEof refl
    (file_end_kind set e a q c) refl (number_none _ (file_end_sound set e a q c g))
    (or_else_lem _ _ (trailer_fault eof1_name set e a q c h) refl)

pub act_eov1 : (names : List (List ℕ)) (files : ℕ) (on : Bool) (s : List ℕ) (set e : List ℕ) (a q c o : ℕ) → GoodFirst set e
    → c < 1000000
    → step (at Trailer names files on (made_first hdr1_name set e a q 0) s c o) (block (made_first eov1_name set e a q c))
    ≡ go (at FirstEov names files true (made_first hdr1_name set e a q 0) s c o) []
unfolding due_after dues choose is_due context_fault is_kind if_b state_after volumes_after files_after continues_after hdr1_after hdr2_after count_after pending_after events_of
act_eov1 names files on s set e a q c o g h =
    labelled (at Trailer names files on (made_first hdr1_name set e a q 0) s c o) (made_first eov1_name set e a q c) (eov 1) FirstEov refl
    (volume_end_kind set e a q c) refl (number_none _ (volume_end_sound set e a q c g))
    (number_none _ (trailer_fault eov1_name set e a q c h))

pub act_eof2 : (names : List (List ℕ)) (files : ℕ) (on : Bool) (f e : List ℕ) (c o : ℕ) → GoodSecond e
    → step (at FirstEof names files on f (made_second hdr2_name e) c o) (block (made_second eof2_name e))
    ≡ go (at (Eof 2) names files on f (made_second hdr2_name e) c o) []
unfolding due_after dues choose is_due context_fault trailer2_fault is_kind if_b state_after volumes_after files_after continues_after hdr1_after hdr2_after count_after pending_after events_of
act_eof2 names files on f e c o g =
    labelled (at FirstEof names files on f (made_second hdr2_name e) c o) (made_second eof2_name e) (eof 2) (Eof 2) refl
    (second_file_end_kind e) refl
    (number_none _ (second_file_end_sound e g)) (number_none _ (ap crossed (second_agrees eof2_name e) ∙ crossed_none))

pub act_eov2 : (names : List (List ℕ)) (files : ℕ) (on : Bool) (f e : List ℕ) (c o : ℕ) → GoodSecond e
    → step (at FirstEov names files on f (made_second hdr2_name e) c o) (block (made_second eov2_name e))
    ≡ go (at (Eov 2) names files on f (made_second hdr2_name e) c o) []
unfolding due_after dues choose is_due context_fault trailer2_fault is_kind if_b state_after volumes_after files_after continues_after hdr1_after hdr2_after count_after pending_after events_of
act_eov2 names files on f e c o g =
    labelled (at FirstEov names files on f (made_second hdr2_name e) c o) (made_second eov2_name e) (eov 2) (Eov 2) refl
    (second_volume_end_kind e) refl
    (number_none _ (second_volume_end_sound e g)) (number_none _ (ap crossed (second_agrees eov2_name e) ∙ crossed_none))

-- ---- data blocks

block_outcome_lem : (e b : List ℕ) (o p : ℕ) (g : List Segment) → GoodSecond e
    → Block (format_from e) (block_length_from e) (record_length_from e) o p b g → outcome_in (made_second hdr2_name e) o b ≡ outcome 0 p
unfolding outcome_in block_outcome turned block_length_from record_length_from value_of
block_outcome_lem e b o p g s h =
    rw (format_back hdr2_name e s.long, block_back hdr2_name e s.long, record_back hdr2_name e s.long, offset_back hdr2_name e)
    (ap (turned (value_of (number_in (record_length_in e))) o true) h.cuts ∙ h.turns)

block_segments : (p : Phase) (names : List (List ℕ)) (files : ℕ) (on : Bool) (f e b : List ℕ) (c o n : ℕ) (g : List Segment)
    → GoodSecond e
    → Block (format_from e) (block_length_from e) (record_length_from e) o n b g
    → segments_in (at p names files on f (made_second hdr2_name e) c o) b ≡ g
unfolding segments_in segments_of block_length_from record_length_from value_of
block_segments p names files on f e b c o n g s h =
    rw (format_back hdr2_name e s.long, block_back hdr2_name e s.long, record_back hdr2_name e s.long, offset_back hdr2_name e)
    (ap segments_of h.cuts)

-- what a data block does, by its outcome and its segments
data_block_lem : (s : State) (b : List ℕ) → s.phase ≡ Data → (outcome_in s.hdr2 s.pending b).number ≡ 0
    → step s (block b) ≡ go (state_after s Data data_block b) (events_of s data_block b)
unfolding step kind_in bytes_in ordered judged item_fault or_else label_fault field_fault fields_of first_bad access_of access_at context_fault block_fault fault due_after dues choose is_due is_kind if_b
data_block_lem s b h z =
    ap (λ (p : Phase). ordered s (if_b (is_due (due_after p data_block)) data_block (kind_of b)) b
    (due_after p (if_b (is_due (due_after p data_block)) data_block (kind_of b)))) h
    ∙ if_true (eqb (outcome_in s.hdr2 s.pending b).number 0) _ _ (eq-eqb _ 0 z)

pub act_block : (names : List (List ℕ)) (files : ℕ) (on : Bool) (f e b : List ℕ) (c o p : ℕ) (g : List Segment) → GoodSecond e
    → Block (format_from e) (block_length_from e) (record_length_from e) o p b g
    → step (at Data names files on f (made_second hdr2_name e) c o) (block b)
    ≡ go (at Data names files on f (made_second hdr2_name e) (suc c) p) (holds b g ∷ [])
unfolding outcome is_kind if_b state_after volumes_after files_after continues_after hdr1_after hdr2_after count_after pending_after events_of
act_block names files on f e b c o p g s h =
    let out : outcome_in (made_second hdr2_name e) o b ≡ outcome 0 p = block_outcome_lem e b o p g s h in
    data_block_lem (at Data names files on f (made_second hdr2_name e) c o) b refl (ap (λ (x : Outcome). x.number) out)
    ∙ ap (λ (x : Outcome). go (at Data names files on f (made_second hdr2_name e) (c + 1) x.pending)
    (holds b (segments_in (at Data names files on f (made_second hdr2_name e) c o) b) ∷ [])) out
    ∙ ap (λ (x : List Segment). go (at Data names files on f (made_second hdr2_name e) (c + 1) p) (holds b x ∷ []))
    (block_segments Data names files on f e b c o p g s h)
    ∙ ap (λ (n : ℕ). go (at Data names files on f (made_second hdr2_name e) n p) (holds b g ∷ [])) (add-one c)
