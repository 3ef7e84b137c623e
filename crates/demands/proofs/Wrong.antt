-- Wrong programs that the page of demands names: each is ours but for one operation, and does not meet it. Assumes nothing.
use Rattle.content.specs.declared.Found.{Found}
use Rattle.std.specs.Prelude.{Err, Ok, Result}
use mathlib.Core.Path.{◌≡◌, refl, sym, ap, ap₂, ◌∙◌, subst}
use mathlib.Core.List.{List, [], ◌∷◌, ◌++◌}
use Prim.Native.Nat.{ℕ, ◌+◌, ◌≤◌}
use native.Mathlib.Omega.{arith}
use borrow.Author.Tests.{eq-eqb, ne_eqb}
use lib.Dec.{eqb, leb}
use lib.ListN.{length, take, drop, get_or, replicate}
use lib.Seq.{take_at, drop-append_seam}
use Rattle.base.specs.If.{if_b}
use Rattle.base.proofs.Ifs.{if_true, if_false}
use Rattle.base.specs.Answer.{verdict}
use Rattle.base.specs.declared.Verdict.{Verdict}
use Rattle.base.specs.Part.{part, put_at, same}
use Rattle.base.proofs.Parts.{put_none}
use Rattle.image.specs.Framing.{framing, items}
use Rattle.output.specs.Output.{Written, refused, Result as Stored, placed, image_in}
use Rattle.output.specs.Text.{bytes}
use Rattle.volume.specs.Run.{image_verdict}
use Rattle.volume.specs.Accepted.{Accepted, FirstFault, over_long, no_image, unframed, wrong}
use Rattle.volume.specs.Meaning.{content}
use Rattle.volume.proofs.Accepted.{accepted_iff}
use Rattle.reading.specs.Legal.{Sheet}
use Rattle.sheet.specs.Flat.{Flat, sheet_number}
use Rattle.content.specs.Walk.{record_at, step_by, step_at}
use Rattle.content.specs.Row.{StepRow, stays, steps_by, steps_at, steps_in, row_of}
use Rattle.content.specs.Found.{passed, left_at}
use Rattle.content.specs.File.{file_numbered, begun_by}
use Rattle.content.specs.Numbers.{no_walk, record_of, beginning_of, stepped_of}
use Rattle.content.specs.declared.Found.TheVariants.{Joined, InImage}
use Rattle.content.specs.declared.numbers.Located.{Located}
use Rattle.content.specs.declared.numbers.Beginning.{Beginning}
use Rattle.content.specs.declared.numbers.Stepped.{Stepped}
use Rattle.content.specs.declared.Walk.{Walk}
use Rattle.listing.proofs.Examples.{ledger as miscounting}
use Rattle.writing.specs.Write.{write}
use Rattle.writing.specs.Rewrite.{sheet_from, rewrite}
use Rattle.demands.specs.Operations.{Handing, Moving, Listing, listing, Operations, ours}
use Rattle.demands.specs.Terms.{OutOf, no_record, Handed, one, several, located_in, handing, row_on, row_by, Fits, image, WriteOutcome, fits, illegal, few_reels, too_long, no_room}
use Rattle.demands.proofs.Normal.{written, write_outcome, rewritten}
use Rattle.demands.specs.Demands.{Demand1, Demand2}
use Rattle.demands.proofs.Witness.{set, names, document01, set_accepted, reels_legal, set_fits, sheet_legal, sheet_fits, size, miscounted, ledger_file, set_files, record_found, lost_reel, lost, no_sheet, no_sheet_legal}

-- ours, with another checker, beginning of a file, search for the next file, search for a record, step, steps at once, writer and
-- rewriter
abbrev pub program : (List ℕ → Verdict) → (List ℕ → ℕ → Beginning) → (List ℕ → ℕ → ℕ → Beginning)
    → (List ℕ → ℕ → ℕ → List ℕ → Handing) → (List ℕ → Walk → List ℕ → Moving) → (List ℕ → Walk → List ℕ → List ℕ → Listing)
    → (Flat → List ℕ → Written) → (List ℕ → ℕ → List ℕ → List ℕ → Stored) → Operations
program check begin further find step steps write rewrite =
    record {
      check = check;
      begin = begin;
      first = ours.first;
      further = further;
      find = find;
      step = step;
      steps = steps;
      part = ours.part;
      facts = ours.facts;
      opened = ours.opened;
      next = ours.next;
      count = ours.count;
      item = ours.item;
      field = ours.field;
      list = ours.list;
      write = write;
      rewrite = rewrite;
      import = ours.import;
      export = ours.export;
    }

abbrev pub checking : (List ℕ → Verdict) → Operations
checking check = program check ours.begin ours.further ours.find ours.step ours.steps write rewrite

abbrev pub beginning : (List ℕ → ℕ → Beginning) → Operations
beginning begin = program image_verdict begin ours.further ours.find ours.step ours.steps write rewrite

abbrev pub searching : (List ℕ → ℕ → ℕ → Beginning) → Operations
searching further = program image_verdict ours.begin further ours.find ours.step ours.steps write rewrite

abbrev pub finding : (List ℕ → ℕ → ℕ → List ℕ → Handing) → Operations
finding find = program image_verdict ours.begin ours.further find ours.step ours.steps write rewrite

abbrev pub stepping : (List ℕ → Walk → List ℕ → Moving) → Operations
stepping step = program image_verdict ours.begin ours.further ours.find step ours.steps write rewrite

abbrev pub rowing : (List ℕ → Walk → List ℕ → List ℕ → Listing) → Operations
rowing steps = program image_verdict ours.begin ours.further ours.find ours.step steps write rewrite

abbrev pub writing : (Flat → List ℕ → Written) → Operations
writing write = program image_verdict ours.begin ours.further ours.find ours.step ours.steps write rewrite

abbrev pub rewriting : (List ℕ → ℕ → List ℕ → List ℕ → Stored) → Operations
rewriting rewrite = program image_verdict ours.begin ours.further ours.find ours.step ours.steps write rewrite

-- an answer without the walk's move
unfoldable pub still : Walk → Stepped → Stepped
still w x = record { number = x.number; joined = x.joined; start = x.start; len = x.len; walk = w }

-- ---- demand 1

-- a writer that fails half way through its buffer
pub half_way : Demand1 (writing (λ x out. record { number = 10; len = 0; out = 0 ∷ drop 1 out })) → ⊥
unfolding verdict
half_way d =
    let kept = (d.write document01 (1 ∷ [])).kept (λ z. omega arith) in
    let z : ◌≡◌ {A = ℕ} 0 1 = ap (λ (l : List ℕ). get_or l 0 0) kept.1 in
    omega arith

-- a step that refuses, and has moved the walk
pub moves_and_refuses : Demand1
    (stepping (λ s w old. record { answer = record { number = 13; joined = 0; start = 0; len = 0; walk = no_walk }; left = old }))
    → ⊥
unfolding verdict stepped_of
moves_and_refuses d =
    let kept = (d.step [] (record { format = 0; record_length = 1; offset = 0; at = 0; left = 0 }) []).kept (λ z. omega arith) in
    let z : ◌≡◌ {A = ℕ} 0 1 = ap (λ (x : Moving). x.answer.walk.record_length) kept in
    omega arith

-- steps that shorten the lists to what they found: here nothing
pub shortens : Demand1
    (rowing (λ s w places lengths. record {
      answer = row_of
          (steps_in s places lengths w);
      places = (steps_in s places lengths w).places;
      lengths = (steps_in s places lengths w).lengths;
    }))
    → ⊥
unfolding steps_at steps_by step_at step_by record_at row_of if_b
shortens d =
    let kept = d.steps [] no_walk (1 ∷ []) (1 ∷ []) refl in
    let z : ◌≡◌ {A = ℕ} 0 1 = ap (λ (x : Listing). get_or x.places 0 0) kept ∙ ap (λ (l : List ℕ). get_or l 0 0) (put_none (1 ∷ []) 0) in
    omega arith

-- a number that no table has
pub unknown_number : Demand1 (checking (λ s. verdict 19 0 0)) → ⊥
unfolding verdict
unknown_number d = let known = (d.check []).known in omega arith

-- ---- demand 2

-- a checker that refuses all sets
pub refuses_all : Demand2 (checking (λ s. verdict 3 0 0)) → ⊥
unfolding verdict
refuses_all d = let z : ◌≡◌ {A = ℕ} 3 0 = ap (λ (v : Verdict). v.number) ((d.accepted set).1 set_accepted) in omega arith

-- or accepts all
pub accepts_all : Demand2 (checking (λ s. verdict 0 0 0)) → ⊥
unfolding verdict framing same if_b
accepts_all d = let z : ◌≡◌ {A = ℕ} 1 0 = ((d.accepted []).0 refl).framed in omega arith

-- an image whose verdict has another number than 0 is not accepted
refused_not : (s : List ℕ) (k i b : ℕ) → (k ≡ 0 → ⊥) → image_verdict s ≡ verdict k i b → Accepted s → ⊥
unfolding verdict
refused_not s k i b z e a = z (sym (ap (λ (v : Verdict). v.number) e) ∙ (accepted_iff s).1 a)

-- or names an item behind the first wrong one: here of a set that lost its last reel
ends_within : (s : List ℕ) (v : Verdict) → FirstFault s v → v.number ≡ 3 → v.item ≤ length (items s)
unfolding verdict
ends_within s v (over_long l) e = absurd (omega arith)
ends_within s v (no_image l h) e = absurd (omega arith)
ends_within s v (unframed i o u) e = absurd (omega arith)
ends_within s v (wrong k i b f w) e = w.within

pub later_fault : Demand2 (checking (λ s. verdict (image_verdict s).number ((image_verdict s).item + 1) (image_verdict s).byte)) → ⊥
unfolding verdict
later_fault d =
    let number : (image_verdict lost_reel).number ≡ 3 = ap (λ (v : Verdict). v.number) lost.0 in
    let item : (image_verdict lost_reel).item ≡ 11 = ap (λ (v : Verdict). v.item) lost.0 in
    let fault = d.first_wrong lost_reel (refused_not lost_reel 3 11 0 (λ z. omega arith) lost.0) in
    let within : (image_verdict lost_reel).item + 1 ≤ length (items lost_reel) = ends_within lost_reel _ fault number in
    omega (arith, within, item, lost.1)

-- a walk that stands still, and hands out the first record again and again
pub stands_still : Demand2
    (stepping (λ s w old. record { answer = still w (ours.step s w old).answer; left = (ours.step s w old).left })) → ⊥
unfolding still ledger_file located_in record_of verdict stepped_of if_b bytes
stands_still d =
    let (v, handed, moved, last) = (d.files set [] ledger_file [] set_accepted set_files).walked in
    let w : Walk = (ours.begin set 1).walk in
    let old : List ℕ = replicate 10 0 in
    let zero : (ours.step set w old).answer.number ≡ 0 = taken handed in
    let same : w ≡ v = moved old zero in
    let over : (ours.step set v old).answer.number ≡ 13 = ap (λ (x : Moving). x.answer.number) (last old) in
    let z : ◌≡◌ {A = ℕ} 0 13 = sym zero ∙ ap (λ (u : Walk). (ours.step set u old).answer.number) same ∙ over in
    omega arith
  where
    p : Operations
    p = stepping (λ s w old. record { answer = still w (ours.step s w old).answer; left = (ours.step s w old).left })

    taken : Handed set (bytes "0123456789") (λ old. handing (p.step set (ours.begin set 1).walk old))
        (record_at set (ours.begin set 1).walk)
        → (ours.step set (ours.begin set 1).walk (replicate 10 0)).answer.number ≡ 0
    taken (one start v stood is at) = ap (λ (h : Handing). h.at.verdict.number) (at (replicate 10 0))
    taken (several v stood at) = ap (λ (h : Handing). h.at.verdict.number) (at (replicate 10 0))

-- steps at once of which none is ever taken: here a record stands at the walk's place
pub takes_none : Demand2 (rowing (λ s w places lengths. listing places lengths (stays w))) → ⊥
unfolding ledger_file located_in record_of verdict row_by row_on row_of bytes
takes_none d =
    let (v, handed, moved, last) = (d.files set [] ledger_file [] set_accepted set_files).walked in
    let (number, joined) = taken handed in
    let one = if_true (eqb x.number 0) _ _ (eq-eqb x.number 0 number) ∙ if_true (eqb x.joined 0) _ _ (eq-eqb x.joined 0 joined) in
    let z : ◌≡◌ {A = ℕ} 0 1 = ap (λ (l : Listing). l.answer.count) (d.steps set w (0 ∷ []) (0 ∷ [])) ∙ ap (λ (y : StepRow). length y.places) one in
    omega arith
  where
    w : Walk
    w = (ours.begin set 1).walk

    x : Stepped
    x = (ours.step set w []).answer

    taken : Handed set (bytes "0123456789") (λ old. handing (ours.step set w old)) (record_at set w)
        → (x.number ≡ 0) × (x.joined ≡ 0)
    taken (one start v stood is at) =
        (ap (λ (h : Handing). h.at.verdict.number) (at []), ap (λ (h : Handing). h.at.joined) (at []))
    taken (several v stood at) = let q = sym record_found.1 ∙ stood in let z : ◌≡◌ {A = ℕ} 0 1 = cc in absurd (omega arith)

-- a search that stays at its file, and so finds it again and again: here there is one file
pub same_file_again : Demand2 (searching (λ s a b. ours.first s)) → ⊥
unfolding verdict beginning_of
same_file_again d =
    let one : (ours.begin set 1).verdict.number ≡ 0 = ap (λ (v : Verdict). v.number) (d.files set [] ledger_file [] set_accepted set_files).begun in
    let again : ours.begin set 1 ≡ ours.begin set 2 = sym (d.first set set_accepted) ∙ d.further set 1 one in
    let over : ours.begin set 2 ≡ beginning_of (Err (verdict 13 0 0)) = (d.no_file set 2 set_accepted behind).0 in
    let z : ◌≡◌ {A = ℕ} 0 13 = sym one ∙ ap (λ (b : Beginning). b.verdict.number) (again ∙ over) in
    omega arith
  where
    behind : OutOf (length (content set).files) 2
    behind i l e = let few : length (content set).files ≡ 1 = ap length set_files in omega (arith, few)

-- a search that joins every record in the buffer, be it one unit, and so gives 10 for it
unfoldable pub copied : List ℕ → List ℕ → Located → Handing
copied s old x =
    if_b (leb x.len (length old)) (record { at = record_of (Ok (Joined x.len)); left = put_at old 0 (part x.start x.len s) })
    (no_record (verdict 10 0 0) old)

pub joins_all : Demand2
    (finding (λ s n r old. if_b (eqb (ours.find s n r old).at.verdict.number 0) (copied s old (ours.find s n r old).at)
    (ours.find s n r old))) → ⊥
unfolding ledger_file record_of verdict if_b bytes passed copied
joins_all d =
    let (w, there, handed) = (d.files set [] ledger_file [] set_accepted set_files).asked [] (bytes "0123456789") [] refl in
    let same : (ours.begin set 1).walk ≡ w = cc in
    by_way (subst (λ (u : Walk). Handed set (bytes "0123456789") f (record_at set u)) (sym same) handed)
  where
    f : List ℕ → Handing
    f old =
        if_b (eqb (ours.find set 1 1 old).at.verdict.number 0) (copied set old (ours.find set 1 1 old).at)
        (ours.find set 1 1 old)

    asks : (f []).at.verdict.number ≡ 10
    asks =
        ap (λ (x : Result Found Verdict). (if_b (eqb (record_of x).verdict.number 0) (copied set [] (record_of x))
        (record { at = record_of x; left = left_at set 1 1 [] })).at.verdict.number) (record_found.0 0)

    by_way : Handed set (bytes "0123456789") f (record_at set (ours.begin set 1).walk) → ⊥
    by_way (one start v stood is at) = let z : ◌≡◌ {A = ℕ} 10 0 = sym asks ∙ ap (λ (h : Handing). h.at.verdict.number) (at []) in omega arith
    by_way (several v stood at) = let q = sym record_found.1 ∙ stood in let z : ◌≡◌ {A = ℕ} 0 1 = cc in omega arith

-- a step that hands out all of an image, whatever it is
pub hands_over_all : Demand2 (stepping (λ s w old. record { answer = stepped_of w (Ok (InImage 0 (length s), w)); left = old })) → ⊥
unfolding stepped_of step_at step_by record_at if_b
hands_over_all d = let z : ◌≡◌ {A = ℕ} 0 13 = ap (λ (x : Moving). x.answer.number) (d.step [] no_walk []) in omega arith

-- a reader that hands over what came before the fault: here a file whose trailer miscounts
pub hands_over : Demand2 (beginning (λ s n. beginning_of (begun_by (file_numbered s n)))) → ⊥
unfolding verdict beginning_of
hands_over d =
    let none = (d.whole (miscounting "000002") (refused_not (miscounting "000002") 6 6 55 (λ z. omega arith) miscounted.0)).begin 1 in
    let number : (image_verdict (miscounting "000002")).number ≡ 6 = ap (λ (v : Verdict). v.number) miscounted.0 in
    let z : ◌≡◌ {A = ℕ} 0 6 = sym (ap (λ (v : Verdict). v.number) miscounted.2) ∙ ap (λ (b : Beginning). b.verdict.number) none ∙ number in
    omega arith

-- an idle writer
pub idle : Demand2 (writing (λ x out. record { number = 0; len = 0; out = out })) → ⊥
unfolding verdict framing same if_b
idle d = let z : ◌≡◌ {A = ℕ} 1 0 = (d.reads_back document01 [] refl).accepted.framed in omega arith

-- a writer that makes up its trailer's count
pub made_up_count : Demand2 (writing (λ x out. record { number = 0; len = 448; out = miscounting "000002" ++ drop 448 out })) → ⊥
made_up_count d =
    let image : take 448 (miscounting "000002" ++ []) ≡ miscounting "000002" = take_at (miscounting "000002") [] 448 miscounted.1 in
    refused_not (miscounting "000002") 6 6 55 (λ z. omega arith) miscounted.0
    (subst Accepted image (d.reads_back document01 [] refl).accepted)

-- a writer that refuses all sheets
pub refuses_sheets : Demand2 (writing (λ x out. refused 12 out)) → ⊥
unfolding refused
refuses_sheets d = let z : ◌≡◌ {A = ℕ} 12 0 = d.written document01 (replicate 448 0) sheet_legal (sheet_fits 448 (omega arith)) in omega arith

-- a writer that says 10 for every refusal
outcome_number : (n : ℕ) (x : Sheet) (out : List ℕ) (w : Written) → WriteOutcome n x out w → (n ≡ 0 → ⊥) → w.number ≡ n
unfolding refused
outcome_number n x out w (fits z f) other = absurd (other z)
outcome_number n x out w (illegal z) other = refl
outcome_number n x out w (few_reels z e) other = absurd (other z)
outcome_number n x out w (too_long z xs e l) other = absurd (other z)
outcome_number n x out w (no_room z xs e l h) other = absurd (other z)

pub ten_for_all : Demand2 (writing (λ x out. if_b (eqb (write x out).number 0) (write x out) (refused 10 out))) → ⊥
unfolding refused
ten_for_all d =
    let other : sheet_number no_sheet ≡ 0 → ⊥ = λ z. let q : ◌≡◌ {A = ℕ} 11 0 = sym no_sheet_legal ∙ z in omega arith in
    let own = outcome_number (sheet_number no_sheet) _ [] _ (write_outcome no_sheet []) other in
    let wrong-one = outcome_number (sheet_number no_sheet) _ [] _ (d.outcome no_sheet []) other in
    let ten : (if_b (eqb (write no_sheet []).number 0) (write no_sheet []) (refused 10 [])).number ≡ 10
    = ap (λ (w : Written). w.number) (if_false _ _ _ (ne_eqb (write no_sheet []).number 0 (λ z. other (sym own ∙ z)))) in
    let z : ◌≡◌ {A = ℕ} 10 11 = sym ten ∙ wrong-one ∙ no_sheet_legal in
    omega arith

-- a rewriter that fills the buffer behind its image
rest_stays : (n : ℕ) (x : Sheet) (out : List ℕ) (w : Written) → WriteOutcome n x out w → w.number ≡ 0
    → drop w.len w.out ≡ drop w.len out
unfolding refused
rest_stays n x out w (fits z f) e = drop-append_seam (image f) (drop (length (image f)) out)
rest_stays n x out w (illegal z) e = absurd (z e)
rest_stays n x out w (few_reels z q) e = absurd (omega arith)
rest_stays n x out w (too_long z xs q l) e = absurd (omega arith)
rest_stays n x out w (no_room z xs q l h) e = absurd (omega arith)

unfoldable pub filled : Stored → Stored
filled r = record { verdict = r.verdict; len = r.len; out = image_in r ++ (94 ∷ []) }

pub fills_behind : Demand2 (rewriting (λ s quota names out. filled (rewrite s quota names out))) → ⊥
unfolding filled placed verdict image_in
fills_behind d =
    let out : List ℕ = replicate 449 0 in
    let f : Fits (sheet_from set 1 names) 449 = set_fits 449 (omega arith) in
    let done : rewrite set 1 names out ≡ placed (written (image f) out) = rewritten set 1 names out set_accepted reels_legal f in
    let (w, o, e) = d.rewritten set 1 names out set_accepted in
    let q : filled (placed (written (image f) out)) ≡ placed w = ap filled (sym done) ∙ e in
    let number : w.number ≡ 0 = sym (ap (λ (r : Stored). r.verdict.number) q) in
    let len : w.len ≡ length (image f) = sym (ap (λ (r : Stored). r.len) q) in
    let end : length (image f) ≡ 448 = size in
    let held : w.out ≡ image f ++ (94 ∷ []) = sym (ap (λ (r : Stored). r.out) q) ∙ ap (λ (l : List ℕ). l ++ (94 ∷ [])) (take_at (image f) (drop (length (image f)) out) (length (image f)) refl) in
    let stays : drop w.len w.out ≡ drop w.len out = rest_stays _ _ out w o number in
    let here : drop w.len w.out ≡ 94 ∷ [] = ap₂ (λ (n : ℕ) (l : List ℕ). drop n l) len held ∙ drop-append_seam (image f) (94 ∷ []) in
    let there : drop w.len out ≡ 0 ∷ [] = ap (λ (n : ℕ). drop n out) (len ∙ end) in
    let z : ◌≡◌ {A = ℕ} 94 0 = ap (λ (l : List ℕ). get_or l 0 1) (sym here ∙ stays ∙ there) in
    omega arith
