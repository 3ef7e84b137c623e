-- Demand 1: what each operation answers where it does not do what it is asked for, and that then nothing is changed. Assumes
-- nothing.
use Rattle.content.specs.declared.Found.TheVariants.{InImage, Joined}
use Rattle.std.specs.Prelude.{Option, Some, None, Result, Ok, Err}
use Rattle.content.specs.declared.FileAt.{FileAt}
use mathlib.Core.Path.{◌≡◌, refl, sym, ap, ◌∙◌}
use mathlib.Core.Bool.{Bool, true, false, ◌&&◌}
use mathlib.Core.List.{List, [], ◌∷◌, ◌++◌, flatten as end_to_end}
use Prim.Native.Nat.{ℕ, zero, suc, ◌-◌, min}
use native.Mathlib.Omega.{arith}
use borrow.Author.Tests.{eqb-false}
use lib.Dec.{eqb, leb}
use lib.ListN.{length}
use Rattle.base.specs.If.{if_b}
use Rattle.base.proofs.Ifs.{if_false, if_case}
use Rattle.base.specs.Part.{put_at}
use Rattle.base.specs.Answer.{verdict}
use Rattle.base.specs.declared.Verdict.{Verdict}
use Rattle.image.specs.Item.{encode}
use Rattle.image.specs.Framing.{head, most_image, framing}
use Rattle.output.specs.Output.{Written, refused, fitted, Result as Stored, refused_with, placed}
use Rattle.simh.specs.Set.{tape_verdict, image_of, from_simh, files_of, Converted, kept as kept_by, stored as stored_tapes, to_simh}
use Rattle.volume.specs.Run.{image_verdict}
use Rattle.reading.specs.Legal.{legal_sheet, legal_quota, legal_names}
use Rattle.sheet.specs.Flat.{Flat, in_parts, adds_up, sheet_of, sheet_number, reels_number}
use Rattle.content.specs.Walk.{Record, whole, split, nothing as no_record_here, record_at, step_by, join_by, step_at, join_at, Step}
use Rattle.content.specs.Row.{stays, steps_by, steps_at, row_of}
use Rattle.content.specs.File.{file_numbered, begun_by, begun_at}
use Rattle.content.specs.Found.{passed, found_by, found_in, left_in, found_from, left_from, found_at, left_at}
use Rattle.content.specs.Records.{records_at, facts_of}
use Rattle.content.specs.Numbers.{no_walk, record_of, beginning_of, file_of, stepped_of}
use Rattle.content.specs.declared.Walk.{Walk}
use Rattle.content.specs.declared.numbers.Beginning.{Beginning}
use Rattle.reader.specs.Read.{opened_by, opened_at, walk_behind, read_by, read_at, count_at}
use Rattle.reader.specs.declared.FileFacts.{FileFacts}
use Rattle.reader.proofs.Places.{nowhere_none}
use Rattle.listing.specs.Text.{text_of}
use Rattle.writing.specs.Lay.{Laid, laid, short, lay}
use Rattle.writing.specs.Write.{stored, stored_laid, write_sheet, write}
use Rattle.writing.specs.Rewrite.{sheet_from, rewrite}
use Rattle.demands.specs.Operations.{Handing, Moving, reading_of, listing, ours}
use Rattle.demands.specs.Terms.{is_in, Answer, done, given, other, Answered, none_given, no_record, ByReader}

-- ---- three ways to answer

is_done : (own : Verdict) (ns : List ℕ) (P : Type 0) → Answered own ns (verdict 0 0 0) P
is_done own ns P = record { answer = done; kept = λ z. absurd (z (unfold verdict in refl)) }

is_given : (own : Verdict) (ns : List ℕ) (P : Type 0) → eqb own.number 0 ≡ false → P → Answered own ns own P
is_given own ns P e k = record { answer = given (eqb-false own.number 0 e); kept = λ _. k }

is_other : (own : Verdict) (ns : List ℕ) (P : Type 0) (n : ℕ) → is_in ns n ≡ true → P → Answered own ns (verdict n 0 0) P
is_other own ns P n h k = record { answer = other n h; kept = λ _. k }

-- ---- records

-- what holds of a step that hands out a record, and of one that is refused with 13 or 10, holds of every step
by_record : (Q : Step → List ℕ → Type 0) (old : List ℕ) (x : Record) → ((start n : ℕ) (v : Walk) → Q (Ok (InImage start n, v)) old)
    → ((bs : List ℕ) (v : Walk) → Q (Ok (Joined (length bs), v)) (put_at old 0 bs))
    → ((k : ℕ) → is_in (13 ∷ 10 ∷ []) k ≡ true → Q (Err k) old)
    → Q (step_by (length old) x) (join_by old x)
unfolding step_by join_by if_b is_in
by_record Q old (whole start n v) there here off = there start n v
by_record Q old no_record_here there here off = off 13 refl
by_record Q old (split bs v) there here off = by_room (leb (length bs) (length old))
  where
    by_room : (t : Bool) → Q (if_b t (Ok (Joined (length bs), v)) (Err 10)) (if_b t (put_at old 0 bs) old)
    by_room true = here bs v
    by_room false = off 10 refl

-- no step is taken exactly where the row is empty
none_taken : (s : List ℕ) (room : ℕ) (w : Walk) → length (steps_at s room w).places ≡ 0 → steps_at s room w ≡ stays w
unfolding steps_at steps_by
none_taken s zero w h = refl
none_taken s (suc room) w h = by_step (step_at s 0 w) h
  where
    by_step : (x : Step) → length (steps_by w x (λ v. steps_at s room v)).places ≡ 0
        → steps_by w x (λ v. steps_at s room v) ≡ stays w
    by_step (Ok (InImage start n, v)) e = absurd (omega arith)
    by_step (Ok (Joined n, v)) e = refl
    by_step (Err k) e = refl

pub steps_none : (s : List ℕ) (w : Walk) (places lengths : List ℕ) → (ours.steps s w places lengths).answer.count ≡ 0
    → ours.steps s w places lengths ≡ listing places lengths (stays w)
unfolding row_of
steps_none s w places lengths h = ap (listing places lengths) (none_taken s (min (length places) (length lengths)) w h)

pub step_refused : (s : List ℕ) (w : Walk) (old : List ℕ)
    → Answered none_given (13 ∷ 10 ∷ []) (verdict (ours.step s w old).answer.number 0 0)
    (ours.step s w old ≡ record { answer = stepped_of w (Err (ours.step s w old).answer.number); left = old })
unfolding step_at join_at stepped_of
step_refused s w old =
    by_record Q old (record_at s w) (λ start n v. is_done _ _ _) (λ bs v. is_done _ _ _) (λ k h. is_other _ _ _ k h refl)
  where
    Q : Step → List ℕ → Type 0
    Q x l =
        Answered none_given (13 ∷ 10 ∷ []) (verdict (stepped_of w x).number 0 0)
        (◌≡◌ {A = Moving} (record { answer = stepped_of w x; left = l })
        (record { answer = stepped_of w (Err (stepped_of w x).number); left = old }))

pub begin_refused : (s : List ℕ) (n : ℕ)
    → Answered (image_verdict s) (13 ∷ []) (ours.begin s n).verdict
    (ours.begin s n ≡ beginning_of (Err (ours.begin s n).verdict))
unfolding begun_at beginning_of
begin_refused s n = if_case Q (eqb (image_verdict s).number 0) _ _ (λ _. by_file (file_numbered s n)) (λ e. is_given _ _ _ e refl)
  where
    Q : Result FileAt Verdict → Type 0
    Q b =
        Answered (image_verdict s) (13 ∷ []) (beginning_of b).verdict
        (beginning_of b ≡ beginning_of (Err (beginning_of b).verdict))

    by_file : (x : Option FileAt) → Q (begun_by x)
    by_file (Some f) = unfold begun_by in is_done _ _ _
    by_file None = unfold begun_by is_in if_b in is_other _ _ _ 13 refl refl

-- a search, whatever it found
pub search_refused : (x : Option FileAt)
    → Answered none_given (13 ∷ []) (file_of x).verdict (file_of x ≡ beginning_of (Err (file_of x).verdict))
unfolding begun_by beginning_of is_in if_b
search_refused (Some f) = is_done _ _ _
search_refused None = is_other _ _ _ 13 refl refl

pub find_refused : (s : List ℕ) (n r : ℕ) (old : List ℕ)
    → Answered (image_verdict s) (13 ∷ 10 ∷ []) (ours.find s n r old).at.verdict
    (ours.find s n r old ≡ no_record (ours.find s n r old).at.verdict old)
unfolding found_at left_at begun_at
find_refused s n r old =
    if_case (λ (b : Result FileAt Verdict). Q (record { at = record_of (found_from s r (length old) b); left = left_from s r old b }))
    (eqb (image_verdict s).number 0) _ _
    (λ _. by_file (file_numbered s n)) by_image
  where
    Q : Handing → Type 0
    Q h = Answered (image_verdict s) (13 ∷ 10 ∷ []) h.at.verdict (h ≡ no_record h.at.verdict old)

    by_image : eqb (image_verdict s).number 0 ≡ false
        → Q (record {
          at = record_of (found_from s r (length old) (Err (image_verdict s)));
          left = left_from s r old (Err (image_verdict s));
        })
    by_image e = unfold found_from left_from record_of in is_given _ _ _ e refl

    by_place : (p : Option Walk) → Q (record { at = record_of (found_in s (length old) p); left = left_in s old p })
    by_place None = unfold found_in left_in record_of is_in if_b in is_other _ _ _ 13 refl refl
    by_place (Some w) =
        unfold found_in left_in step_at join_at found_by record_of in
        by_record (λ x l. Q (record { at = record_of (found_by x); left = l })) old (record_at s w) (λ start k v. is_done _ _ _)
        (λ bs v. is_done _ _ _)
        (λ k h. is_other _ _ _ k h refl)

    by_zero : (t : Bool) (p : Option Walk)
        → Q (record {
          at = record_of
              (if_b t (found_from s 0 (length old) (Err (verdict 13 0 0))) (found_in s (length old) p));
          left = if_b t old
              (left_in s old p);
        })
    by_zero true p = unfold if_b found_from record_of is_in in is_other _ _ _ 13 refl refl
    by_zero false p = unfold if_b in by_place p

    by_file : (x : Option FileAt)
        → Q (record { at = record_of (found_from s r (length old) (begun_by x)); left = left_from s r old (begun_by x) })
    by_file (Some f) = unfold begun_by found_from left_from in by_zero (eqb r 0) (passed s (r - 1) f.walk)
    by_file None = unfold begun_by found_from left_from record_of is_in if_b in is_other _ _ _ 13 refl refl

-- ---- a reader, and facts

reads_step : (w : Walk) (x : Step) → reading_of (read_by w x) ≡ stepped_of w x
unfolding reading_of read_by found_by walk_behind record_of stepped_of verdict
reads_step w (Ok (InImage start n, v)) = refl
reads_step w (Ok (Joined n, v)) = refl
reads_step w (Err k) = refl

opened_begun : (s : List ℕ) (w : Walk) (n : ℕ)
    → opened_at s w n ≡ record {
      verdict = (ours.begin s n).verdict;
      walk = if_b (eqb (ours.begin s n).verdict.number 0)
          (ours.begin s n).walk w;
    }
unfolding opened_at begun_at opened_by beginning_of
opened_begun s w n =
    if_case Q (eqb (image_verdict s).number 0) _ _ (λ _. by_file (file_numbered s n))
    (λ e. ap (λ (v : Walk). record { verdict = image_verdict s; walk = v }) (sym (if_false _ _ _ e)))
  where
    Q : Result FileAt Verdict → Type 0
    Q b =
        opened_by w b ≡ record {
          verdict = (beginning_of b).verdict;
          walk = if_b (eqb (beginning_of b).verdict.number 0)
              (beginning_of b).walk w;
        }

    by_file : (x : Option FileAt) → Q (begun_by x)
    by_file (Some f) = unfold begun_by verdict if_b in refl
    by_file None = unfold begun_by verdict if_b in refl

counted_begun : (s : List ℕ) (n : ℕ)
    → count_at s n ≡ record { verdict = (ours.begin s n).verdict; facts = ours.facts s (ours.begin s n).walk }
unfolding count_at opened_at opened_by beginning_of
counted_begun s n = by_begun (begun_at s n)
  where
    by_begun : (b : Result FileAt Verdict)
        → ◌≡◌ {A = FileFacts}
        (record { verdict = (opened_by no_walk b).verdict; facts = facts_of (records_at s (opened_by no_walk b).walk) })
        (record { verdict = (beginning_of b).verdict; facts = facts_of (records_at s (beginning_of b).walk) })
    by_begun (Ok f) = refl
    by_begun (Err v) = refl

pub by_reader : ByReader ours
unfolding read_at
by_reader =
    record {
      opened = opened_begun;
      next = λ s w old i. record { answer = reads_step w (step_at s (length old) w) i; left = join_at s old w };
      count = counted_begun;
    }

-- of a file that was not begun
pub no_facts : (s : List ℕ) (n : ℕ) → ((ours.begin s n).verdict.number ≡ 0 → ⊥)
    → ours.facts s (ours.begin s n).walk ≡ facts_of []
unfolding beginning_of
no_facts s n z = ap (λ (b : Beginning). ours.facts s b.walk) ((begin_refused s n).kept z) ∙ ap facts_of (nowhere_none s)

-- ---- buffers

-- a writing of one of these numbers, in a buffer that held `out`
abbrev Writes : List ℕ → List ℕ → Written → Type 0
Writes ns out w = Answered none_given ns (verdict w.number 0 0) ((w.len ≡ 0) × (w.out ≡ out))

writes_refused : (ns out : List ℕ) (n : ℕ) → is_in ns n ≡ true → Writes ns out (refused n out)
unfolding refused
writes_refused ns out n h = is_other _ _ _ n h (refl, refl)

writes_fitted : (ns s out : List ℕ) → is_in ns 10 ≡ true → Writes ns out (fitted s out)
writes_fitted ns s out h =
    if_case (Writes ns out) (leb (length s) (length out)) _ _ (λ _. is_done _ _ _) (λ _. writes_refused ns out 10 h)

pub list_refused : (s out : List ℕ) → Writes (10 ∷ []) out (fitted (text_of s) out)
unfolding is_in if_b
list_refused s out = writes_fitted (10 ∷ []) (text_of s) out refl

-- the numbers of writing
abbrev numbers : List ℕ
numbers = 9 ∷ 11 ∷ 12 ∷ 14 ∷ 10 ∷ []

laid_refused : (l : Laid) (out : List ℕ) → Writes numbers out (stored_laid l out)
unfolding stored_laid stored
laid_refused (laid xs) out =
    if_case (Writes numbers out) (leb (length (head ++ encode xs)) most_image) _ _
    (λ _. writes_fitted numbers (head ++ encode xs) out (unfold is_in if_b in refl)) (λ _. writes_refused numbers out 14 (unfold is_in if_b in refl))
laid_refused short out = writes_refused numbers out 12 (unfold is_in if_b in refl)

-- 0, 9 or 11
abbrev Legality : ℕ → Type 0
Legality n = eqb n 0 ≡ false → is_in numbers n ≡ true

is_nine : Legality 9
is_nine = λ _. unfold is_in if_b in refl

is_eleven : Legality 11
is_eleven = λ _. unfold is_in if_b in refl

is_legal : Legality 0
is_legal = λ e. absurd (eqb-false 0 0 e refl)

sheet_in : (x : Flat) → Legality (sheet_number x)
unfolding sheet_number
sheet_in x =
    if_case Legality _ 9 _ (λ _. is_nine)
    (λ _. if_case Legality _ 9 _ (λ _. is_nine)
    (λ _. if_case Legality (adds_up x) _ 11 (λ _. if_case Legality (legal_sheet (sheet_of x)) 0 11 (λ _. is_legal) (λ _. is_eleven))
    (λ _. is_eleven)))

reels_in_lem : (quota : ℕ) (names : List ℕ) → Legality (reels_number quota names)
unfolding reels_number
reels_in_lem quota names =
    if_case Legality _ 9 _ (λ _. is_nine)
    (λ _. if_case Legality _ _ 11
    (λ _. if_case Legality (legal_quota quota) _ 11
    (λ _. if_case Legality (legal_names (in_parts 6 names)) 0 11 (λ _. is_legal) (λ _. is_eleven)) (λ _. is_eleven))
    (λ _. is_eleven))

pub write_refused : (x : Flat) (out : List ℕ) → Writes numbers out (write x out)
unfolding write write_sheet
write_refused x out =
    if_case (Writes numbers out) (eqb (sheet_number x) 0) _ _ (λ _. laid_refused (lay (sheet_of x)) out) (λ e. writes_refused numbers out (sheet_number x) (sheet_in x e))

-- the same where a refusal may have a place
abbrev Gives : Verdict → List ℕ → List ℕ → Stored → Type 0
Gives own ns out r = Answered own ns r.verdict ((r.len ≡ 0) × (r.out ≡ out))

gives_writes : (own : Verdict) (ns out : List ℕ) (w : Written) → Writes ns out w → Gives own ns out (placed w)
unfolding placed
gives_writes own ns out w r = record { answer = anyhow _ r.answer; kept = r.kept }
  where
    anyhow : (v : Verdict) → Answer none_given ns v → Answer own ns v
    anyhow v done = done
    anyhow v (given z) = absurd (z (unfold verdict in refl))
    anyhow v (other n h) = other n h

pub rewrite_refused : (s : List ℕ) (quota : ℕ) (names out : List ℕ)
    → Gives (image_verdict s) numbers out (rewrite s quota names out)
unfolding rewrite refused_with write_sheet
rewrite_refused s quota names out =
    if_case (Gives (image_verdict s) numbers out) (eqb (image_verdict s).number 0) _ _
    (λ _. if_case (Gives (image_verdict s) numbers out) (eqb (reels_number quota names) 0) _ _
    (λ _. gives_writes _ numbers out _ (laid_refused (lay (sheet_from s quota names)) out))
    (λ e. is_other _ _ _ (reels_number quota names) (reels_in_lem quota names e) (refl, refl)))
    (λ e. is_given _ _ _ e (refl, refl))

pub import_refused : (tape lengths out : List ℕ) → Gives (tape_verdict tape lengths) (14 ∷ 10 ∷ []) out (from_simh tape lengths out)
unfolding from_simh refused_with
import_refused tape lengths out =
    if_case Q (eqb (tape_verdict tape lengths).number 0) _ _
    (λ _. if_case Q (leb (length (image_of tape lengths)) most_image) _ _
    (λ _. gives_writes _ _ out _ (writes_fitted (14 ∷ 10 ∷ []) (image_of tape lengths) out (unfold is_in if_b in refl)))
    (λ _. is_other _ _ _ 14 (unfold is_in if_b in refl) (refl, refl)))
    (λ e. is_given _ _ _ e (refl, refl))
  where
    Q : Stored → Type 0
    Q = Gives (tape_verdict tape lengths) (14 ∷ 10 ∷ []) out

pub export_refused : (s out lengths : List ℕ) → Answered (framing s) (10 ∷ []) (to_simh s out lengths).verdict
    (to_simh s out lengths ≡ record { verdict = (to_simh s out lengths).verdict; len = 0; files = 0; out = out; lengths = lengths })
unfolding to_simh stored_tapes kept_by
export_refused s out lengths =
    if_case Q (eqb (framing s).number 0) _ _
    (λ _. if_case Q (leb (length (end_to_end (files_of s))) (length out) && leb (length (files_of s)) (length lengths)) _ _
    (λ _. is_done _ _ _) (λ _. is_other _ _ _ 10 (unfold is_in if_b in refl) refl))
    (λ e. is_given _ _ _ e refl)
  where
    Q : Converted → Type 0
    Q c =
        Answered (framing s) (10 ∷ []) c.verdict
        (c ≡ record { verdict = c.verdict; len = 0; files = 0; out = out; lengths = lengths })
