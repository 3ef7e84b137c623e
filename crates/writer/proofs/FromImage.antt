-- The files of an accepted image: how they are met one after the other, and what each step of the code over them does. Assumes
-- nothing.
use Rattle.std.specs.Prelude.{Option, Some, None}
use mathlib.Core.Path.{◌≡◌, refl, sym, ap, ◌∙◌, subst}
use mathlib.Core.Bool.{Bool, true, false, false≢true}
use mathlib.Core.List.{List, [], ◌∷◌}
use Prim.Native.Nat.{ℕ, ◌+◌, ◌-◌, ◌≤◌, ◌<◌}
use native.Mathlib.Omega.{arith}
use native.Mathlib.Numerals.{add-one}
use borrow.Author.Rules.{rules}
use lib.ListN.{length, drop, get_or, length-drop}
use lib.Seq.{drop-cons}
use Rattle.base.proofs.Ifs.{if_true}
use Rattle.base.specs.Part.{part}
use Rattle.label.specs.Field.{set_of}
use Rattle.volume.specs.Run.{image_verdict}
use Rattle.volume.specs.Meaning.{File, fields_from, content}
use Rattle.output.specs.declared.Written.{Written as Answer}
use Rattle.output.specs.Output.{Answers}
use Rattle.reading.specs.Legal.{legal_files}
use Rattle.sheet.specs.Flat.{in_parts, reels_number}
use Rattle.content.specs.File.{first_file, next_file, file_behind}
use Rattle.content.specs.Records.{records_at}
use Rattle.content.specs.Walked.{end_of, FileIs}
use Rattle.content.specs.Code.Files.{Filed as Met}
use Rattle.content.specs.declared.FileAt.{FileAt}
use Rattle.content.proofs.Walked.{files_all, set_first}
use Rattle.content.proofs.Records.{walks_records}
use Rattle.writing.specs.Write.{write_sheet}
use Rattle.writing.specs.Rewrite.{sheet_from}
use Rattle.writing.proofs.RoundTrip.{LegalSheet, legal_sheet_lem}
use Rattle.writing.proofs.Rewriting.{reels_legal, image_legal}
use Rattle.writer.specs.declared.pen.Pen.{Pen}
use Rattle.writer.specs.declared.source.Cursor.{Cursor}
use Rattle.writer.specs.declared.body.Body.{Body}
use Rattle.writer.specs.declared.set.Place.{Place}
use Rattle.writer.specs.Code.Pass.{job}
use Rattle.writer.specs.Code.Source.{walk_of, records_of, end_at, GoodCursor}
use Rattle.writer.specs.Code.Files.{CanPutFile, DidPutFile}
use Rattle.writer.specs.Code.Sets.{Origin, read, origin_of, total_of, files_at, PlacedAmong, walk_at, passed, followed_by, Task, task, CanFile, DidFileOne, sheet_at, CanOrder}
use Rattle.writer.proofs.Filing.{legal_set, legal_others, file_ready, one_filed}

-- ---- the file at a place

-- where a file is met, there is one; where none is, there is none
met_some : (s : List ℕ) (h : FileAt) (ds : List File) → Met s (Some h) ds → 0 < length ds
met_some s h [] e = let z : ◌≡◌ {A = ℕ} 0 1 = cc in absurd (omega arith)
met_some s h (d ∷ ds) m = omega arith

met_none : (s : List ℕ) (ds : List File) → Met s None ds → length ds ≡ 0
met_none s [] e = refl
met_none s (d ∷ ds) (f, e, is, rest) = let z : ◌≡◌ {A = ℕ} 0 1 = cc in absurd (omega arith)

-- the file that is met, and those behind it
met_first : (s : List ℕ) (h : FileAt) (d : File) (ds : List File) → Met s (Some h) (d ∷ ds)
    → FileIs s h d × Met s (next_file s h.hdr1 h.hdr2) ds
met_first s h d ds (f, e, is, rest) =
    let same : f ≡ h = cc in
    subst (λ (g : FileAt). FileIs s g d × Met s (next_file s g.hdr1 g.hdr2) ds) same (is, rest)

module _ (lay : Bool) (set lengths bytes rooms names : List ℕ) (g : Place) (p : Pen) (o : List ℕ)
    (y : CanFile lay (task read set lengths bytes rooms names) g p o) where
  abbrev t : Task
  t = task read set lengths bytes rooms names

  abbrev all : List File
  all = (content bytes).files

  abbrev d : File
  d = get_or all g.nth (record { fields = []; records = [] })

  more : g.nth < length all
  unfolding total_of
  more = y.more

  first : drop g.nth all ≡ d ∷ drop (g.nth + 1) all
  first = drop-cons all g.nth _ more ∙ ap (λ (k : ℕ). d ∷ drop k all) (sym (add-one g.nth))

  both : FileIs bytes g.file d × Met bytes (next_file bytes g.file.hdr1 g.file.hdr2) (drop (g.nth + 1) all)
  both = met_first bytes g.file d (drop (g.nth + 1) all) (subst (Met bytes (Some g.file)) first (y.placed.stands more))

  is : FileIs bytes g.file d
  is = both.0

  abbrev entry : List ℕ
  entry = fields_from (part g.file.hdr1 80 bytes) (part g.file.hdr2 80 bytes)

  files_first : files_at read lengths bytes g ≡ record { fields = entry; records = d.records } ∷ drop (g.nth + 1) all
  unfolding files_at
  files_first = first ∙ ap (λ (fs : List ℕ). record { fields = fs; records = d.records } ∷ drop (g.nth + 1) all) is.fields

  pub first_within_lem : g.file.hdr1 + 80 ≤ length bytes
  first_within_lem = is.first_within

  pub second_within_lem : g.file.hdr2 + 80 ≤ length bytes
  second_within_lem = is.second_within

  pub read_small : g.nth < 64
  unfolding total_of
  read_small = omega (arith, more, y.placed.few)

  behind_long : length (drop (g.nth + 1) all) ≡ length all - (g.nth + 1)
  behind_long = length-drop (g.nth + 1) all

  module _ (c : Cursor) (n : c ≡ walk_at g.file.walk) where
    image : c.image ≡ true
    image = ap (λ (x : Cursor). x.image) n

    begun : records_of lengths bytes c ≡ d.records
    unfolding records_of
    begun =
        if_true _ _ _ image
        ∙ ap (λ (x : Cursor). records_at bytes (walk_of x)) n
        ∙ walks_records bytes g.file.walk d.records is.walks

    ends : end_at lengths bytes c ≡ end_of bytes g.file.walk
    unfolding end_at
    ends = if_true _ _ _ image ∙ ap (λ (x : Cursor). end_of bytes (walk_of x)) n

    good : GoodCursor lengths bytes c
    good =
        record {
          order = λ z. absurd (false≢true (sym z ∙ image));
          within = λ z. absurd (false≢true (sym z ∙ image));
          inside = omega (arith, ends, is.ends);
        }

    pub read_ready : CanPutFile lay (job set entry (g.nth + 1) rooms names) lengths bytes c p o
    read_ready = file_ready t g entry d.records _ y.placed files_first lay c good begun p o y

    module _ (q : List ℕ) (x : Body) (m : DidPutFile lay (job set entry (g.nth + 1) rooms names) lengths bytes c p o q x) where
      -- a place behind this file
      placed_on : (f : FileAt) (stop : ℕ) (on : Bool) → (g.nth + 1 < length all → Met bytes (Some f) (drop (g.nth + 1) all))
          → PlacedAmong read set lengths bytes (passed g stop x.end f on)
      unfolding total_of files_at
      placed_on f stop on w =
          record {
            few = y.placed.few;
            within = omega (arith, more);
            stands = w;
            legal = legal_others t g entry d.records _ y.placed files_first;
          }

      next_filed : (stop : ℕ) (h : Option FileAt) → x.pen.short ≡ false → next_file bytes g.file.hdr1 g.file.hdr2 ≡ h
          → DidFileOne lay t g p o q (record { place = followed_by g stop x.end h; pen = x.pen })
      unfolding followed_by total_of files_at
      next_filed stop (Some h) z e =
          let there : Met bytes (Some h) (drop (g.nth + 1) all) = subst (λ (f : Option FileAt). Met bytes f (drop (g.nth + 1) all)) e both.1 in
          let some : 0 < length (drop (g.nth + 1) all) = met_some bytes h (drop (g.nth + 1) all) there in
          one_filed t g entry d.records _ y.placed files_first lay c good begun p o q x _ m refl refl (λ _. refl)
          (λ _. placed_on h stop true (λ _. there)) (λ _. z)
          (λ _. omega (arith, behind_long)) (λ w. absurd (false≢true (sym w)))
      next_filed stop None z e =
          let none : length (drop (g.nth + 1) all) ≡ 0
          = met_none bytes (drop (g.nth + 1) all) (subst (λ (f : Option FileAt). Met bytes f (drop (g.nth + 1) all)) e both.1) in
          one_filed t g entry d.records _ y.placed files_first lay c good begun p o q x _ m refl refl (λ _. refl)
          (λ _. placed_on g.file stop false (λ w. absurd (omega (arith, behind_long)))) (λ w. absurd (false≢true w))
          (λ w. absurd (false≢true w))
          (λ _ _. omega (arith, behind_long))

      -- unless a reel is lacking, the next file is found from where the records of this one end
      pub read_filed : (stop : ℕ) → x.pen.short ≡ false
          → DidFileOne lay t g p o q
          (record { place = followed_by g stop x.end (file_behind bytes g.file.hdr1 x.end); pen = x.pen })
      read_filed stop z =
          next_filed stop (file_behind bytes g.file.hdr1 x.end) z
          (sym (ap (file_behind bytes g.file.hdr1) (m.end z ∙ ends) ∙ is.behind))

      pub read_short : (stop : ℕ) → x.pen.short ≡ true
          → DidFileOne lay t g p o q (record { place = passed g stop x.end g.file false; pen = x.pen })
      read_short stop z =
          one_filed t g entry d.records _ y.placed files_first lay c good begun p o q x _ m refl refl
          (λ w. absurd (false≢true (sym w ∙ z)))
          (λ w. absurd (false≢true (sym w ∙ z))) (λ w. absurd (false≢true w)) (λ w. absurd (false≢true w))
          (λ _ w. absurd (false≢true (sym w ∙ z)))

-- ---- what an accepted image, a legal quota and legal names give

module _ (s : List ℕ) (quota : ℕ) (names : List ℕ) (h : (image_verdict s).number ≡ 0) (k : reels_number quota names ≡ 0) where
  says : LegalSheet (sheet_from s quota names)
  says = legal_sheet_lem (sheet_from s quota names) (image_legal s quota names h k)

  -- an accepted image has a file
  some_file : (n : Option FileAt) → n ≡ first_file s → n ≡ None → ⊥
  unfolding sheet_from
  some_file n e q =
      let none : length (content s).files ≡ 0 = met_none s (content s).files (subst (λ (z : Option FileAt). Met s z (content s).files) (sym e ∙ q) (files_all s h)) in
      omega (arith, says.one)

  pub no_file : (out : List ℕ) (a : Answer) (n : Option FileAt) → n ≡ first_file s → n ≡ None
      → Answers (write_sheet (sheet_from s quota names) out) a out
  no_file out a n e q = absurd (some_file n e q)

  module _ (v : Option FileAt) (f : FileAt) (there : v ≡ first_file s) (found : v ≡ Some f) (files counts lengths set l : List ℕ)
      (p : l ≡ part f.hdr1 80 s) (q : set ≡ set_of l)
    where
      e : first_file s ≡ Some f
      e = sym there ∙ found

      abbrev start : Place
      start = record { nth = 0; first = 0; byte = 0; file = f; on = true }

      is_from : origin_of true files counts ≡ read
      unfolding origin_of
      is_from = if_true _ _ _ refl

      same_set : set ≡ (content s).set
      same_set = q ∙ ap set_of p ∙ sym (set_first s f h e)

      pub image_ordered : CanOrder (origin_of true files counts) set lengths s start quota names
      unfolding sheet_from total_of files_at
      image_ordered =
          subst (λ (o : Origin). CanOrder o set lengths s start quota names) (sym is_from)
          (record {
            placed =
                record {
                  few = says.few;
                  within = omega arith;
                  stands = λ _. subst (λ (z : Option FileAt). Met s z (content s).files) e (files_all s h);
                  legal = subst (λ (z : List ℕ). legal_files z (content s).files ≡ true) (sym same_set) says.files;
                };
            first = refl;
            on = refl;
            some = omega (arith, says.one);
            room = (reels_legal quota names k).room;
            named = (reels_legal quota names k).named;
            six = ap length same_set ∙ legal_set (content s).set (content s).files says.one says.files;
          })

      pub image_answers : (out : List ℕ) (a : Answer) (r : List ℕ)
          → Answers (write_sheet (sheet_at (origin_of true files counts) set lengths s start quota names) out) a r
          → Answers (write_sheet (sheet_from s quota names) out) a r
      unfolding sheet_at sheet_from files_at
      image_answers out a r m =
          subst (λ (z : List ℕ). Answers
          (write_sheet (record { meaning = record { set = z; files = (content s).files }; quota = quota; names = in_parts 6 names }) out) a r) same_set
          (subst (λ (o : Origin). Answers (write_sheet (sheet_at o set lengths s start quota names) out) a r) is_from m)

pub ruleset images = (no_file, image_ordered, image_answers, rules)
