-- The files of a sheet: how the slices hold them, and what each step of the code over them does. Assumes nothing.
use mathlib.Core.Path.{◌≡◌, refl, sym, ap, ◌∙◌, subst}
use mathlib.Core.Bool.{Bool, true, false, false≢true}
use mathlib.Core.List.{List, [], ◌∷◌}
use Prim.Native.Nat.{ℕ, suc, ◌+◌, ◌*◌, ◌-◌, ◌/◌, ◌≤◌, ◌<◌}
use native.Mathlib.Omega.{arith}
use native.Mathlib.Numerals.{add-one}
use borrow.Author.Tests.{eqb-true, ltb-true, ltb-false}
use lib.Dec.{eqb, ltb}
use lib.ListN.{length, take, drop, get_or, length-drop, take-append-drop}
use lib.Seq.{drop-drop, drop-cons}
use Rattle.base.specs.If.{if_b}
use Rattle.base.proofs.Ifs.{if_true, if_false, if_case}
use Rattle.base.specs.Part.{part}
use Rattle.base.specs.Sum.{sum, cut_by}
use Rattle.base.proofs.Sums.{sum_at, sum_append}
use Rattle.output.specs.declared.Written.{Written as Answer}
use Rattle.output.specs.Output.{Answers}
use Rattle.reading.specs.Legal.{legal_files, legal_names, legal_quota, legal_sheet}
use Rattle.sheet.specs.Flat.{Flat, in_parts, files_from, adds_up, sheet_of, sheet_number}
use Rattle.sheet.proofs.Cutting.{parts_some}
use Rattle.content.specs.declared.Walk.{Walk}
use Rattle.content.specs.declared.FileAt.{FileAt}
use Rattle.writing.specs.Write.{flat, write_sheet}
use Rattle.writing.proofs.Packing.{by_test}
use Rattle.writing.proofs.Units.{both}
use Rattle.writing.proofs.RoundTrip.{LegalSheet, legal_sheet_lem}
use Rattle.writer.specs.declared.pen.Pen.{Pen}
use Rattle.writer.specs.declared.source.Cursor.{Cursor}
use Rattle.writer.specs.declared.body.Body.{Body}
use Rattle.writer.specs.declared.set.Place.{Place}
use Rattle.writer.specs.Code.Pass.{job}
use Rattle.writer.specs.Code.Source.{lengths_at, records_of, end_at, GoodCursor}
use Rattle.writer.specs.Code.Files.{CanPutFile, DidPutFile}
use Rattle.writer.specs.Code.Sets.{Origin, listed, origin_of, total_of, files_at, PlacedAmong, listed_at, passed, Task, task, CanFile, DidFileOne, sheet_at, CanOrder}
use Rattle.writer.proofs.Filing.{legal_set, legal_others, file_ready, one_filed}
use Rattle.writer.proofs.Sets.{no_counts}

abbrev place : FileAt → ℕ → ℕ → ℕ → Bool → Place
place f nth first byte on = record { nth = nth; first = first; byte = byte; file = f; on = on }

-- ---- the files from a place on

sum_split : (n : ℕ) (ns : List ℕ) → sum ns ≡ sum (take n ns) + sum (drop n ns)
sum_split n ns = ap sum (sym (take-append-drop n ns)) ∙ sum_append (take n ns) (drop n ns)

module _ (files counts set lengths bytes rooms names : List ℕ) (g : Place)
    (y : PlacedAmong (listed files counts) set lengths bytes g) (h : g.nth < length counts) where
  abbrev t : Task
  t = task (listed files counts) set lengths bytes rooms names

  abbrev c : ℕ
  c = get_or counts g.nth 0

  counted : sum (drop g.nth counts) ≡ c + sum (drop (g.nth + 1) counts)
  counted = sum_at counts g.nth h

  measured : sum (drop g.first lengths) ≡ sum (take c (drop g.first lengths)) + sum (drop (g.first + c) lengths)
  measured =
      sum_split c (drop g.first lengths)
      ∙ ap (λ (ns : List ℕ). sum (take c (drop g.first lengths)) + sum ns) (drop-drop c g.first lengths)

  pub stop_within : g.first + c ≤ length lengths
  stop_within = omega (arith, counted, y.stands.records)

  pub nth_small : g.nth < 64
  unfolding total_of
  nth_small = omega (arith, y.few)

  pub entry_within : 46 * g.nth + 46 ≤ length files
  entry_within = omega (arith, y.stands.entries)

  abbrev entry : List ℕ
  entry = part (46 * g.nth) 46 files

  abbrev records : List (List ℕ)
  records = cut_by (take c (drop g.first lengths)) (drop g.byte bytes)

  abbrev onward : Bool → Place
  onward = place g.file (g.nth + 1) (g.first + c) (g.byte + sum (take c (drop g.first lengths)))

  files_some : files_at (listed files counts) lengths bytes g ≡ record { fields = entry; records = records } ∷
      files_at (listed files counts) lengths bytes (onward true)
  unfolding files_at files_from part
  files_some =
      let l : length (drop (46 * g.nth) files) ≡ length files - 46 * g.nth = length-drop (46 * g.nth) files in
      let some : 0 < length (drop (46 * g.nth) files) = omega (arith, y.stands.entries) in
      let more : 46 * g.nth + 46 ≡ 46 * (g.nth + 1) = omega arith in
      let es : in_parts 46 (drop (46 * g.nth) files) ≡ take 46 (drop (46 * g.nth) files) ∷ in_parts 46 (drop (46 * (g.nth + 1)) files)
      = parts_some 46 (drop (46 * g.nth) files) (omega arith) some
      ∙ ap (λ (s : List ℕ). take 46 (drop (46 * g.nth) files) ∷ in_parts 46 s) (drop-drop 46 (46 * g.nth) files ∙ ap (λ (k : ℕ). drop k files) more) in
      let cs : drop g.nth counts ≡ c ∷ drop (g.nth + 1) counts
      = drop-cons counts g.nth 0 h ∙ ap (λ (k : ℕ). c ∷ drop k counts) (sym (add-one g.nth)) in
      ap (λ (s : List (List ℕ)). files_from s (drop g.nth counts) (drop g.first lengths) (drop g.byte bytes)) es
      ∙ ap (λ (s : List ℕ). files_from (take 46 (drop (46 * g.nth) files) ∷ in_parts 46 (drop (46 * (g.nth + 1)) files)) s
      (drop g.first lengths) (drop g.byte bytes)) cs
      ∙ ap (λ (s : List ℕ). record { fields = take 46 (drop (46 * g.nth) files); records = records } ∷
      files_from (in_parts 46 (drop (46 * (g.nth + 1)) files)) (drop (g.nth + 1) counts) s
      (drop (sum (take c (drop g.first lengths))) (drop g.byte bytes))) (drop-drop c g.first lengths)
      ∙ ap (λ (s : List ℕ). record { fields = take 46 (drop (46 * g.nth) files); records = records } ∷
      files_from (in_parts 46 (drop (46 * (g.nth + 1)) files)) (drop (g.nth + 1) counts) (drop (g.first + c) lengths) s)
      (drop-drop (sum (take c (drop g.first lengths))) g.byte bytes)

  placed_on : (on : Bool) → PlacedAmong (listed files counts) set lengths bytes (onward on)
  unfolding total_of files_at
  placed_on on =
      record {
        few = y.few;
        within = omega arith;
        stands =
            record {
              entries = y.stands.entries;
              records = omega (arith, counted, y.stands.records);
              inside = omega (arith, measured, y.stands.inside);
            };
        legal = legal_others t g entry records _ y files_some;
      }

  module _ (count stop : ℕ) (k : count ≡ c) (s : stop ≡ g.first + count) (d : Cursor)
      (n : d ≡ listed_at g.byte count stop) where
    lengths_are : lengths_at lengths d ≡ take c (drop g.first lengths)
    unfolding lengths_at part
    lengths_are =
        let e : stop - count ≡ g.first = omega arith in
        ap (λ (x : Cursor). take x.left (drop (x.stop - x.left) lengths)) n
        ∙ ap (λ (i : ℕ). take count (drop i lengths)) e
        ∙ ap (λ (i : ℕ). take i (drop g.first lengths)) k

    sheet : d.image ≡ false
    sheet = ap (λ (x : Cursor). x.image) n

    here : d.at ≡ g.byte
    here = ap (λ (x : Cursor). x.at) n

    begun : records_of lengths bytes d ≡ records
    unfolding records_of
    begun =
        if_false _ _ _ sheet
        ∙ ap (λ (ls : List ℕ). cut_by ls (drop d.at bytes)) lengths_are
        ∙ ap (λ (i : ℕ). cut_by (take c (drop g.first lengths)) (drop i bytes)) here

    ends : end_at lengths bytes d ≡ g.byte + sum (take c (drop g.first lengths))
    unfolding end_at
    ends =
        if_false _ _ _ sheet
        ∙ ap (λ (ls : List ℕ). d.at + sum ls) lengths_are
        ∙ ap (λ (i : ℕ). i + sum (take c (drop g.first lengths))) here

    good : GoodCursor lengths bytes d
    good =
        record {
          order = λ _. omega (arith, ap (λ (x : Cursor). x.left) n, ap (λ (x : Cursor). x.stop) n);
          within = λ _. omega (arith, ap (λ (x : Cursor). x.stop) n, stop_within);
          inside = omega (arith, ends, measured, y.stands.inside);
        }

    pub entry_ready : (lay : Bool) (p : Pen) (o : List ℕ) → CanFile lay t g p o
        → CanPutFile lay (job set entry (g.nth + 1) rooms names) lengths bytes d p o
    entry_ready lay p o f = file_ready t g entry records _ y files_some lay d good begun p o f

    -- the place behind this file, unless a reel is lacking
    place_is : (x : Body) (on : Bool) → (x.pen.short ≡ false → x.end ≡ end_at lengths bytes d) → x.pen.short ≡ false
        → onward on ≡ passed g stop x.end g.file on
    place_is x on e z =
        let i : g.first + c ≡ stop = omega arith in
        ap (λ (r : ℕ). place g.file (g.nth + 1) r (g.byte + sum (take c (drop g.first lengths))) on) i
        ∙ ap (λ (r : ℕ). place g.file (g.nth + 1) stop r on) (sym (e z ∙ ends))

    files_on_lem : (on : Bool)
        → files_at (listed files counts) lengths bytes (onward on) ≡ files_at (listed files counts) lengths bytes (onward true)
    unfolding files_at
    files_on_lem on = refl

    pub listed_filed : (lay : Bool) (p : Pen) (o q : List ℕ) (x : Body) (r : Place)
        → DidPutFile lay (job set entry (g.nth + 1) rooms names) lengths bytes d p o q x
        → r ≡ passed g stop x.end g.file (if_b x.pen.short false (ltb (g.nth + 1) (length counts)))
        → DidFileOne lay t g p o q (record { place = r; pen = x.pen })
    unfolding total_of
    listed_filed lay p o q x r m e =
        let on : Bool = if_b x.pen.short false (ltb (g.nth + 1) (length counts)) in
        subst (λ (h : Place). DidFileOne lay t g p o q (record { place = h; pen = x.pen })) (sym e)
        (one_filed t g entry records _ y files_some lay d good begun p o q x _ m refl refl
        (λ z. ap (files_at (listed files counts) lengths bytes) (sym (place_is x on m.end z)) ∙ files_on_lem on)
        (λ z. subst (PlacedAmong (listed files counts) set lengths bytes) (place_is x on m.end z) (placed_on on))
        (λ z. by_test x.pen.short
        (λ w. absurd (false≢true (sym (if_true x.pen.short false (ltb (g.nth + 1) (length counts)) w) ∙ z))) (λ w. w))
        (λ z.
        by_test x.pen.short
        (λ w. absurd (false≢true (sym (if_true x.pen.short false (ltb (g.nth + 1) (length counts)) w) ∙ z)))
        (λ w. ltb-true _ _ (sym (if_false x.pen.short false (ltb (g.nth + 1) (length counts)) w) ∙ z)))
        (λ z w. ltb-false _ _ (sym (if_false x.pen.short false (ltb (g.nth + 1) (length counts)) w) ∙ z)))

-- ---- what number 0 says of a sheet

pub record SheetFacts (x : Flat) : Type 0 where
  pub few : length x.files / 46 ≤ 64
  pub reels : length x.names / 6 ≤ 16
  pub entries : length x.files ≡ 46 * length x.counts
  pub records : sum x.counts ≡ length x.lengths
  pub inside : sum x.lengths ≡ length x.bytes
  pub legal : legal_sheet (sheet_of x) ≡ true

adds_facts : {A : Type 0} (x : Flat) → adds_up x ≡ true
    → (length x.files ≡ 46 * length x.counts → sum x.counts ≡ length x.lengths → sum x.lengths ≡ length x.bytes
    → A) → A
unfolding adds_up
adds_facts x h k =
    both (eqb (length x.files) (46 * length x.counts)) _
    (λ a r. both (eqb (sum x.counts) (length x.lengths)) _
    (λ b r. both (eqb (sum x.lengths) (length x.bytes)) _
    (λ d r. k (eqb-true _ _ a) (eqb-true _ _ b) (eqb-true _ _ d)) r) r) h

facts : (x : Flat) → sheet_number x ≡ 0 → SheetFacts x
unfolding sheet_number
facts x =
    if_case (λ (n : ℕ). n ≡ 0 → SheetFacts x) _ 9 _ (λ _ q. absurd (omega arith))
    (λ a. if_case (λ (n : ℕ). n ≡ 0 → SheetFacts x) _ 9 _ (λ _ q. absurd (omega arith))
    (λ b. if_case (λ (n : ℕ). n ≡ 0 → SheetFacts x) (adds_up x) _ 11
    (λ d. if_case (λ (n : ℕ). n ≡ 0 → SheetFacts x) (legal_sheet (sheet_of x)) 0 11
    (λ e _. adds_facts x d
    (λ entries records inside. record {
      few = ltb-false _ _ a;
      reels = ltb-false _ _ b;
      entries = entries;
      records = records;
      inside = inside;
      legal = e;
    }))
    (λ _ q. absurd (omega arith)))
    (λ _ q. absurd (omega arith))))

module _ (set files counts lengths bytes : List ℕ) (quota : ℕ) (names : List ℕ)
    (zero_number : sheet_number (flat set files counts lengths bytes quota names) ≡ 0) where
  abbrev x : Flat
  x = flat set files counts lengths bytes quota names

  known : SheetFacts x
  known = facts x zero_number

  says : LegalSheet (sheet_of x)
  says = legal_sheet_lem (sheet_of x) known.legal

  abbrev from : Origin
  from = origin_of false files counts

  abbrev nowhere : Walk
  nowhere = record { format = 0; record_length = 0; offset = 0; at = 0; left = 0 }

  abbrev start : Place
  start = place (record { hdr1 = 0; hdr2 = 0; walk = nowhere }) 0 0 0 true

  is_from : from ≡ listed files counts
  unfolding origin_of
  is_from = if_false _ _ _ refl

  all_files : files_from (in_parts 46 files) counts lengths bytes ≡ files_at (listed files counts) lengths bytes start
  unfolding files_at
  all_files = refl

  start_placed : PlacedAmong (listed files counts) set lengths bytes start
  unfolding sheet_of total_of
  start_placed =
      record {
        few = omega (arith, known.entries, known.few);
        within = omega arith;
        stands =
            record { entries = known.entries; records = omega (arith, known.records); inside = omega (arith, known.inside) };
        legal = ap (legal_files set) (sym all_files) ∙ says.files;
      }

  -- there is a file
  filed : 0 < length counts
  unfolding sheet_of
  filed = by_length counts refl says.one
    where
      by_length : (cs : List ℕ) → cs ≡ counts → 1 ≤ length (files_from (in_parts 46 files) counts lengths bytes) → 0 < length counts
      by_length [] e h =
          let none : length (files_from (in_parts 46 files) counts lengths bytes) ≡ 0
          = ap (λ (l : List ℕ). length (files_from (in_parts 46 files) l lengths bytes)) (sym e) ∙ ap length (no_counts (in_parts 46 files) lengths bytes) in
          absurd (omega arith)
      by_length (n ∷ ns) e h = let l : suc (length ns) ≡ length counts = ap length e in omega arith

  legal : {A : Type 0} → (legal_quota quota ≡ true → legal_names (in_parts 6 names) ≡ true → A) → A
  unfolding legal_sheet sheet_of
  legal k = both (legal_quota quota) _ (λ q r. both (legal_names (in_parts 6 names)) _ (λ n _. k q n) r) known.legal

  pub sheet_ordered : CanOrder (origin_of false files counts) set lengths bytes start quota names
  unfolding sheet_of total_of
  sheet_ordered =
      subst (λ (o : Origin). CanOrder o set lengths bytes start quota names) (sym is_from)
      (record {
        placed = start_placed;
        first = refl;
        on = refl;
        some = filed;
        room = legal (λ q n. q);
        named = legal (λ q n. n);
        six = legal_set set (files_from (in_parts 46 files) counts lengths bytes) says.one says.files;
      })

  pub sheet_answers : (out : List ℕ) (a : Answer) (p : List ℕ)
      → Answers (write_sheet (sheet_at (origin_of false files counts) set lengths bytes start quota names) out) a p
      → Answers (write_sheet (sheet_of (flat set files counts lengths bytes quota names)) out) a p
  unfolding sheet_at sheet_of files_at
  sheet_answers out a p m =
      subst (λ (o : Origin). Answers (write_sheet (sheet_at o set lengths bytes start quota names) out) a p) is_from m
