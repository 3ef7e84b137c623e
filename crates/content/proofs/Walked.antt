-- The law of the files and of the walks: on an accepted image, going from file to file meets exactly the files of the meaning, in
-- order, and the walk over each hands out exactly its records, in order, and then 13.
-- What is told of all that is still handed out goes backwards over the parts (`Read`). Assumes nothing.
use Rattle.content.specs.declared.part.Part.{Part}
use Rattle.std.specs.Prelude.{Option, Some, None, Ok, Err}
use mathlib.Core.Path.{◌≡◌, refl, sym, ap, ap₂, ◌∙◌, subst}
use mathlib.Core.Bool.{false}
use mathlib.Core.List.{List, [], ◌∷◌, ◌++◌}
use Prim.Native.Nat.{ℕ, zero, suc, ◌+◌, ◌-◌, ◌≤◌, ◌<◌}
use native.Mathlib.Omega.{arith}
use native.Mathlib.Numerals.{add-one}
use native.Mathlib.Decide.{dec_lt}
use borrow.Author.Tests.{eq-eqb, ne_eqb}
use lib.ListN.{length, take, drop, length-take, length-drop}
use Rattle.base.specs.If.{if_b}
use Rattle.base.proofs.Ifs.{if_true, if_false}
use Rattle.base.specs.Part.{part}
use Rattle.base.specs.Sum.{sum}
use Rattle.base.specs.Answer.{verdict}
use Rattle.image.specs.Item.{decode}
use Rattle.order.specs.declared.Phase.TheVariants.{Data}
use Rattle.label.specs.Field.{format_of, block_length_of, record_length_of, offset_of, set_of}
use Rattle.block.specs.declared.Held.{Held}
use Rattle.volume.specs.State.{start}
use Rattle.volume.specs.Fault.{value_of, outcome_in}
use Rattle.volume.specs.Step.{Event, begins, resumes, holds}
use Rattle.volume.specs.Run.{image_verdict}
use Rattle.volume.specs.Meaning.{File, joined, collect, set_from, fields_from, meaning_of, content}
use Rattle.content.specs.Part.{is_wanted, first_in}
use Rattle.content.specs.Section.{as_block, block_in, data_from}
use Rattle.content.specs.Walk.{opened, unit_in, begun_by}
use Rattle.content.specs.File.{mark_from, walk_from, file_at, as_file, file_in, file_from, first_file, next_file, file_behind, from_file, files_on, file_numbered, begun_at, begun_by as started_by}
use Rattle.content.specs.Held.{held_by, file_held}
use Rattle.content.specs.Walked.{handed, Walks, end_of, Amounts, FileIs}
use Rattle.content.specs.Code.Files.{Filed}
use Rattle.content.specs.declared.Walk.{Walk}
use Rattle.content.specs.declared.FileAt.{FileAt}
use Rattle.content.specs.declared.part.Part.TheVariants.{File as NewFile, Section, Block as DataBlock}
use Rattle.content.specs.declared.section.Extent.{Extent}
use Rattle.content.proofs.Searches.{Follows, Leads}
use Rattle.content.proofs.Records.{walks_end}
use Rattle.content.proofs.Onward.{Hands}
use Rattle.content.proofs.Blocks.{block_hands, next_walks}
use Rattle.content.proofs.Helds.{held_end}
use Rattle.content.proofs.Counted.{Sums, next_held, held_next, block_sums}
use Rattle.content.proofs.Read.{FileRead, BlockRead, segments_by, Read, read_over, read_file, read_section, read_block, parts_read}

-- ---- what is told of all that is handed out from a part on

-- the files to come, and the set identifier: that of the first of them
abbrev SetIs : List ℕ → Option FileAt → List ℕ → Type 0
SetIs s (Some f) set = set ≡ set_of (part f.hdr1 80 s)
SetIs s None set = Unit {0}

pub record Comes (s : List ℕ) (x : Option FileAt) (ds : List File) (set : List ℕ) : Type 0 where
  pub filed : Filed s x ds
  pub named : SetIs s x set

-- what a file of record length and format of w, whose next data block is at x, still hands out with q open, and what its blocks
-- from there on hold
pub record HandsOut (s : List ℕ) (w : Walk) (q : ℕ) (x : Option Extent) (rs : List (List ℕ)) : Type 0 where
  pub hands : Hands s w.record_length q (unit_in s (opened w x)) rs
  pub sums : Sums (next_held s w x) rs

-- what a file with the lengths of w still hands out, with q open, and the files to come
pub record FilesTold (s : List ℕ) (w : Walk) (q : ℕ) (ps : List (Option Part)) (es : List Event) : Type 0 where
  pub owed : HandsOut s w q (block_in ps) (joined (collect es).segments)
  pub comes : Comes s (file_in s ps) (collect es).files (set_from es)

nothing_owed : (s : List ℕ) (w : Walk) → HandsOut s w 0 None (joined [])
unfolding opened unit_in joined begun_by handed held_by sum
nothing_owed s w = record { hands = refl; sums = record { number = refl; bytes = refl } }

-- a label that was read whole lies within the image
label_within : (s : List ℕ) (a : ℕ) (l : List ℕ) → part a 80 s ≡ l → length l ≡ 80 → a + 80 ≤ length s
unfolding part
label_within s a l e h = let n : length (take 80 (drop a s)) ≡ 80 = ap length e ∙ h in omega (arith, n, length-take 80 (drop a s), length-drop a s)

-- a file that begins
module _ (s : List ℕ) (a b : ℕ) (first second : List ℕ) (ps : List (Option Part)) (es : List Event) (c : FileRead s a b first second ps)
    (h : FilesTold s (walk_from second 0) 0 ps es) where
  abbrev m : ℕ
  m = mark_from (b + 80) (decode (drop (b + 80) s))

  abbrev records : List (List ℕ)
  records = joined (collect es).segments

  abbrev w : Walk
  w = walk_from second m

  abbrev this : FileAt
  this = record { hdr1 = a; hdr2 = b; walk = w }

  this_is : this ≡ file_at s a b
  this_is = ap (λ (l : List ℕ). record { hdr1 = a; hdr2 = b; walk = walk_from l m }) (sym c.hdr2)

  owes : HandsOut s (walk_from second 0) 0 (data_from Data m (decode (drop m s))) records
  owes = subst (λ (y : Option Extent). HandsOut s (walk_from second 0) 0 y records) c.body.datum h.owed

  hands : Hands s (value_of (record_length_of second)) 0 (unit_in s (opened w (data_from Data m (decode (drop m s))))) records
  hands =
      subst (λ (t : Option Walk). Hands s (value_of (record_length_of second)) 0 (unit_in s t) records)
      (opened_from (data_from Data m (decode (drop m s)))) owes.hands
    where
      opened_from : (y : Option Extent) → opened (walk_from second 0) y ≡ opened w y
      opened_from (Some u) = unfold opened in refl
      opened_from None = unfold opened in refl

  walks : Walks s w records
  walks = next_walks s w records c.some refl c.body.fits hands

  -- the walk stands behind the mark, and ends where the next file is found
  ended : (end_of s w ≤ length s) × Leads s (m + 0) (end_of s w)
  ended = let none : m + 0 ≤ length s = omega (arith, c.body.fits) in walks_end s w records walks none

  follows : Follows s (file_in s ps) (m + 0)
  follows = let none : m ≡ m + 0 = omega arith in subst (Follows s (file_in s ps)) none c.body.follows

  -- its data ends there, too
  data_ended : ((file_held s w).end ≤ length s) × Leads s m (file_held s w).end
  data_ended = unfold file_held in held_end s (format_of second) (value_of (record_length_of second)) (value_of (offset_of second)) m c.body.fits

  amounts : Amounts s this (record { fields = fields_from first second; records = records })
  amounts = unfold file_held file_behind file_from in
      let same = held_next s (walk_from second 0) m in
      record {
        records = ap (λ (y : Held). y.records) same ∙ owes.sums.number;
        bytes = ap (λ (y : Held). y.bytes) same ∙ owes.sums.bytes;
        ends = data_ended.0;
        behind = (data_ended.1 (file_in s ps) c.body.follows).same false a ∙ c.next;
      }

  behind_file_lem : file_behind s a (end_of s w) ≡ file_in s ps
  behind_file_lem = unfold file_behind file_from in (ended.1 (file_in s ps) follows).same false a

  is : FileIs s this (record { fields = fields_from first second; records = records })
  is = record {
    first_within = label_within s a first c.hdr1 c.first_long;
    second_within = label_within s b second c.hdr2 c.second_long;
    fields = ap₂ fields_from (sym c.hdr1) (sym c.hdr2);
    walks = walks;
    ends = ended.0;
    behind = behind_file_lem ∙ c.next;
    amounts = amounts;
  }

  told_file : (v : Walk) → FilesTold s v 0 (Some (NewFile a b) ∷ ps) (begins first second ∷ es)
  told_file v = unfold collect set_from block_in as_block file_in as_file first_in is_wanted if_b in
      record {
        owed = nothing_owed s v;
        comes =
            record {
              filed = (
                this,
                ap Some (sym this_is),
                is,
                subst (λ (y : Option FileAt). Filed s y (collect es).files) c.next h.comes.filed,
              );
              named = ap set_of (sym c.hdr1);
            };
      }

-- a data block
told_block : (s second : List ℕ) (q start n : ℕ) (ps : List (Option Part)) (es : List Event) → BlockRead s second q start n ps
    → FilesTold s (walk_from second 0) (outcome_in second q (part start n s)).pending ps es
    → FilesTold s (walk_from second 0) q (Some (DataBlock start n) ∷ ps)
    (holds (part start n s) (segments_by second (part start n s)) ∷ es)
unfolding collect set_from outcome_in block_in as_block file_in first_in is_wanted if_b
told_block s second q start n ps es c h =
    let w = walk_from second 0 in
    let b = value_of (block_length_of second) in
    let owed = subst (λ (y : Option Extent). HandsOut s w (outcome_in second q (part start n s)).pending y (joined (collect es).segments)) c.next h.owed in
    record {
      owed =
          record {
            hands = block_hands s w b start n q (collect es).segments c.some c.within c.sound owed.hands;
            sums =
                block_sums s w b start n q (collect es).segments
                (unit_in s (opened w (data_from Data (start + n) (decode (drop (start + n) s))))) c.sound owed.hands
                owed.sums;
          };
      comes = h.comes;
    }

-- a later section
told_section : (s : List ℕ) (w : Walk) (q a b : ℕ) (l m : List ℕ) (ps : List (Option Part)) (es : List Event) → FilesTold s w q ps es
    → FilesTold s w q (Some (Section a b) ∷ ps) (resumes l m ∷ es)
unfolding collect set_from block_in file_in first_in is_wanted if_b
told_section s w q a b l m ps es h = record { owed = h.owed; comes = h.comes }

told_over : (s : List ℕ) (w : Walk) → FilesTold s w 0 [] []
unfolding collect set_from block_in as_block file_in as_file first_in
told_over s w = record { owed = nothing_owed s w; comes = record { filed = refl; named = tt } }

told : {s second : List ℕ} {q : ℕ} {ps : List (Option Part)} {es : List Event} → Read s second q ps es
    → FilesTold s (walk_from second 0) q ps es
told {s = s} {second = second} read_over = told_over s (walk_from second 0)
told {s = s} {second = second} (read_file {a = a} {b = b} l m {ps = ps} {es = es} c h) =
    told_file s a b l m ps es c (told h) (walk_from second 0)
told {s = s} {q = q} (read_section {a = a} {b = b} l m {ps = ps} {es = es} _ _ e h) =
    subst (λ (w : Walk). FilesTold s w q (Some (Section a b) ∷ ps) (resumes l m ∷ es)) e
    (told_section s (walk_from m 0) q a b l m ps es (told h))
told {s = s} {second = second} {q = q} (read_block {start = start} {n = n} {ps = ps} {es = es} c h) =
    told_block s second q start n ps es c (told h)

-- ---- the files of an accepted image

comes_all : (s : List ℕ) → (image_verdict s).number ≡ 0 → Comes s (first_file s) (content s).files (content s).set
unfolding content meaning_of first_file file_from
comes_all s h = (told (parts_read s h)).comes

-- On an accepted image, going from file to file meets exactly the files of the meaning, in order.
pub files_all : (s : List ℕ) → (image_verdict s).number ≡ 0 → Filed s (first_file s) (content s).files
files_all s h = (comes_all s h).filed

-- The set identifier is that of the first file.
pub set_first : (s : List ℕ) (f : FileAt) → (image_verdict s).number ≡ 0 → first_file s ≡ Some f
    → (content s).set ≡ set_of (part f.hdr1 80 s)
set_first s f h e = subst (λ (x : Option FileAt). SetIs s x (content s).set) e (comes_all s h).named

-- ---- files by their numbers

-- the file behind as many others
filed_at : (s : List ℕ) (ds : List File) (d : File) (es : List File) (x : Option FileAt) → Filed s x (ds ++ (d ∷ es))
    → (f : FileAt) × (from_file x (λ g. files_on s (length ds) g) ≡ Some f) × FileIs s f d
unfolding from_file files_on
filed_at s [] d es x (f, e, is, rest) = (f, ap (λ (y : Option FileAt). from_file y (λ g. files_on s 0 g)) e, is)
filed_at s (c ∷ ds) d es x (f, e, is, rest) =
    let (g, at, there) = filed_at s ds d es (next_file s f.hdr1 f.hdr2) rest in
    (g, ap (λ (y : Option FileAt). from_file y (λ g. files_on s (suc (length ds)) g)) e ∙ at, there)

-- and none past the last
filed_past : (s : List ℕ) (ds : List File) (k : ℕ) (x : Option FileAt) → Filed s x ds → length ds ≤ k
    → from_file x (λ g. files_on s k g) ≡ None
unfolding from_file files_on
filed_past s [] k x e h = ap (λ (y : Option FileAt). from_file y (λ g. files_on s k g)) e
filed_past s (d ∷ ds) zero x b h = absurd (omega arith)
filed_past s (d ∷ ds) (suc k) x (f, e, is, rest) h =
    ap (λ (y : Option FileAt). from_file y (λ g. files_on s (suc k) g)) e
    ∙ filed_past s ds k (next_file s f.hdr1 f.hdr2) rest (omega arith)

started : (s : List ℕ) (k : ℕ) → (image_verdict s).number ≡ 0
    → begun_at s (k + 1) ≡ started_by (from_file (first_file s) (λ f. files_on s k f))
unfolding begun_at file_numbered
started s k h =
    let e : k + 1 - 1 ≡ k = omega arith in
    if_true _ _ _ (eq-eqb (image_verdict s).number 0 h)
    ∙ ap started_by (if_false _ _ _ (ne_eqb (k + 1) 0 (λ z. omega arith))
    ∙ ap (λ (j : ℕ). from_file (first_file s) (λ f. files_on s j f)) e)

-- On an accepted image, each file is found by its number, with its fields of the meaning, and the walk over it hands out exactly
-- its records, in order, and then 13.
pub walk_records : (s : List ℕ) (ds : List File) (d : File) (es : List File) → (image_verdict s).number ≡ 0
    → (content s).files ≡ ds ++ (d ∷ es)
    → (f : FileAt) × (begun_at s (length ds + 1) ≡ Ok f) × FileIs s f d
unfolding started_by
walk_records s ds d es h e =
    let (f, at, is) = filed_at s ds d es (first_file s) (subst (Filed s (first_file s)) e (files_all s h)) in
    (f, started s (length ds) h ∙ ap started_by at, is)

-- file 0 is none
zeroth : (s : List ℕ) → (image_verdict s).number ≡ 0 → begun_at s 0 ≡ Err (verdict 13 0 0)
unfolding begun_at file_numbered started_by
zeroth s h = if_true _ _ _ (eq-eqb (image_verdict s).number 0 h) ∙ ap started_by (if_true _ _ _ refl)

-- A file number that is 0 or past the last is 13.
pub walk_none : (s : List ℕ) (n : ℕ) → (image_verdict s).number ≡ 0 → ((k : ℕ) → k < length (content s).files → k + 1 ≡ n → ⊥)
    → begun_at s n ≡ Err (verdict 13 0 0)
unfolding started_by
walk_none s zero h past = zeroth s h
walk_none s (suc k) h past =
    let e : suc k ≡ k + 1 = sym (add-one k) in
    ap (begun_at s) e ∙ started s k h
    ∙ ap started_by (filed_past s (content s).files k (first_file s) (files_all s h)
    (by_last (dec_lt k (length (content s).files))))
  where
    by_last : Dec (k < length (content s).files) → length (content s).files ≤ k
    by_last (yes l) = absurd (past k l (add-one k))
    by_last (no g) = omega arith
