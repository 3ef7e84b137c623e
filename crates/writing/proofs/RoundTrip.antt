-- The round trip: what the writer makes of a legal order sheet is an accepted set, and reading it gives the sheet's meaning
-- again. It holds for a legal meaning on any reels that can be written (`set_means`, `set_reads`), and a sheet's are such.
-- Assumes nothing.
use mathlib.Core.Path.{◌≡◌, refl, sym, ap, ap₂, ◌∙◌, subst}
use mathlib.Core.Bool.{true, false}
use mathlib.Core.List.{List, [], ◌∷◌, ◌++◌}
use Prim.Native.Nat.{ℕ, suc, ◌≤◌}
use native.Mathlib.Omega.{arith}
use borrow.Author.Tests.{eq-eqb, eqb-true, eqb-false, leb-true}
use lib.Dec.{eqb, leb}
use lib.ListN.{length, take, drop}
use lib.Seq.{take-append_seam}
use Rattle.base.specs.If.{if_b}
use Rattle.base.proofs.Ifs.{if_true, if_case}
use Rattle.base.specs.Answer.{verdict}
use Rattle.base.specs.declared.Verdict.{Verdict}
use Rattle.image.specs.Item.{Item, block, encode}
use Rattle.image.specs.Framing.{head, most_image, framing, items}
use Rattle.image.proofs.RoundTrip.{items_image, framing_image}
use Rattle.order.specs.Kind.{is_kind}
use Rattle.order.specs.Due.{dues, choose, up_to_nine, due_after}
use Rattle.order.specs.declared.Phase.TheVariants.{Volume}
use Rattle.label.specs.Made.{made_volume}
use Rattle.volume.specs.State.{start}
use Rattle.volume.specs.Fault.{most_files}
use Rattle.volume.specs.Step.{Event, is_due}
use Rattle.volume.specs.Run.{Run, ended, runs, answer_of, image_verdict}
use Rattle.volume.specs.Meaning.{File, Meaning, Collected, set_from, meaning_of, handed_out, content, Means}
use Rattle.volume.proofs.Accepted.{done_accepted}
use Rattle.reading.specs.Legal.{Sheet, fresh_names, legal_files, legal_meaning, legal_names, legal_quota, legal_sheet}
use Rattle.sheet.specs.Flat.{Flat, adds_up, sheet_of, sheet_number}
use Rattle.writing.specs.Lay.{Reel, reels_of, Laid, laid, short, lay_files, lay_on, lay}
use Rattle.output.specs.Output.{Written, refused}
use Rattle.writing.specs.Write.{stored, stored_laid, write_sheet, write}
use Rattle.writing.proofs.Units.{both}
use Rattle.label.proofs.Read.{length_volume}
use Rattle.writing.proofs.Entry.{legal_first}
use Rattle.writing.proofs.Acts.{at, act_volume}
use Rattle.writing.proofs.Laying.{read_label, ReadToEnd, IsLaid, ends_put}
use Rattle.writing.proofs.LaidFiles.{names_of, Rooms, Usable, usable_next, ReelsRead, Files, legal_file_lem, one_set, file_ends, files_end}

-- ---- what a legal sheet says

-- what a legal sheet is, by its parts
pub record LegalSheet (s : Sheet) : Type 0 where
  pub some : 1 ≤ s.quota
  pub most : s.quota ≤ 999999
  pub names : length s.names ≤ 16
  pub fresh : fresh_names [] s.names ≡ true
  pub one : 1 ≤ length s.meaning.files
  pub few : length s.meaning.files ≤ 64
  pub files : legal_files s.meaning.set s.meaning.files ≡ true

legal_parts : {A : Type 0} (s : Sheet) → legal_sheet s ≡ true
    → (legal_quota s.quota ≡ true → legal_names s.names ≡ true → legal_meaning s.meaning ≡ true → A) → A
unfolding legal_sheet
legal_parts s h k =
    both (legal_quota s.quota) _ (λ quota b. both (legal_names s.names) _ (λ names meaning. k quota names meaning) b) h

legal_meaning_lem : {A : Type 0} (m : Meaning) → legal_meaning m ≡ true
    → (1 ≤ length m.files → length m.files ≤ 64 → legal_files m.set m.files ≡ true → A) → A
unfolding legal_meaning
legal_meaning_lem m h k =
    both (leb 1 (length m.files)) _
    (λ one f. both (leb (length m.files) most_files) _ (λ few files. k (leb-true _ _ one) (leb-true _ _ few) files) f) h

-- a sheet that passes the test is one
pub legal_sheet_lem : (s : Sheet) → legal_sheet s ≡ true → LegalSheet s
unfolding legal_quota legal_names
legal_sheet_lem s h =
    legal_parts s h
    (λ quota named meaning. both (leb 1 s.quota) _
    (λ some most. both (leb 1 (length s.names)) _
    (λ _ e. both (leb (length s.names) 16) _
    (λ names fresh. legal_meaning_lem s.meaning meaning
    (λ one few files. record {
      some = leb-true _ _ some;
      most = leb-true _ _ most;
      names = leb-true _ _ names;
      fresh = fresh;
      one = one;
      few = few;
      files = files;
    })) e) named) quota)

sheet_meaning : (s : Sheet) → legal_sheet s ≡ true → legal_meaning s.meaning ≡ true
sheet_meaning s h = legal_parts s h (λ _ _ meaning. meaning)

-- ---- a quota is a room for each reel

names_reels : (quota : ℕ) (ns : List (List ℕ)) → names_of (reels_of quota ns) ≡ ns
unfolding reels_of
names_reels quota [] = refl
names_reels quota (n ∷ ns) = ap (λ (l : List (List ℕ)). n ∷ l) (names_reels quota ns)

length_reels : (quota : ℕ) (ns : List (List ℕ)) → length (reels_of quota ns) ≡ length ns
unfolding reels_of
length_reels quota [] = refl
length_reels quota (n ∷ ns) = ap suc (length_reels quota ns)

rooms_reels : (quota : ℕ) → 1 ≤ quota → quota ≤ 999999 → (ns : List (List ℕ)) → Rooms (reels_of quota ns)
unfolding reels_of
rooms_reels quota some most [] = tt
rooms_reels quota some most (n ∷ ns) = (some, most, rooms_reels quota some most ns)

-- the reels of a legal sheet can be written
pub sheet_reels : (s : Sheet) → legal_sheet s ≡ true → Usable [] (reels_of s.quota s.names)
sheet_reels s h =
    let l : LegalSheet s = legal_sheet_lem s h in
    let long : length (reels_of s.quota s.names) ≡ length s.names = length_reels s.quota s.names in
    record {
      few = omega (arith, l.names);
      fresh = ap (fresh_names []) (names_reels s.quota s.names) ∙ l.fresh;
      rooms = rooms_reels s.quota l.some l.most s.names;
    }

-- ---- the whole set is read to its end

first_files : (set : List ℕ) (ds : List File) (n : List ℕ) (room : ℕ) (left : List Reel) → 1 ≤ length ds → length ds ≤ 64
    → legal_files set ds ≡ true → ReelsRead 0 (n ∷ []) left → room ≤ 999999
    → ReadToEnd (at (Volume 1) (n ∷ []) 0 false [] [] 0 0) 0 (lay_files set 1 room left ds)
    (λ es. Files ds es × (set_from es ≡ set))
unfolding due_after dues choose up_to_nine is_due is_kind if_b
first_files set [] n room left one few legal reels h = absurd (omega arith)
first_files set (d ∷ ds) n room left one few legal reels h =
    legal_file_lem set d ds legal
    (λ entry records others.
    file_ends set d ds (Volume 1) 0 room 0 0 (n ∷ []) left [] [] refl refl refl (omega arith) entry records reels h
    (λ room r a c used left reels h.
    files_end set ds 1 room r c used left _ _ (one_set 0 set d.fields a 1 (legal_first set d.fields entry))
    (omega arith) others reels h))

-- a legal meaning on reels that can be written: what is laid is read to its end, and has this meaning
pub set_ends : (m : Meaning) (reels : List Reel) → legal_meaning m ≡ true → Usable [] reels
    → ReadToEnd start 0 (lay_on m reels) (λ es. meaning_of es ≡ m)
unfolding lay_on start meaning_of
set_ends m [] legal h = λ xs z. absurd (subst IsLaid (sym z) tt)
set_ends m (t ∷ reels) legal h =
    let n : List ℕ = t.name in
    legal_meaning_lem m legal
    (λ one few files. usable_next [] t reels h
    (λ six sound new some most left.
    ends_put start (at (Volume 1) (n ∷ []) 0 false [] [] 0 0) 0 0 (block (made_volume n) ∷ [])
    (lay_files m.set 1 t.room reels m.files)
    (λ es. meaning_of es ≡ m) (λ es. Files m.files es × (set_from es ≡ m.set)) (λ es. es)
    (λ zs es d. read_label start _ 0 (made_volume n) zs [] es (act_volume [] 0 false [] [] 0 0 n six sound (omega arith) new)
    (length_volume n) (omega arith) d)
    (λ es d. ap₂ (λ (x : List ℕ) (c : Collected). record { set = x; files = c.files }) d.1 d.0)
    (first_files m.set m.files n t.room reels one few files (record { begun = refl; left = left }) most)))

-- ---- the theorems

-- The items of a legal sheet are a set that is read to its end, and its meaning is the sheet's.
pub written_accepted : (s : Sheet) (xs : List Item) → legal_sheet s ≡ true → lay s ≡ laid xs
    → (es : List Event) × (runs start xs ≡ ended es) × (meaning_of es ≡ s.meaning)
unfolding lay
written_accepted s xs h e =
    let (es, read, means) = set_ends s.meaning (reels_of s.quota s.names) (sheet_meaning s h) (sheet_reels s h) xs e in
    (es, read.ends, means)

-- The image of a legal meaning on reels that can be written is an accepted set with this meaning, where it is not too long.
pub set_means : (m : Meaning) (reels : List Reel) (xs : List Item) → legal_meaning m ≡ true → Usable [] reels
    → lay_on m reels ≡ laid xs
    → length (head ++ encode xs) ≤ most_image → Means (head ++ encode xs) m
unfolding image_verdict content answer_of handed_out verdict
set_means m reels xs legal h e small =
    let (es, d, means) = set_ends m reels legal h xs e in
    let image : List ℕ = head ++ encode xs in
    let same : items image ≡ xs = items_image xs d.whole in
    let run : runs start (items image) ≡ ended es = ap (runs start) same ∙ d.ends in
    let framed : framing image ≡ verdict 0 0 0 = framing_image xs d.whole small ∙ d.framed 0 false in
    record {
      accepted =
          done_accepted image (if_true _ _ _ (eq-eqb (framing image).number 0 (ap (λ (v : Verdict). v.number) framed))
          ∙ ap (answer_of 0) run);
      meaning = ap (λ (r : Run). meaning_of (handed_out r)) run ∙ means;
    }

-- The image of a legal sheet's items is an accepted set with the sheet's meaning, where it is not too long.
pub image_means : (s : Sheet) (xs : List Item) → legal_sheet s ≡ true → lay s ≡ laid xs → length (head ++ encode xs) ≤ most_image
    → Means (head ++ encode xs) s.meaning
unfolding lay
image_means s xs h e small =
    set_means s.meaning (reels_of s.quota s.names) xs (sheet_meaning s h) (sheet_reels s h) e small

-- ---- writing a flat sheet

-- what the first bytes of the lent buffer are, where writing gives number 0
abbrev pub Reads : Meaning → Written → Type 0
Reads m w = w.number ≡ 0 → Means (take w.len w.out) m

refused_reads : (m : Meaning) (n : ℕ) (out : List ℕ) → (n ≡ 0 → ⊥) → Reads m (refused n out)
unfolding refused
refused_reads m n out d e = absurd (d e)

stored_reads : (m : Meaning) (image out : List ℕ) → (length image ≤ most_image → Means image m) → Reads m (stored image out)
unfolding stored
stored_reads m image out h =
    if_case (Reads m) (leb (length image) most_image) _ _
    (λ a. if_case (Reads m) (leb (length image) (length out)) _ _
    (λ b e. subst (λ (l : List ℕ). Means l m) (sym (take-append_seam image (drop (length image) out))) (h (leb-true _ _ a)))
    (λ b. refused_reads m 10 out (λ q. omega arith)))
    (λ a. refused_reads m 14 out (λ q. omega arith))

-- a legal meaning laid on reels that can be written
pub set_reads : (m : Meaning) (reels : List Reel) (out : List ℕ) → legal_meaning m ≡ true → Usable [] reels
    → Reads m (stored_laid (lay_on m reels) out)
unfolding stored_laid
set_reads m reels out legal h = by_laid (lay_on m reels) refl
  where
    by_laid : (l : Laid) → lay_on m reels ≡ l → Reads m (stored_laid l out)
    by_laid (laid xs) e = stored_reads m (head ++ encode xs) out (set_means m reels xs legal h e)
    by_laid short e = refused_reads m 12 out (λ q. omega arith)

sheet_reads : (s : Sheet) (out : List ℕ) → legal_sheet s ≡ true → Reads s.meaning (write_sheet s out)
unfolding write_sheet lay
sheet_reads s out h = set_reads s.meaning (reels_of s.quota s.names) out (sheet_meaning s h) (sheet_reels s h)

pub number_legal : (x : Flat) → sheet_number x ≡ 0 → legal_sheet (sheet_of x) ≡ true
unfolding sheet_number
number_legal x =
    if_case (λ (n : ℕ). n ≡ 0 → legal_sheet (sheet_of x) ≡ true) _ 9 _ (λ _ q. absurd (omega arith))
    (λ _. if_case (λ (n : ℕ). n ≡ 0 → legal_sheet (sheet_of x) ≡ true) _ 9 _ (λ _ q. absurd (omega arith))
    (λ _. if_case (λ (n : ℕ). n ≡ 0 → legal_sheet (sheet_of x) ≡ true) (adds_up x) _ 11
    (λ _. if_case (λ (n : ℕ). n ≡ 0 → legal_sheet (sheet_of x) ≡ true) (legal_sheet (sheet_of x)) 0 11 (λ e _. e)
    (λ _ q. absurd (omega arith)))
    (λ _ q. absurd (omega arith))))

-- Where writing an order sheet gives number 0, the first `len` bytes of the lent buffer are an accepted set, and its meaning is
-- the sheet's:
-- the same set identifier, and the same files in order with their fields and records.
pub write_reads_back : (x : Flat) (out : List ℕ) → (write x out).number ≡ 0
    → Means (take (write x out).len (write x out).out) (sheet_of x).meaning
unfolding write
write_reads_back x out =
    if_case (Reads (sheet_of x).meaning) (eqb (sheet_number x) 0) _ _
    (λ e. sheet_reads (sheet_of x) out (number_legal x (eqb-true _ 0 e)))
    (λ e. refused_reads (sheet_of x).meaning (sheet_number x) out (eqb-false _ 0 e))
