-- What the labels of a file are made of, as bytes one behind the other: what is put there, and what is then read from there.
-- Assumes nothing.
use mathlib.Core.Path.{◌≡◌, sym, ap, ap₂, ◌∙◌, subst}
use mathlib.Core.Bool.{Bool, true, false}
use mathlib.Core.List.{List, ◌++◌, append_assoc}
use Prim.Native.Nat.{ℕ, ◌+◌, ◌*◌, ◌≤◌, ◌<◌}
use native.Mathlib.Omega.{arith}
use borrow.Author.Rules.{rules}
use lib.ListN.{length, take, drop, get_or, set, replicate, length-append, length-set}
use lib.Seq.{drop-drop, get_or-drop, get_or-set_same, drop-set-lt}
use Rattle.base.proofs.Ifs.{if_true, if_false}
use Rattle.base.specs.Part.{part, put_at, put_in}
use Rattle.base.proofs.Copies.{put_in_lem}
use Rattle.base.proofs.Parts.{length_part, part_drop, drop_take, length_put, take_put, part_put, drop_put, put_put}
use Rattle.volume.specs.Meaning.{fields_from}
use Rattle.reading.proofs.Entries.{length_entry}
use Rattle.writer.specs.declared.pen.Pen.{Pen}
use Rattle.writer.specs.declared.source.Cursor.{Cursor}
use Rattle.writer.specs.declared.body.Body.{Body}
use Rattle.writer.specs.declared.set.Place.{Place}
use Rattle.writer.specs.Code.Pass.{Job, job, names_in, job_with}
use Rattle.sections.specs.Section.{set_in}
use Rattle.writer.specs.Code.Files.{CanPutFile, DidPutFile}
use Rattle.writer.specs.Code.Sets.{CanEnter, entry_at, DidEnter}

-- what is put among the label parts has room there
pub parts_put_in : (labels : List ℕ) (at : ℕ) (s r : List ℕ) → length labels ≡ 149 → at + length s ≤ 149 → r ≡ put_in labels at s
    → r ≡ put_at labels at s
parts_put_in labels at s r l h e = e ∙ put_in_lem labels at s (omega arith)

-- ---- the fields of a file, from its labels in an image

label_long : (bytes l : List ℕ) (at : ℕ) → at + 80 ≤ length bytes → l ≡ part at 80 bytes → length l ≡ 80
label_long bytes l at h e = ap length e ∙ length_part at 80 bytes h

-- a field of a label has room among the label parts
part_room : (bytes l s : List ℕ) (i at from w : ℕ) → i + 80 ≤ length bytes → l ≡ part i 80 bytes → from + w ≤ 80 → at + w ≤ 46
    → s ≡ part from w l → at + length s ≤ 149
part_room bytes l s i at from w b h k m e =
    let n : length s ≡ w = ap length e ∙ length_part from w l (omega (arith, label_long bytes l i b h)) in omega arith

fields_made : (labels bytes : List ℕ) (i j : ℕ) (f s a x b y c z : List ℕ) → length labels ≡ 149 → i + 80 ≤ length bytes
    → j + 80 ≤ length bytes
    → f ≡ part i 80 bytes → s ≡ part j 80 bytes → a ≡ part 4 17 f → x ≡ put_at labels 0 a → b ≡ part 35 18 f → y ≡ put_at x 17 b
    → c ≡ part 4 11 s → z ≡ put_at y 35 c
    → z ≡ put_at labels 0 (fields_from (part i 80 bytes) (part j 80 bytes))
unfolding fields_from
fields_made labels bytes i j f s a x b y c z l bi bj ef es ea ex eb ey ec ez =
    let lf : length f ≡ 80 = label_long bytes f i bi ef in
    let ls : length s ≡ 80 = label_long bytes s j bj es in
    let la : length a ≡ 17 = ap length ea ∙ length_part 4 17 f (omega arith) in
    let lb : length b ≡ 18 = ap length eb ∙ length_part 35 18 f (omega arith) in
    let lc : length c ≡ 11 = ap length ec ∙ length_part 4 11 s (omega arith) in
    let lab : length (a ++ b) ≡ length a + length b = length-append a b in
    let p : 17 ≡ 0 + length a = omega arith in
    let q : 35 ≡ 0 + length (a ++ b) = omega arith in
    let two : y ≡ put_at labels 0 (a ++ b) = ey ∙ ap₂ (λ (o : List ℕ) (k : ℕ). put_at o k b) ex p ∙ put_put labels 0 a b (omega arith) in
    ez
    ∙ ap₂ (λ (o : List ℕ) (k : ℕ). put_at o k c) two q
    ∙ put_put labels 0 (a ++ b) c (omega arith)
    ∙ ap (put_at labels 0) (append_assoc a b c)
    ∙ ap (put_at labels 0)
    (ap₂ (λ (t u : List ℕ). t ++ u) (ea ∙ ap (part 4 17) ef)
    (ap₂ (λ (t u : List ℕ). t ++ u) (eb ∙ ap (part 35 18) ef) (ec ∙ ap (part 4 11) es)))

-- ---- the entry and the number of a file

entered_by : (labels e : List ℕ) (n : ℕ) (r : List ℕ) → length labels ≡ 149 → length e ≡ 46 → r ≡ put_at (set labels 46 n) 0 e
    → DidEnter labels e n r
entered_by labels e n r l k h =
    let old : List ℕ = set labels 46 n in
    let long : length old ≡ 149 = length-set labels 46 n ∙ l in
    let all : 46 ≡ length e = sym k in
    let to : 46 ≡ 0 + length e = omega arith in
    let behind : drop 46 r ≡ drop 46 old
    = ap (drop 46) h
    ∙ ap (λ (w : ℕ). drop w (put_at old 0 e)) to
    ∙ drop_put old 0 e (omega arith)
    ∙ ap (λ (w : ℕ). drop w old) (sym to) in
    record {
      entry = ap (part 0 46) h ∙ ap (λ (w : ℕ). part 0 w (put_at old 0 e)) all ∙ part_put old 0 e (omega arith);
      sequence =
          sym (get_or-drop 46 r 0 0)
          ∙ ap (λ (s : List ℕ). get_or s 0 0) behind
          ∙ get_or-drop 46 old 0 0
          ∙ get_or-set_same labels 46 n 0 (omega arith);
      others = sym (drop-drop 1 46 r) ∙ ap (drop 1) behind ∙ drop-drop 1 46 old ∙ drop-set-lt 47 labels 46 n (omega arith);
    }

module _ (image : Bool) (files bytes : List ℕ) (g : Place) (y : CanEnter image (length files) (length bytes) g) where
  -- a field of the first label or the second has room among the label parts
  pub first_room : (l s : List ℕ) (at from w : ℕ) → image ≡ true → l ≡ part g.file.hdr1 80 bytes → from + w ≤ 80
      → at + w ≤ 46 → s ≡ part from w l → at + length s ≤ 149
  first_room l s at from w i h k m e = part_room bytes l s g.file.hdr1 at from w (y.first i) h k m e

  pub second_room : (l s : List ℕ) (at from w : ℕ) → image ≡ true → l ≡ part g.file.hdr2 80 bytes → from + w ≤ 80
      → at + w ≤ 46 → s ≡ part from w l → at + length s ≤ 149
  second_room l s at from w i h k m e = part_room bytes l s g.file.hdr2 at from w (y.second i) h k m e

  pub entry_few : g.nth < 64
  entry_few = y.few

  module _ (labels r : List ℕ) (l : length labels ≡ 149) where
    pub entered_read : (f s a u b v d : List ℕ) → image ≡ true → f ≡ part g.file.hdr1 80 bytes
        → s ≡ part g.file.hdr2 80 bytes → a ≡ part 4 17 f
        → u ≡ put_at (set labels 46 (g.nth + 1)) 0 a → b ≡ part 35 18 f → v ≡ put_at u 17 b → d ≡ part 4 11 s → r ≡ put_at v 35 d
        → DidEnter labels (entry_at image files bytes g) (g.nth + 1) r
    unfolding entry_at
    entered_read f s a u b v d i ef es ea eu eb ev ed er =
        let h = fields_made (set labels 46 (g.nth + 1)) bytes g.file.hdr1 g.file.hdr2 f s a u b v d r (length-set labels 46 (g.nth + 1) ∙ l) (y.first i) (y.second i) ef es ea eu eb ev ed er in
        subst (λ (e : List ℕ). DidEnter labels e (g.nth + 1) r) (sym (if_true _ _ _ i))
        (entered_by labels _ (g.nth + 1) r l
        (length_entry _ _ (length_part g.file.hdr1 80 bytes (y.first i))
        (length_part g.file.hdr2 80 bytes (y.second i))) h)

    pub entered_listed : (e : List ℕ) → image ≡ false → e ≡ part (46 * g.nth) 46 files
        → r ≡ put_at (set labels 46 (g.nth + 1)) 0 e
        → DidEnter labels (entry_at image files bytes g) (g.nth + 1) r
    unfolding entry_at
    entered_listed e i k h =
        subst (λ (d : List ℕ). DidEnter labels d (g.nth + 1) r) (k ∙ sym (if_false _ _ _ i))
        (entered_by labels e (g.nth + 1) r l (ap length k ∙ length_part (46 * g.nth) 46 files (y.listed i)) h)

  pub entry_room : (e : List ℕ) → image ≡ false → e ≡ part (46 * g.nth) 46 files → 0 + length e ≤ 149
  entry_room e i k = let n : length e ≡ 46 = ap length k ∙ length_part (46 * g.nth) 46 files (y.listed i) in omega arith

pub ruleset entering = (first_room, second_room, entry_few, entered_read, entered_listed, entry_room, rules)

-- what the labels of the file are then made of
module _ (labels e : List ℕ) (n : ℕ) (r rooms : List ℕ) (y : DidEnter labels e n r) where
  same_part : (a w : ℕ) → part (47 + a) w r ≡ part (47 + a) w labels
  same_part a w = sym (part_drop 47 a w r) ∙ ap (part a w) y.others ∙ part_drop 47 a w labels

  job_is : job_with r rooms ≡ job (set_in labels) e n rooms (names_in (length rooms) labels)
  job_is =
      λ i.
      record {
        set = same_part 0 6 i;
        entry = y.entry i;
        sequence = y.sequence i;
        rooms = rooms;
        names = same_part 6
            (6 * length rooms) i;
      }

  module _ (lay : Bool) (lengths bytes : List ℕ) (d : Cursor) (p : Pen) (o : List ℕ) where
    pub parts_ready : CanPutFile lay (job (set_in labels) e n rooms (names_in (length rooms) labels)) lengths bytes d p o
        → CanPutFile lay (job_with r rooms) lengths bytes d p o
    parts_ready k = subst (λ (j : Job). CanPutFile lay j lengths bytes d p o) (sym job_is) k

    pub parts_put : (q : List ℕ) (x : Body) → DidPutFile lay (job_with r rooms) lengths bytes d p o q x
        → DidPutFile lay (job (set_in labels) e n rooms (names_in (length rooms) labels)) lengths bytes d p o q x
    parts_put q x k = subst (λ (j : Job). DidPutFile lay j lengths bytes d p o q x) job_is k

-- ---- the set entry and the names

module _ (set names titled labels : List ℕ) (six : length set ≡ 6) (few : length names ≤ 96)
    (t : titled ≡ put_at (replicate 149 0) 47 set) (l : labels ≡ put_at titled 53 names) where
  blank_long : length {A = ℕ} (replicate 149 0) ≡ 149
  blank_long = cc

  titled_long : length titled ≡ 149
  titled_long = ap length t ∙ length_put (replicate 149 0) 47 set (omega (arith, blank_long)) ∙ blank_long

  pub set_in_lem : set_in labels ≡ set
  unfolding part
  set_in_lem =
      sym (drop_take 47 53 labels)
      ∙ ap (λ (s : List ℕ). drop 47 (take 53 s)) l
      ∙ ap (drop 47) (take_put titled 53 names (omega (arith, titled_long)))
      ∙ drop_take 47 53 titled
      ∙ ap (part 47 6) t
      ∙ ap (λ (w : ℕ). part 47 w (put_at (replicate 149 0) 47 set)) (sym six)
      ∙ part_put (replicate 149 0) 47 set (omega (arith, blank_long))

  pub names_in_lem : (n : ℕ) → length names ≡ 6 * n → names_in n labels ≡ names
  names_in_lem n e =
      ap (part 53 (6 * n)) l
      ∙ ap (λ (w : ℕ). part 53 w (put_at titled 53 names)) (sym e)
      ∙ part_put titled 53 names (omega (arith, titled_long))
