-- The files of a set laid down one after the other. Assumes nothing.
use mathlib.Core.Path.{◌≡◌, refl, sym, ap, ◌∙◌, subst}
use mathlib.Core.Bool.{Bool, true, false, false≢true}
use mathlib.Core.List.{List, [], ◌∷◌}
use Prim.Native.Nat.{ℕ, suc, ◌+◌, ◌-◌, ◌≤◌, ◌<◌}
use native.Mathlib.Omega.{arith}
use native.Mathlib.Numerals.{add-one}
use lib.ListN.{length}
use Rattle.base.specs.If.{if_b}
use Rattle.base.proofs.Ifs.{if_true, if_false}
use Rattle.volume.specs.Meaning.{File}
use Rattle.reading.specs.Legal.{format_from, block_length_from, record_length_from, legal_files}
use Rattle.writing.specs.Pack.{blocks_of}
use Rattle.writing.specs.Code.Room.{RoomEach}
use Rattle.writing.specs.Lay.{put, Sequel, rest, lay_files}
use Rattle.sections.specs.Section.{headers}
use Rattle.writing.proofs.Packing.{by_test}
use Rattle.writing.proofs.PackedFiles.{Suited, legal_room}
use Rattle.writing.proofs.Entry.{legal_first, legal_second, suited}
use Rattle.writing.proofs.LaidFiles.{legal_file_lem}
use Rattle.writer.specs.declared.pen.Pen.{Pen}
use Rattle.writer.specs.declared.source.Cursor.{Cursor}
use Rattle.writer.specs.declared.body.Body.{Body}
use Rattle.writer.specs.declared.set.Place.{Place}
use Rattle.writer.specs.Code.Pass.{reels_at, Job, job, PassEnd, laid_from, EndsWithin, BetweenFiles}
use Rattle.writer.specs.Code.Source.{records_of, GoodCursor}
use Rattle.writer.specs.Code.Files.{file_laid, filed_from, next_from, CanPutFile, DidPutFile}
use Rattle.writer.specs.Code.Sets.{Origin, total_of, files_at, Task, PlacedIn, lay_at, Filing, DidFile, CanFile, DidFileOne, DidFileAll}
use Rattle.writer.proofs.Files.{laid_short}

-- the set entry of a legal file has six bytes
pub legal_set : (set : List ℕ) (ds : List File) → 1 ≤ length ds → legal_files set ds ≡ true → length set ≡ 6
legal_set set [] h l = absurd (omega arith)
legal_set set (d ∷ ds) h l = legal_file_lem set d ds l (λ e r o. (legal_first set d.fields e).six)

-- ---- one file

-- the first of the files from a place on, and those behind it
module _ (t : Task) (g : Place) (entry : List ℕ) (records : List (List ℕ)) (others : List File) (y : PlacedIn t g)
    (first : files_at t.from t.lengths t.bytes g ≡ record { fields = entry; records = records } ∷ others) where
  legal : legal_files t.set (record { fields = entry; records = records } ∷ others) ≡ true
  legal = ap (legal_files t.set) (sym first) ∙ y.legal

  pub legal_others : legal_files t.set others ≡ true
  legal_others = legal_file_lem t.set _ _ legal (λ e r o. o)

  suits : Suited (format_from entry) (block_length_from entry) (record_length_from entry)
  suits = legal_file_lem t.set _ _ legal (λ e r o. suited entry (legal_second t.set entry e))

  room : RoomEach (format_from entry) (block_length_from entry) records
  room = legal_file_lem t.set _ _ legal (λ e r o. legal_room _ _ (record_length_from entry) records suits r)

  abbrev j : Job
  j = job t.set entry (g.nth + 1) t.rooms t.names

  abbrev following : Sequel
  following = λ left reels. lay_files t.set (suc (suc g.nth)) left reels others

  -- what is laid from a place on is this file and what follows
  this_file : (lay : Bool) (p : Pen) (o : List ℕ) → filed_from lay j p o records following ≡ laid_from lay p o (lay_at t g p)
  unfolding filed_from file_laid lay_at lay_files
  this_file lay p o =
      ap
      (λ (n : ℕ). laid_from lay p o (put (headers t.set entry 1 n)
      (rest t.set entry n 1 0 p.room (reels_at t.rooms t.names p.next)
      (blocks_of (format_from entry) (block_length_from entry) records) following)))
      (add-one g.nth)
      ∙ ap (λ (ds : List File). laid_from lay p o
      (lay_files t.set (suc g.nth) p.room (reels_at t.rooms t.names p.next) ds)) (sym first)

  module _ (lay : Bool) (d : Cursor) (good : GoodCursor t.lengths t.bytes d)
      (begun : records_of t.lengths t.bytes d ≡ records) where
    pub file_ready : (p : Pen) (o : List ℕ) → CanFile lay t g p o → CanPutFile lay j t.lengths t.bytes d p o
    file_ready p o f =
        record {
          before = g.nth;
          turn = refl;
          few = omega (arith, f.more, y.few);
          sound = f.sound;
          given = f.enough;
          most = suits.most;
          good = good;
          room = subst (RoomEach _ _) (sym begun) room;
          ahead =
              λ l.
              record {
                next = following;
                fits =
                    subst (λ (xs : List (List ℕ)). EndsWithin (filed_from true j p o xs following) (length o)) (sym begun)
                    (subst (λ (w : PassEnd). EndsWithin w (length o)) (sym (this_file true p o)) (f.fits l));
              };
        }

    -- the next file from a place behind this one, unless a reel is lacking
    next_same : (x : Pen) (q : List ℕ) (h : Place) → h.nth ≡ g.nth + 1
        → (x.short ≡ false → files_at t.from t.lengths t.bytes h ≡ others)
        → laid_from lay x q (lay_at t h x) ≡ next_from lay t.rooms t.names x q following
    unfolding lay_at next_from
    next_same x q h n e =
        by_test x.short (λ z. laid_short lay x q _ z ∙ sym (laid_short lay x q _ z))
        (λ z.
        ap (λ (k : ℕ). laid_from lay x q
        (lay_files t.set (suc k) x.room (reels_at t.rooms t.names x.next)
        (files_at t.from t.lengths t.bytes h))) (n ∙ add-one g.nth)
        ∙ ap (λ (ds : List File). laid_from lay x q
        (lay_files t.set (suc (suc g.nth)) x.room (reels_at t.rooms t.names x.next) ds)) (e z))

    -- the file was laid, and the laying stands at the next
    pub one_filed : (p : Pen) (o q : List ℕ) (x : Body) (v : Filing) → DidPutFile lay j t.lengths t.bytes d p o q x
        → v.pen ≡ x.pen → v.place.nth ≡ g.nth + 1
        → (x.pen.short ≡ false → files_at t.from t.lengths t.bytes v.place ≡ others)
        → (x.pen.short ≡ false → PlacedIn t v.place)
        → (v.place.on ≡ true → x.pen.short ≡ false) → (v.place.on ≡ true → v.place.nth < total_of t.from t.bytes)
        → (v.place.on ≡ false → x.pen.short ≡ false → total_of t.from t.bytes ≤ v.place.nth)
        → DidFileOne lay t g p o q v
    one_filed p o q x v m pen next there placed on more over =
        record {
          filed =
              record {
                placed = λ z. placed (same_short z);
                sound =
                    λ z.
                    subst (λ (n : ℕ). BetweenFiles t.rooms t.names n v.pen) (sym next)
                    (subst (BetweenFiles t.rooms t.names (g.nth + 1)) (sym pen) (m.sound (same_short z)));
                kept = m.kept;
                untouched = m.untouched;
                enough = λ z. ap (λ (w : Pen). w.short) pen ∙ on z;
                more = more;
                over = λ z e. over z (same_short e);
                same =
                    ap (λ (w : Pen). laid_from lay w q (lay_at t v.place w)) pen
                    ∙ next_same x.pen q v.place next there
                    ∙ m.same following
                    ∙ ap (λ (xs : List (List ℕ)). filed_from lay j p o xs following) begun
                    ∙ this_file lay p o;
              };
          next = next;
        }
      where
        same_short : v.pen.short ≡ false → x.pen.short ≡ false
        same_short z = sym (ap (λ (w : Pen). w.short) pen) ∙ z

-- ---- the loop over files

-- the files that are to be laid
unfoldable pub files_on : Origin → List ℕ → Place → ℕ
files_on from bytes g = if_b g.on (total_of from bytes - g.nth) 0

-- where the loop stands
pub record Along (lay : Bool) (t : Task) (g : Place) (p : Pen) (o q : List ℕ) (x : Filing) : Type 0 where
  pub filed : DidFile lay t g p o q x
  pub fits : lay ≡ true → EndsWithin (laid_from true x.pen q (lay_at t x.place x.pen)) (length q)

fits_on : (lay : Bool) (t : Task) (g : Place) (p : Pen) (o q : List ℕ) (x : Filing) → DidFile lay t g p o q x
    → (lay ≡ true → EndsWithin (laid_from true p o (lay_at t g p)) (length o)) → lay ≡ true
    → EndsWithin (laid_from true x.pen q (lay_at t x.place x.pen)) (length q)
fits_on lay t g p o q x m f l =
    let e : laid_from true x.pen q (lay_at t x.place x.pen) ≡ laid_from true p o (lay_at t g p)
    = subst (λ (b : Bool). laid_from b x.pen q (lay_at t x.place x.pen) ≡ laid_from b p o (lay_at t g p)) l m.same in
    subst (EndsWithin (laid_from true x.pen q (lay_at t x.place x.pen))) (sym m.kept)
    (subst (λ (w : PassEnd). EndsWithin w (length o)) (sym e) (f l))

module _ (lay : Bool) (t : Task) (g : Place) (p : Pen) (o : List ℕ) where
  pub along_none : CanFile lay t g p o → g.on ≡ true → Along lay t g p o o (record { place = g; pen = p })
  along_none y on =
      record {
        filed =
            record {
              placed = λ _. y.placed;
              sound = λ _. y.sound;
              kept = refl;
              untouched = λ _. refl;
              enough = λ _. y.enough;
              more = λ _. y.more;
              over = λ z. absurd (false≢true (sym z ∙ on));
              same = refl;
            };
        fits = y.fits;
      }

  module _ (q : List ℕ) (x : Filing) (m : Along lay t g p o q x) where
    pub along_fileable : x.place.on ≡ true → CanFile lay t x.place x.pen q
    along_fileable on =
        let s = m.filed.enough on in
        record { placed = m.filed.placed s; more = m.filed.more on; sound = m.filed.sound s; enough = s; fits = m.fits }

    pub along_all : x.place.on ≡ false → DidFileAll lay t g p o q x
    along_all off = record { filed = m.filed; off = off }

    module _ (s : List ℕ) (v : Filing) (n : DidFileOne lay t x.place x.pen q s v) where
      pub along_more : Along lay t g p o s v
      along_more =
          record {
            filed =
                record {
                  placed = n.filed.placed;
                  sound = n.filed.sound;
                  kept = n.filed.kept ∙ m.filed.kept;
                  untouched = λ l. n.filed.untouched l ∙ m.filed.untouched l;
                  enough = n.filed.enough;
                  more = n.filed.more;
                  over = n.filed.over;
                  same = n.filed.same ∙ m.filed.same;
                };
            fits = fits_on lay t x.place x.pen q s v n.filed m.fits;
          }

      pub files_fall : x.place.on ≡ true → files_on t.from t.bytes v.place < files_on t.from t.bytes x.place
      unfolding files_on
      files_fall on =
          let k : if_b x.place.on (total_of t.from t.bytes - x.place.nth) 0 ≡ total_of t.from t.bytes - x.place.nth = if_true _ _ _ on in
          let more : x.place.nth < total_of t.from t.bytes = m.filed.more on in
          let step : v.place.nth ≡ x.place.nth + 1 = n.next in
          by_test v.place.on
          (λ z. let j : if_b v.place.on (total_of t.from t.bytes - v.place.nth) 0 ≡ total_of t.from t.bytes - v.place.nth = if_true _ _ _ z in omega arith)
          (λ z. let j : if_b v.place.on (total_of t.from t.bytes - v.place.nth) 0 ≡ 0 = if_false _ _ _ z in omega arith)
