-- The file at a place, of a sheet or of an image: what each step of the code over it does. Assumes nothing.
use Rattle.std.specs.Prelude.{Option}
use Rattle.content.specs.declared.FileAt.{FileAt}
use mathlib.Core.Path.{◌≡◌, refl, sym, ap, ◌∙◌, subst}
use mathlib.Core.Bool.{Bool, true, false}
use mathlib.Core.List.{List}
use Prim.Native.Nat.{ℕ, ◌+◌, ◌<◌}
use lib.Dec.{ltb}
use lib.ListN.{length, get_or}
use Rattle.base.specs.If.{if_b}
use Rattle.base.proofs.Ifs.{if_true, if_false}
use Rattle.content.specs.File.{file_behind}
use Rattle.writing.proofs.Packing.{by_test}
use Rattle.writer.specs.declared.pen.Pen.{Pen}
use Rattle.writer.specs.declared.source.Cursor.{Cursor}
use Rattle.writer.specs.declared.body.Body.{Body}
use Rattle.writer.specs.declared.set.Place.{Place}
use Rattle.writer.specs.Code.Pass.{Job, job, names_in, job_with}
use Rattle.sections.specs.Section.{set_in}
use Rattle.writer.specs.Code.Files.{CanPutFile, DidPutFile}
use Rattle.writer.specs.Code.Sets.{Origin, listed, read, origin_of, total_of, listed_at, walk_at, cursor_at, CanCount, entry_at, CanEnter, DidEnter, passed, followed_by, behind_file, Task, task, task_with, CanFile, DidFileOne}
use Rattle.writer.proofs.Filing.{files_on, Along, along_fileable, along_more, files_fall}
use Rattle.writer.proofs.LabelParts.{parts_ready, parts_put}
use Rattle.writer.proofs.FromSheet.{nth_small, stop_within, entry_within, entry_ready, listed_filed}
use Rattle.writer.proofs.FromImage.{first_within_lem, second_within_lem, read_small, read_ready, read_filed, read_short}

-- ---- the cursor

module _ (image : Bool) (counts : List ℕ) (n : ℕ) (g : Place) where
  pub cursor_read : image ≡ true → walk_at g.file.walk ≡ cursor_at image counts g
  unfolding cursor_at
  cursor_read i = sym (if_true _ _ _ i)

  pub cursor_listed : (count : ℕ) → image ≡ false → count ≡ get_or counts g.nth 0
      → listed_at g.byte count (g.first + count) ≡ cursor_at image counts g
  unfolding cursor_at
  cursor_listed count i e = ap (λ (k : ℕ). listed_at g.byte k (g.first + k)) e ∙ sym (if_false _ _ _ i)

-- ---- the place behind

module _ (image : Bool) (counts bytes : List ℕ) (g : Place) (stop end : ℕ) (short : Bool) where
  pub behind_short : short ≡ true → passed g stop end g.file false ≡ behind_file image counts bytes g stop end short
  unfolding behind_file
  behind_short z = sym (if_true _ _ _ z)

  module _ (z : short ≡ false) where
    pub behind_listed : image ≡ false
        → passed g stop end g.file (ltb (g.nth + 1) (length counts)) ≡ behind_file image counts bytes g stop end short
    unfolding behind_file
    behind_listed i = sym (if_false _ _ _ z ∙ if_false _ _ _ i)

    module _ (i : image ≡ true) (n : Option FileAt) (e : n ≡ file_behind bytes g.file.hdr1 end) where
      behind_read : followed_by g stop end n ≡ behind_file image counts bytes g stop end short
      unfolding behind_file
      behind_read = ap (followed_by g stop end) e ∙ sym (if_false _ _ _ z ∙ if_true _ _ _ i)

-- ---- the file

module _ (lay image : Bool) (files counts lengths bytes labels rooms : List ℕ) (g : Place) (p : Pen) (o : List ℕ)
    (y : CanFile lay (task_with image files counts lengths bytes labels rooms) g p o) where
  abbrev by : Origin → Task
  by from = task from (set_in labels) lengths bytes rooms (names_in (length rooms) labels)

  abbrev names : List ℕ
  names = names_in (length rooms) labels

  module _ (i : image ≡ true) where
    is_read : origin_of image files counts ≡ read
    unfolding origin_of
    is_read = if_true _ _ _ i

    from_image : CanFile lay (by read) g p o
    from_image = subst (λ (f : Origin). CanFile lay (by f) g p o) is_read y

  module _ (i : image ≡ false) where
    is_listed : origin_of image files counts ≡ listed files counts
    unfolding origin_of
    is_listed = if_false _ _ _ i

    from_sheet : CanFile lay (by (listed files counts)) g p o
    from_sheet = subst (λ (f : Origin). CanFile lay (by f) g p o) is_listed y

    nth_within : g.nth < length counts
    unfolding total_of
    nth_within = from_sheet.more

  place_small : g.nth < 64
  place_small =
      by_test image (λ i. read_small lay (set_in labels) lengths bytes rooms names g p o (from_image i))
      (λ i. nth_small files counts (set_in labels) lengths bytes rooms names g (from_sheet i).placed (nth_within i))

  place_countable : CanCount image counts (length lengths) g
  place_countable =
      record {
        nth = nth_within;
        stop = λ i. stop_within files counts (set_in labels) lengths bytes rooms names g (from_sheet i).placed (nth_within i);
      }

  place_enterable : CanEnter image (length files) (length bytes) g
  place_enterable =
      record {
        few = place_small;
        listed = λ i. entry_within files counts (set_in labels) lengths bytes rooms names g (from_sheet i).placed (nth_within i);
        first = λ i. first_within_lem lay (set_in labels) lengths bytes rooms names g p o (from_image i);
        second = λ i. second_within_lem lay (set_in labels) lengths bytes rooms names g p o (from_image i);
      }

  module _ (c : Cursor) (k : c ≡ cursor_at image counts g) (r : List ℕ)
      (e : DidEnter labels (entry_at image files bytes g) (g.nth + 1) r) where
    abbrev j : Job
    j = job (set_in labels) (entry_at image files bytes g) (g.nth + 1) rooms names

    read_at_lem : image ≡ true → c ≡ walk_at g.file.walk
    read_at_lem i = k ∙ sym (cursor_read image counts 0 g i)

    listed_at_lem : image ≡ false → c ≡ listed_at g.byte (get_or counts g.nth 0) (g.first + get_or counts g.nth 0)
    listed_at_lem i = k ∙ sym (cursor_listed image counts 0 g (get_or counts g.nth 0) i refl)

    ready : CanPutFile lay j lengths bytes c p o
    unfolding entry_at
    ready =
        by_test image
        (λ i.
        subst (λ (d : List ℕ). CanPutFile lay (job (set_in labels) d (g.nth + 1) rooms names) lengths bytes c p o)
        (sym (if_true _ _ _ i))
        (read_ready lay (set_in labels) lengths bytes rooms names g p o (from_image i) c (read_at_lem i)))
        (λ i.
        subst (λ (d : List ℕ). CanPutFile lay (job (set_in labels) d (g.nth + 1) rooms names) lengths bytes c p o)
        (sym (if_false _ _ _ i))
        (entry_ready files counts (set_in labels) lengths bytes rooms names g (from_sheet i).placed (nth_within i) _ _ refl refl c
        (listed_at_lem i) lay p o (from_sheet i)))

    place_ready : CanPutFile lay (job_with r rooms) lengths bytes c p o
    place_ready = parts_ready labels (entry_at image files bytes g) (g.nth + 1) r rooms e lay lengths bytes c p o ready

    module _ (q : List ℕ) (x : Body) (m : DidPutFile lay (job_with r rooms) lengths bytes c p o q x) where
      put : DidPutFile lay j lengths bytes c p o q x
      put = parts_put labels (entry_at image files bytes g) (g.nth + 1) r rooms e lay lengths bytes c p o q x m

      abbrev next : Place
      next = behind_file image counts bytes g c.stop x.end x.pen.short

      filed_read : image ≡ true → DidFileOne lay (by read) g p o q (record { place = next; pen = x.pen })
      unfolding entry_at
      filed_read i =
          let put' = subst (λ (d : List ℕ). DidPutFile lay (job (set_in labels) d (g.nth + 1) rooms names) lengths bytes c p o q x) (if_true _ _ _ i) put in
          by_test x.pen.short
          (λ z.
          subst (λ (h : Place). DidFileOne lay (by read) g p o q (record { place = h; pen = x.pen }))
          (behind_short image counts bytes g c.stop x.end x.pen.short z)
          (read_short lay (set_in labels) lengths bytes rooms names g p o (from_image i) c (read_at_lem i) q x put' c.stop z))
          (λ z.
          subst (λ (h : Place). DidFileOne lay (by read) g p o q (record { place = h; pen = x.pen }))
          (behind_read image counts bytes g c.stop x.end x.pen.short z i
          (file_behind bytes g.file.hdr1 x.end) refl)
          (read_filed lay (set_in labels) lengths bytes rooms names g p o (from_image i) c (read_at_lem i) q x put' c.stop z))

      filed_listed : image ≡ false → DidFileOne lay (by (listed files counts)) g p o q (record { place = next; pen = x.pen })
      unfolding entry_at
      filed_listed i =
          let put' = subst (λ (d : List ℕ). DidPutFile lay (job (set_in labels) d (g.nth + 1) rooms names) lengths bytes c p o q x) (if_false _ _ _ i) put in
          listed_filed files counts (set_in labels) lengths bytes rooms names g (from_sheet i).placed (nth_within i) _
          c.stop refl (ap (λ (d : Cursor). d.stop) (listed_at_lem i))
          c (listed_at_lem i ∙ ap (λ (n : ℕ). listed_at g.byte (get_or counts g.nth 0) n)
          (sym (ap (λ (d : Cursor). d.stop) (listed_at_lem i)))) lay p o q x next put' both
        where
          both : next ≡ passed g c.stop x.end g.file (if_b x.pen.short false (ltb (g.nth + 1) (length counts)))
          both =
              by_test x.pen.short
              (λ z. sym (behind_short image counts bytes g c.stop x.end x.pen.short z)
              ∙ ap (passed g c.stop x.end g.file) (sym (if_true _ _ _ z)))
              (λ z. sym (behind_listed image counts bytes g c.stop x.end x.pen.short z i)
              ∙ ap (passed g c.stop x.end g.file) (sym (if_false _ _ _ z)))

      place_filed : (r : Place) → r ≡ next
          → DidFileOne lay (task_with image files counts lengths bytes labels rooms) g p o q (record { place = r; pen = x.pen })
      place_filed r h =
          subst (λ (d : Place). DidFileOne lay (task_with image files counts lengths bytes labels rooms) g p o q
          (record { place = d; pen = x.pen })) (sym h)
          (by_test image (λ i. subst (λ (f : Origin). DidFileOne lay (by f) g p o q (record { place = next; pen = x.pen }))
          (sym (is_read i)) (filed_read i))
          (λ i. subst (λ (f : Origin). DidFileOne lay (by f) g p o q (record { place = next; pen = x.pen })) (sym (is_listed i))
          (filed_listed i)))

-- ---- the loop over files

module _ (lay image : Bool) (files counts lengths bytes labels rooms : List ℕ) (first : Place) (begun : Pen) (out q : List ℕ)
    (g : Place) (p : Pen)
    (m : Along lay (task_with image files counts lengths bytes labels rooms) first begun out q (record { place = g; pen = p }))
    (on : g.on ≡ true) where
  abbrev t : Task
  t = task_with image files counts lengths bytes labels rooms

  here : CanFile lay t g p q
  here = along_fileable lay t first begun out q (record { place = g; pen = p }) m on

  pub turn_small : g.nth < 64
  turn_small = place_small lay image files counts lengths bytes labels rooms g p q here

  pub turn_countable : CanCount image counts (length lengths) g
  turn_countable = place_countable lay image files counts lengths bytes labels rooms g p q here

  pub turn_enterable : CanEnter image (length files) (length bytes) g
  turn_enterable = place_enterable lay image files counts lengths bytes labels rooms g p q here

  module _ (c : Cursor) (k : c ≡ cursor_at image counts g) (r : List ℕ)
      (e : DidEnter labels (entry_at image files bytes g) (g.nth + 1) r) where
    pub turn_ready : CanPutFile lay (job_with r rooms) lengths bytes c p q
    turn_ready = place_ready lay image files counts lengths bytes labels rooms g p q here c k r e

    module _ (u : List ℕ) (x : Body) (y : DidPutFile lay (job_with r rooms) lengths bytes c p q u x) (h : Place)
        (b : h ≡ behind_file image counts bytes g c.stop x.end x.pen.short) where
      one : DidFileOne lay t g p q u (record { place = h; pen = x.pen })
      one = place_filed lay image files counts lengths bytes labels rooms g p q here c k r e u x y h b

      pub turn_more : Along lay t first begun out u (record { place = h; pen = x.pen })
      turn_more = along_more lay t first begun out q (record { place = g; pen = p }) m u (record { place = h; pen = x.pen }) one

      pub turn_falls : files_on (origin_of image files counts) bytes h < files_on (origin_of image files counts) bytes g
      turn_falls =
          files_fall lay t first begun out q (record { place = g; pen = p }) m u (record { place = h; pen = x.pen }) one on
