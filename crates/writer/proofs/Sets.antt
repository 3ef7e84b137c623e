-- A set from its beginning to its end: the head of the image, its files, and the end of the last reel. Assumes nothing.
use mathlib.Core.Path.{◌≡◌, refl, sym, ap, ◌∙◌, subst}
use mathlib.Core.Bool.{Bool, true, false, false≢true}
use mathlib.Core.List.{List, [], ◌∷◌, ◌++◌, append_assoc}
use Prim.Native.Nat.{ℕ, suc, ◌+◌, ◌*◌, ◌≤◌, ◌<◌}
use native.Mathlib.Omega.{arith}
use borrow.Author.Rules.{rules}
use mir.Val.{Fits as FitsIn}
use mir.Syntax.{w64}
use lib.ListN.{length, drop, get_or, length-append, drop_of_length-le}
use Rattle.base.specs.If.{if_b}
use Rattle.base.specs.Part.{part, put_at, put_in}
use Rattle.base.proofs.Parts.{part_part, put_put}
use Rattle.image.specs.Item.{block, mark, reel_end, encode}
use Rattle.image.specs.Framing.{head}
use Rattle.image.proofs.RoundTrip.{encode_append}
use Rattle.label.specs.Made.{made_volume}
use Rattle.volume.specs.Meaning.{content}
use Rattle.sheet.specs.Flat.{in_parts, files_from}
use Rattle.writing.specs.Lay.{Laid, laid, short, put, lay_files, lay_on}
use Rattle.writing.proofs.Packing.{by_test}
use Rattle.writer.specs.declared.pen.Pen.{Pen}
use Rattle.writer.specs.declared.set.Place.{Place}
use Rattle.writer.specs.Code.Pass.{reels_at, names_in, ink_at, inked, behind, inked_at, PassEnd, outcome, laid_from, imaged, image_from, EndsWithin, BetweenFiles}
use Rattle.writer.specs.Code.Sets.{Origin, listed, read, total_of, files_at, Task, task_with, lay_at, Filing, CanFile, DidFileAll, CanEndSet, DidEndSet, first_pen, DidLaySet, meaning_at, set_laid, CanLaySet}
use Rattle.sections.specs.Section.{image_head}
use Rattle.base.proofs.Copies.{kept_in}
use Rattle.sections.proofs.Lengths.{length_first_reel, length_reel_end}
use Rattle.writer.proofs.Passes.{ink_none, ink_length}
use Rattle.writer.proofs.Written.{ink_not, ink_made}
use Rattle.writer.proofs.ReelChanges.{reels_some}
use Rattle.writer.proofs.Files.{laid_short, laid_items, laid_room}
use Rattle.writer.proofs.Filing.{Along, along_none, along_all}

-- ---- the end of the set

abbrev closed_set : Pen → Pen
closed_set p =
    record { at = p.at + 6; used = 0; room = p.room; next = p.next; section = p.section; count = p.count; on = false; short = false }

module _ (lay : Bool) (p : Pen) (o : List ℕ) (y : CanEndSet lay p (length o)) where
  pub closed_short : p.short ≡ true → DidEndSet lay p o o p
  closed_short s = record { kept = refl; untouched = λ _. refl; same = laid_short lay p o _ s ∙ sym (laid_short lay p o _ s) }

  module _ (s : p.short ≡ false) where
    closing_room : lay ≡ true → p.at + 6 ≤ length o
    closing_room l = y.room l s

    pub closing_fits : FitsIn w64 (p.at + 6)
    closing_fits = record { fits = omega (arith, y.place s) }

    end_room : lay ≡ true → p.at + length (encode (mark ∷ reel_end ∷ [])) ≤ length o
    end_room l = let r = y.room l s in omega (arith, length_reel_end)

    closed_by : (q : List ℕ) → q ≡ ink_at lay o p.at (encode (mark ∷ reel_end ∷ [])) → DidEndSet lay p o q (closed_set p)
    unfolding put
    closed_by q e =
        record {
          kept = ap length e ∙ ink_length lay o p.at (encode (mark ∷ reel_end ∷ [])) end_room;
          untouched = λ l. e ∙ ink_none lay o p.at (encode (mark ∷ reel_end ∷ [])) l;
          same = laid_items lay p (closed_set p) o q (mark ∷ reel_end ∷ []) (laid []) 6 s refl refl length_reel_end e closing_room;
        }

    pub closed_laid : (s q : List ℕ) → lay ≡ true → s ≡ encode (mark ∷ reel_end ∷ []) → q ≡ put_in o p.at s
        → DidEndSet lay p o q (closed_set p)
    closed_laid s q l h w =
        closed_by q (ink_made lay o p.at 6 (encode (mark ∷ reel_end ∷ [])) s q length_reel_end closing_room l h w)

    pub closed_measured : lay ≡ false → DidEndSet lay p o o (closed_set p)
    closed_measured l = closed_by o (ink_not lay o p.at (encode (mark ∷ reel_end ∷ [])) l)

pub ruleset closings = (closed_short, closing_fits, closed_laid, closed_measured, kept_in, rules)

-- behind the last file there is none
pub no_counts : (es : List (List ℕ)) (ls bs : List ℕ) → files_from es [] ls bs ≡ []
unfolding files_from
no_counts [] ls bs = refl
no_counts (e ∷ es) ls bs = refl

files_none : (from : Origin) (lengths bytes : List ℕ) (g : Place) → total_of from bytes ≤ g.nth
    → files_at from lengths bytes g ≡ []
unfolding files_at total_of
files_none (listed files counts) lengths bytes g h =
    ap (λ (s : List ℕ). files_from (in_parts 46 (drop (46 * g.nth) files)) s (drop g.first lengths) (drop g.byte bytes))
    (drop_of_length-le counts h)
    ∙ no_counts (in_parts 46 (drop (46 * g.nth) files)) (drop g.first lengths) (drop g.byte bytes)
files_none read lengths bytes g h = drop_of_length-le (content bytes).files h

-- ---- the beginning of the set

length_head : (name : List ℕ) → length (image_head name) ≡ 88
unfolding image_head
length_head name = length-append head (encode (block (made_volume name) ∷ [])) ∙ ap (λ (n : ℕ). 5 + n) (length_first_reel name)

pub head_laid : (lay : Bool) (o labels name s q : List ℕ) → (lay ≡ true → 88 ≤ length o) → lay ≡ true → name ≡ part 53 6 labels
    → s ≡ image_head name → q ≡ put_in o 0 s
    → q ≡ ink_at lay o 0 (image_head (part 53 6 labels))
head_laid lay o labels name s q r l e h w =
    ink_made lay o 0 88 (image_head (part 53 6 labels)) s q (length_head (part 53 6 labels)) r l (h ∙ ap image_head e) w

head_kept : (lay : Bool) (o name q : List ℕ) → (lay ≡ true → 88 ≤ length o) → q ≡ ink_at lay o 0 (image_head name)
    → length q ≡ length o
head_kept lay o name q r e = ap length e ∙ ink_length lay o 0 (image_head name) (λ l. let m = r l in omega (arith, length_head name))

pub first_index : (rooms : List ℕ) → 1 ≤ length rooms → 0 < length rooms
first_index rooms h = omega arith

pub ruleset set_begins = (head_laid, ink_not, kept_in, first_index, rules)

-- the head, the first reel's label, and what follows
head_same : (lay : Bool) (o q name : List ℕ) (room : ℕ) (l : Laid) → (lay ≡ true → 88 ≤ length o)
    → q ≡ ink_at lay o 0 (image_head name)
    → laid_from lay (first_pen room) q l ≡ image_from lay o (put (block (made_volume name) ∷ []) l)
unfolding laid_from image_from imaged inked outcome inked_at behind put image_head ink_at if_b
head_same lay o q name room short r e = refl
head_same true o q name room (laid xs) r e =
    let long : length (head ++ encode (block (made_volume name) ∷ [])) ≡ 88 = length_head name in
    let place : 88 ≡ 0 + length (head ++ encode (block (made_volume name) ∷ [])) = omega arith in
    let all : (head ++ encode (block (made_volume name) ∷ [])) ++ encode xs ≡ head ++ encode (block (made_volume name) ∷ xs)
    = append_assoc head (encode (block (made_volume name) ∷ [])) (encode xs) ∙ ap (λ (s : List ℕ). head ++ s) (sym (encode_append (block (made_volume name) ∷ []) xs)) in
    let bytes : put_at q 88 (encode xs) ≡ put_at o 0 (head ++ encode (block (made_volume name) ∷ xs))
    = ap (λ (s : List ℕ). put_at s 88 (encode xs)) e
    ∙ ap (λ (n : ℕ). put_at (put_at o 0 (head ++ encode (block (made_volume name) ∷ []))) n (encode xs)) place
    ∙ put_put o 0 (head ++ encode (block (made_volume name) ∷ [])) (encode xs) (let m = r refl in omega arith)
    ∙ ap (put_at o 0) all in
    let end : 88 + length (encode xs) ≡ 0 + length (head ++ encode (block (made_volume name) ∷ xs))
    = omega (arith, ap length (sym all) ∙ length-append (head ++ encode (block (made_volume name) ∷ [])) (encode xs)) in
    λ i. record { out = bytes i; end = end i; short = false }
head_same false o q name room (laid xs) r e =
    let long : length (head ++ encode (block (made_volume name) ∷ [])) ≡ 88 = length_head name in
    let all : (head ++ encode (block (made_volume name) ∷ [])) ++ encode xs ≡ head ++ encode (block (made_volume name) ∷ xs)
    = append_assoc head (encode (block (made_volume name) ∷ [])) (encode xs) ∙ ap (λ (s : List ℕ). head ++ s) (sym (encode_append (block (made_volume name) ∷ []) xs)) in
    let end : 88 + length (encode xs) ≡ 0 + length (head ++ encode (block (made_volume name) ∷ xs))
    = omega (arith, ap length (sym all) ∙ length-append (head ++ encode (block (made_volume name) ∷ [])) (encode xs)) in
    λ i. record { out = e i; end = end i; short = false }

-- and it has room
head_room : (o name : List ℕ) (l : Laid) → EndsWithin (image_from true o (put (block (made_volume name) ∷ []) l)) (length o)
    → 88 ≤ length o
unfolding image_from imaged outcome behind put if_b
head_room o name short f = absurd (false≢true (sym f.given))
head_room o name (laid xs) f =
    let end : 0 + length (head ++ encode (block (made_volume name) ∷ xs)) ≤ length o = f.within in
    let one : length (encode (block (made_volume name) ∷ xs)) ≡ length (encode (block (made_volume name) ∷ [])) + length (encode xs)
    = ap length (encode_append (block (made_volume name) ∷ []) xs) ∙ length-append (encode (block (made_volume name) ∷ [])) (encode xs) in
    let long : length (head ++ encode (block (made_volume name) ∷ xs)) ≡ 5 + length (encode (block (made_volume name) ∷ xs)) = length-append head (encode (block (made_volume name) ∷ xs)) in
    omega (arith, length_first_reel name)

module _ (lay : Bool) (t : Task) (g : Place) (o : List ℕ) (y : CanLaySet lay t g o) where
  abbrev name : List ℕ
  name = part (6 * 0) 6 t.names

  abbrev first : ℕ
  first = get_or t.rooms 0 0

  -- the whole set is its first reel's label and all files
  set_is : put (block (made_volume name) ∷ []) (lay_at t g (first_pen first)) ≡ set_laid t g
  unfolding set_laid lay_on meaning_at lay_at
  set_is =
      ap (λ (n : ℕ). put (block (made_volume name) ∷ [])
      (lay_files t.set (suc n) first (reels_at t.rooms t.names (0 + 1)) (files_at t.from t.lengths t.bytes g)))
      y.writable.first
      ∙ ap (lay_on (record { set = t.set; files = files_at t.from t.lengths t.bytes g }))
      (sym (reels_some t.rooms t.names 0 y.writable.reels (omega (arith, y.writable.one))))

  pub set_room : lay ≡ true → 88 ≤ length o
  set_room l =
      head_room o name (lay_at t g (first_pen first))
      (subst (λ (k : Laid). EndsWithin (image_from true o k) (length o)) (sym set_is) (y.fits l))

  module _ (q : List ℕ) (p : Pen) (e : p ≡ first_pen first) (h : q ≡ ink_at lay o 0 (image_head name)) where
    begun_same : laid_from lay p q (lay_at t g p) ≡ image_from lay o (set_laid t g)
    begun_same =
        ap (λ (r : Pen). laid_from lay r q (lay_at t g r)) e
        ∙ head_same lay o q name first (lay_at t g (first_pen first)) set_room h
        ∙ ap (image_from lay o) set_is

    set_kept : length q ≡ length o
    set_kept = head_kept lay o name q set_room h

    first_sound : BetweenFiles t.rooms t.names 0 (first_pen first)
    first_sound =
        let r = y.writable.reels in
        let some : 0 < length t.rooms = omega (arith, y.writable.one) in
        record {
          reels = r;
          blocks = omega (arith, r.most 0 some);
          begun = omega arith;
          sections = omega arith;
          within = y.writable.one;
          turn = omega arith;
          used = omega arith;
          place = omega (arith, r.most 0 some);
          on = λ z. absurd (false≢true z);
        }

    pub set_fileable : CanFile lay t g p q
    set_fileable =
        record {
          placed = y.writable.placed;
          more = y.writable.some;
          sound =
              subst (λ (n : ℕ). BetweenFiles t.rooms t.names n p) (sym y.writable.first)
              (subst (BetweenFiles t.rooms t.names 0) (sym e) first_sound);
          enough = ap (λ (r : Pen). r.short) e;
          fits =
              λ l.
              let s : laid_from true p q (lay_at t g p) ≡ image_from true o (set_laid t g)
              = subst (λ (b : Bool). laid_from b p q (lay_at t g p) ≡ image_from b o (set_laid t g)) l begun_same in
              subst (EndsWithin (laid_from true p q (lay_at t g p))) (sym set_kept)
              (subst (λ (w : PassEnd). EndsWithin w (length o)) (sym s) (y.fits l));
        }

    module _ (u : List ℕ) (x : Filing) (m : DidFileAll lay t g p q u x) where
      last_is : x.pen.short ≡ false → lay_at t x.place x.pen ≡ laid (mark ∷ reel_end ∷ [])
      unfolding lay_at lay_files
      last_is s =
          ap (lay_files t.set (suc x.place.nth) x.pen.room (reels_at t.rooms t.names x.pen.next))
          (files_none t.from t.lengths t.bytes x.place (m.filed.over m.off s))

      last_same : laid_from lay x.pen u (laid (mark ∷ reel_end ∷ [])) ≡ image_from lay o (set_laid t g)
      last_same =
          by_test x.pen.short
          (λ s. laid_short lay x.pen u _ s ∙ sym (laid_short lay x.pen u (lay_at t x.place x.pen) s))
          (λ s. ap (laid_from lay x.pen u) (sym (last_is s)))
          ∙ m.filed.same
          ∙ begun_same

      all_kept : length u ≡ length o
      all_kept = m.filed.kept ∙ set_kept

      pub set_closing : CanEndSet lay x.pen (length u)
      unfolding put
      set_closing =
          record {
            place = λ s. let k = m.filed.sound s in omega (arith, k.place, k.within, k.reels.few, k.turn);
            room =
                λ l s.
                let e : laid_from true x.pen u (laid (mark ∷ reel_end ∷ [])) ≡ image_from true o (set_laid t g)
                = subst (λ (b : Bool). laid_from b x.pen u (laid (mark ∷ reel_end ∷ [])) ≡ image_from b o (set_laid t g)) l last_same in
                laid_room x.pen u (mark ∷ reel_end ∷ []) (laid []) 6 s length_reel_end
                (subst (EndsWithin (laid_from true x.pen u (laid (mark ∷ reel_end ∷ [])))) (sym all_kept)
                (subst (λ (w : PassEnd). EndsWithin w (length o)) (sym e) (y.fits l)));
          }

      module _ (v : List ℕ) (r : Pen) (z : DidEndSet lay x.pen u v r) where
        pub set_all_kept : length v ≡ length o
        set_all_kept = z.kept ∙ all_kept

        pub sheeted : DidLaySet lay (set_laid t g) o v r
        sheeted =
            record {
              untouched = λ l. z.untouched l ∙ m.filed.untouched l ∙ h ∙ ink_none lay o 0 (image_head name) l;
              kept = set_all_kept;
              same = z.same ∙ last_same;
            }

-- ---- the set, as the code holds it

module _ (lay image : Bool) (files counts lengths bytes labels rooms : List ℕ) (g : Place) (o : List ℕ)
    (y : CanLaySet lay (task_with image files counts lengths bytes labels rooms) g o) where
  abbrev t : Task
  t = task_with image files counts lengths bytes labels rooms

  pub begin_one : 1 ≤ length rooms
  begin_one = y.writable.one

  pub begin_room : lay ≡ true → 88 ≤ length o
  begin_room l = set_room lay t g o y l

  named : part 53 6 labels ≡ part (6 * 0) 6 (names_in (length rooms) labels)
  named = sym (part_part 53 0 6 (6 * length rooms) labels (omega (arith, begin_one)))

  module _ (p : Pen) (q : List ℕ) (k : (p ≡ first_pen (get_or rooms 0 0)) × (q ≡ ink_at lay o 0 (image_head (part 53 6 labels)))) where
    laid_head : q ≡ ink_at lay o 0 (image_head (part (6 * 0) 6 (names_in (length rooms) labels)))
    laid_head = k.1 ∙ ap (λ (n : List ℕ). ink_at lay o 0 (image_head n)) named

    pub begun_along : Along lay t g p q q (record { place = g; pen = p })
    begun_along = along_none lay t g p q (set_fileable lay t g o y q p k.0 laid_head) y.writable.on

    module _ (u : List ℕ) (x : Filing) (m : Along lay t g p q u x) (off : x.place.on ≡ false) where
      pub along_closing : CanEndSet lay x.pen (length u)
      along_closing = set_closing lay t g o y q p k.0 laid_head u x (along_all lay t g p q u x m off)

      module _ (v : List ℕ) (r : Pen) (z : DidEndSet lay x.pen u v r) where
        pub along_all_kept : length v ≡ length o
        along_all_kept = set_all_kept lay t g o y q p k.0 laid_head u x (along_all lay t g p q u x m off) v r z

        pub along_sheeted : DidLaySet lay (set_laid t g) o v r
        along_sheeted = sheeted lay t g o y q p k.0 laid_head u x (along_all lay t g p q u x m off) v r z

pub ruleset sets = (begin_one, begin_room, begun_along, along_closing, along_all_kept, along_sheeted, rules)
