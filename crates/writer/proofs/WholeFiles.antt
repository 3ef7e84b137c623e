-- A whole file laid down: its header labels, its blocks, and its trailer labels. Assumes nothing.
use mathlib.Core.Path.{◌≡◌, refl, sym, ap, ◌∙◌, subst}
use mathlib.Core.Bool.{Bool, true, false, false≢true}
use mathlib.Core.List.{List, []}
use Prim.Native.Nat.{ℕ, ◌+◌, ◌≤◌}
use native.Mathlib.Omega.{arith}
use borrow.Author.Rules.{rules}
use lib.ListN.{length}
use Rattle.base.specs.If.{if_b}
use Rattle.base.proofs.Ifs.{if_true, if_false, if_same}
use Rattle.image.specs.Item.{Item, encode}
use Rattle.reading.specs.Legal.{format_from, block_length_from}
use Rattle.writing.specs.Pack.{Left, finished, start_of, blocks_left, blocks_f, weight, blocks_of}
use Rattle.writing.specs.Lay.{Laid, Sequel, rest}
use Rattle.sections.specs.Section.{headers, file_end}
use Rattle.writing.proofs.Packing.{by_test}
use Rattle.writer.specs.declared.pen.Pen.{Pen}
use Rattle.writer.specs.declared.source.Cursor.{Cursor}
use Rattle.writer.specs.declared.body.Body.{Body}
use Rattle.writer.specs.Code.Pass.{reels_at, Job, PassEnd, behind, rest_of, ends, laid_from, EndsWithin, Sound, between, fill_of, after_of, fill_due, left_due, penned}
use Rattle.writer.specs.Code.Source.{records_of}
use Rattle.writer.specs.Code.Bodies.{CanPutRecords, DidPutRecords}
use Rattle.writer.specs.Code.Files.{CanBegin, begun, DidBegin, CanPutEnd, DidPutEnd, file_laid, filed_from, next_from, CanPutFile, DidPutFile}
use Rattle.sections.proofs.Lengths.{length_headers, length_file_end}
use Rattle.writer.proofs.Passes.{ink_none, fits_items}
use Rattle.writer.proofs.Pens.{ends_given}
use Rattle.writer.proofs.Blocks.{penned_short}
use Rattle.writer.proofs.Files.{laid_given, laid_short, laid_items, fits_tail, laid_room, bodied_of, put_of}

-- ---- the whole file

-- behind the last record, all that ends the file has room
ends_room : (j : Job) (p : Pen) (o : List ℕ) (next : Sequel) → p.short ≡ false
    → EndsWithin (ends true j p o [] [] next) (length o)
    → behind p.on p.at p.used + 172 ≤ length o
unfolding rest_of rest behind if_b
ends_room j p o next s k =
    let l : Laid = next p.room (reels_at j.rooms j.names p.next) in
    let end : List Item = file_end j.set j.entry p.section j.sequence p.count in
    let long : length (encode end) ≡ 172 = length_file_end j.set j.entry p.section j.sequence p.count in
    by_test p.on
    (λ t.
    let r = fits_tail p.at p.used o end l (length o) (subst (λ (w : PassEnd). EndsWithin w (length o)) (ends_given true j p o [] [] next true s t) k) in
    omega (arith, if_true p.on (p.at + 3 + p.used) p.at t))
    (λ t.
    let r = fits_items true p.at p.used o end l (length o) (subst (λ (w : PassEnd). EndsWithin w (length o)) (ends_given true j p o [] [] next false s t) k) in
    omega (arith, r.0, if_false p.on (p.at + 3 + p.used) p.at t))

module _ (lay : Bool) (j : Job) (lengths bytes : List ℕ) (c : Cursor) (p : Pen) (o : List ℕ)
    (y : CanPutFile lay j lengths bytes c p o) where
  abbrev f : ℕ
  f = format_from j.entry

  abbrev b : ℕ
  b = block_length_from j.entry

  abbrev xs : List (List ℕ)
  xs = records_of lengths bytes c

  abbrev blocks : Sequel → Laid
  blocks next =
      rest j.set j.entry j.sequence 1 0 p.room (reels_at j.rooms j.names p.next) (blocks_of f b xs) next

  pub file_beginnable : CanBegin lay p (length o)
  unfolding filed_from file_laid
  file_beginnable =
      record {
        place = omega (arith, y.sound.place, y.sound.within, y.sound.reels.few, y.sound.turn);
        room =
            λ l.
            let a = y.ahead l in
            laid_room p o (headers j.set j.entry 1 j.sequence) (blocks a.next) 169 y.given
            (length_headers j.set j.entry 1 j.sequence) a.fits;
      }

  module _ (q : List ℕ) (h : Pen) (z : DidBegin lay j.set j.entry j.sequence p o q h) where
    penned_start : (next : Sequel)
        → penned lay f b j (begun p) q (between (start_of xs)) next ≡ laid_from lay (begun p) q (blocks next)
    unfolding penned fill_due left_due blocks_of rest_of if_b
    penned_start next =
        ends_given lay j (begun p) q [] (blocks_left f b (start_of xs)) next false refl refl
        ∙ sym (laid_given lay (begun p) q (blocks next) refl)

    begun_same : (next : Sequel) → penned lay f b j (begun p) q (between (start_of xs)) next ≡ filed_from lay j p o xs next
    unfolding filed_from file_laid
    begun_same next =
        penned_start next
        ∙ laid_items lay p (begun p) o q (headers j.set j.entry 1 j.sequence) (blocks next) 169 y.given refl refl
        (length_headers j.set j.entry 1 j.sequence) z.laid file_beginnable.room

    begun_sound : Sound j (begun p)
    begun_sound =
        let s = y.sound in
        record {
          reels = s.reels;
          blocks = omega (arith, s.blocks);
          begun = s.begun;
          sections = s.begun;
          within = s.within;
          turn = omega (arith, y.few);
          used = omega arith;
          place = omega (arith, s.place, y.turn);
          on = λ w. absurd (false≢true w);
        }

    begun_bodied : CanPutRecords lay f b j lengths bytes c (begun p) q
    begun_bodied =
        record {
          sound = begun_sound;
          given = refl;
          most = y.most;
          good = y.good;
          room = y.room;
          ahead =
              λ l.
              let a = y.ahead l in
              let e : penned true f b j (begun p) q (between (start_of xs)) a.next ≡ filed_from true j p o xs a.next
              = subst (λ (t : Bool). penned t f b j (begun p) q (between (start_of xs)) a.next ≡ filed_from t j p o xs a.next) l (begun_same a.next) in
              record {
                next = a.next;
                fits =
                    subst (EndsWithin (penned true f b j (begun p) q (between (start_of xs)) a.next)) (sym z.kept)
                    (subst (λ (w : PassEnd). EndsWithin w (length o)) (sym e) a.fits);
              };
        }

    bodied : CanPutRecords lay f b j lengths bytes c h q
    bodied = subst (λ (w : Pen). CanPutRecords lay f b j lengths bytes c w q) (sym z.is) begun_bodied

    -- as the code reads its format and block length from its entry
    module _ (e : List ℕ) (n m : ℕ) (here : e ≡ j.entry) (format : n ≡ format_from e) (long : m ≡ block_length_from e) where
      format_is : n ≡ format_from j.entry
      format_is = format ∙ ap format_from here

      long_is : m ≡ block_length_from j.entry
      long_is = long ∙ ap block_length_from here

      pub file_bodied : CanPutRecords lay n m j lengths bytes c h q
      file_bodied = bodied_of lay n m j.entry j lengths bytes c h q format_is long_is bodied

      file_body : (u : List ℕ) (x : Body) → DidPutRecords lay n m j lengths bytes c h q u x
          → DidPutRecords lay f b j lengths bytes c h q u x
      file_body u x w = put_of lay n m j.entry j lengths bytes c h q format_is long_is u x w

    module _ (u : List ℕ) (x : Body) (w : DidPutRecords lay f b j lengths bytes c h q u x) where
      body_same : (next : Sequel) → penned lay f b j x.pen u (between finished) next ≡ filed_from lay j p o xs next
      body_same next =
          w.same next
          ∙ ap (λ (v : Pen). penned lay f b j v q (between (start_of xs)) next) z.is
          ∙ begun_same next

      body_kept : length u ≡ length o
      body_kept = w.kept ∙ z.kept

      -- the file ends within the buffer
      end_within : lay ≡ true → x.pen.short ≡ false → behind x.pen.on x.pen.at x.pen.used + 172 ≤ length u
      unfolding penned fill_due left_due fill_of after_of blocks_left blocks_f weight
      end_within l s =
          let a = y.ahead l in
          let e : penned true f b j x.pen u (between finished) a.next ≡ filed_from true j p o xs a.next
          = subst (λ (t : Bool). penned t f b j x.pen u (between finished) a.next ≡ filed_from t j p o xs a.next) l (body_same a.next) in
          let g : EndsWithin (penned true f b j x.pen u (between finished) a.next) (length u)
          = subst (EndsWithin (penned true f b j x.pen u (between finished) a.next)) (sym body_kept) (subst (λ (v : PassEnd). EndsWithin v (length o)) (sym e) a.fits) in
          let d : ends true j x.pen u [] [] a.next ≡ penned true f b j x.pen u (between finished) a.next
          = sym
          (ap (λ (cs : List ℕ). ends true j x.pen u cs (blocks_left f b (if_b x.pen.on finished finished)) a.next)
          (if_same x.pen.on [])
          ∙ ap (λ (k : Left). ends true j x.pen u [] (blocks_left f b k) a.next) (if_same x.pen.on finished)) in
          ends_room j x.pen u a.next s (subst (λ (v : PassEnd). EndsWithin v (length u)) (sym d) g)

      tailable : CanPutEnd lay x (length u)
      tailable =
          record {
            endable =
                λ s.
                record {
                  closable =
                      record {
                        used = w.sound.used;
                        place = omega (arith, w.sound.place, w.sound.within, w.sound.reels.few, w.sound.turn);
                        room = λ l t. let r = end_within l s in omega (arith, behind_on x.pen.on x.pen.at x.pen.used t);
                      };
                  room = λ l. end_within l s;
                };
          }
        where
          behind_on : (t : Bool) (at n : ℕ) → t ≡ true → behind t at n ≡ at + 3 + n
          behind_on t at n e = unfold behind in if_true _ _ _ e

      module _ (v : List ℕ) (r : Body) (t : DidPutEnd lay j.set j.entry j.sequence x u v r) where
        all_kept : length v ≡ length o
        all_kept = t.kept ∙ body_kept

        put_by : x.pen.short ≡ false → DidPutFile lay j lengths bytes c p o v r
        unfolding next_from
        put_by s =
            let d = t.given s in
            record {
              sound = λ _. d.sound j.rooms j.names w.sound y.few;
              kept = all_kept;
              untouched =
                  λ l. d.untouched l ∙ w.untouched l ∙ z.laid
                  ∙ ink_none lay o p.at (encode (headers j.set j.entry 1 j.sequence)) l;
              end = λ _. t.end ∙ w.end s;
              same = λ next. d.same f b j.rooms j.names next s ∙ body_same next;
            }

        put_lacks : x.pen.short ≡ true → DidPutFile lay j lengths bytes c p o v r
        unfolding next_from
        put_lacks s =
            let d = t.lacks s in
            let gone : r.pen.short ≡ true = ap (λ (k : Pen). k.short) d.1 ∙ s in
            record {
              sound = λ e. absurd (false≢true (sym e ∙ gone));
              kept = all_kept;
              untouched =
                  λ l. d.0 ∙ w.untouched l ∙ z.laid
                  ∙ ink_none lay o p.at (encode (headers j.set j.entry 1 j.sequence)) l;
              end = λ e. absurd (false≢true (sym e ∙ gone));
              same =
                  λ next.
                  laid_short lay r.pen v _ gone
                  ∙ sym (penned_short lay f b j x.pen u (between finished) next s)
                  ∙ body_same next;
            }

        put_all : DidPutFile lay j lengths bytes c p o v r
        put_all = by_test x.pen.short put_lacks put_by

    module _ (e : List ℕ) (n m : ℕ) (here : e ≡ j.entry) (format : n ≡ format_from e) (long : m ≡ block_length_from e) (u : List ℕ)
        (x : Body)
        (w : DidPutRecords lay n m j lengths bytes c h q u x) where
      pub file_tailable : CanPutEnd lay x (length u)
      file_tailable = tailable u x (file_body e n m here format long u x w)

      pub file_put : (v : List ℕ) (r : Body) → DidPutEnd lay j.set j.entry j.sequence x u v r
          → DidPutFile lay j lengths bytes c p o v r
      file_put v r t = put_all u x (file_body e n m here format long u x w) v r t

      pub file_all_kept : (v : List ℕ) (r : Body) → DidPutEnd lay j.set j.entry j.sequence x u v r → length v ≡ length o
      file_all_kept v r t = (file_put v r t).kept

pub ruleset filing = (file_beginnable, file_bodied, file_tailable, file_all_kept, file_put, rules)
