-- The records of a file. Assumes nothing.
use Rattle.std.specs.Prelude.{Option, Some, None}
use mathlib.Core.Path.{◌≡◌, refl, sym, ap, ◌∙◌, subst}
use mathlib.Core.Bool.{Bool, true, false, false≢true}
use mathlib.Core.List.{List, ◌∷◌}
use Prim.Native.Nat.{ℕ, ◌<◌}
use native.Mathlib.Omega.{arith}
use borrow.Author.Rules.{rules}
use lib.ListN.{length}
use Rattle.base.proofs.Parts.{length_part}
use Rattle.content.specs.declared.measuring.Measured.TheVariants.{Split}
use Rattle.content.proofs.Numbered.{split_long}
use Rattle.writing.specs.Pack.{Left, finished, going, start_of}
use Rattle.block.specs.Room.{enters}
use Rattle.writing.specs.Code.Room.{RoomEach}
use Rattle.writing.specs.Lay.{Sequel}
use Rattle.writer.specs.declared.pen.Pen.{Pen}
use Rattle.writer.specs.declared.source.Cursor.{Cursor}
use Rattle.writer.specs.declared.source.Found.{Found}
use Rattle.writer.specs.declared.source.Shape.{Shape}
use Rattle.writer.specs.declared.source.Shape.TheVariants.{Piece, Segments}
use Rattle.writer.specs.Code.Pass.{Job, PassEnd, EndsWithin, between, penned}
use Rattle.writer.specs.Code.Source.{walk_of, moved_to, records_of, end_at, stop_of, GoodCursor, split_bytes, SplitHere, standing, found_bytes, Stands, NoneLeft, IsNext}
use Rattle.writer.specs.Code.Records.{RoomBehind, CanPutRecord, DidPutRecord, DidQuickBlock}
use Rattle.writer.specs.Code.Bodies.{CanTake, CanPutRecords, DidPutRecords}
use Rattle.writer.proofs.Blocks.{penned_short}
use Rattle.writer.proofs.RecordBlocks.{record_again}

-- ---- a record that was found

split_length : (bytes : List ℕ) (c : Cursor) (n : ℕ) → SplitHere bytes c n → length (split_bytes bytes c) ≡ n
unfolding split_bytes
split_length bytes c n h = split_long bytes (walk_of c) n h.behind (Some (Split n h.behind)) h.is refl

-- the length of a record as it stands
stands_long : (bytes : List ℕ) (c : Cursor) (n : ℕ) (x : Shape) → Stands bytes c n x → length (standing bytes c n x) ≡ n
stands_long bytes c n (Piece from) h = length_part from n bytes h
stands_long bytes c n Segments h = split_length bytes c n h

-- one in one piece can be packed wherever it has room; also where no block was found for it quickly
module _ (lay : Bool) (f b : ℕ) (j : Job) (bytes : List ℕ) (c : Cursor) (r : Found) (p : Pen) (o : List ℕ)
    (k : CanTake lay f b j bytes c r p o) (from : ℕ) (e : r.shape ≡ Piece from) where
  take_whole : CanPutRecord lay f b j bytes from r.len p o
  take_whole =
      record {
        sound = k.sound;
        given = k.given;
        most = k.most;
        inside = subst (Stands bytes c r.len) e k.stands;
        enough = k.enough;
        ahead = λ l. subst (λ (x : Shape). RoomBehind f b j (standing bytes c r.len x) p o) e (k.ahead l);
      }

  pub take_slow : (q : List ℕ) (t : Option Pen) → DidQuickBlock lay f b r.len p o q t → t ≡ None → CanPutRecord lay f b j bytes from r.len p q
  take_slow q t y z = record_again lay f b j bytes from r.len p o take_whole q (subst (DidQuickBlock lay f b r.len p o q) z y)

-- ---- all records

-- from the beginning of a file to a cursor in it
pub record Writing (lay : Bool) (f b : ℕ) (j : Job) (lengths bytes : List ℕ) (first : Cursor) (p : Pen) (o q : List ℕ) (r : Pen)
    (c : Cursor) : Type 0 where
  pub bodied : CanPutRecords lay f b j lengths bytes c r q
  pub kept : length q ≡ length o
  pub untouched : lay ≡ false → q ≡ o
  pub end : end_at lengths bytes c ≡ end_at lengths bytes first
  pub same : (next : Sequel) → penned lay f b j r q (between (start_of (records_of lengths bytes c))) next
      ≡ penned lay f b j p o (between (start_of (records_of lengths bytes first))) next

pub writing_none : (lay : Bool) (f b : ℕ) (j : Job) (lengths bytes : List ℕ) (first : Cursor) (p : Pen) (o : List ℕ)
    → CanPutRecords lay f b j lengths bytes first p o
    → Writing lay f b j lengths bytes first p o o p first
writing_none lay f b j lengths bytes first p o k =
    record { bodied = k; kept = refl; untouched = λ _. refl; end = refl; same = λ next. refl }

module _ (lay : Bool) (f b : ℕ) (j : Job) (lengths bytes : List ℕ) (first : Cursor) (p : Pen) (o q : List ℕ) (r : Pen)
    (c : Cursor)
    (w : Writing lay f b j lengths bytes first p o q r c) where
  pub writing_kept : length q ≡ length o
  writing_kept = w.kept

  pub writing_good : GoodCursor lengths bytes c
  writing_good = w.bodied.good

  module _ (y : NoneLeft lengths bytes c) where
    pub writing_stop : stop_of c ≡ end_at lengths bytes c
    writing_stop = y.over

    pub writing_all : (n : ℕ) → n ≡ end_at lengths bytes c
        → DidPutRecords lay f b j lengths bytes first p o q (record { pen = r; end = n })
    unfolding start_of
    writing_all n m =
        record {
          sound = w.bodied.sound;
          kept = w.kept;
          untouched = w.untouched;
          end = λ _. m ∙ w.end;
          same =
              λ next. ap (λ (l : List (List ℕ)). penned lay f b j r q (between (start_of l)) next) (sym y.none)
              ∙ w.same next;
        }

  module _ (x : Found) (y : IsNext lengths bytes c x) where
    abbrev one : List ℕ
    one = found_bytes bytes c x

    abbrev later : Cursor
    later = moved_to c x.at x.left

    abbrev xs : List (List ℕ)
    xs = records_of lengths bytes later

    cons : records_of lengths bytes c ≡ one ∷ xs
    cons = y.one

    starts : start_of (records_of lengths bytes c) ≡ going 0 one xs
    unfolding start_of
    starts = ap start_of cons

    room : RoomEach f b (one ∷ xs)
    room = subst (RoomEach f b) cons w.bodied.room

    size : length one ≡ x.len
    size = stands_long bytes c x.len x.shape y.stands

    pub writing_takable : CanTake lay f b j bytes c x r q
    writing_takable =
        record {
          sound = w.bodied.sound;
          given = w.bodied.given;
          most = w.bodied.most;
          enough = ap (enters f b 0) (sym size) ∙ room.0;
          stands = y.stands;
          ahead =
              λ l.
              let a = w.bodied.ahead l in
              record {
                later = xs;
                next = a.next;
                room = room.1;
                fits =
                    subst (λ (d : Left). EndsWithin (penned true f b j r q (between d) a.next) (length q)) starts a.fits;
              };
        }

    pub fewer_left : (d : Cursor) → d ≡ later → length (records_of lengths bytes d) < length (records_of lengths bytes c)
    fewer_left d m = let n : length (records_of lengths bytes d) ≡ length xs = ap (λ (z : Cursor). length (records_of lengths bytes z)) m in omega (arith, ap length cons)

    module _ (z : List ℕ) (v : Pen) (u : DidPutRecord lay f b j one r q z v) where
      pub writing_put_kept : length z ≡ length o
      writing_put_kept = u.kept ∙ w.kept

      step : (next : Sequel)
          → penned lay f b j v z (between (start_of xs)) next
          ≡ penned lay f b j r q (between (start_of (records_of lengths bytes c))) next
      step next = u.same xs next room.1 ∙ ap (λ (d : Left). penned lay f b j r q (between d) next) (sym starts)

      pub writing_more : (d : Cursor) → v.short ≡ false → d ≡ later → Writing lay f b j lengths bytes first p o z v d
      writing_more d s m =
          subst (λ (k : Cursor). Writing lay f b j lengths bytes first p o z v k) (sym m)
          (record {
            bodied =
                record {
                  sound = u.sound;
                  given = s;
                  most = w.bodied.most;
                  good = y.good;
                  room = room.1;
                  ahead =
                      λ l.
                      let a = w.bodied.ahead l in
                      let g : penned true f b j v z (between (start_of xs)) a.next ≡ penned true f b j r q (between (start_of (records_of lengths bytes c))) a.next
                      = subst (λ (t : Bool). penned t f b j v z (between (start_of xs)) a.next ≡ penned t f b j r q (between (start_of (records_of lengths bytes c))) a.next) l (step a.next) in
                      record {
                        next = a.next;
                        fits =
                            subst (EndsWithin (penned true f b j v z (between (start_of xs)) a.next)) (sym u.kept)
                            (subst (λ (t : PassEnd). EndsWithin t (length q)) (sym g) a.fits);
                      };
                };
            kept = writing_put_kept;
            untouched = λ l. u.untouched l ∙ w.untouched l;
            end = y.end ∙ w.end;
            same = λ next. step next ∙ w.same next;
          })

      pub writing_short : v.short ≡ true → DidPutRecords lay f b j lengths bytes first p o z (record { pen = v; end = 0 })
      writing_short s =
          record {
            sound = u.sound;
            kept = writing_put_kept;
            untouched = λ l. u.untouched l ∙ w.untouched l;
            end = λ d. absurd (false≢true (sym d ∙ s));
            same =
                λ next.
                penned_short lay f b j v z (between finished) next s
                ∙ sym (penned_short lay f b j v z (between (start_of xs)) next s)
                ∙ step next
                ∙ w.same next;
          }

pub ruleset writing =
    (writing_none, writing_kept, writing_good, writing_stop, writing_all, writing_takable, fewer_left, writing_put_kept, writing_more, writing_short, rules)
