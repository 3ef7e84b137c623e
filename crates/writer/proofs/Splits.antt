-- A record of an image that stands in several segments, packed one after the other. Assumes nothing.
use Rattle.std.specs.Prelude.{Some, Option, None}
use mathlib.Core.Path.{◌≡◌, refl, sym, ap, ◌∙◌, subst}
use mathlib.Core.Bool.{Bool, true, false, false≢true}
use mathlib.Core.List.{List, [], ◌∷◌, ◌++◌, append-nil}
use Prim.Native.Nat.{ℕ, ◌+◌, ◌-◌, ◌≤◌, ◌<◌}
use native.Mathlib.Omega.{arith}
use borrow.Author.Rules.{rules}
use borrow.Author.Tests.{eqb-true, eqb-false}
use mir.Val.{Fits as FitsIn}
use mir.Syntax.{w64}
use lib.Dec.{eqb}
use lib.ListN.{length, take, drop, length-append}
use Rattle.base.proofs.Ifs.{if_case}
use Rattle.base.specs.Part.{part}
use Rattle.base.proofs.Parts.{part_within}
use Rattle.content.specs.Walk.{is_inside, unit_next, unit_from, first_segment, next_segment, rest_at, taken_at}
use Rattle.content.specs.Code.Joining.{is_ended, bytes_behind}
use Rattle.content.specs.declared.Walk.{Walk}
use Rattle.content.specs.declared.unit.Taken.{Taken}
use Rattle.content.specs.declared.measuring.Measured.TheVariants.{Split}
use Rattle.content.proofs.Units.{inside_true}
use Rattle.content.proofs.Rests.{UnitBehind, next_behind, from_behind}
use Rattle.content.proofs.Joins.{Splitting as First, JoinGoing}
use Rattle.content.proofs.Numbered.{split_long, first_split, first_some, next_going, next_some}
use Rattle.writing.specs.Pack.{going}
use Rattle.writing.specs.Code.Room.{RoomEach}
use Rattle.writing.specs.Lay.{Sequel}
use Rattle.writing.proofs.Packing.{by_test}
use Rattle.writer.specs.declared.pen.Pen.{Pen}
use Rattle.writer.specs.declared.pack.Flow.{Flow}
use Rattle.writer.specs.declared.source.Cursor.{Cursor}
use Rattle.writer.specs.declared.split.Segment.{Segment}
use Rattle.writer.specs.Code.Source.{walk_of, split_bytes, SplitHere}
use Rattle.writer.specs.Code.Segments.{behind_of, HasRest, DidSegment}
use Rattle.writer.specs.Code.Pass.{Job, PassEnd, EndsWithin, between, penned}
use Rattle.writer.specs.Code.Packs.{flowed, CanPack, DidPack}
use Rattle.writer.specs.Code.Records.{CanSplit, DidPutRecord}
use Rattle.writer.proofs.Steps.{flowed_out}
use Rattle.writer.proofs.Pieces.{reset, PiecesLeft, pieces_in, pieces_same, pieces_out}
use Rattle.writer.proofs.RecordBlocks.{flow_over, flow_short}

-- ---- the segments

next_is : (s : List ℕ) (w : Walk) (i start n : ℕ) (v : Walk) → next_segment s w ≡ taken_at i start n v → UnitBehind s w start n v
unfolding next_segment
next_is s w i start n v =
    if_case (λ (t : Option Taken). t ≡ taken_at i start n v → UnitBehind s w start n v) (is_inside s w) (unit_next s w) None
    (λ _ e. next_behind s w i start n v e)
    (λ _ e. let z : ◌≡◌ {A = ℕ} 0 1 = cc in absurd (omega arith))

first_is : (s : List ℕ) (w : Walk) (i start n : ℕ) (v : Walk) → first_segment s w ≡ taken_at i start n v → UnitBehind s w start n v
unfolding first_segment
first_is s w i start n v =
    if_case (λ (t : Option Taken). t ≡ taken_at i start n v → UnitBehind s w start n v) (is_inside s w) (unit_from s w) None
    (λ h e. from_behind s w i start n v (inside_true s w true (sym h) refl) e) (λ _ e. let z : ◌≡◌ {A = ℕ} 0 1 = cc in absurd (omega arith))

abbrev segment : ℕ → ℕ → Walk → Segment
segment from len v = record { from = from; len = len; at = v.at; left = v.left }

-- the walk behind a segment of the file of w is that of its numbers
module _ (bytes : List ℕ) (c : Cursor) (w : Walk) (from len : ℕ) (v : Walk) (k : w.format ≡ c.format) (l : w.record_length ≡ c.record_length)
    (m : w.offset ≡ c.offset) (b : UnitBehind bytes w from len v) where
  same_walk_lem : v ≡ behind_of c (segment from len v)
  same_walk_lem =
      λ i. record { format = (b.format ∙ k) i; record_length = (b.record_length ∙ l) i; offset = (b.offset ∙ m) i; at = v.at; left = v.left }

  -- it is the last one, or the record goes on
  segmented_last : (x : List ℕ) → x ≡ part from len bytes → DidSegment bytes c x (segment from len v)
  segmented_last x e =
      record {
        rest = [];
        is = e ∙ sym (append-nil (part from len bytes));
        within = b.within;
        inside = let i = b.inside in omega arith;
        goes = λ h. absurd (omega arith);
        same = λ h. absurd (omega arith);
      }

  segmented_more : (x : List ℕ) → x ≡ part from len bytes ++ bytes_behind bytes v
      → is_ended (rest_at bytes v.record_length v) ≡ true
      → DidSegment bytes c x (segment from len v)
  segmented_more x e h =
      record {
        rest = bytes_behind bytes v;
        is = e;
        within = b.within;
        inside = let i = b.inside in omega arith;
        goes = λ _. subst (HasRest bytes) same_walk_lem (record { inside = b.inside; ended = h });
        same = λ _. ap (bytes_behind bytes) same_walk_lem;
      }

module _ (bytes : List ℕ) (c : Cursor) (n : ℕ) (h : SplitHere bytes c n) (w : Walk) (k : w ≡ walk_of c) (t : Option Taken)
    (e : t ≡ first_segment bytes w) where
  segment_first : t ≡ first_segment bytes (walk_of c)
  segment_first = e ∙ ap (first_segment bytes) k

  pub first_none : (g : Segment) → t ≡ None → DidSegment bytes c (split_bytes bytes c) g
  first_none g q = absurd (first_some bytes (walk_of c) n h.behind (Some (Split n h.behind)) t h.is refl segment_first q)

  pub first_one : (one : Taken) → t ≡ Some one
      → DidSegment bytes c (split_bytes bytes c)
      (record { from = one.start; len = one.len; at = one.behind.at; left = one.behind.left })
  unfolding split_bytes
  first_one one q =
      let p : First bytes (walk_of c) one.start one.len one.behind
      = first_split bytes (walk_of c) n h.behind (Some (Split n h.behind)) one t h.is refl segment_first q in
      segmented_more bytes c (walk_of c) one.start one.len one.behind refl refl refl
      (first_is bytes (walk_of c) one.indicator one.start one.len one.behind (sym segment_first ∙ q)) _ p.bytes p.ended

pub ruleset firsts = (first_none, first_one, rules)

module _ (bytes : List ℕ) (c : Cursor) (g : Segment) (h : HasRest bytes (behind_of c g)) (t : Option Taken)
    (e : t ≡ next_segment bytes (behind_of c g)) where
  pub next_none : (r : Segment) → t ≡ None → DidSegment bytes c (bytes_behind bytes (behind_of c g)) r
  next_none r q = absurd (next_some bytes (behind_of c g) t h.inside h.ended e q)

  pub next_none_on : (r : Segment) → t ≡ None → g.at < r.at
  next_none_on r q = absurd (next_some bytes (behind_of c g) t h.inside h.ended e q)

  module _ (one : Taken) (q : t ≡ Some one) where
    goes : JoinGoing bytes (behind_of c g) one.indicator one.start one.len one.behind
    goes = next_going bytes (behind_of c g) one t h.inside h.ended e q

    behind : UnitBehind bytes (behind_of c g) one.start one.len one.behind
    behind = next_is bytes (behind_of c g) one.indicator one.start one.len one.behind (sym e ∙ q)

    pub next_one : DidSegment bytes c (bytes_behind bytes (behind_of c g))
        (record { from = one.start; len = one.len; at = one.behind.at; left = one.behind.left })
    next_one =
        by_test (eqb one.indicator 3) (λ z. segmented_last bytes c (behind_of c g) one.start one.len one.behind refl refl refl behind _
        (goes.last (eqb-true one.indicator 3 z)))
        (λ z.
        let m = goes.more (eqb-false one.indicator 3 z) in
        segmented_more bytes c (behind_of c g) one.start one.len one.behind refl refl refl behind _ m.0 m.1)

    pub next_one_on : g.at < one.behind.at
    next_one_on = behind.onward

pub ruleset nexts = (next_none, next_none_on, next_one, next_one_on, rules)

-- ---- segment after segment

-- what is left of the record from a segment on, packed from here, ends as the whole record does
pub record Splits (lay : Bool) (f b : ℕ) (j : Job) (bytes : List ℕ) (c : Cursor) (p : Pen) (o : List ℕ) (g : Segment) (s : Flow)
    (q : List ℕ) : Type 0 where
  pub left : List ℕ
  pub segment : DidSegment bytes c left g
  pub splitting : PiecesLeft lay f b j left s q
  pub on : s.on ≡ true
  pub kept : length q ≡ length o
  pub untouched : lay ≡ false → q ≡ o
  pub same : (xs : List (List ℕ)) (next : Sequel) → RoomEach f b xs
      → flowed lay f b j s q left xs next ≡ penned lay f b j p o (between (going 0 (split_bytes bytes c) xs)) next

module _ (lay : Bool) (f b : ℕ) (j : Job) (bytes : List ℕ) (c : Cursor) (n : ℕ) (p : Pen) (o : List ℕ)
    (k : CanSplit lay f b j bytes c n p o) where
  pub splits_here : SplitHere bytes c n
  splits_here = k.split

  abbrev first : Flow
  first = record { pen = p; left = n; seg = 0; from = 0; begun = false; inside = false; on = true }

  size : n ≡ length (split_bytes bytes c)
  unfolding split_bytes
  size = sym (split_long bytes (walk_of c) n k.split.behind (Some (Split n k.split.behind)) k.split.is refl)

  flowed_first : (lay : Bool) (xs : List (List ℕ)) (next : Sequel)
      → flowed lay f b j first o (split_bytes bytes c) xs next
      ≡ penned lay f b j p o (between (going 0 (split_bytes bytes c) xs)) next
  flowed_first lay xs next = flowed_out lay f b j first o (split_bytes bytes c) xs next refl

  pub splits_none : (g : Segment) → DidSegment bytes c (split_bytes bytes c) g → Splits lay f b j bytes c p o g first o
  splits_none g h =
      record {
        left = split_bytes bytes c;
        segment = h;
        splitting =
            record {
              sound = k.sound;
              given = k.given;
              record_length = size;
              from = refl;
              good =
                  record {
                    most = k.most;
                    from = omega arith;
                    here = omega arith;
                    enough = λ _. k.enough;
                    on = λ e. absurd (false≢true e);
                    seg = λ e. absurd (false≢true e);
                    split = λ e. absurd (false≢true e);
                    sized = λ e. absurd (false≢true e);
                    fits = λ e. absurd (false≢true e);
                  };
              settled = λ e. absurd (false≢true e);
              ahead =
                  λ l.
                  let a = k.ahead l in
                  record {
                    later = a.later;
                    next = a.next;
                    room = a.room;
                    fits =
                        subst (λ (u : PassEnd). EndsWithin u (length o)) (sym (flowed_first true a.later a.next)) a.fits;
                  };
            };
        on = refl;
        kept = refl;
        untouched = λ _. refl;
        same = λ xs next room. flowed_first lay xs next;
      }

module _ (lay : Bool) (f b : ℕ) (j : Job) (bytes : List ℕ) (c : Cursor) (p : Pen) (o : List ℕ) (g : Segment) (s : Flow)
    (q : List ℕ) (x : Splits lay f b j bytes c p o g s q) where
  pub splits_within : g.from + g.len ≤ length bytes
  splits_within = x.segment.within

  pub splits_fits : length bytes < 18446744073709551616 → FitsIn w64 (g.from + g.len)
  splits_fits h = record { fits = omega (arith, x.segment.within) }

  pub splits_kept : length q ≡ length o
  splits_kept = x.kept

  pub splits_on : s.on ≡ true
  splits_on = x.on

  abbrev piece : List ℕ
  piece = take (g.from + g.len - g.from) (drop g.from bytes)

  abbrev rest : List ℕ
  rest = x.segment.rest

  all : x.left ≡ piece ++ rest
  all = x.segment.is ∙ ap (λ (l : List ℕ). l ++ rest) (sym (part_within g.from g.len bytes))

  splitting : PiecesLeft lay f b j (piece ++ rest) s q
  splitting = subst (λ (l : List ℕ). PiecesLeft lay f b j l s q) all x.splitting

  pub splits_packable : CanPack lay f b j piece s q
  splits_packable = pieces_in lay f b j piece rest s q splitting

  module _ (z : List ℕ) (t : Flow) (y : DidPack lay f b j piece s q z t) where
    pub splits_kept_on : length z ≡ length o
    splits_kept_on = y.goes.kept ∙ x.kept

    untouched : lay ≡ false → z ≡ o
    untouched l = y.goes.untouched l ∙ x.untouched l

    -- a reel is lacking
    pub splits_short : t.pen.short ≡ true → DidPutRecord lay f b j (split_bytes bytes c) p o z t.pen
    splits_short h =
        let long : length (piece ++ rest) ≡ length piece + length rest = length-append piece rest in
        record {
          sound = y.goes.sound;
          kept = splits_kept_on;
          untouched = untouched;
          same =
              λ xs next room.
              flow_short lay f b j t z (drop t.from piece ++ rest) xs next h
              ∙ y.goes.same rest xs next (omega (arith, splitting.from, splitting.record_length)) room
              ∙ ap (λ (m : ℕ). flowed lay f b j s q (drop m piece ++ rest) xs next) splitting.from
              ∙ ap (λ (l : List ℕ). flowed lay f b j s q l xs next) (sym all)
              ∙ x.same xs next room;
        }

    module _ (h : t.pen.short ≡ false) where
      after : PiecesLeft lay f b j rest (reset t) z
      after = pieces_out lay f b j piece rest s q splitting z t y h

      same_on : (xs : List (List ℕ)) (next : Sequel) → RoomEach f b xs
          → flowed lay f b j (reset t) z rest xs next ≡ penned lay f b j p o (between (going 0 (split_bytes bytes c) xs)) next
      same_on xs next room =
          pieces_same lay f b j piece rest s q splitting z t y h xs next room
          ∙ ap (λ (l : List ℕ). flowed lay f b j s q l xs next) (sym all)
          ∙ x.same xs next room

      -- the record is packed
      pub splits_last : t.left ≡ 0 → DidPutRecord lay f b j (split_bytes bytes c) p o z t.pen
      splits_last e =
          let none : [] ≡ rest = no_bytes rest (omega (arith, after.record_length)) in
          record {
            sound = y.goes.sound;
            kept = splits_kept_on;
            untouched = untouched;
            same =
                λ xs next room.
                flow_over lay f b j (reset t) z xs next 0 after.good h e (y.out h)
                ∙ ap (λ (l : List ℕ). flowed lay f b j (reset t) z l xs next) none
                ∙ same_on xs next room;
          }
        where
          no_bytes : (l : List ℕ) → length l ≡ 0 → [] ≡ l
          no_bytes [] m = refl
          no_bytes (i ∷ is) m = absurd (omega arith)

      module _ (e : t.left ≡ 0 → ⊥) where
        some : 0 < length rest
        some = let m : t.left ≡ length rest = after.record_length in omega arith

        pub splits_goes : HasRest bytes (behind_of c g)
        splits_goes = x.segment.goes some

        pub splits_more : (r : Segment) → DidSegment bytes c (bytes_behind bytes (behind_of c g)) r
            → Splits lay f b j bytes c p o r (reset t) z
        splits_more r k =
            let is : rest ≡ bytes_behind bytes (behind_of c g) = x.segment.same some in
            record {
              left = bytes_behind bytes (behind_of c g);
              segment = k;
              splitting = subst (λ (l : List ℕ). PiecesLeft lay f b j l (reset t) z) is after;
              on = refl;
              kept = splits_kept_on;
              untouched = untouched;
              same = λ xs next room. ap (λ (l : List ℕ). flowed lay f b j (reset t) z l xs next) (sym is) ∙ same_on xs next room;
            }

        pub splits_fall : (r : Segment) → DidSegment bytes c (bytes_behind bytes (behind_of c g)) r → g.at < r.at
            → length bytes - r.at < length bytes - g.at
        splits_fall r k l = omega (arith, k.inside)

pub ruleset splits =
    (splits_here, splits_none, splits_within, splits_fits, splits_kept, splits_on, splits_packable, splits_kept_on, splits_short, splits_last, splits_goes, splits_more, splits_fall, rules)
