-- A record that goes whole into a block. Assumes nothing.
use mathlib.Core.Path.{◌≡◌, refl, sym, ap, ◌∙◌, subst}
use mathlib.Core.Bool.{Bool, true, false}
use mathlib.Core.List.{List, [], ◌++◌, append_assoc}
use Prim.Native.Nat.{ℕ, ◌+◌, ◌-◌, ◌≤◌, ◌<◌, min}
use native.Mathlib.Omega.{arith}
use borrow.Author.Tests.{eqb-true, le-leb}
use lib.Dec.{eqb}
use lib.ListN.{length, take, drop, length-append, drop_of_length-le}
use lib.Seq.{take_all}
use Rattle.base.proofs.Ifs.{if_true, if_false}
use Rattle.base.specs.Part.{part, put_in}
use Rattle.base.specs.Digits.{digits}
use Rattle.base.proofs.Parts.{length_part}
use Rattle.block.specs.Unit.{word_of}
use Rattle.block.proofs.Wholes.{word_segmented}
use Rattle.writing.specs.Pack.{going, start_of, control_word}
use Rattle.block.specs.Room.{enters, taken, indicator_of, word_with}
use Rattle.writing.proofs.Packing.{by_test, entered}
use Rattle.writing.proofs.Units.{length_control, indicator_whole}
use Rattle.writer.proofs.Forms.{four_digits}
use Rattle.writer.proofs.Written.{ink_put, ink_not, unit_put, unit_kept}
use Rattle.writer.specs.declared.pen.Pen.{Pen}
use Rattle.writer.specs.Code.Pass.{Job, ink_at, PassEnd, EndsWithin, UnitDue, between, within, fill_due, left_due, penned}
use Rattle.writer.specs.Code.Pens.{most_of}
use Rattle.writer.specs.Code.Packs.{enters_on, Wanting, Blocked, more}
use Rattle.writer.specs.Code.Records.{GoesIn, GoesNext, CanPutWhole, DidPutWhole, CanPutRecord, DidPutRecord}
use Rattle.writer.proofs.Passes.{ink_none, ink_length}
use Rattle.writer.proofs.Dues.{enter_fill, enter_left, some_fill, some_left, over_fill, over_left}
use Rattle.writer.proofs.Blocks.{room_unit, penned_unit, more_sound}

-- ---- which records go whole

-- a record of n bytes that has room in a block enters it whole
whole_in : (f b u n : ℕ) → n ≤ most_of f → u + word_of f + n ≤ b → (enters f b u n ≡ true) × (taken f b u n ≡ n)
unfolding enters taken
whole_in f b u n m h =
    by_test (eqb f 83)
    (λ s.
    let w : word_of f ≡ 5 = word_segmented f (eqb-true f 83 s) in
    let is : f ≡ 83 = eqb-true f 83 s in
    let few : n ≤ 9994 = omega (arith, four_digits f _ _ refl refl (λ e. omega arith)) in
    let one : u + 5 + min 1 n ≤ b = omega arith in
    let all : min n (min (b - u - 5) 9994) ≡ n = omega arith in
    (if_true _ _ _ s ∙ le-leb _ _ one, if_true _ _ _ s ∙ all))
    (λ s. (if_false _ _ _ s ∙ le-leb _ _ h, if_false _ _ _ s))

pub goes_in : (f b u n : ℕ) (is_on : Bool) → is_on ≡ true → n ≤ most_of f → u + word_of f + n ≤ b → GoesIn f b is_on u n
goes_in f b u n is_on on few h = let both = whole_in f b u n few h in record { on = on; small = few; enters = both.0; whole = both.1 }

pub goes_next : (f b u left n : ℕ) (is_on : Bool) → n ≤ most_of f → word_of f + n ≤ b → 0 < left → enters_on f b is_on u n ≡ false
    → GoesNext f b is_on u left n
goes_next f b u left n is_on few h some d =
    let both = whole_in f b 0 n few (omega arith) in
    record { some = omega arith; small = few; full = d; enters = both.0; whole = both.1 }

-- ---- a whole record into the open block

module _ (lay : Bool) (f w : ℕ) (bytes : List ℕ) (from n : ℕ) (p : Pen) (o : List ℕ) (word : w ≡ word_of f)
    (y : CanPutWhole lay f bytes from n p (length o)) where
  abbrev at : ℕ
  at = p.at + 3 + p.used

  abbrev s : List ℕ
  s = take (from + n - from) (drop from bytes)

  whole_is : (r : Pen) → r ≡ more p (w + n) → r ≡ more p (word_of f + n)
  whole_is r e = e ∙ ap (λ (k : ℕ). more p (k + n)) word

  pub whole_measured : (r : Pen) → r ≡ more p (w + n) → lay ≡ false → DidPutWhole lay f bytes from n p o o r
  whole_measured r e l = record { is = whole_is r e; laid = ink_not lay o at (control_word f 0 n ++ part from n bytes) l }

  module _ (l : lay ≡ true) (q z : List ℕ) (x : q ≡ put_in o at (word_with f 48 (digits 4 (min (w + n) 9999))))
      (v : z ≡ put_in q (at + w) s) where
    room : at + word_of f + n ≤ length o
    room = omega (arith, y.room l)

    pub whole_kept : length z ≡ length o
    whole_kept = unit_kept f 0 n o at w word bytes from y.inside y.small room q x z v

    pub whole_laid : (r : Pen) → r ≡ more p (w + n) → DidPutWhole lay f bytes from n p o z r
    whole_laid r g =
        record {
          is = whole_is r g;
          laid = ink_put lay o at (control_word f 0 n ++ part from n bytes) z l
              (unit_put f 0 n o at w word bytes from y.inside y.small room q x z v);
        }

-- what a whole record leaves due
module _ (f b u n : ℕ) (x : List ℕ) (size : length x ≡ n) (e : enters f b u n ≡ true) (t : taken f b u n ≡ n)
    (xs : List (List ℕ)) where
  abbrev v : List ℕ
  v = control_word f 0 n ++ x

  v_length : length v ≡ word_of f + n
  v_length =
      length-append (control_word f 0 n) x ∙ ap (λ (k : ℕ). k + length x) (length_control f 0 n)
      ∙ ap (λ (k : ℕ). word_of f + k) size

  enters_x : enters f b u (length x) ≡ true
  enters_x = ap (enters f b u) size ∙ e

  taken_x : taken f b u (length x) ≡ length x
  taken_x = ap (taken f b u) size ∙ t ∙ sym size

  none_left : length x - length x ≡ 0
  none_left = omega arith

  drop_x : drop (length x) x ≡ []
  drop_x = let h : length x ≤ length x = omega arith in drop_of_length-le x h

  take_x : take (length x) x ≡ x
  take_x = take_all (length x) x (omega arith)

  all_within : within (length x - length x) (drop (length x) x) xs ≡ within 0 [] xs
  all_within = ap (λ (k : ℕ). within k (drop (length x) x) xs) none_left ∙ ap (λ (l : List ℕ). within 0 l xs) drop_x

  place : u + word_of f + length x ≡ u + length v
  place = omega (arith, v_length, size)

  pub whole_fill : fill_due f b true u (between (going 0 x xs)) ≡ v ++ fill_due f b true (u + length v) (between (start_of xs))
  whole_fill =
      enter_fill f b u 0 x enters_x xs
      ∙ ap (λ (k : ℕ). control_word f (indicator_of 0 k (length x)) k ++ fill_due f b true (u + word_of f) (within k x xs)) taken_x
      ∙ ap (λ (i : ℕ). control_word f i (length x) ++ fill_due f b true (u + word_of f) (within (length x) x xs))
      (indicator_whole 0 (length x) (length x) refl refl)
      ∙ ap (λ (k : ℕ). control_word f 0 k ++ fill_due f b true (u + word_of f) (within (length x) x xs)) size
      ∙ ap (λ (l : List ℕ). control_word f 0 n ++ l)
      (some_fill f b true (u + word_of f) (length x) (length x) x xs (omega arith) (omega arith)
      ∙ ap (λ (d : UnitDue). take (length x) x ++ fill_due f b true (u + word_of f + length x) d) all_within
      ∙ ap (λ (l : List ℕ). l ++ fill_due f b true (u + word_of f + length x) (within 0 [] xs)) take_x
      ∙ ap (λ (l : List ℕ). x ++ l)
      (over_fill f b (u + word_of f + length x) xs ∙ ap (λ (k : ℕ). fill_due f b true k (between (start_of xs))) place))
      ∙ sym (append_assoc (control_word f 0 n) x _)

  pub whole_left : left_due f b true u (between (going 0 x xs)) ≡ left_due f b true (u + length v) (between (start_of xs))
  whole_left =
      enter_left f b u 0 x enters_x xs
      ∙ ap (λ (k : ℕ). left_due f b true (u + word_of f) (within k x xs)) taken_x
      ∙ some_left f b true (u + word_of f) (length x) (length x) x xs (omega arith) (omega arith)
      ∙ ap (λ (d : UnitDue). left_due f b true (u + word_of f + length x) d) all_within
      ∙ over_left f b (u + word_of f + length x) xs
      ∙ ap (λ (k : ℕ). left_due f b true k (between (start_of xs))) place

-- ---- a record

module _ (lay : Bool) (f b : ℕ) (j : Job) (bytes : List ℕ) (from n : ℕ) (p : Pen) (o : List ℕ)
    (k : CanPutRecord lay f b j bytes from n p o) where
  abbrev x : List ℕ
  x = part from n bytes

  size : length x ≡ n
  size = length_part from n bytes k.inside

  pub wanting : Wanting lay f b j n p o
  wanting =
      record {
        sound = k.sound;
        given = k.given;
        most = k.most;
        enough = k.enough;
        ahead =
            λ l.
            let a = k.ahead l in
            record { begun = 0; first = x; later = a.later; next = a.next; record_length = size; room = a.room; fits = a.fits };
      }

  -- in a block which it enters whole
  module _ (q : List ℕ) (r : Pen) (y : Blocked lay f b j n p o q r) (h : r.short ≡ false) (t : taken f b r.used n ≡ n) where
    whole_room_in : lay ≡ true → r.at + 3 + r.used + (word_of f + n) ≤ length q
    whole_room_in l =
        let a = k.ahead l in
        let e : penned true f b j r q (between (going 0 x a.later)) a.next ≡ penned true f b j p o (between (going 0 x a.later)) a.next
        = subst (λ (t : Bool). penned t f b j r q (between (going 0 x a.later)) a.next
        ≡ penned t f b j p o (between (going 0 x a.later)) a.next) l
        (y.same 0 x a.later a.next size a.room) in
        let g : EndsWithin (penned true f b j r q (between (going 0 x a.later)) a.next) (length q)
        = subst (EndsWithin (penned true f b j r q (between (going 0 x a.later)) a.next)) (sym y.kept) (subst (λ (u : PassEnd). EndsWithin u (length o)) (sym e) a.fits) in
        let c : r.at + 3 + r.used + length (control_word f 0 n ++ x) ≤ length q
        = room_unit f b j r q (control_word f 0 n ++ x) (between (going 0 x a.later)) (between (start_of a.later)) a.next
        (y.on h) h
        (whole_fill f b r.used n x size (y.room h) t a.later) g in
        omega (arith, v_length f b r.used n x size (y.room h) t a.later)

    unit_fits : r.used + (word_of f + n) ≤ b
    unit_fits = omega (arith, (entered f b r.used n (y.room h)).within)

    pub blocked_wholable : n ≤ most_of f → CanPutWhole lay f bytes from n r (length q)
    blocked_wholable m =
        record {
          inside = k.inside;
          small = m;
          fits = omega (arith, unit_fits, k.most);
          place = omega (arith, y.sound.place, y.sound.within, y.sound.reels.few, y.sound.turn);
          room = whole_room_in;
        }

    pub blocked_kept : (z : List ℕ) (v : Pen) → DidPutWhole lay f bytes from n r q z v → length z ≡ length o
    blocked_kept z v w =
        ap length w.laid
        ∙ ink_length lay q (r.at + 3 + r.used) (control_word f 0 n ++ x)
        (λ l. let m = whole_room_in l in omega (arith, v_length f b r.used n x size (y.room h) t []))
        ∙ y.kept

    pub blocked_recorded : (z : List ℕ) (v : Pen) → DidPutWhole lay f bytes from n r q z v
        → DidPutRecord lay f b j (part from n bytes) p o z v
    blocked_recorded z v w =
        let long : length (control_word f 0 n ++ x) ≡ word_of f + n = v_length f b r.used n x size (y.room h) t [] in
        subst (DidPutRecord lay f b j (part from n bytes) p o z) (sym w.is)
        (record {
          sound = more_sound j r (word_of f + n) y.sound (y.on h) (omega (arith, unit_fits, k.most));
          kept = blocked_kept z v w;
          untouched = λ l. w.laid ∙ ink_none lay q (r.at + 3 + r.used) (control_word f 0 n ++ x) l ∙ y.untouched l;
          same =
              λ xs next room.
              ap (λ (m : List ℕ). penned lay f b j (more r (word_of f + n)) m (between (start_of xs)) next) w.laid
              ∙ ap (λ (m : ℕ). penned lay f b j (more r m) (ink_at lay q (r.at + 3 + r.used) (control_word f 0 n ++ x))
              (between (start_of xs)) next) (sym long)
              ∙ penned_unit f b j r q (control_word f 0 n ++ x) (between (going 0 x xs)) (between (start_of xs)) next (y.on h) h
              (whole_fill f b r.used n x size (y.room h) t xs) lay (λ l. let m = whole_room_in l in omega arith)
              (whole_left f b r.used n x size (y.room h) t xs)
              ∙ y.same 0 x xs next size room;
        })
