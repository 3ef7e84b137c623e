-- A pen in an open block, and a block for a record. Assumes nothing.
use mathlib.Core.Path.{◌≡◌, refl, sym, ap, ◌∙◌, subst}
use mathlib.Core.Bool.{Bool, true, false, false≢true}
use mathlib.Core.List.{List, [], ◌∷◌, ◌++◌}
use Prim.Native.Nat.{ℕ, ◌+◌, ◌≤◌}
use lib.ListN.{length}
use Rattle.base.specs.If.{if_b}
use Rattle.base.proofs.Ifs.{if_true, if_false}
use Rattle.writing.specs.Pack.{Left, going, fill, after, blocks_left}
use Rattle.block.specs.Room.{enters}
use Rattle.writing.specs.Code.Room.{RoomEach}
use Rattle.writing.specs.Lay.{Sequel}
use Rattle.writing.proofs.Packing.{by_test, blocks_going}
use Rattle.writer.specs.declared.pen.Pen.{Pen}
use Rattle.writer.specs.Code.Pass.{Job, ink_at, inked, PassEnd, outcome, rest_of, ends, EndsWithin, Sound, UnitDue, between, fill_of, after_of, fill_due, left_due, penned}
use Rattle.writer.specs.Code.Pens.{CanOpen, DidOpen}
use Rattle.writer.specs.Code.Packs.{enters_on, Wanting, Blocked, more}
use Rattle.writer.proofs.Passes.{outcome_unit, fits_unit}
use Rattle.writer.proofs.Pens.{ends_given, ends_short}
use Rattle.writer.proofs.Dues.{fill_full, after_full}

-- ---- a pen in an open block

pub penned_on : (lay : Bool) (f b : ℕ) (j : Job) (p : Pen) (o : List ℕ) (d : UnitDue) (next : Sequel) → p.on ≡ true
    → p.short ≡ false
    → penned lay f b j p o d next
    ≡ outcome lay true p.at p.used o
    (inked p.used (fill_due f b true p.used d) (rest_of j p (blocks_left f b (left_due f b true p.used d)) next))
unfolding penned
penned_on lay f b j p o d next h s =
    ap (λ (t : Bool). ends lay j p o (fill_due f b t p.used d) (blocks_left f b (left_due f b t p.used d)) next) h
    ∙ ends_given lay j p o (fill_due f b true p.used d) (blocks_left f b (left_due f b true p.used d)) next true s h

pub penned_short : (lay : Bool) (f b : ℕ) (j : Job) (p : Pen) (o : List ℕ) (d : UnitDue) (next : Sequel) → p.short ≡ true
    → penned lay f b j p o d next ≡ record { out = []; end = 0; short = true }
unfolding penned
penned_short lay f b j p o d next s = ends_short lay j p o _ _ next s

-- bytes v into the open block, after which e is due
module _ (f b : ℕ) (j : Job) (p : Pen) (o v : List ℕ) (d e : UnitDue) (next : Sequel) (h : p.on ≡ true) (s : p.short ≡ false)
    (x : fill_due f b true p.used d ≡ v ++ fill_due f b true (p.used + length v) e) where
  pub room_unit : EndsWithin (penned true f b j p o d next) (length o) → p.at + 3 + p.used + length v ≤ length o
  room_unit w =
      (fits_unit true p.at p.used o v (fill_due f b true (p.used + length v) e) _ (length o)
      (subst (λ (u : PassEnd). EndsWithin u (length o))
      (penned_on true f b j p o d next h s
      ∙ ap (λ (cs : List ℕ). outcome true true p.at p.used o
      (inked p.used cs (rest_of j p (blocks_left f b (left_due f b true p.used d)) next))) x) w)
      ).0

  pub penned_unit : (lay : Bool) → (lay ≡ true → p.at + 3 + p.used + length v ≤ length o)
      → left_due f b true p.used d ≡ left_due f b true (p.used + length v) e
      → penned lay f b j (more p (length v)) (ink_at lay o (p.at + 3 + p.used) v) e next ≡ penned lay f b j p o d next
  unfolding rest_of
  penned_unit lay r y =
      penned_on lay f b j (more p (length v)) (ink_at lay o (p.at + 3 + p.used) v) e next refl refl
      ∙ outcome_unit lay p.at p.used o v (fill_due f b true (p.used + length v) e)
      (rest_of j p (blocks_left f b (left_due f b true (p.used + length v) e)) next) r
      ∙ ap (λ (l : Left). outcome lay true p.at p.used o
      (inked p.used (v ++ fill_due f b true (p.used + length v) e) (rest_of j p (blocks_left f b l) next))) (sym y)
      ∙ ap (λ (cs : List ℕ). outcome lay true p.at p.used o
      (inked p.used cs (rest_of j p (blocks_left f b (left_due f b true p.used d)) next))) (sym x)
      ∙ sym (penned_on lay f b j p o d next h s)

pub more_sound : (j : Job) (p : Pen) (n : ℕ) → Sound j p → p.on ≡ true → p.used + n ≤ 99999 → Sound j (more p n)
more_sound j p n s h l =
    record {
      blocks = s.blocks;
      begun = s.begun;
      sections = s.sections;
      reels = s.reels;
      within = s.within;
      turn = s.turn;
      used = l;
      place = s.place;
      on = λ _. s.on h;
    }

-- ---- a block for a record

pub enters_on_lem : (f b : ℕ) (is_on : Bool) (u n : ℕ) (r : Bool) → is_on ≡ true → r ≡ enters f b u n → r ≡ enters_on f b is_on u n
unfolding enters_on
enters_on_lem f b is_on u n r h e = e ∙ sym (if_true _ _ _ h)

pub entered_on : (f b : ℕ) (is_on : Bool) (u n : ℕ) → enters_on f b is_on u n ≡ true → (is_on ≡ true) × (enters f b u n ≡ true)
unfolding enters_on
entered_on f b is_on u n h =
    by_test is_on (λ e. (e, sym (if_true _ _ _ e) ∙ h)) (λ e. absurd (false≢true (sym (if_false _ _ _ e) ∙ h)))

full_on : (f b : ℕ) (is_on : Bool) (u n : ℕ) → enters_on f b is_on u n ≡ false → is_on ≡ true → enters f b u n ≡ false
unfolding enters_on
full_on f b is_on u n h e = sym (if_true _ _ _ e) ∙ h

-- a record that does not enter is due in the next block
penned_full : (lay : Bool) (f b : ℕ) (j : Job) (p : Pen) (o : List ℕ) (t : ℕ) (x : List ℕ) (xs : List (List ℕ)) (next : Sequel)
    → (p.on ≡ true → enters f b p.used (length x) ≡ false) → RoomEach f b (x ∷ xs)
    → penned lay f b j p o (between (going t x xs)) next
    ≡ ends lay j p o [] (fill f b 0 t x xs ∷ blocks_left f b (after f b 0 t x xs)) next
unfolding penned fill_due left_due fill_of after_of
penned_full lay f b j p o t x xs next h r =
    let none : if_b p.on (fill f b p.used t x xs) [] ≡ []
    = by_test p.on (λ e. if_true _ _ _ e ∙ fill_full f b p.used t x xs (h e)) (λ e. if_false _ _ _ e) in
    let all : if_b p.on (after f b p.used t x xs) (going t x xs) ≡ going t x xs
    = by_test p.on (λ e. if_true _ _ _ e ∙ after_full f b p.used t x xs (h e)) (λ e. if_false _ _ _ e) in
    ap (λ (cs : List ℕ). ends lay j p o cs (blocks_left f b (if_b p.on (after f b p.used t x xs) (going t x xs))) next) none
    ∙ ap (λ (l : Left). ends lay j p o [] (blocks_left f b l) next) all
    ∙ ap (λ (bs : List (List ℕ)). ends lay j p o [] bs next) (blocks_going f b t x xs r)

penned_empty : (lay : Bool) (f b : ℕ) (j : Job) (p : Pen) (o : List ℕ) (t : ℕ) (x : List ℕ) (xs : List (List ℕ)) (next : Sequel)
    → p.on ≡ true → p.used ≡ 0
    → penned lay f b j p o (between (going t x xs)) next
    ≡ ends lay j p o (fill f b 0 t x xs) (blocks_left f b (after f b 0 t x xs)) next
unfolding penned fill_due left_due fill_of after_of if_b
penned_empty lay f b j p o t x xs next h e =
    ap (λ (s : Bool). ends lay j p o (if_b s (fill f b p.used t x xs) [])
    (blocks_left f b (if_b s (after f b p.used t x xs) (going t x xs))) next) h
    ∙ ap (λ (u : ℕ). ends lay j p o (fill f b u t x xs) (blocks_left f b (after f b u t x xs)) next) e

module _ (lay : Bool) (f b : ℕ) (j : Job) (n : ℕ) (p : Pen) (o : List ℕ) (w : Wanting lay f b j n p o) (t : Bool)
    (e : t ≡ enters_on f b p.on p.used n) where
  pub blocked_here : t ≡ true → Blocked lay f b j n p o o p
  blocked_here h =
      let both = entered_on f b p.on p.used n (sym e ∙ h) in
      record {
        sound = w.sound;
        kept = refl;
        untouched = λ _. refl;
        on = λ _. both.0;
        room = λ _. both.1;
        same = λ t x xs next size room. refl;
      }

  module _ (h : t ≡ false) where
    full : (x : List ℕ) → length x ≡ n → p.on ≡ true → enters f b p.used (length x) ≡ false
    full x l on = ap (enters f b p.used) l ∙ full_on f b p.on p.used n (sym e ∙ h) on

    enough : (x : List ℕ) → length x ≡ n → enters f b 0 (length x) ≡ true
    enough x l = ap (enters f b 0) l ∙ w.enough

    pub wanting_ready : CanOpen lay j p o
    wanting_ready =
        record {
          sound = w.sound;
          given = w.given;
          ahead =
              λ l.
              let a = w.ahead l in
              record {
                first = fill f b 0 a.begun a.first a.later;
                later = blocks_left f b (after f b 0 a.begun a.first a.later);
                next = a.next;
                fits =
                    subst (λ (u : PassEnd). EndsWithin u (length o))
                    (penned_full true f b j p o a.begun a.first a.later a.next (full a.first a.record_length)
                    (enough a.first a.record_length, a.room)) a.fits;
              };
        }

    pub blocked_next : (q : List ℕ) (r : Pen) → DidOpen lay j p o q r → Blocked lay f b j n p o q r
    blocked_next q r y =
        record {
          sound = y.sound;
          kept = y.kept;
          untouched = y.untouched;
          on = y.ready;
          room = λ s. ap (λ (u : ℕ). enters f b u n) (y.empty s) ∙ w.enough;
          same =
              λ t x xs next size room.
              by_test r.short
              (λ s.
              penned_short lay f b j r q (between (going t x xs)) next s
              ∙ sym (ends_short lay j r q (fill f b 0 t x xs) (blocks_left f b (after f b 0 t x xs)) next s))
              (λ s. penned_empty lay f b j r q t x xs next (y.ready s) (y.empty s))
              ∙ y.same (fill f b 0 t x xs) (blocks_left f b (after f b 0 t x xs)) next
              ∙ sym (penned_full lay f b j p o t x xs next (full x size) (enough x size, room));
        }
