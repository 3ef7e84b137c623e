-- One turn of the packing of a record, or of pieces of one. Assumes nothing.
use mathlib.Core.Path.{◌≡◌, refl, sym, ap, ◌∙◌, subst}
use mathlib.Core.Bool.{Bool, true, false, not, false≢true}
use mathlib.Core.List.{List, ◌++◌}
use Prim.Native.Nat.{ℕ, ◌+◌, ◌-◌, ◌*◌, ◌≤◌, ◌<◌}
use native.Mathlib.Omega.{arith}
use borrow.Author.Tests.{ltb-true, ltb-false, eqb-true, eqb-false}
use lib.Dec.{eqb}
use lib.ListN.{length, take, drop}
use lib.Seq.{length-take-le}
use Rattle.base.proofs.Ifs.{if_true, if_false, if_case}
use Rattle.block.specs.Unit.{word_of}
use Rattle.writing.specs.Pack.{going, control_word}
use Rattle.block.specs.Room.{enters, taken, indicator_of}
use Rattle.writing.specs.Lay.{Sequel}
use Rattle.writing.proofs.Packing.{by_test, entered}
use Rattle.writing.proofs.Units.{length_control}
use Rattle.writer.specs.declared.pen.Pen.{Pen}
use Rattle.writer.specs.declared.pack.Flow.{Flow}
use Rattle.writer.specs.Code.Pass.{Job, ink_at, PassEnd, EndsWithin, between, within, fill_due, left_due, penned}
use Rattle.writer.specs.Code.Pens.{CanOpen, DidOpen}
use Rattle.writer.specs.Code.Packs.{enters_on, Wanting, Blocked, more, number, flowed, Flowing, DidPutPart, headed, CanPutHead, DidPutHead, many_of, CanSpell, turns_in, DidTakeTurn, CanPack}
use Rattle.writer.proofs.Passes.{ink_none, ink_length}
use Rattle.writer.proofs.Dues.{enter_fill, enter_left, some_fill}
use Rattle.writer.proofs.Blocks.{room_unit, penned_unit, more_sound, enters_on_lem, entered_on, wanting_ready, blocked_next}
use Rattle.writer.proofs.Steps.{left_length, flowed_in, flowed_out}

-- ---- what is wanted

pub flowing_wanting : (lay : Bool) (f b : ℕ) (j : Job) (piece : List ℕ) (s : Flow) (o : List ℕ) → Flowing lay f b j piece s o
    → s.inside ≡ false
    → Wanting lay f b j s.left s.pen o
flowing_wanting lay f b j piece s o w h =
    record {
      sound = w.sound;
      given = w.given;
      most = w.good.most;
      enough = w.good.enough h;
      ahead =
          λ l.
          let a = w.ahead l in
          record {
            begun = number s.begun;
            first = drop s.from piece ++ a.bytes;
            later = a.later;
            next = a.next;
            record_length = left_length piece a.bytes s.left s.from w.good.from a.record_length;
            room = a.room;
            fits =
                subst (λ (u : PassEnd). EndsWithin u (length o))
                (flowed_out true f b j s o (drop s.from piece ++ a.bytes) a.later a.next h) a.fits;
          };
    }

-- ---- a turn

-- a turn within a unit
turns_in_lem : (f b n : ℕ) (s : Flow) → s.inside ≡ true → turns_in f b n s ≡ 3 * (n - s.from) + 0
unfolding turns_in
turns_in_lem f b n s h = ap (λ (k : ℕ). 3 * (n - s.from) + k) (if_true _ _ _ h)

-- one that begins a unit
turns_begin : (f b n : ℕ) (s : Flow) → s.inside ≡ false → enters_on f b s.pen.on s.pen.used s.left ≡ true
    → turns_in f b n s ≡ 3 * (n - s.from) + 1
unfolding turns_in
turns_begin f b n s h e = ap (λ (k : ℕ). 3 * (n - s.from) + k) (if_false _ _ _ h ∙ if_true _ _ _ e)

-- one that opens a block
turns_open : (f b n : ℕ) (s : Flow) → s.inside ≡ false → enters_on f b s.pen.on s.pen.used s.left ≡ false
    → turns_in f b n s ≡ 3 * (n - s.from) + 2
unfolding turns_in
turns_open f b n s h e = ap (λ (k : ℕ). 3 * (n - s.from) + k) (if_false _ _ _ h ∙ if_false _ _ _ e)

turns_most : (f b n : ℕ) (s : Flow) → turns_in f b n s ≤ 3 * (n - s.from) + 2
unfolding turns_in
turns_most f b n s =
    if_case (λ (k : ℕ). 3 * (n - s.from) + k ≤ 3 * (n - s.from) + 2) s.inside 0 _ (λ _. omega arith)
    (λ _. if_case (λ (k : ℕ). 3 * (n - s.from) + k ≤ 3 * (n - s.from) + 2)
    (enters_on f b s.pen.on s.pen.used s.left) 1 2 (λ _. omega arith) (λ _. omega arith))

pub flowing_partable : (lay : Bool) (f b : ℕ) (j : Job) (piece : List ℕ) (s : Flow) (o : List ℕ) → Flowing lay f b j piece s o
    → s.inside ≡ true
    → CanSpell lay (length piece) s (length o)
flowing_partable lay f b j piece s o w h =
    let least : s.pen.used + s.seg ≤ b = w.good.fits h in
    let seg : s.seg ≤ s.left = w.good.seg h in
    record {
      inside = h;
      given = w.given;
      on = w.good.on h;
      from = w.good.from;
      here = w.good.here;
      seg = seg;
      fits = omega (arith, w.good.most);
      place = omega (arith, w.sound.place, w.sound.within, w.sound.reels.few, w.sound.turn);
      room =
          λ l.
          let a = w.ahead l in
          let m : ℕ = many_of (length piece) s in
          let x : List ℕ = drop s.from piece ++ a.bytes in
          let left : length x ≡ s.left = left_length piece a.bytes s.left s.from w.good.from a.record_length in
          let few : m ≤ length x = omega (arith, seg) in
          let size : length (take m x) ≡ m = length-take-le m x few in
          let r : s.pen.at + 3 + s.pen.used + length (take m x) ≤ length o
          = room_unit f b j s.pen o (take m x) (within s.seg x a.later) (within (s.seg - m) (drop m x) a.later)
          a.next (w.good.on h) w.given
          (some_fill f b true s.pen.used s.seg m x a.later (omega arith) (omega (arith, seg, left))
          ∙ ap (λ (n : ℕ). take m x ++ fill_due f b true (s.pen.used + n) (within (s.seg - m) (drop m x) a.later))
          (sym size))
          (subst (λ (u : PassEnd). EndsWithin u (length o)) (flowed_in true f b j s o x a.later a.next h) a.fits) in
          omega arith;
    }

module _ (lay : Bool) (f b : ℕ) (j : Job) (piece : List ℕ) (s : Flow) (o : List ℕ) (k : CanPack lay f b j piece s o) where
  -- ---- within a unit

  pub turn_partable : s.inside ≡ true → CanSpell lay (length piece) s (length o)
  turn_partable h = flowing_partable lay f b j piece s o k.flowing h

  pub turn_in : (q : List ℕ) (r : Flow) → s.inside ≡ true → DidPutPart lay piece s o q r → DidTakeTurn lay f b j piece s o q r
  turn_in q r h y =
      let w = k.flowing in
      let here : length piece ≤ s.left + s.from = w.good.here in
      record {
        goes = y.goes f b j w;
        given = λ _. y.given;
        settled = λ _. y.settled;
        out = λ _ _. y.out;
        falls =
            λ e.
            let l : r.from < length piece = ltb-true _ _ (sym y.told ∙ e) in
            let a : s.from < r.from = fallen here l (k.settled h) in
            omega (arith, turns_in_lem f b (length piece) s h, turns_most f b (length piece) r);
        over =
            λ e _.
            let l : length piece ≤ r.from = ltb-false _ _ (sym y.told ∙ e) in
            omega (arith, y.from, w.good.from);
      }
    where
      fallen : length piece ≤ s.left + s.from → r.from < length piece → (s.seg ≡ 0 → s.left ≡ 0) → s.from < r.from
      fallen a c z =
          by_test (eqb s.seg 0)
          (λ t. let e : s.seg ≡ 0 = eqb-true _ _ t in let n = z e in absurd (omega (arith, y.from)))
          (λ t. let e : s.seg ≡ 0 → ⊥ = eqb-false _ _ t in omega (arith, y.from))

  pub turn_in_kept : (q : List ℕ) (r : Flow) → DidPutPart lay piece s o q r → length q ≡ length o
  turn_in_kept q r y = y.kept

  -- ---- between units

  module _ (out : s.inside ≡ false) (t : Bool) (e : t ≡ enters_on f b s.pen.on s.pen.used s.left) where
    wanting : Wanting lay f b j s.left s.pen o
    wanting = flowing_wanting lay f b j piece s o k.flowing out

    left_of_lem : (zs : List ℕ) → s.left + s.from ≡ length piece + length zs → length (drop s.from piece ++ zs) ≡ s.left
    left_of_lem zs size = left_length piece zs s.left s.from k.flowing.good.from size

    -- the next unit begins in the open block
    module _ (h : t ≡ true) where
      is_on : s.pen.on ≡ true
      is_on = (entered_on f b s.pen.on s.pen.used s.left (sym e ∙ h)).0

      goes_in : enters f b s.pen.used s.left ≡ true
      goes_in = (entered_on f b s.pen.on s.pen.used s.left (sym e ∙ h)).1

      abbrev p : Pen
      p = s.pen

      word_free : lay ≡ true → p.at + 3 + p.used + word_of f ≤ length o
      word_free l =
          let a = wanting.ahead l in
          let n : enters f b p.used (length a.first) ≡ true = ap (enters f b p.used) a.record_length ∙ goes_in in
          let i : ℕ = indicator_of a.begun (taken f b p.used (length a.first)) (length a.first) in
          let m : ℕ = taken f b p.used (length a.first) in
          let c : length (control_word f i m) ≡ word_of f = length_control f i m in
          let r : p.at + 3 + p.used + length (control_word f i m) ≤ length o
          = room_unit f b j p o (control_word f i m) (between (going a.begun a.first a.later))
          (within m a.first a.later) a.next is_on wanting.given
          (enter_fill f b p.used a.begun a.first n a.later ∙ ap (λ (z : ℕ). control_word f i m ++ fill_due f b true (p.used + z) (within m a.first a.later)) (sym c)) a.fits in
          omega arith

      pub turn_headable : CanPutHead lay f b s (length o)
      turn_headable =
          record {
            enters = goes_in;
            most = wanting.most;
            place =
                omega (arith, wanting.sound.place, wanting.sound.within, wanting.sound.reels.few, wanting.sound.turn);
            room = word_free;
          }

      abbrev seg : ℕ
      seg = taken f b p.used s.left

      head_same : (z x : List ℕ) (xs : List (List ℕ)) (next : Sequel)
          → z ≡ ink_at lay o (p.at + 3 + p.used) (control_word f (indicator_of (number s.begun) seg s.left) seg)
          → length x ≡ s.left → flowed lay f b j (headed f b s) z x xs next ≡ flowed lay f b j s o x xs next
      head_same z x xs next l size =
          let n : enters f b p.used (length x) ≡ true = ap (enters f b p.used) size ∙ goes_in in
          let m : ℕ = taken f b p.used (length x) in
          let i : ℕ = indicator_of (number s.begun) m (length x) in
          let c : length (control_word f i m) ≡ word_of f = length_control f i m in
          let v : z ≡ ink_at lay o (p.at + 3 + p.used) (control_word f i m)
          = l ∙ ap (λ (d : ℕ). ink_at lay o (p.at + 3 + p.used) (control_word f (indicator_of (number s.begun) (taken f b p.used d) d) (taken f b p.used d))) (sym size) in
          flowed_in lay f b j (headed f b s) z x xs next refl
          ∙ ap (λ (d : ℕ). penned lay f b j (more p (word_of f)) z (within (taken f b p.used d) x xs) next) (sym size)
          ∙ ap (λ (d : List ℕ). penned lay f b j (more p (word_of f)) d (within m x xs) next) v
          ∙ ap (λ (d : ℕ). penned lay f b j (more p d) (ink_at lay o (p.at + 3 + p.used) (control_word f i m))
          (within m x xs) next) (sym c)
          ∙ penned_unit f b j p o (control_word f i m) (between (going (number s.begun) x xs)) (within m x xs) next is_on
          wanting.given
          (enter_fill f b p.used (number s.begun) x n xs
          ∙ ap (λ (d : ℕ). control_word f i m ++ fill_due f b true (p.used + d) (within m x xs)) (sym c))
          lay (λ w. let r = word_free w in omega arith)
          (enter_left f b p.used (number s.begun) x n xs ∙ ap (λ (d : ℕ). left_due f b true (p.used + d) (within m x xs)) (sym c))
          ∙ sym (flowed_out lay f b j s o x xs next out)

      module _ (z : List ℕ) (r : Flow) (v : DidPutHead lay f b s o z r) where
        pub turn_head_kept : length z ≡ length o
        turn_head_kept =
            ap length v.laid
            ∙ ink_length lay o (p.at + 3 + p.used) (control_word f (indicator_of (number s.begun) seg s.left) seg)
            (λ l. let m = word_free l in omega (arith, length_control f (indicator_of (number s.begun) seg s.left) seg))

        pub turn_head : DidTakeTurn lay f b j piece s o z r
        turn_head =
            let u = entered f b p.used s.left goes_in in
            let g = k.flowing.good in
            subst (DidTakeTurn lay f b j piece s o z) (sym v.is)
            (record {
              goes =
                  record {
                    sound = more_sound j p (word_of f) wanting.sound is_on (omega (arith, u.within, wanting.most));
                    kept = turn_head_kept;
                    untouched = λ l. v.laid ∙ ink_none lay o (p.at + 3 + p.used) _ l;
                    good =
                        λ _.
                        record {
                          most = g.most;
                          from = g.from;
                          here = g.here;
                          enough = λ w. absurd (false≢true (sym w));
                          on = λ _. refl;
                          seg = λ _. u.most;
                          split = λ _. u.segmented;
                          sized = λ _. u.room;
                          fits = λ _. omega (arith, u.within);
                        };
                    total = refl;
                    same = λ zs xs next size room. head_same z (drop s.from piece ++ zs) xs next v.laid (left_of_lem zs size);
                  };
              given = λ _. refl;
              settled = λ _ _ n. by_whole (λ d. absurd (omega (arith, u.some d))) (λ d. sym d ∙ n);
              falls = λ _. omega (arith, turns_in_lem f b (length piece) (headed f b s) refl, turns_begin f b (length piece) s out (sym e ∙ h));
              over = λ w. absurd (false≢true (sym w));
              out = λ w. absurd (false≢true (sym w));
            })
          where
            by_whole : {A : Type 0} → ((seg ≡ s.left → ⊥) → A) → (seg ≡ s.left → A) → A
            by_whole g d = by_test (eqb seg s.left) (λ w. d (eqb-true _ _ w)) (λ w. g (eqb-false _ _ w))

    -- it does not enter the open block: the next is opened
    module _ (h : t ≡ false) where
      pub turn_ready : CanOpen lay j s.pen o
      turn_ready = wanting_ready lay f b j s.left s.pen o wanting t e h

      module _ (q : List ℕ) (r : Pen) (y : DidOpen lay j s.pen o q r) where
        pub turn_open_kept : length q ≡ length o
        turn_open_kept = y.kept

        abbrev next : Flow
        next =
            record {
              pen = r;
              left = s.left;
              seg = s.seg;
              from = s.from;
              begun = s.begun;
              inside = false;
              on = not
                  r.short;
            }

        blocked : Blocked lay f b j s.left s.pen o q r
        blocked = blocked_next lay f b j s.left s.pen o wanting t e h q r y

        is_given : not r.short ≡ true → r.short ≡ false
        is_given w = by_test r.short (λ z. absurd (false≢true (sym (ap not z) ∙ w))) (λ z. z)

        is_short : not r.short ≡ false → r.short ≡ true
        is_short w = by_test r.short (λ z. z) (λ z. absurd (false≢true (sym w ∙ ap not z)))

        pub turn_open : DidTakeTurn lay f b j piece s o q next
        turn_open =
            let g = k.flowing.good in
            record {
              goes =
                  record {
                    sound = blocked.sound;
                    kept = blocked.kept;
                    untouched = blocked.untouched;
                    good =
                        λ _.
                        record {
                          most = g.most;
                          from = g.from;
                          here = g.here;
                          enough = λ _. wanting.enough;
                          on = λ w. absurd (false≢true w);
                          seg = λ w. absurd (false≢true w);
                          split = λ w. absurd (false≢true w);
                          sized = λ w. absurd (false≢true w);
                          fits = λ w. absurd (false≢true w);
                        };
                    total = refl;
                    same =
                        λ zs xs after size room.
                        flowed_out lay f b j next q (drop s.from piece ++ zs) xs after refl
                        ∙ blocked.same (number s.begun) (drop s.from piece ++ zs) xs after (left_of_lem zs size) room
                        ∙ sym (flowed_out lay f b j s o (drop s.from piece ++ zs) xs after out);
                  };
              given = is_given;
              settled = λ _ w. absurd (false≢true w);
              falls =
                  λ w.
                  let n = is_given w in
                  omega (
                    arith,
                    turns_begin f b (length piece) next refl
                        (sym (enters_on_lem f b r.on r.used s.left true (blocked.on n) (sym (blocked.room n)))),
                    turns_open f b
                        (length piece) s out (sym e ∙ h),
                  );
              over = λ w d. absurd (false≢true (sym d ∙ is_short w));
              out = λ w d. absurd (false≢true (sym d ∙ is_short w));
            }
