-- The steps of packing one after the other: the end of a unit, and the bytes of a piece. Assumes nothing.
use mathlib.Core.Path.{◌≡◌, refl, sym, ap, ◌∙◌, subst}
use mathlib.Core.Bool.{Bool, true, false, false≢true}
use mathlib.Core.List.{List, [], ◌++◌}
use Prim.Native.Nat.{ℕ, ◌+◌, ◌-◌, ◌≤◌, ◌<◌}
use native.Mathlib.Omega.{arith}
use lib.Dec.{ltb}
use lib.ListN.{length, take, drop, length-append, length-drop}
use lib.Seq.{take-append-le, drop-append-le, drop-drop}
use Rattle.base.specs.If.{if_b}
use Rattle.base.proofs.Ifs.{if_true, if_false}
use Rattle.base.specs.Part.{part}
use Rattle.base.proofs.Parts.{length_part}
use Rattle.writing.specs.Pack.{Left, going, blocks_left}
use Rattle.writing.specs.Lay.{Sequel}
use Rattle.writing.proofs.Packing.{segment_enters}
use Rattle.writer.specs.declared.pen.Pen.{Pen}
use Rattle.writer.specs.declared.pack.Flow.{Flow}
use Rattle.writer.specs.Code.Pass.{Job, ink_at, PassEnd, ends, EndsWithin, UnitDue, between, within, fill_due, left_due, penned}
use Rattle.writer.specs.Code.Pens.{CanClose, DidClose}
use Rattle.writer.specs.Code.Packs.{more, number, due_of, flowed, Flowing, FlowGoes, DidPutPart, many_of, spelled, CanSpell, DidSpell, Settled}
use Rattle.writer.proofs.Passes.{ink_none, ink_length}
use Rattle.writer.proofs.Dues.{some_fill, some_left, broken_fill, broken_left}
use Rattle.writer.proofs.Blocks.{penned_unit, more_sound}

-- ---- steps, one after the other

pub goes_goes : (lay : Bool) (f b : ℕ) (j : Job) (piece : List ℕ) (s : Flow) (o q : List ℕ) (r : Flow) (z : List ℕ) (v : Flow)
    → FlowGoes lay f b j piece s o q r → FlowGoes lay f b j piece r q z v → FlowGoes lay f b j piece s o z v
goes_goes lay f b j piece s o q r z v x y =
    record {
      sound = y.sound;
      kept = y.kept ∙ x.kept;
      untouched = λ l. y.untouched l ∙ x.untouched l;
      good = y.good;
      total = y.total ∙ x.total;
      same = λ zs xs next size room. y.same zs xs next (x.total ∙ size) room ∙ x.same zs xs next size room;
    }

pub flowing_on : (lay : Bool) (f b : ℕ) (j : Job) (piece : List ℕ) (s : Flow) (o q : List ℕ) (r : Flow)
    → Flowing lay f b j piece s o → FlowGoes lay f b j piece s o q r → r.pen.short ≡ false → Flowing lay f b j piece r q
flowing_on lay f b j piece s o q r w x h =
    record {
      sound = x.sound;
      given = h;
      good = x.good h;
      ahead =
          λ l.
          let a = w.ahead l in
          let e : flowed true f b j r q (drop r.from piece ++ a.bytes) a.later a.next ≡ flowed true f b j s o (drop s.from piece ++ a.bytes) a.later a.next
          = subst (λ (t : Bool). flowed t f b j r q (drop r.from piece ++ a.bytes) a.later a.next
          ≡ flowed t f b j s o (drop s.from piece ++ a.bytes) a.later a.next) l
          (x.same a.bytes a.later a.next a.record_length a.room) in
          let g : EndsWithin (flowed true f b j r q (drop r.from piece ++ a.bytes) a.later a.next) (length o) = subst (λ (u : PassEnd). EndsWithin u (length o)) (sym e) a.fits in
          record {
            bytes = a.bytes;
            later = a.later;
            next = a.next;
            record_length = x.total ∙ a.record_length;
            room = a.room;
            fits =
                subst (EndsWithin (flowed true f b j r q (drop r.from piece ++ a.bytes) a.later a.next))
                (sym x.kept) g;
          };
    }

-- the bytes that are left of a record: of the piece, and behind it
pub left_length : (piece zs : List ℕ) (left from : ℕ) → from ≤ length piece → left + from ≡ length piece + length zs
    → length (drop from piece ++ zs) ≡ left
left_length piece zs left from h e = length-append (drop from piece) zs ∙ omega (arith, length-drop from piece)

pub flowed_in : (lay : Bool) (f b : ℕ) (j : Job) (s : Flow) (o x : List ℕ) (xs : List (List ℕ)) (next : Sequel) → s.inside ≡ true
    → flowed lay f b j s o x xs next ≡ penned lay f b j s.pen o (within s.seg x xs) next
unfolding flowed due_of
flowed_in lay f b j s o x xs next h = ap (λ (d : UnitDue). penned lay f b j s.pen o d next) (if_true _ _ _ h)

pub flowed_out : (lay : Bool) (f b : ℕ) (j : Job) (s : Flow) (o x : List ℕ) (xs : List (List ℕ)) (next : Sequel)
    → s.inside ≡ false
    → flowed lay f b j s o x xs next ≡ penned lay f b j s.pen o (between (going (number s.begun) x xs)) next
unfolding flowed due_of
flowed_out lay f b j s o x xs next h = ap (λ (d : UnitDue). penned lay f b j s.pen o d next) (if_false _ _ _ h)

-- ---- the end of a unit

-- where the unit ends, and the record goes on, its block is closed
record Ended (lay : Bool) (s : Flow) (o q : List ℕ) (r : Flow) : Type 0 where
  kept : length q ≡ length o
  from : r.from ≡ s.from
  on : r.on ≡ s.on
  short : r.pen.short ≡ s.pen.short
  settled : Settled r
  out : r.inside ≡ false → 0 < r.left
  goes : (f b : ℕ) (j : Job) (piece : List ℕ) → Flowing lay f b j piece s o → FlowGoes lay f b j piece s o q r

-- s between units, with its block closed
abbrev parted : Flow → Pen → Flow
parted s p = record { pen = p; left = s.left; seg = 0; from = s.from; begun = true; inside = false; on = s.on }

module _ (lay : Bool) (s : Flow) (o : List ℕ) (inside : s.inside ≡ true) where
  goes_none : (f b : ℕ) (j : Job) (piece : List ℕ) → Flowing lay f b j piece s o → FlowGoes lay f b j piece s o o s
  goes_none f b j piece w =
      record { sound = w.sound; kept = refl; untouched = λ _. refl; good = λ _. w.good; total = refl; same = λ zs xs next size room. refl }

  ended_over : s.left ≤ 0 → Ended lay s o o s
  ended_over h =
      record {
        kept = refl;
        from = refl;
        on = refl;
        short = refl;
        settled = λ _ _. omega arith;
        out = λ e. absurd
            (false≢true (sym e ∙ inside));
        goes = goes_none;
      }

  ended_in_lem : (s.seg ≡ 0 → ⊥) → Ended lay s o o s
  ended_in_lem h = record { kept = refl; from = refl; on = refl; short = refl; settled = λ _ e. absurd (h e); out = λ e. absurd (false≢true (sym e ∙ inside)); goes = goes_none }

  module _ (none : s.seg ≡ 0) (some : 0 < s.left) (q : List ℕ) (p : Pen) (c : DidClose lay s.pen o q p) where
    part_same : (f b : ℕ) (j : Job) (x : List ℕ) (xs : List (List ℕ)) (next : Sequel) → length x ≡ s.left
        → flowed lay f b j (parted s p) q x xs next ≡ flowed lay f b j s o x xs next
    unfolding penned
    part_same f b j x xs next size =
        let d : length x ≡ 0 → ⊥ = λ e. omega arith in
        flowed_out lay f b j (parted s p) q x xs next refl
        ∙ ap (λ (t : Bool). ends lay j p q (fill_due f b t p.used (between (going 1 x xs)))
        (blocks_left f b (left_due f b t p.used (between (going 1 x xs)))) next) c.shut
        ∙ shut_due f b j x xs next
        ∙ c.same j (blocks_left f b (going 1 x xs)) next
        ∙ ap (λ (l : Left). ends lay j s.pen o [] (blocks_left f b l) next)
        (sym (broken_left f b s.pen.on s.pen.used x xs d))
        ∙ ap (λ (cs : List ℕ). ends lay j s.pen o cs
        (blocks_left f b (left_due f b s.pen.on s.pen.used (within 0 x xs))) next)
        (sym (broken_fill f b s.pen.on s.pen.used x xs d))
        ∙ ap (λ (k : ℕ). penned lay f b j s.pen o (within k x xs) next) (sym none)
        ∙ sym (flowed_in lay f b j s o x xs next (inside))
      where
        shut_due : (f b : ℕ) (j : Job) (x : List ℕ) (xs : List (List ℕ)) (next : Sequel)
            → ends lay j p q (fill_due f b false p.used (between (going 1 x xs)))
            (blocks_left f b (left_due f b false p.used (between (going 1 x xs)))) next
            ≡ ends lay j p q [] (blocks_left f b (going 1 x xs)) next
        shut_due f b j x xs next = unfold fill_due in unfold left_due in unfold if_b in refl

    ended_part : Ended lay s o q (parted s p)
    ended_part =
        record {
          kept = c.kept;
          from = refl;
          on = refl;
          short = c.short;
          settled = λ e. absurd (false≢true e);
          out = λ _. some;
          goes =
              λ f b j piece w.
              let d : s.seg ≡ s.left → ⊥ = λ e. omega arith in
              record {
                sound = c.sound j w.sound;
                kept = c.kept;
                untouched = c.untouched;
                good =
                    λ _.
                    record {
                      most = w.good.most;
                      from = w.good.from;
                      here = w.good.here;
                      enough = λ _. segment_enters f b s.left (w.good.split (inside) d) (w.good.sized (inside) d);
                      on = λ e. absurd (false≢true e);
                      seg = λ e. absurd (false≢true e);
                      split = λ e. absurd (false≢true e);
                      sized = λ e. absurd (false≢true e);
                      fits = λ e. absurd (false≢true e);
                    };
                total = refl;
                same =
                    λ zs xs next size room. part_same f b j (drop s.from piece ++ zs) xs next
                    (left_length piece zs s.left s.from w.good.from size);
              };
        }

-- ---- bytes of the piece

spelled_same : (lay : Bool) (f b : ℕ) (j : Job) (p : Pen) (o piece : List ℕ) (from k m : ℕ) (zs : List ℕ) (xs : List (List ℕ))
    (next : Sequel)
    → p.on ≡ true → p.short ≡ false → m ≤ k → from + m ≤ length piece → k ≤ length (drop from piece ++ zs)
    → (lay ≡ true → p.at + 3 + p.used + m ≤ length o)
    → penned lay f b j (more p m) (ink_at lay o (p.at + 3 + p.used) (part from m piece))
    (within (k - m) (drop (from + m) piece ++ zs) xs) next
    ≡ penned lay f b j p o (within k (drop from piece ++ zs) xs) next
spelled_same lay f b j p o piece from k m zs xs next h s i e l r =
    let x : List ℕ = drop from piece ++ zs in
    let v : List ℕ = part from m piece in
    let size : length v ≡ m = length_part from m piece e in
    let front : take m x ≡ v = take_front in
    let back : drop m x ≡ drop (from + m) piece ++ zs = drop_front in
    ap (λ (n : ℕ). penned lay f b j (more p n) (ink_at lay o (p.at + 3 + p.used) v)
    (within (k - m) (drop (from + m) piece ++ zs) xs) next) (sym size)
    ∙ penned_unit f b j p o v (within k x xs) (within (k - m) (drop (from + m) piece ++ zs) xs) next h s
    (some_fill f b true p.used k m x xs i l
    ∙ ap (λ (y : List ℕ). y ++ fill_due f b true (p.used + m) (within (k - m) (drop m x) xs)) front
    ∙ ap (λ (y : List ℕ). v ++ fill_due f b true (p.used + m) (within (k - m) y xs)) back
    ∙ ap (λ (n : ℕ). v ++ fill_due f b true (p.used + n) (within (k - m) (drop (from + m) piece ++ zs) xs)) (sym size))
    lay (λ t. let q = r t in omega arith)
    (some_left f b true p.used k m x xs i l
    ∙ ap (λ (y : List ℕ). left_due f b true (p.used + m) (within (k - m) y xs)) back
    ∙ ap (λ (n : ℕ). left_due f b true (p.used + n) (within (k - m) (drop (from + m) piece ++ zs) xs)) (sym size))
  where
    few : m ≤ length (drop from piece)
    few = omega (arith, length-drop from piece)

    take_front : take m (drop from piece ++ zs) ≡ part from m piece
    take_front = unfold part in take-append-le m (drop from piece) zs few

    drop_front : drop m (drop from piece ++ zs) ≡ drop (from + m) piece ++ zs
    drop_front = drop-append-le m (drop from piece) zs few ∙ ap (λ (l : List ℕ). l ++ zs) (drop-drop m from piece)

module _ (lay : Bool) (piece : List ℕ) (s : Flow) (o : List ℕ) (y : CanSpell lay (length piece) s (length o)) where
  abbrev m : ℕ
  m = many_of (length piece) s

  bytes_length : length (part s.from m piece) ≡ m
  bytes_length = length_part s.from m piece (omega (arith, y.from))

  module _ (q : List ℕ) (t : Flow) (x : DidSpell lay piece s o q t) where
    pub spelled_kept : length q ≡ length o
    spelled_kept =
        ap length x.laid ∙ ink_length lay o (s.pen.at + 3 + s.pen.used) (part s.from m piece) (λ l. let r = y.room l in omega (arith, bytes_length))

    spelled_inside : t.inside ≡ true
    spelled_inside = ap (λ (u : Flow). u.inside) x.is

    pub part_closable : CanClose lay t.pen (length q)
    part_closable =
        subst (λ (v : Flow). CanClose lay v.pen (length q)) (sym x.is)
        (record { used = omega (arith, y.fits); place = y.place; room = λ l _. let r = y.room l in omega (arith, spelled_kept) })

    spelled_goes : (f b : ℕ) (j : Job) → Flowing lay f b j piece s o → FlowGoes lay f b j piece s o q t
    spelled_goes f b j w =
        let least : s.pen.used + s.seg ≤ b = w.good.fits y.inside in
        subst (FlowGoes lay f b j piece s o q) (sym x.is)
        (record {
          sound = more_sound j s.pen m w.sound y.on (omega (arith, y.fits));
          kept = spelled_kept;
          untouched = λ l. x.laid ∙ ink_none lay o (s.pen.at + 3 + s.pen.used) (part s.from m piece) l;
          good =
              λ _.
              record {
                most = w.good.most;
                from = omega (arith, y.from);
                here = omega (arith, y.here, y.seg);
                enough = λ e. absurd (false≢true (sym e));
                on = λ _. refl;
                seg = λ _. omega (arith, y.seg);
                split = λ _ d. w.good.split y.inside (λ e. d (ap (λ (k : ℕ). k - m) e));
                sized = λ _ d. w.good.sized y.inside (λ e. d (ap (λ (k : ℕ). k - m) e));
                fits = λ _. omega (arith, least);
              };
          total = omega (arith, y.seg);
          same =
              λ zs xs next size room.
              let left : length (drop s.from piece ++ zs) ≡ s.left = left_length piece zs s.left s.from y.from size in
              flowed_in lay f b j (spelled (length piece) s) q (drop (s.from + m) piece ++ zs) xs next refl
              ∙ ap (λ (l : List ℕ). penned lay f b j (more s.pen m) l
              (within (s.seg - m) (drop (s.from + m) piece ++ zs) xs) next) x.laid
              ∙ spelled_same lay f b j s.pen o piece s.from s.seg m zs xs next y.on y.given (omega arith)
              (omega (arith, y.from))
              (omega (arith, y.seg)) y.room
              ∙ sym (flowed_in lay f b j s o (drop s.from piece ++ zs) xs next y.inside);
        })

    short_not : t.pen.short ≡ false
    short_not = ap (λ (u : Flow). u.pen.short) x.is

    part_steps : (z : List ℕ) (r : Flow) → Ended lay t q z r → DidPutPart lay piece s o z r
    part_steps z r v =
        let from : r.from ≡ s.from + m = v.from ∙ ap (λ (u : Flow). u.from) x.is in
        record {
          kept = v.kept ∙ spelled_kept;
          from = from;
          told = v.on ∙ ap (λ (u : Flow). u.on) x.is ∙ ap (λ (k : ℕ). ltb k (length piece)) (sym from);
          given = v.short ∙ short_not;
          settled = v.settled;
          out = v.out;
          goes =
              λ f b j w.
              goes_goes lay f b j piece s o q t z r (spelled_goes f b j w)
              (v.goes f b j piece (flowing_on lay f b j piece s o q t w (spelled_goes f b j w) short_not));
        }

    pub part_over : t.left ≤ 0 → DidPutPart lay piece s o q t
    part_over h = part_steps q t (ended_over lay t q spelled_inside h)

    pub part_in : (t.seg ≡ 0 → ⊥) → DidPutPart lay piece s o q t
    part_in h = part_steps q t (ended_in_lem lay t q spelled_inside h)

    module _ (z : List ℕ) (p : Pen) (c : DidClose lay t.pen q z p) where
      pub part_kept : length z ≡ length o
      part_kept = c.kept ∙ spelled_kept

      pub part_closed : t.seg ≡ 0 → 0 < t.left → DidPutPart lay piece s o z (parted t p)
      part_closed none some = part_steps z (parted t p) (ended_part lay t q spelled_inside none some z p c)
