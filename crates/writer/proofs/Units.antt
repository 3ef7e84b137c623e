-- The head of a unit and its bytes, as they are written. Assumes nothing.
use mathlib.Core.Path.{◌≡◌, ap, ◌∙◌, subst}
use mathlib.Core.Bool.{Bool, true, false}
use mathlib.Core.List.{List}
use Prim.Native.Nat.{ℕ, ◌+◌, ◌-◌, ◌≤◌, min}
use native.Mathlib.Omega.{arith}
use borrow.Author.Rules.{rules}
use mir.Val.{Fits as FitsIn}
use mir.Syntax.{w64}
use lib.Dec.{ltb}
use lib.ListN.{length, take, drop}
use Rattle.base.specs.Part.{part, put_in}
use Rattle.base.specs.Digits.{digits}
use Rattle.base.proofs.Parts.{length_part, part_within}
use Rattle.base.proofs.Copies.{kept_in}
use Rattle.block.specs.Unit.{word_of}
use Rattle.writing.specs.Pack.{control_word}
use Rattle.block.specs.Room.{word_with, taken, indicator_of}
use Rattle.writing.proofs.Packing.{entered}
use Rattle.writer.specs.declared.pen.Pen.{Pen}
use Rattle.writer.specs.declared.pack.Flow.{Flow}
use Rattle.writer.specs.Code.Pass.{ink_at}
use Rattle.writer.specs.Code.Packs.{more, number, headed, CanPutHead, DidPutHead, many_of, CanSpell, DidSpell}
use Rattle.writer.proofs.Written.{ink_put, ink_put_in, ink_not, word_fits, word_said}

-- ---- a unit is begun

module _ (lay : Bool) (f b : ℕ) (s : Flow) (size : ℕ) (y : CanPutHead lay f b s size) where
  unit : (word_of f + taken f b s.pen.used s.left + s.pen.used ≤ b) × (taken f b s.pen.used s.left ≤ s.left)
  unit = let e = entered f b s.pen.used s.left y.enters in (omega (arith, e.within), e.most)

  pub head_small : (k : ℕ) → k ≡ taken f b s.pen.used s.left → k ≤ 99999
  head_small k e = omega (arith, unit.0, y.most)

  head_room : lay ≡ true → s.pen.at + 3 + s.pen.used + word_of f ≤ size
  head_room = y.room

  pub head_at_fits : FitsIn w64 (s.pen.at + 3)
  head_at_fits = record { fits = omega (arith, y.place) }

  pub head_fits : FitsIn w64 (s.pen.at + 3 + s.pen.used)
  head_fits = record { fits = omega (arith, y.place, y.most, unit.0) }

  pub head_more : (w : ℕ) → w ≡ word_of f → s.pen.used + w ≤ 99999
  head_more w e = omega (arith, unit.0, y.most)

  module _ (k w : ℕ) (r : Pen) (e : k ≡ taken f b s.pen.used s.left) (h : w ≡ word_of f) (m : r ≡ more s.pen w) where
    abbrev headed_by : Flow
    headed_by = record { pen = r; left = s.left; seg = k; from = s.from; begun = s.begun; inside = true; on = true }

    head_is : headed_by ≡ headed f b s
    head_is =
        let n : r ≡ more s.pen (word_of f) = m ∙ ap (more s.pen) h in
        λ z. record { pen = n z; left = s.left; seg = e z; from = s.from; begun = s.begun; inside = true; on = true }

    pub head_laid : (i : ℕ) (d o q : List ℕ) → size ≡ length o → i ≡ 48 + indicator_of (number s.begun) k s.left → lay ≡ true
        → d ≡ digits 4 (k + w)
        → q ≡ put_in o (s.pen.at + 3 + s.pen.used) (word_with f i d) → DidPutHead lay f b s o q headed_by
    head_laid i d o q z g l v x =
        let t : ℕ = indicator_of (number s.begun) k s.left in
        let c : control_word f t k ≡ control_word f (indicator_of (number s.begun) (taken f b s.pen.used s.left) s.left) (taken f b s.pen.used s.left)
        = ap (λ (z : ℕ). control_word f (indicator_of (number s.begun) z s.left) z) e in
        let said : q ≡ put_in o (s.pen.at + 3 + s.pen.used) (word_with f (48 + t) d) = x ∙ ap (λ (m : ℕ). put_in o (s.pen.at + 3 + s.pen.used) (word_with f m d)) g in
        let room : s.pen.at + 3 + s.pen.used + word_of f ≤ length o = subst (λ (m : ℕ). s.pen.at + 3 + s.pen.used + word_of f ≤ m) z (head_room l) in
        record {
          is = head_is;
          laid =
              ink_put lay o (s.pen.at + 3 + s.pen.used) (control_word f t k) q l
              (word_said f t k o (s.pen.at + 3 + s.pen.used) w h d q room v said)
              ∙ ap (ink_at lay o (s.pen.at + 3 + s.pen.used)) c;
        }

    pub head_measured : (o : List ℕ) → lay ≡ false → DidPutHead lay f b s o o headed_by
    head_measured o l = record { is = head_is; laid = ink_not lay o (s.pen.at + 3 + s.pen.used) _ l }

pub ruleset heading =
    (word_fits, head_small, head_at_fits, head_fits, head_more, head_laid, head_measured, kept_in, rules)

-- ---- bytes of the open unit

module _ (lay : Bool) (n : ℕ) (s : Flow) (size : ℕ) (y : CanSpell lay n s size) where
  pub spell_from : s.from ≤ n
  spell_from = y.from

  pub spell_at_fits : FitsIn w64 (s.pen.at + 3)
  spell_at_fits = record { fits = omega (arith, y.place) }

  pub spell_fits : FitsIn w64 (s.pen.at + 3 + s.pen.used)
  spell_fits = record { fits = omega (arith, y.place, y.fits) }

  module _ (m : ℕ) (e : m ≡ min s.seg (n - s.from)) where
    pub spell_end : s.from + m ≤ n
    spell_end = omega (arith, y.from)

    pub spell_less : m ≤ s.left
    spell_less = omega (arith, y.seg)

    pub spell_seg : m ≤ s.seg
    spell_seg = omega arith

    pub spell_more : s.pen.used + m ≤ 99999
    spell_more = omega (arith, y.fits)

module _ (lay : Bool) (piece : List ℕ) (s : Flow) (o : List ℕ) (y : CanSpell lay (length piece) s (length o)) where
  module _ (m : ℕ) (e : m ≡ min s.seg (length piece - s.from)) where
    abbrev bytes : List ℕ
    bytes = take (s.from + m - s.from) (drop s.from piece)

    spell_room : lay ≡ true → s.pen.at + 3 + s.pen.used + length bytes ≤ length o
    spell_room l =
        let r = y.room l in
        let long : length bytes ≡ m = ap length (part_within s.from m piece) ∙ length_part s.from m piece (spell_end lay (length piece) s (length o) y m e) in
        omega arith

    module _ (r : Pen) (g : r ≡ more s.pen m) where
      abbrev spelled_by : Flow
      spelled_by =
          record {
            pen = r;
            left = s.left - m;
            seg = s.seg - m;
            from = s.from + m;
            begun = s.begun;
            inside = true;
            on = ltb
                (s.from + m) (length piece);
          }

      spell_is : (q : List ℕ) → q ≡ ink_at lay o (s.pen.at + 3 + s.pen.used) bytes → DidSpell lay piece s o q spelled_by
      spell_is q l =
          let n : r ≡ more s.pen (many_of (length piece) s) = g ∙ ap (more s.pen) e in
          record {
            is =
                λ z.
                record {
                  pen = n z;
                  left = s.left - e z;
                  seg = s.seg - e z;
                  from = s.from + e z;
                  begun = s.begun;
                  inside = true;
                  on = ltb (s.from + e z) (length piece);
                };
            laid =
                l ∙ ap (ink_at lay o (s.pen.at + 3 + s.pen.used))
                (part_within s.from m piece ∙ ap (λ (k : ℕ). part s.from k piece) e);
          }

      pub spell_laid : (q : List ℕ) → lay ≡ true → q ≡ put_in o (s.pen.at + 3 + s.pen.used) bytes
          → DidSpell lay piece s o q spelled_by
      spell_laid q l h = spell_is q (ink_put_in lay o (s.pen.at + 3 + s.pen.used) bytes q spell_room l h)

      pub spell_measured : lay ≡ false → DidSpell lay piece s o o spelled_by
      spell_measured l = spell_is o (ink_not lay o (s.pen.at + 3 + s.pen.used) bytes l)
