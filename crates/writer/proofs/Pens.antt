-- The pen: how a pass ends from it on, and the block that it closes. Assumes nothing.
use mathlib.Core.Path.{◌≡◌, refl, sym, ap, ◌∙◌}
use mathlib.Core.Bool.{Bool, true, false, false≢true}
use mathlib.Core.List.{List, []}
use Prim.Native.Nat.{ℕ, ◌+◌, ◌≤◌, min}
use native.Mathlib.Omega.{arith}
use borrow.Author.Rules.{rules}
use mir.Val.{Fits as FitsIn}
use mir.Syntax.{w64}
use lib.ListN.{length}
use Rattle.base.specs.If.{if_b}
use Rattle.base.proofs.Ifs.{if_true, if_false}
use Rattle.base.specs.Part.{put_in}
use Rattle.image.specs.Item.{three}
use Rattle.writing.specs.Lay.{Sequel}
use Rattle.writing.proofs.Packing.{by_test}
use Rattle.image.proofs.Words.{length_word_put}
use Rattle.base.proofs.Copies.{kept_in}
use Rattle.sections.proofs.Lengths.{length_three}
use Rattle.writer.specs.declared.pen.Pen.{Pen}
use Rattle.writer.specs.Code.Pass.{behind, Job, ink_at, lacks, inked, outcome, rest_of, ends}
use Rattle.writer.specs.Code.Pens.{CanClose, DidClose}
use Rattle.writer.proofs.Written.{ink_put}
use Rattle.writer.proofs.Passes.{ink_none, ink_length, outcome_close}

-- ---- how a pass ends from a pen that is not short

pub ends_given : (lay : Bool) (j : Job) (p : Pen) (o cs : List ℕ) (bs : List (List ℕ)) (next : Sequel) (t : Bool)
    → p.short ≡ false → p.on ≡ t
    → ends lay j p o cs bs next ≡ outcome lay t p.at p.used o (inked p.used cs (rest_of j p bs next))
unfolding ends
ends_given lay j p o cs bs next t e h =
    ap (λ (s : Bool). outcome lay s p.at p.used o (if_b p.short lacks (inked p.used cs (rest_of j p bs next)))) h
    ∙ ap (outcome lay t p.at p.used o) (if_false _ _ _ e)

pub ends_short : (lay : Bool) (j : Job) (p : Pen) (o cs : List ℕ) (bs : List (List ℕ)) (next : Sequel) → p.short ≡ true
    → ends lay j p o cs bs next ≡ record { out = []; end = 0; short = true }
unfolding ends outcome
ends_short lay j p o cs bs next e = ap (outcome lay p.on p.at p.used o) (if_true _ _ _ e)

-- ---- closing

abbrev closed : Pen → Pen
closed p =
    record { at = p.at + 3 + p.used; used = 0; room = p.room; next = p.next; section = p.section; count = p.count; on = false; short = p.short }

module _ (lay : Bool) (p : Pen) (o : List ℕ) (c : CanClose lay p (length o)) where
  close_room : p.on ≡ true → lay ≡ true → p.at + 3 ≤ length o
  close_room h l = let r = c.room l h in omega arith

  pub close_word_fits : FitsIn w64 (p.at + 3)
  close_word_fits = record { fits = omega (arith, c.place) }

  pub close_fits : FitsIn w64 (p.at + 3 + p.used)
  close_fits = record { fits = omega (arith, c.place, c.used) }

  pub closes_none : p.on ≡ false → DidClose lay p o o p
  unfolding behind
  closes_none h =
      record {
        sound = λ j s. s;
        kept = refl;
        untouched = λ _. refl;
        shut = h;
        short = refl;
        place = sym (if_false _ _ _ h);
        room = refl;
        count = refl;
        same = λ j bs next. refl;
      }

  word_room : p.on ≡ true → lay ≡ true → p.at + length (three p.used) ≤ length o
  word_room h l = let r = c.room l h in omega (arith, length_three p.used)

  closes_kept : (q : List ℕ) → p.on ≡ true → q ≡ ink_at lay o p.at (three p.used) → length q ≡ length o
  closes_kept q h e = ap length e ∙ ink_length lay o p.at (three p.used) (word_room h)

  closes_same : (q : List ℕ) → p.on ≡ true → q ≡ ink_at lay o p.at (three p.used)
      → (j : Job) (bs : List (List ℕ)) (next : Sequel)
      → ends lay j (closed p) q [] bs next ≡ ends lay j p o [] bs next
  unfolding rest_of
  closes_same q h e j bs next =
      by_test p.short
      (λ s. ends_short lay j (closed p) q [] bs next s ∙ sym (ends_short lay j p o [] bs next s))
      (λ s.
      ends_given lay j (closed p) q [] bs next false s refl
      ∙ ap (λ (l : List ℕ). outcome lay false (p.at + 3 + p.used) 0 l (inked 0 [] (rest_of j p bs next))) e
      ∙ outcome_close lay p.at p.used 0 o (rest_of j p bs next) (λ l. c.room l h)
      ∙ sym (ends_given lay j p o [] bs next true s h))

  closes_on : (q : List ℕ) → p.on ≡ true → q ≡ ink_at lay o p.at (three p.used) → DidClose lay p o q (closed p)
  unfolding behind
  closes_on q h e =
      record {
        sound =
            λ j s.
            let place = s.on h in
            record {
              blocks = s.blocks;
              begun = s.begun;
              sections = s.sections;
              reels = s.reels;
              within = s.within;
              turn = s.turn;
              used = omega arith;
              place = omega (arith, s.used);
              on = λ z. absurd (false≢true z);
            };
        kept = closes_kept q h e;
        untouched = λ l. e ∙ ink_none lay o p.at (three p.used) l;
        shut = refl;
        short = refl;
        place = sym (if_true _ _ _ h);
        room = refl;
        count = refl;
        same = closes_same q h e;
      }

  pub closes_laid : (q : List ℕ) → p.on ≡ true → lay ≡ true → q ≡ put_in o p.at (three (min p.used 16777215))
      → DidClose lay p o q (closed p)
  closes_laid q h l w =
      closes_on q h
      (ink_put lay o p.at (three p.used) q l (length_word_put o p.at p.used q (close_room h l) (omega (arith, c.used)) w))

  pub closes_measured : p.on ≡ true → lay ≡ false → DidClose lay p o o (closed p)
  closes_measured h l = closes_on o h (sym (ink_none lay o p.at (three p.used) l))

pub ruleset closing =
    (close_word_fits, close_fits, closes_none, closes_laid, closes_measured, kept_in, rules)
