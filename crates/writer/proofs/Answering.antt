-- What the first pass has found out, and the answers that follow from it. Assumes nothing.
use mathlib.Core.Path.{◌≡◌, refl, sym, ap, ◌∙◌, subst}
use mathlib.Core.Bool.{Bool, true, false, false≢true}
use mathlib.Core.List.{List, [], ◌++◌}
use Prim.Native.Nat.{ℕ, ◌+◌, ◌≤◌, ◌<◌}
use native.Mathlib.Omega.{arith}
use borrow.Author.Rules.{rules}
use borrow.Author.Tests.{le-leb, lt-leb}
use lib.ListN.{length, drop}
use Rattle.base.specs.If.{if_b}
use Rattle.base.proofs.Ifs.{if_true, if_false}
use Rattle.base.specs.Part.{put_at}
use Rattle.base.specs.Answer.{verdict}
use Rattle.base.proofs.Parts.{put_none}
use Rattle.image.specs.Item.{Item, encode_by, encode}
use Rattle.image.specs.Framing.{head, most_image}
use Rattle.output.specs.declared.Written.{Written as Answer}
use Rattle.output.proofs.Writing.{answers_refused}
use Rattle.output.specs.Output.{Written, refusal_of, written_of, Answers}
use Rattle.writing.specs.Lay.{Laid, laid, short, lay}
use Rattle.writing.specs.Write.{stored, stored_laid}
use Rattle.writing.proofs.Packing.{by_test}
use Rattle.writer.specs.declared.pen.Pen.{Pen}
use Rattle.writer.specs.declared.set.Place.{Place}
use Rattle.writer.specs.Code.Pass.{over_long, inked, behind, inked_at, PassEnd, outcome, laid_from, imaged, image_from}
use Rattle.writer.specs.Code.Sets.{Task, DidLaySet, CanWrite, set_laid, CanLaySet}
use Rattle.writer.proofs.Files.{laid_short}

-- ---- what a pass has found out

-- by what is laid
laid_by : {A : Type 0} (l : Laid) → ((xs : List Item) → l ≡ laid xs → A) → (l ≡ short → A) → A
laid_by (laid xs) f g = f xs refl
laid_by short f g = g refl

image_short : (lay : Bool) (o : List ℕ) (l : Laid) → l ≡ short → (image_from lay o l).short ≡ true
unfolding image_from imaged outcome
image_short lay o l e = ap (λ (k : Laid). (image_from lay o k).short) e

image_given : (lay : Bool) (o : List ℕ) (l : Laid) (xs : List Item) → l ≡ laid xs → (image_from lay o l).short ≡ false
unfolding image_from imaged outcome
image_given lay o l xs e = ap (λ (k : Laid). (image_from lay o k).short) e

image_end_lem : (lay : Bool) (o : List ℕ) (l : Laid) (xs : List Item) → l ≡ laid xs
    → (image_from lay o l).end ≡ 0 + length (head ++ encode xs)
unfolding image_from imaged outcome behind if_b
image_end_lem lay o l xs e = ap (λ (k : Laid). (image_from lay o k).end) e

image_out : (o : List ℕ) (l : Laid) (xs : List Item) → l ≡ laid xs → (image_from true o l).out ≡ put_at o 0 (head ++ encode xs)
unfolding image_from imaged outcome inked_at if_b
image_out o l xs e = ap (λ (k : Laid). (image_from true o k).out) e

last_short : (lay : Bool) (r : Pen) (q : List ℕ) → (laid_from lay r q (laid [])).short ≡ r.short
unfolding laid_from outcome inked
last_short lay r q =
    by_test r.short (λ s. ap (λ (w : PassEnd). w.short) (laid_short lay r q (laid []) s) ∙ sym s)
    (λ s. ap (λ k. (outcome lay false r.at 0 q k).short) (if_false _ _ _ s) ∙ sym s)

last_end : (lay : Bool) (r : Pen) (q : List ℕ) → r.short ≡ false → (laid_from lay r q (laid [])).end ≡ r.at + 0
unfolding laid_from outcome inked behind if_b encode encode_by
last_end lay r q s = ap (λ k. (outcome lay false r.at 0 q k).end) (if_false _ _ _ s)

last_out : (r : Pen) (q : List ℕ) → r.short ≡ false → (laid_from true r q (laid [])).out ≡ put_at q r.at []
unfolding laid_from outcome inked inked_at if_b encode encode_by
last_out r q s = ap (λ k. (outcome true false r.at 0 q k).out) (if_false _ _ _ s)

module _ (l : Laid) (o q : List ℕ) (r : Pen) (lay : Bool) (m : DidLaySet lay l o q r) where
  ends_short : r.short ≡ (image_from lay o l).short
  ends_short = sym (last_short lay r q) ∙ ap (λ (w : PassEnd). w.short) m.same

  -- where no reel is lacking there are items, and the pass ends behind them
  by_items : {A : Type 0} → r.short ≡ false → ((xs : List Item) → l ≡ laid xs → r.at ≡ length (head ++ encode xs) → A) → A
  by_items e f =
      laid_by l
      (λ xs h.
      let end : r.at + 0 ≡ 0 + length (head ++ encode xs) = sym (last_end lay r q e) ∙ ap (λ (w : PassEnd). w.end) m.same ∙ image_end_lem lay o l xs h in
      f xs h (omega arith))
      (λ h. absurd (false≢true (sym e ∙ ends_short ∙ image_short lay o l h)))

  by_lack : {A : Type 0} → r.short ≡ true → (l ≡ short → A) → A
  by_lack e f = laid_by l (λ xs h. absurd (false≢true (sym (image_given lay o l xs h) ∙ sym ends_short ∙ e))) f

-- ---- the answers

stored_at : (l : Laid) (xs : List Item) (out : List ℕ) → l ≡ laid xs → stored_laid l out ≡ stored (head ++ encode xs) out
unfolding stored_laid
stored_at l xs out e = ap (λ (k : Laid). stored_laid k out) e

module _ (t : Task) (g : Place) (o q : List ℕ) (r : Pen) (m : DidLaySet false (set_laid t g) o q r) where
  pub measured_same : q ≡ o
  measured_same = m.untouched refl

  pub answers_lacking : (a : Answer) → r.short ≡ true → a ≡ refusal_of 12 → Answers (stored_laid (set_laid t g) o) a q
  unfolding stored_laid
  answers_lacking a e h =
      by_lack (set_laid t g) o q r false m e
      (λ z.
      subst (λ (w : List ℕ). Answers (stored_laid (set_laid t g) o) a w) (sym measured_same)
      (subst (λ (b : Answer). Answers (stored_laid (set_laid t g) o) b o) (sym h)
      (subst (λ (w : Written). Answers w (refusal_of 12) o) (sym (ap (λ (k : Laid). stored_laid k o) z)) (answers_refused 12 o))))

  module _ (e : r.short ≡ false) where
    pub answers_over : (a : Answer) → over_long ≤ r.at → a ≡ refusal_of 14 → Answers (stored_laid (set_laid t g) o) a q
    unfolding stored
    answers_over a k h =
        by_items (set_laid t g) o q r false m e
        (λ xs z n.
        let long : most_image < length (head ++ encode xs) = omega arith in
        subst (λ (w : List ℕ). Answers (stored_laid (set_laid t g) o) a w) (sym measured_same)
        (subst (λ (b : Answer). Answers (stored_laid (set_laid t g) o) b o) (sym h)
        (subst (λ (w : Written). Answers w (refusal_of 14) o)
        (sym (stored_at (set_laid t g) xs o z ∙ if_false _ _ _ (lt-leb _ _ long))) (answers_refused 14 o))))

    module _ (k : r.at < over_long) where
      pub answers_short : (a : Answer) → length q < r.at → a ≡ refusal_of 10 → Answers (stored_laid (set_laid t g) o) a q
      unfolding stored
      answers_short a s h =
          by_items (set_laid t g) o q r false m e
          (λ xs z n.
          let fits : length (head ++ encode xs) ≤ most_image = omega arith in
          let less : length o < length (head ++ encode xs) = omega (arith, m.kept) in
          subst (λ (w : List ℕ). Answers (stored_laid (set_laid t g) o) a w) (sym measured_same)
          (subst (λ (b : Answer). Answers (stored_laid (set_laid t g) o) b o) (sym h)
          (subst (λ (w : Written). Answers w (refusal_of 10) o)
          (sym (stored_at (set_laid t g) xs o z ∙ if_true _ _ _ (le-leb _ _ fits) ∙ if_false _ _ _ (lt-leb _ _ less)))
          (answers_refused 10 o))))

      module _ (s : r.at ≤ length q) where
        -- what was measured is what the second pass asks for
        pub measured_ready : CanWrite t g → CanLaySet true t g q
        measured_ready y =
            record {
              writable = y;
              fits =
                  λ _.
                  by_items (set_laid t g) o q r false m e
                  (λ xs z n.
                  let end : (image_from true q (set_laid t g)).end ≡ 0 + length (head ++ encode xs) = image_end_lem true q (set_laid t g) xs z in
                  record { given = image_given true q (set_laid t g) xs z; within = omega arith; most = omega arith });
            }

        pub answers_done : (v : List ℕ) (u : Pen) (a : Answer) → DidLaySet true (set_laid t g) q v u → a ≡ written_of r.at
            → Answers (stored_laid (set_laid t g) o) a v
        unfolding stored written_of put_at
        answers_done v u a w h =
            by_items (set_laid t g) o q r false m e
            (λ xs z n.
            let gone : u.short ≡ false = ends_short (set_laid t g) q v u true w ∙ image_given true q (set_laid t g) xs z in
            let fits : length (head ++ encode xs) ≤ most_image = omega arith in
            let room : length (head ++ encode xs) ≤ length o = omega (arith, m.kept) in
            let none : 0 + length (head ++ encode xs) ≡ length (head ++ encode xs) = omega arith in
            subst (λ (b : Answer). Answers (stored_laid (set_laid t g) o) b v) (sym h)
            (subst (λ (x : Written). Answers x (record { verdict = verdict 0 0 0; len = r.at }) v)
            (sym (stored_at (set_laid t g) xs o z ∙ if_true _ _ _ (le-leb _ _ fits) ∙ if_true _ _ _ (le-leb _ _ room)))
            (record {
              said = refl;
              len = n;
              out =
                  sym (put_none v u.at)
                  ∙ sym (last_out u v gone)
                  ∙ ap (λ (x : PassEnd). x.out) w.same
                  ∙ image_out q (set_laid t g) xs z
                  ∙ ap (λ (x : List ℕ). put_at x 0 (head ++ encode xs)) measured_same
                  ∙ ap (λ (k : ℕ). (head ++ encode xs) ++ drop k o) none;
            })))

        pub done_kept : (v : List ℕ) (u : Pen) → DidLaySet true (set_laid t g) q v u → length v ≡ length o
        done_kept v u w = w.kept ∙ m.kept

  pub measured_kept : length q ≡ length o
  measured_kept = m.kept

pub first_ready : (t : Task) (g : Place) (o : List ℕ) → CanWrite t g → CanLaySet false t g o
first_ready t g o y = record { writable = y; fits = λ z. absurd (false≢true z) }

pub ruleset answering =
    (first_ready, answers_lacking, answers_over, answers_short, measured_ready, answers_done, done_kept, measured_kept, rules)
