-- The next block, on this reel or on the next. Assumes nothing.
use mathlib.Core.Path.{◌≡◌, refl, sym, ap, ◌∙◌, subst}
use mathlib.Core.Bool.{Bool, true, false, false≢true}
use mathlib.Core.List.{List, [], ◌∷◌, ◌++◌}
use Prim.Native.Nat.{ℕ, suc, ◌+◌, ◌-◌, ◌≤◌, ◌<◌}
use native.Mathlib.Omega.{arith}
use native.Mathlib.Numerals.{add-one}
use lib.ListN.{length}
use Rattle.image.specs.Item.{block}
use Rattle.writing.specs.Lay.{Laid, put, Sequel, rest}
use Rattle.sections.proofs.Lengths.{length_block}
use Rattle.writer.specs.declared.pen.Pen.{Pen}
use Rattle.writer.specs.Code.Pass.{reels_at, Job, inked, PassEnd, outcome, rest_of, ends, EndsWithin, Sound}
use Rattle.writer.specs.Code.Pens.{CanOpen, CanClose, DidClose, DidChange, DidOpen, opened}
use Rattle.writer.proofs.Passes.{outcome_open, fits_unit, fits_items}
use Rattle.writer.proofs.Pens.{ends_given, ends_short}

-- ---- the next block

-- this reel has room
changes_here : (lay : Bool) (j : Job) (p : Pen) (o : List ℕ) → Sound j p → p.on ≡ false → (p.room ≡ 0 → ⊥)
    → DidChange lay j p o o p
changes_here lay j p o s h n =
    record { sound = s; kept = refl; untouched = λ _. refl; shut = h; room = λ _. omega arith; same = λ y ys next. refl }

module _ (lay : Bool) (j : Job) (p : Pen) (o : List ℕ) (ready : CanOpen lay j p o) where
  pub closable : CanClose lay p (length o)
  closable =
      record {
        used = ready.sound.used;
        place = omega (arith, ready.sound.place, ready.sound.within, ready.sound.reels.few, ready.sound.turn);
        room =
            λ l h.
            let a = ready.ahead l in
            let w : EndsWithin (outcome true true p.at p.used o (inked p.used ([] ++ []) (rest_of j p (a.first ∷ a.later) a.next))) (length o)
            = subst (λ (w : PassEnd). EndsWithin w (length o)) (ends_given true j p o [] (a.first ∷ a.later) a.next true ready.given h) a.fits in
            let r = fits_unit true p.at p.used o [] [] (rest_of j p (a.first ∷ a.later) a.next) (length o) w in
            omega (arith, r.0);
      }

  module _ (q : List ℕ) (c : Pen) (x : DidClose lay p o q c) where
    pub closed_shut : c.on ≡ false
    closed_shut = x.shut

    pub closed_ready : CanOpen lay j c q
    closed_ready =
        record {
          sound = x.sound j ready.sound;
          given = x.short ∙ ready.given;
          ahead =
              λ l.
              let a = ready.ahead l in
              let w : ends true j c q [] (a.first ∷ a.later) a.next ≡ ends true j p o [] (a.first ∷ a.later) a.next
              = subst (λ (t : Bool). ends t j c q [] (a.first ∷ a.later) a.next ≡ ends t j p o [] (a.first ∷ a.later) a.next) l (x.same j (a.first ∷ a.later) a.next) in
              let f : EndsWithin (ends true j c q [] (a.first ∷ a.later) a.next) (length o) = subst (λ (u : PassEnd). EndsWithin u (length o)) (sym w) a.fits in
              record {
                first = a.first;
                later = a.later;
                next = a.next;
                fits = subst (EndsWithin (ends true j c q [] (a.first ∷ a.later) a.next)) (sym x.kept) f;
              };
        }

    turned_by : (z : List ℕ) (d : Pen) → DidChange lay j c q z d → DidChange lay j p o z d
    turned_by z d y =
        record {
          sound = y.sound;
          kept = y.kept ∙ x.kept;
          untouched = λ l. y.untouched l ∙ x.untouched l;
          shut = y.shut;
          room = y.room;
          same = λ b bs next. y.same b bs next ∙ x.same j (b ∷ bs) next;
        }

  module _ (z : List ℕ) (d : Pen) (y : DidChange lay j p o z d) where
    pub opens_kept : length z ≡ length o
    opens_kept = y.kept

    opens_short : d.short ≡ true → DidOpen lay j p o z d
    opens_short s =
        record {
          sound = y.sound;
          kept = opens_kept;
          untouched = λ l. y.untouched l;
          ready = λ e. absurd (false≢true (sym e ∙ s));
          empty = λ e. absurd (false≢true (sym e ∙ s));
          same =
              λ b bs next.
              ends_short lay j d z b bs next s
              ∙ sym (ends_short lay j d z [] (b ∷ bs) next s)
              ∙ y.same b bs next;
        }

    opens_few : d.count < 1000000
    opens_few = omega (arith, y.sound.blocks)

    rest_open : (b : List ℕ) (bs : List (List ℕ)) (next : Sequel) → d.short ≡ false
        → put (block b ∷ []) (rest_of j (opened d) bs next) ≡ rest_of j d (b ∷ bs) next
    unfolding rest_of rest
    rest_open b bs next s =
        let some : 1 ≤ d.room = y.room s in
        let more : d.room ≡ suc (d.room - 1) = omega arith in
        ap (λ (k : ℕ). put (block b ∷ [])
        (rest j.set j.entry j.sequence d.section k (d.room - 1) (reels_at j.rooms j.names d.next) bs next))
        (add-one d.count)
        ∙ ap (λ (k : ℕ). rest j.set j.entry j.sequence d.section d.count k
        (reels_at j.rooms j.names d.next) (b ∷ bs) next) (sym more)

    -- how it ends before the block, from a reel with room
    ends_ahead : (b : List ℕ) (bs : List (List ℕ)) (next : Sequel) → d.short ≡ false
        → outcome lay false d.at d.used z (inked d.used [] (put (block b ∷ []) (rest_of j (opened d) bs next)))
        ≡ ends lay j p o [] (b ∷ bs) next
    ends_ahead b bs next s =
        ap (λ (l : Laid). outcome lay false d.at d.used z (inked d.used [] l)) (rest_open b bs next s)
        ∙ sym (ends_given lay j d z [] (b ∷ bs) next false s y.shut)
        ∙ y.same b bs next

    word_free : d.short ≡ false → lay ≡ true → d.at + 3 ≤ length z
    word_free s l =
        let a = ready.ahead l in
        let e : outcome true false d.at d.used z (inked d.used [] (put (block a.first ∷ []) (rest_of j (opened d) a.later a.next))) ≡ ends true j p o [] (a.first ∷ a.later) a.next
        = subst (λ (t : Bool). outcome t false d.at d.used z
        (inked d.used [] (put (block a.first ∷ []) (rest_of j (opened d) a.later a.next)))
        ≡ ends t j p o [] (a.first ∷ a.later) a.next) l
        (ends_ahead a.first a.later a.next s) in
        let w = subst (λ (u : PassEnd). EndsWithin u (length o)) (sym e) a.fits in
        let r = fits_items true d.at d.used z (block a.first ∷ []) (rest_of j (opened d) a.later a.next) (length o) w in
        omega (arith, r.0, length_block a.first [], opens_kept)

    opened_sound : d.short ≡ false → Sound j (opened d)
    opened_sound s =
        let some = y.room s in
        let v = y.sound in
        record {
          blocks = omega (arith, v.blocks);
          begun = v.begun;
          sections = v.sections;
          reels = v.reels;
          within = v.within;
          turn = v.turn;
          used = omega arith;
          place = omega (arith, v.place);
          on = λ _. omega (arith, v.place);
        }

    pub opens_on : (r : Pen) → d.short ≡ false → r ≡ opened d → DidOpen lay j p o z r
    opens_on r s e =
        subst (DidOpen lay j p o z) (sym e)
        (record {
          sound = opened_sound s;
          kept = opens_kept;
          untouched = λ l. y.untouched l;
          ready = λ _. refl;
          empty = λ _. refl;
          same =
              λ b bs next.
              ends_given lay j (opened d) z b bs next true refl refl
              ∙ outcome_open lay d.at d.used z b (rest_of j (opened d) bs next) (word_free s)
              ∙ ends_ahead b bs next s;
        })

  module _ (q : List ℕ) (c : Pen) (x : DidClose lay p o q c) where
    pub here_kept : length q ≡ length o
    here_kept = x.kept

    -- the block is opened on this reel
    pub opens_here : (r : Pen) → (c.room ≡ 0 → ⊥) → r ≡ opened c → DidOpen lay j p o q r
    opens_here r n e =
        opens_on q c (turned_by q c x q c (changes_here lay j c q (x.sound j ready.sound) x.shut n)) r
        (x.short ∙ ready.given) e

    module _ (z : List ℕ) (d : Pen) (y : DidChange lay j c q z d) where
      pub next_kept : length z ≡ length o
      next_kept = y.kept ∙ x.kept

      pub next_short : d.short ≡ true → DidOpen lay j p o z d
      next_short s = opens_short z d (turned_by q c x z d y) s

      pub next_room : d.short ≡ false → 1 ≤ d.room
      next_room s = y.room s

      pub next_few : d.count < 1000000
      next_few = opens_few z d (turned_by q c x z d y)

      -- or on the next
      pub opens_next : (r : Pen) → d.short ≡ false → r ≡ opened d → DidOpen lay j p o z r
      opens_next r s e = opens_on z d (turned_by q c x z d y) r s e
