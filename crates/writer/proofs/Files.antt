-- The labels before the blocks of a file and behind them, as they are laid down. Assumes nothing.
use mathlib.Core.Path.{◌≡◌, refl, sym, ap, ◌∙◌, subst}
use mathlib.Core.Bool.{Bool, true, false, false≢true}
use mathlib.Core.List.{List, [], ◌++◌}
use Prim.Native.Nat.{ℕ, ◌+◌, ◌≤◌}
use native.Mathlib.Omega.{arith}
use borrow.Author.Rules.{rules}
use mir.Val.{Fits as FitsIn}
use mir.Syntax.{w64}
use lib.ListN.{length, length-append}
use Rattle.base.specs.If.{if_b}
use Rattle.base.proofs.Ifs.{if_true, if_false, if_same}
use Rattle.base.specs.Part.{put_in}
use Rattle.image.specs.Item.{Item, encode}
use Rattle.image.proofs.RoundTrip.{encode_append}
use Rattle.reading.specs.Legal.{format_from, block_length_from}
use Rattle.writing.specs.Pack.{Left, finished, blocks_left, blocks_f, weight}
use Rattle.writing.specs.Lay.{Laid, laid, short, put, Sequel, rest}
use Rattle.sections.specs.Section.{headers, file_end}
use Rattle.writer.specs.declared.pen.Pen.{Pen}
use Rattle.writer.specs.declared.source.Cursor.{Cursor}
use Rattle.writer.specs.declared.body.Body.{Body}
use Rattle.writer.specs.Code.Pass.{reels_at, Job, job, ink_at, inked, PassEnd, behind, inked_at, outcome, rest_of, ends, laid_from, EndsWithin, between, fill_of, after_of, fill_due, left_due, penned}
use Rattle.writer.specs.Code.Pens.{CanClose, DidClose}
use Rattle.writer.specs.Code.Bodies.{CanPutRecords, DidPutRecords}
use Rattle.writer.specs.Code.Files.{CanBegin, begun, DidBegin, CanEnd, DidEnd, CanPutEnd, DidPutEnd}
use Rattle.base.proofs.Copies.{kept_in}
use Rattle.sections.proofs.Lengths.{length_headers, length_file_end}
use Rattle.writer.proofs.Written.{ink_made}
use Rattle.writer.proofs.Passes.{ink_none, ink_length, outcome_items, fits_items}
use Rattle.writer.proofs.Pens.{ends_given}

-- ---- between blocks, the bytes of an open block do not count

outcome_shut : (lay : Bool) (at u : ℕ) (o : List ℕ) (l : Laid)
    → outcome lay false at u o (inked u [] l) ≡ outcome lay false at 0 o (inked 0 [] l)
unfolding outcome inked inked_at behind if_b
outcome_shut lay at u o (laid xs) = refl
outcome_shut lay at u o short = refl

pub laid_given : (lay : Bool) (p : Pen) (o : List ℕ) (l : Laid) → p.short ≡ false
    → laid_from lay p o l ≡ outcome lay false p.at 0 o (inked 0 [] l)
unfolding laid_from
laid_given lay p o l e = ap (outcome lay false p.at 0 o) (if_false _ _ _ e)

pub laid_short : (lay : Bool) (p : Pen) (o : List ℕ) (l : Laid) → p.short ≡ true
    → laid_from lay p o l ≡ record { out = []; end = 0; short = true }
unfolding laid_from outcome
laid_short lay p o l e = ap (outcome lay false p.at 0 o) (if_true _ _ _ e)

-- items are laid between files
pub laid_items : (lay : Bool) (p r : Pen) (o q : List ℕ) (ys : List Item) (l : Laid) (n : ℕ) → p.short ≡ false → r.short ≡ false
    → r.at ≡ p.at + n
    → length (encode ys) ≡ n → q ≡ ink_at lay o p.at (encode ys) → (lay ≡ true → p.at + n ≤ length o)
    → laid_from lay r q l ≡ laid_from lay p o (put ys l)
laid_items lay p r o q ys l n s t e long w room =
    laid_given lay r q l t
    ∙ ap (λ (k : ℕ). outcome lay false k 0 q (inked 0 [] l)) (e ∙ ap (λ (k : ℕ). p.at + k) (sym long))
    ∙ ap (λ (x : List ℕ). outcome lay false (p.at + length (encode ys)) 0 x (inked 0 [] l)) w
    ∙ outcome_items lay p.at 0 0 o ys l (λ h. let r = room h in omega arith)
    ∙ sym (laid_given lay p o (put ys l) s)

-- items behind an open block have room
pub fits_tail : (at u : ℕ) (o : List ℕ) (ys : List Item) (l : Laid) (size : ℕ)
    → EndsWithin (outcome true true at u o (inked u [] (put ys l))) size
    → at + 3 + u + length (encode ys) ≤ size
unfolding outcome inked behind if_b put
fits_tail at u o ys short size w = absurd (false≢true (sym w.given))
fits_tail at u o ys (laid xs) size w =
    let long : length (encode (ys ++ xs)) ≡ length (encode ys) + length (encode xs) = ap length (encode_append ys xs) ∙ length-append (encode ys) (encode xs) in
    let end : at + 3 + u + length (encode (ys ++ xs)) ≤ size = w.within in
    omega arith

-- and have room
pub laid_room : (p : Pen) (o : List ℕ) (ys : List Item) (l : Laid) (n : ℕ) → p.short ≡ false → length (encode ys) ≡ n
    → EndsWithin (laid_from true p o (put ys l)) (length o)
    → p.at + n ≤ length o
laid_room p o ys l n s long f =
    let r = fits_items true p.at 0 o ys l (length o) (subst (λ (w : PassEnd). EndsWithin w (length o)) (laid_given true p o (put ys l) s) f) in
    omega (arith, r.0)

-- ---- the numbers of an entry, as the code reads them

module _ (lay : Bool) (f b : ℕ) (e : List ℕ) (j : Job) (lengths bytes : List ℕ) (c : Cursor) (p : Pen) (o : List ℕ)
    (h : f ≡ format_from e) (k : b ≡ block_length_from e) where
  pub bodied_of : CanPutRecords lay (format_from e) (block_length_from e) j lengths bytes c p o
      → CanPutRecords lay f b j lengths bytes c p o
  bodied_of y =
      subst (λ (g : ℕ). CanPutRecords lay g b j lengths bytes c p o) (sym h)
      (subst (λ (g : ℕ). CanPutRecords lay (format_from e) g j lengths bytes c p o) (sym k) y)

  pub put_of : (q : List ℕ) (r : Body) → DidPutRecords lay f b j lengths bytes c p o q r
      → DidPutRecords lay (format_from e) (block_length_from e) j lengths bytes c p o q r
  put_of q r y =
      subst (λ (g : ℕ). DidPutRecords lay g (block_length_from e) j lengths bytes c p o q r) h
      (subst (λ (g : ℕ). DidPutRecords lay f g j lengths bytes c p o q r) k y)

-- ---- the header labels

module _ (lay : Bool) (set e : List ℕ) (sequence : ℕ) (p : Pen) (o : List ℕ) (y : CanBegin lay p (length o)) where
  pub begin_fits : FitsIn w64 (p.at + 169)
  begin_fits = record { fits = omega (arith, y.place) }

  headers_room : lay ≡ true → p.at + length (encode (headers set e 1 sequence)) ≤ length o
  headers_room l = let r = y.room l in omega (arith, length_headers set e 1 sequence)

  begkept_in : (q : List ℕ) → q ≡ ink_at lay o p.at (encode (headers set e 1 sequence)) → length q ≡ length o
  begkept_in q h = ap length h ∙ ink_length lay o p.at (encode (headers set e 1 sequence)) headers_room

  begins : (q : List ℕ) → q ≡ ink_at lay o p.at (encode (headers set e 1 sequence))
      → DidBegin lay set e sequence p o q (begun p)
  begins q h = record { is = refl; laid = h; kept = begkept_in q h }

  pub begins_measured : lay ≡ false → DidBegin lay set e sequence p o o (begun p)
  begins_measured l = begins o (sym (ink_none lay o p.at (encode (headers set e 1 sequence)) l))

  pub begins_laid : (s q : List ℕ) → lay ≡ true → s ≡ encode (headers set e 1 sequence) → q ≡ put_in o p.at s
      → DidBegin lay set e sequence p o q (begun p)
  begins_laid s q l h w =
      begins q (ink_made lay o p.at 169 (encode (headers set e 1 sequence)) s q (length_headers set e 1 sequence) y.room l h w)

pub ruleset beginning = (begin_fits, begins_measured, begins_laid, kept_in, rules)

-- ---- the trailer labels

behind_small : (is_open : Bool) (at u : ℕ) → behind is_open at u ≤ at + 3 + u
unfolding behind if_b
behind_small true at u = omega arith
behind_small false at u = omega arith

abbrev closed_end : Pen → Pen
closed_end c =
    record { at = c.at + 172; used = 0; room = c.room; next = c.next; section = c.section; count = c.count; on = false; short = false }

module _ (lay : Bool) (set e : List ℕ) (sequence : ℕ) (p : Pen) (o : List ℕ) (y : CanEnd lay p (length o)) where
  module _ (q : List ℕ) (c : Pen) (x : DidClose lay p o q c) where
    end_room : lay ≡ true → c.at + 172 ≤ length q
    end_room l = let r = y.room l in omega (arith, x.kept, x.place)

    end_fits : FitsIn w64 (c.at + 172)
    end_fits =
        record { fits = omega (arith, x.place, y.closable.place, y.closable.used, behind_small p.on p.at p.used) }

    trailer_room : lay ≡ true → c.at + length (encode (file_end set e c.section sequence c.count)) ≤ length q
    trailer_room l = let r = end_room l in omega (arith, length_file_end set e c.section sequence c.count)

    module _ (z : List ℕ) (h : z ≡ ink_at lay q c.at (encode (file_end set e c.section sequence c.count))) where
      end_kept : length z ≡ length o
      end_kept =
          ap length h ∙ ink_length lay q c.at (encode (file_end set e c.section sequence c.count)) trailer_room ∙ x.kept

      -- behind the last record the open block is only to be closed, and then the file ends
      finished_end : (f b : ℕ) (j : Job) (next : Sequel) → p.short ≡ false
          → penned lay f b j p o (between finished) next
          ≡ outcome lay false c.at c.used q
          (inked c.used [] (put (file_end j.set j.entry c.section j.sequence c.count)
          (next c.room (reels_at j.rooms j.names c.next))))
      unfolding penned fill_due left_due fill_of after_of blocks_left blocks_f weight rest_of rest
      finished_end f b j next s =
          ap (λ (cs : List ℕ). ends lay j p o cs (blocks_left f b (if_b p.on finished finished)) next) (if_same p.on [])
          ∙ ap (λ (l : Left). ends lay j p o [] (blocks_left f b l) next) (if_same p.on finished)
          ∙ sym (x.same j [] next)
          ∙ ends_given lay j c q [] [] next false (x.short ∙ s) x.shut

      ends_by : DidEnd lay set e sequence p o z (closed_end c)
      ends_by =
          record {
            sound =
                λ rooms names s few.
                let t = x.sound (job set e sequence rooms names) s in
                record {
                  reels = t.reels;
                  blocks = t.blocks;
                  begun = t.begun;
                  sections = t.sections;
                  within = t.within;
                  turn = omega arith;
                  used = omega arith;
                  place = omega (arith, t.place);
                  on = λ w. absurd (false≢true w);
                };
            kept = end_kept;
            untouched =
                λ l. h ∙ ink_none lay q c.at (encode (file_end set e c.section sequence c.count)) l ∙ x.untouched l;
            shut = refl;
            given = refl;
            same =
                λ f b rooms names next s.
                let j : Job = job set e sequence rooms names in
                let l : Laid = next c.room (reels_at rooms names c.next) in
                laid_items lay c (closed_end c) q z (file_end set e c.section sequence c.count) l 172 (x.short ∙ s) refl refl
                (length_file_end set e c.section sequence c.count) h end_room
                ∙ laid_given lay c q (put (file_end set e c.section sequence c.count) l) (x.short ∙ s)
                ∙ sym (outcome_shut lay c.at c.used q (put (file_end set e c.section sequence c.count) l))
                ∙ sym (finished_end f b j next s);
          }

module _ (lay : Bool) (set e : List ℕ) (sequence : ℕ) (x : Body) (o : List ℕ) (y : CanPutEnd lay x (length o)) where
  pub tail_short : x.pen.short ≡ true → DidPutEnd lay set e sequence x o o x
  tail_short s = record { kept = refl; end = refl; lacks = λ _. (refl, refl); given = λ t. absurd (false≢true (sym t ∙ s)) }

  module _ (s : x.pen.short ≡ false) where
    pub tail_closable : CanClose lay x.pen (length o)
    tail_closable = (y.endable s).closable

    module _ (q : List ℕ) (c : Pen) (k : DidClose lay x.pen o q c) where
      pub tail_kept : length q ≡ length o
      tail_kept = k.kept

      tail_room : lay ≡ true → c.at + 172 ≤ length q
      tail_room l = end_room lay set e sequence x.pen o (y.endable s) q c k l

      pub tail_fits : FitsIn w64 (c.at + 172)
      tail_fits = end_fits lay set e sequence x.pen o (y.endable s) q c k

      tailed_by : (z : List ℕ) → z ≡ ink_at lay q c.at (encode (file_end set e c.section sequence c.count))
          → DidPutEnd lay set e sequence x o z (record { pen = closed_end c; end = x.end })
      tailed_by z h =
          let w = ends_by lay set e sequence x.pen o (y.endable s) q c k z h in
          record { kept = w.kept; end = refl; lacks = λ t. absurd (false≢true (sym s ∙ t)); given = λ _. w }

      pub tailed_measured : lay ≡ false → DidPutEnd lay set e sequence x o q (record { pen = closed_end c; end = x.end })
      tailed_measured l = tailed_by q (sym (ink_none lay q c.at (encode (file_end set e c.section sequence c.count)) l))

      pub tailed_laid : (s z : List ℕ) → lay ≡ true → s ≡ encode (file_end set e c.section sequence c.count)
          → z ≡ put_in q c.at s
          → DidPutEnd lay set e sequence x o z (record { pen = closed_end c; end = x.end })
      tailed_laid s z l h w =
          tailed_by z
          (ink_made lay q c.at 172 (encode (file_end set e c.section sequence c.count)) s z
          (length_file_end set e c.section sequence c.count) tail_room l h w)

pub tail_all_kept : (lay : Bool) (x : Pen) (o q z s : List ℕ) (c : Pen) (at : ℕ) → DidClose lay x o q c → z ≡ put_in q at s
    → length z ≡ length o
tail_all_kept lay x o q z s c at k w = kept_in q at s z w ∙ k.kept

pub ruleset tails =
    (tail_short, tail_closable, tail_kept, tail_fits, tailed_measured, tailed_laid, tail_all_kept, rules)
