-- Where a record goes: into the open block, into the next of its reel, or through the packer. Assumes nothing.
use mathlib.Core.Path.{◌≡◌, refl, sym, ap, ◌∙◌, subst}
use mathlib.Core.Bool.{Bool, true, false, false≢true}
use mathlib.Core.List.{List, [], ◌++◌, append-nil}
use Prim.Native.Nat.{ℕ, ◌+◌, ◌-◌, ◌≤◌, ◌<◌}
use native.Mathlib.Omega.{arith}
use borrow.Author.Rules.{rules}
use lib.ListN.{length, take, drop, drop_of_length-le}
use Rattle.base.proofs.Ifs.{if_true}
use Rattle.base.specs.Part.{part}
use Rattle.base.proofs.Parts.{length_part, part_within}
use Rattle.writing.specs.Pack.{Left, going, start_of, blocks_left}
use Rattle.block.specs.Room.{taken}
use Rattle.writing.specs.Lay.{Sequel}
use Rattle.writing.proofs.Packing.{by_test}
use Rattle.writer.specs.declared.pen.Pen.{Pen}
use Rattle.writer.specs.declared.pack.Flow.{Flow}
use Rattle.writer.specs.Code.Pass.{Job, inked, PassEnd, outcome, rest_of, EndsWithin, between, within, fill_due, left_due, penned}
use Rattle.writer.specs.Code.Pens.{CanOpen, CanClose, DidClose, DidOpen, opened}
use Rattle.writer.specs.Code.Packs.{enters_on, Wanting, Blocked, flowed, GoodFlow, CanPack, DidPack}
use Rattle.writer.specs.Code.Records.{GoesIn, GoesNext, CanPutWhole, DidPutWhole, CanPutRecord, DidPutRecord, CanQuickBlock, EntersWhole, GoesWhole}
use Rattle.writer.proofs.NextBlocks.{closable, opens_here}
use Rattle.writer.proofs.Dues.{over_fill, over_left}
use Rattle.writer.proofs.Blocks.{penned_on, penned_short, blocked_here, wanting_ready, blocked_next}
use Rattle.writer.proofs.Steps.{flowed_in, flowed_out}
use Rattle.writer.proofs.Records.{wanting, blocked_wholable, blocked_kept, blocked_recorded}

-- ---- the block for a record

module _ (lay : Bool) (f b : ℕ) (j : Job) (n : ℕ) (p : Pen) (o : List ℕ) (k : Wanting lay f b j n p o) where
  -- into the open block
  module _ (g : GoesIn f b p.on p.used n) where
    in_blocked : Blocked lay f b j n p o o p
    unfolding enters_on
    in_blocked = blocked_here lay f b j n p o k true (sym (if_true _ _ _ g.on ∙ g.enters)) refl

    in_whole : EntersWhole lay f b j n p o o p
    in_whole = record { blocked = in_blocked; given = k.given; whole = g.whole }

  -- into the next block of this reel
  module _ (g : GoesNext f b p.on p.used p.room n) where
    next_ready : CanOpen lay j p o
    next_ready = wanting_ready lay f b j n p o k false (sym g.full) refl

    pub next_closable : CanClose lay p (length o)
    next_closable = closable lay j p o next_ready

    pub next_few : p.count < 1000000
    next_few = omega (arith, k.sound.blocks)

    module _ (q : List ℕ) (c : Pen) (x : DidClose lay p o q c) (r : Pen) (e : r ≡ opened c) where
      reel_room : c.room ≡ 0 → ⊥
      reel_room z = omega (arith, x.room, g.some)

      opens : DidOpen lay j p o q r
      opens = opens_here lay j p o next_ready q c x r reel_room e

      next_given : r.short ≡ false
      next_given = ap (λ (v : Pen). v.short) e

      next_blocked : Blocked lay f b j n p o q r
      next_blocked = blocked_next lay f b j n p o k false (sym g.full) refl q r opens

      next_whole : taken f b r.used n ≡ n
      next_whole = ap (λ (u : ℕ). taken f b u n) (opens.empty next_given) ∙ g.whole

      in_next : EntersWhole lay f b j n p o q r
      in_next = record { blocked = next_blocked; given = next_given; whole = next_whole }

module _ (lay : Bool) (f b n : ℕ) (p : Pen) (o : List ℕ) (k : CanQuickBlock lay f b n p o) where
  pub quick_used : p.used ≤ 99999
  quick_used = k.can.sound.used

  pub quick_in : (t : Bool) → (t ≡ true → GoesIn f b p.on p.used n) → t ≡ true → GoesWhole lay f b n p o o p
  quick_in t g h = record { kept = refl; small = (g h).small; whole = λ j c. in_whole lay f b j n p o c (g h) }

  module _ (t : Bool) (g : t ≡ true → GoesNext f b p.on p.used p.room n) (h : t ≡ true) where
    pub quick_closable : CanClose lay p (length o)
    quick_closable = next_closable lay f b k.file n p o k.can (g h)

    module _ (q : List ℕ) (c : Pen) (x : DidClose lay p o q c) where
      pub quick_room : 1 ≤ c.room
      quick_room = omega (arith, x.room, (g h).some)

      pub quick_few : c.count < 1000000
      quick_few = omega (arith, x.count, next_few lay f b k.file n p o k.can (g h))

      pub quick_kept : length q ≡ length o
      quick_kept = x.kept

      pub quick_next : (r : Pen) → r ≡ opened c → GoesWhole lay f b n p o q r
      quick_next r e = record { kept = x.kept; small = (g h).small; whole = λ j v. in_next lay f b j n p o v (g h) q c x r e }

pub ruleset quicks = (quick_used, quick_in, quick_closable, quick_room, quick_few, quick_next, quick_kept, rules)

-- ---- through the packer

penned_over : (lay : Bool) (f b : ℕ) (j : Job) (p : Pen) (o : List ℕ) (xs : List (List ℕ)) (next : Sequel) → p.on ≡ true
    → p.short ≡ false
    → penned lay f b j p o (between (start_of xs)) next ≡ penned lay f b j p o (within 0 [] xs) next
penned_over lay f b j p o xs next h s =
    penned_on lay f b j p o (between (start_of xs)) next h s
    ∙ ap (λ (cs : List ℕ). outcome lay true p.at p.used o
    (inked p.used cs (rest_of j p (blocks_left f b (left_due f b true p.used (between (start_of xs)))) next)))
    (sym (over_fill f b p.used xs))
    ∙ ap (λ (l : Left). outcome lay true p.at p.used o
    (inked p.used (fill_due f b true p.used (within 0 [] xs)) (rest_of j p (blocks_left f b l) next)))
    (sym (over_left f b p.used xs))
    ∙ sym (penned_on lay f b j p o (within 0 [] xs) next h s)

-- a flow behind the last byte of its record
module _ (lay : Bool) (f b : ℕ) (j : Job) (s : Flow) (o : List ℕ) where
  pub flow_over : (xs : List (List ℕ)) (next : Sequel) (n : ℕ) → GoodFlow f b n s → s.pen.short ≡ false → s.left ≡ 0
      → (s.inside ≡ false → 0 < s.left)
      → penned lay f b j s.pen o (between (start_of xs)) next ≡ flowed lay f b j s o [] xs next
  flow_over xs next n good h left out =
      by_test s.inside
      (λ e.
      let seg : s.seg ≤ s.left = good.seg e in
      let none : 0 ≡ s.seg = omega arith in
      penned_over lay f b j s.pen o xs next (good.on e) h
      ∙ ap (λ (i : ℕ). penned lay f b j s.pen o (within i [] xs) next) none
      ∙ sym (flowed_in lay f b j s o [] xs next e))
      (λ e. let some = out e in absurd (omega arith))

  -- a reel is lacking
  pub flow_short : (x : List ℕ) (xs : List (List ℕ)) (next : Sequel) → s.pen.short ≡ true
      → penned lay f b j s.pen o (between (start_of xs)) next ≡ flowed lay f b j s o x xs next
  unfolding flowed
  flow_short x xs next h = penned_short lay f b j s.pen o _ next h ∙ sym (penned_short lay f b j s.pen o _ next h)

module _ (lay : Bool) (f b : ℕ) (j : Job) (bytes : List ℕ) (from n : ℕ) (p : Pen) (o : List ℕ)
    (k : CanPutRecord lay f b j bytes from n p o) where
  abbrev piece : List ℕ
  piece = take (from + n - from) (drop from bytes)

  abbrev first : Flow
  first = record { pen = p; left = n; seg = 0; from = 0; begun = false; inside = false; on = true }

  is_part : piece ≡ part from n bytes
  is_part = part_within from n bytes

  piece_length : length piece ≡ n
  piece_length = ap length is_part ∙ length_part from n bytes k.inside

  all_first : drop 0 piece ++ [] ≡ part from n bytes
  all_first = append-nil piece ∙ is_part

  flowed_first : (lay : Bool) (xs : List (List ℕ)) (next : Sequel)
      → flowed lay f b j first o (drop 0 piece ++ []) xs next
      ≡ penned lay f b j p o (between (going 0 (part from n bytes) xs)) next
  flowed_first lay xs next =
      flowed_out lay f b j first o (drop 0 piece ++ []) xs next refl
      ∙ ap (λ (l : List ℕ). penned lay f b j p o (between (going 0 l xs)) next) all_first

  pub slow_packable : CanPack lay f b j piece first o
  slow_packable =
      record {
        flowing =
            record {
              sound = k.sound;
              given = k.given;
              good =
                  record {
                    most = k.most;
                    from = omega arith;
                    here = omega (arith, piece_length);
                    enough = λ _. k.enough;
                    on = λ e. absurd (false≢true e);
                    seg = λ e. absurd (false≢true e);
                    split = λ e. absurd (false≢true e);
                    sized = λ e. absurd (false≢true e);
                    fits = λ e. absurd (false≢true e);
                  };
              ahead =
                  λ l.
                  let a = k.ahead l in
                  record {
                    bytes = [];
                    later = a.later;
                    next = a.next;
                    record_length = omega (arith, piece_length);
                    room = a.room;
                    fits =
                        subst (λ (u : PassEnd). EndsWithin u (length o)) (sym (flowed_first true a.later a.next)) a.fits;
                  };
            };
        settled = λ e. absurd (false≢true e);
      }

  pub slow_inside : from + n ≤ length bytes
  slow_inside = k.inside

  module _ (q : List ℕ) (s : Flow) (y : DidPack lay f b j piece first o q s) where
    pub slow_kept : length q ≡ length o
    slow_kept = y.goes.kept

    flowed_last : (xs : List (List ℕ)) (next : Sequel) → s.pen.short ≡ false
        → penned lay f b j s.pen q (between (start_of xs)) next ≡ flowed lay f b j s q (drop s.from piece ++ []) xs next
    flowed_last xs next h =
        let over : length piece ≤ s.from = omega (arith, y.over h) in
        let left : s.left ≡ 0 = omega (arith, y.goes.total, y.over h, piece_length) in
        let rest : [] ≡ drop s.from piece ++ [] = sym (append-nil (drop s.from piece) ∙ drop_of_length-le piece over) in
        flow_over lay f b j s q xs next (length piece) (y.goes.good h) h left (y.out h)
        ∙ ap (λ (l : List ℕ). flowed lay f b j s q l xs next) rest

    pub slow_recorded : DidPutRecord lay f b j (part from n bytes) p o q s.pen
    slow_recorded =
        record {
          sound = y.goes.sound;
          kept = slow_kept;
          untouched = y.goes.untouched;
          same =
              λ xs next room.
              by_test s.pen.short (flow_short lay f b j s q (drop s.from piece ++ []) xs next) (flowed_last xs next)
              ∙ y.goes.same [] xs next (omega (arith, piece_length)) room
              ∙ flowed_first lay xs next;
        }

pub ruleset slows = (slow_packable, slow_inside, slow_kept, slow_recorded, rules)

-- ---- any record

module _ (lay : Bool) (f b : ℕ) (j : Job) (bytes : List ℕ) (from n : ℕ) (p : Pen) (o : List ℕ)
    (k : CanPutRecord lay f b j bytes from n p o) where
  pub record_somewhere : CanQuickBlock lay f b n p o
  record_somewhere = record { file = j; can = wanting lay f b j bytes from n p o k }

  module _ (q : List ℕ) (r : Pen) (y : GoesWhole lay f b n p o q r) where
    enters : EntersWhole lay f b j n p o q r
    enters = y.whole j (wanting lay f b j bytes from n p o k)

    pub record_wholable : CanPutWhole lay f bytes from n r (length q)
    record_wholable = blocked_wholable lay f b j bytes from n p o k q r enters.blocked enters.given enters.whole y.small

    module _ (z : List ℕ) (v : Pen) (x : DidPutWhole lay f bytes from n r q z v) where
      pub record_whole : DidPutRecord lay f b j (part from n bytes) p o z v
      record_whole = blocked_recorded lay f b j bytes from n p o k q r enters.blocked enters.given enters.whole z v x

      pub record_kept : length z ≡ length o
      record_kept = blocked_kept lay f b j bytes from n p o k q r enters.blocked enters.given enters.whole z v x

  module _ (q : List ℕ) (e : q ≡ o) where
    pub record_again : CanPutRecord lay f b j bytes from n p q
    record_again = subst (CanPutRecord lay f b j bytes from n p) (sym e) k

    module _ (z : List ℕ) (v : Pen) (x : DidPutRecord lay f b j (part from n bytes) p q z v) where
      pub record_slow : DidPutRecord lay f b j (part from n bytes) p o z v
      record_slow = subst (λ (l : List ℕ). DidPutRecord lay f b j (part from n bytes) p l z v) e x

      pub record_slow_kept : length z ≡ length o
      record_slow_kept = x.kept ∙ ap length e

pub ruleset placing =
    (record_somewhere, record_wholable, record_whole, record_kept, record_again, record_slow, record_slow_kept, rules)
