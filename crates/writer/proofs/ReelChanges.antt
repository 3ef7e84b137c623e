-- The change of the reel where there is no more room. Assumes nothing.
use mathlib.Core.Path.{◌≡◌, refl, sym, ap, ap₂, ◌∙◌, subst}
use mathlib.Core.Bool.{Bool, true, false, false≢true}
use mathlib.Core.List.{List, [], ◌∷◌, ◌++◌, append_assoc}
use Prim.Native.Nat.{ℕ, suc, pred, ◌+◌, ◌-◌, ◌*◌, ◌≤◌, ◌<◌}
use native.Mathlib.Omega.{arith}
use native.Mathlib.Numerals.{add-one}
use borrow.Author.Rules.{rules}
use lib.ListN.{length, take, drop, get_or, length-drop, drop_of_length-le}
use lib.Seq.{drop-drop, drop-cons}
use Rattle.base.specs.Part.{part, put_in}
use Rattle.base.proofs.Parts.{part_part}
use Rattle.image.specs.Item.{Item, block, encode}
use Rattle.label.specs.Made.{made_volume}
use Rattle.writing.specs.Lay.{Reel, Laid, laid, short, put, Sequel, rest}
use Rattle.sections.specs.Section.{headers, volume_end, entry_in, sequence_in, set_in}
use Rattle.sheet.specs.Flat.{in_parts}
use Rattle.sheet.proofs.Cutting.{parts_some}
use Rattle.base.proofs.Copies.{kept_in}
use Rattle.sections.proofs.Lengths.{length_change}
use Rattle.writer.specs.declared.pen.Pen.{Pen}
use Rattle.writer.specs.Code.Pass.{over_long, Reels, reels_from, reels_at, Job, job_with, ink_at, inked, PassEnd, outcome, rest_of, EndsWithin, Sound}
use Rattle.writer.specs.Code.Pens.{CanOpen, DidChange}
use Rattle.writer.proofs.Written.{ink_made}
use Rattle.writer.proofs.Passes.{ink_none, ink_length, outcome_items, fits_items}
use Rattle.writer.proofs.Pens.{ends_given, ends_short}

-- ---- the reels that are left

pub put_append : (xs ys : List Item) (l : Laid) → put (xs ++ ys) l ≡ put xs (put ys l)
unfolding put
put_append xs ys (laid zs) = ap laid (append_assoc xs ys zs)
put_append xs ys short = refl

reels_none : (rooms names : List ℕ) (i : ℕ) → length rooms ≤ i → reels_at rooms names i ≡ []
unfolding reels_at reels_from
reels_none rooms names i h = ap (λ (qs : List ℕ). reels_from qs (in_parts 6 (drop (6 * i) names))) (drop_of_length-le rooms h)

pub reels_some : (rooms names : List ℕ) (i : ℕ) → Reels rooms names → i < length rooms
    → reels_at rooms names i ≡ record { name = part (6 * i) 6 names; room = get_or rooms i 0 } ∷ reels_at rooms names (i + 1)
unfolding reels_at reels_from part
reels_some rooms names i r h =
    let l : length (drop (6 * i) names) ≡ length names - 6 * i = length-drop (6 * i) names in
    let six : 6 * i + 6 ≡ 6 * (i + 1) = omega arith in
    ap (λ (qs : List ℕ). reels_from qs (in_parts 6 (drop (6 * i) names))) (drop-cons rooms i 0 h)
    ∙ ap (reels_from (get_or rooms i 0 ∷ drop (suc i) rooms))
    (parts_some 6 (drop (6 * i) names) (omega arith) (omega (arith, r.whole)))
    ∙ ap (λ (k : ℕ). record { name = take 6 (drop (6 * i) names); room = get_or rooms i 0 } ∷
    reels_from (drop k rooms) (in_parts 6 (drop 6 (drop (6 * i) names)))) (sym (add-one i))
    ∙ ap (λ (s : List ℕ). record { name = take 6 (drop (6 * i) names); room = get_or rooms i 0 } ∷
    reels_from (drop (i + 1) rooms) (in_parts 6 s))
    (drop-drop 6 (6 * i) names ∙ ap (λ (k : ℕ). drop k names) six)

-- ---- the change of the reel

abbrev changed : Job → Pen → List Item
changed j p =
    volume_end j.set j.entry p.section j.sequence p.count
    ++ (block (made_volume (part (6 * p.next) 6 j.names)) ∷ headers j.set j.entry (suc p.section) j.sequence)

length_changed : (j : Job) (p : Pen) → length (encode (changed j p)) ≡ 430
length_changed j p =
    length_change j.set j.entry p.section j.sequence p.count (suc p.section) (part (6 * p.next) 6 j.names)

-- with no room, and a reel left: the reel is changed, and then there is room
abbrev room_next : Job → Pen → ℕ
room_next j p = get_or j.rooms p.next 0

abbrev next_reel_lem : Job → Pen → Pen
next_reel_lem j p =
    record { at = p.at + 430; used = 0; room = room_next j p; next = p.next + 1; section = p.section + 1; count = 0; on = false; short = false }

abbrev resting : Job → Pen → ℕ → ℕ → List Reel → List (List ℕ) → Sequel → Laid
resting j p count room reels bs next = rest j.set j.entry j.sequence (suc p.section) count room reels bs next

rest_change : (j : Job) (p : Pen) (y : List ℕ) (ys : List (List ℕ)) (next : Sequel) → Reels j.rooms j.names → p.room ≡ 0
    → p.next < length j.rooms
    → put (changed j p) (rest_of j (next_reel_lem j p) (y ∷ ys) next) ≡ rest_of j p (y ∷ ys) next
unfolding rest_of rest
rest_change j p y ys next r none n =
    let some : 1 ≤ room_next j p = r.least p.next n in
    let more : room_next j p ≡ suc (pred (room_next j p)) = omega arith in
    let left : List Reel = reels_at j.rooms j.names (p.next + 1) in
    ap (λ (k : ℕ). put (changed j p) (rest j.set j.entry j.sequence k 0 (room_next j p) left (y ∷ ys) next))
    (add-one p.section)
    ∙ ap (λ (k : ℕ). put (changed j p) (resting j p 0 k left (y ∷ ys) next)) more
    ∙ sym (put_append (changed j p) (block y ∷ []) (resting j p 1 (pred (room_next j p)) left ys next))
    ∙ ap (λ (rs : List Reel). rest j.set j.entry j.sequence p.section p.count 0 rs (y ∷ ys) next)
    (sym (reels_some j.rooms j.names p.next r n))
    ∙ ap (λ (k : ℕ). rest j.set j.entry j.sequence p.section p.count k (reels_at j.rooms j.names p.next)
    (y ∷ ys) next) (sym none)

rest_short : (j : Job) (p : Pen) (y : List ℕ) (ys : List (List ℕ)) (next : Sequel) → p.room ≡ 0 → length j.rooms ≤ p.next
    → rest_of j p (y ∷ ys) next ≡ short
unfolding rest_of rest
rest_short j p y ys next none n =
    ap (λ (k : ℕ). rest j.set j.entry j.sequence p.section p.count k (reels_at j.rooms j.names p.next)
    (y ∷ ys) next) none
    ∙ ap (λ (rs : List Reel). rest j.set j.entry j.sequence p.section p.count 0 rs (y ∷ ys) next)
    (reels_none j.rooms j.names p.next n)

module _ (lay : Bool) (j : Job) (p : Pen) (o : List ℕ) (ready : CanOpen lay j p o) (shut : p.on ≡ false) (none : p.room ≡ 0) where
  sound : Sound j p
  sound = ready.sound

  given : p.short ≡ false
  given = ready.given

  pub changes_short : length j.rooms ≤ p.next
      → DidChange lay j p o o
      (record { at = p.at; used = 0; room = p.room; next = p.next; section = p.section; count = p.count; on = false; short = true })
  unfolding outcome inked
  changes_short n =
      record {
        sound =
            record {
              blocks = sound.blocks;
              begun = sound.begun;
              sections = sound.sections;
              reels = sound.reels;
              within = sound.within;
              turn = sound.turn;
              used = omega arith;
              place = sound.place;
              on = λ z. absurd (false≢true z);
            };
        kept = refl;
        untouched = λ _. refl;
        shut = refl;
        room = λ z. absurd (false≢true (sym z));
        same =
            λ y ys next.
            ends_short lay j _ o [] (y ∷ ys) next refl
            ∙ sym
            (ends_given lay j p o [] (y ∷ ys) next false given shut
            ∙ ap (λ (l : Laid). outcome lay false p.at p.used o (inked p.used [] l)) (rest_short j p y ys next none n));
      }

  module _ (n : p.next < length j.rooms) where
    items_room : lay ≡ true
        → (p.at + length (encode (changed j p)) ≤ length o) × (p.at + length (encode (changed j p)) < over_long)
    items_room l =
        let a = ready.ahead l in
        fits_items true p.at p.used o (changed j p) (rest_of j (next_reel_lem j p) (a.first ∷ a.later) a.next) (length o)
        (subst (λ (w : PassEnd). EndsWithin w (length o))
        (ends_given true j p o [] (a.first ∷ a.later) a.next false given shut
        ∙ ap (λ (l : Laid). outcome true false p.at p.used o (inked p.used [] l))
        (sym (rest_change j p a.first a.later a.next sound.reels none n)))
        a.fits)

    some : 1 ≤ room_next j p
    some = sound.reels.least p.next n

    most : room_next j p ≤ 999999
    most = sound.reels.most p.next n

    changed_sound : Sound j (next_reel_lem j p)
    changed_sound =
        record {
          reels = sound.reels;
          blocks = omega (arith, most);
          begun = omega arith;
          sections = omega (arith, sound.sections);
          within = omega (arith, n);
          turn = sound.turn;
          used = omega arith;
          place = omega (arith, sound.place, most);
          on = λ z. absurd (false≢true z);
        }

    changed_by : (q : List ℕ) → q ≡ ink_at lay o p.at (encode (changed j p)) → DidChange lay j p o q (next_reel_lem j p)
    changed_by q e =
        record {
          sound = changed_sound;
          kept = ap length e ∙ ink_length lay o p.at (encode (changed j p)) (λ l. (items_room l).0);
          untouched = λ l. e ∙ ink_none lay o p.at (encode (changed j p)) l;
          shut = refl;
          room = λ _. some;
          same =
              λ y ys next.
              ends_given lay j (next_reel_lem j p) q [] (y ∷ ys) next false refl refl
              ∙ ap (λ (l : List ℕ). outcome lay false (p.at + 430) 0 l (inked 0 [] (rest_of j (next_reel_lem j p) (y ∷ ys) next))) e
              ∙ ap (λ (k : ℕ). outcome lay false (p.at + k) 0 (ink_at lay o p.at (encode (changed j p)))
              (inked 0 [] (rest_of j (next_reel_lem j p) (y ∷ ys) next))) (sym (length_changed j p))
              ∙ outcome_items lay p.at 0 p.used o (changed j p) (rest_of j (next_reel_lem j p) (y ∷ ys) next)
              (λ l. (items_room l).0)
              ∙ ap (λ (l : Laid). outcome lay false p.at p.used o (inked p.used [] l))
              (rest_change j p y ys next sound.reels none n)
              ∙ sym (ends_given lay j p o [] (y ∷ ys) next false given shut);
        }

    pub changes_measured : lay ≡ false → DidChange lay j p o o (next_reel_lem j p)
    changes_measured l = changed_by o (sym (ink_none lay o p.at (encode (changed j p)) l))

    changes_room : lay ≡ true → p.at + 430 ≤ length o
    changes_room l = omega (arith, (items_room l).0, length_changed j p)

    changes_made : (q name s : List ℕ) → lay ≡ true → name ≡ part (6 * p.next) 6 j.names
        → s ≡ encode
        (volume_end j.set j.entry p.section j.sequence p.count ++
        (block (made_volume name) ∷ headers j.set j.entry (p.section + 1) j.sequence))
        → q ≡ put_in o p.at s
        → DidChange lay j p o q (next_reel_lem j p)
    changes_made q name s l e h w =
        let made : s ≡ encode (changed j p)
        = h ∙ ap₂ (λ (m : List ℕ) (k : ℕ). encode (volume_end j.set j.entry p.section j.sequence p.count ++ (block (made_volume m) ∷ headers j.set j.entry k j.sequence))) e (add-one p.section) in
        changed_by q (ink_made lay o p.at 430 (encode (changed j p)) s q (length_changed j p) changes_room l made w)

  pub section_small : p.section < 1000
  section_small = omega (arith, sound.sections, sound.within, sound.reels.few)

  pub next_small : p.next < length j.rooms → p.next < 1000
  next_small n = omega (arith, sound.reels.few)

  pub place_small : p.at ≤ 1000000000000000
  place_small = omega (arith, sound.place, sound.within, sound.reels.few, sound.turn)

-- the name of the next reel, as the label parts have it
pub changes_laid : (lay : Bool) (labels rooms : List ℕ) (p : Pen) (o : List ℕ) → CanOpen lay (job_with labels rooms) p o
    → p.on ≡ false → p.room ≡ 0 → p.next < length rooms
    → (q name s : List ℕ) → lay ≡ true → name ≡ part (53 + 6 * p.next) 6 labels
    → s ≡ encode
    (volume_end (set_in labels) (entry_in labels) p.section (sequence_in labels) p.count ++
    (block (made_volume name) ∷ headers (set_in labels) (entry_in labels) (p.section + 1) (sequence_in labels)))
    → q ≡ put_in o p.at s
    → DidChange lay (job_with labels rooms) p o q (next_reel_lem (job_with labels rooms) p)
changes_laid lay labels rooms p o ready shut none n q name s l e h w =
    changes_made lay (job_with labels rooms) p o ready shut none n q name s l
    (e ∙ sym (part_part 53 (6 * p.next) 6 (6 * length rooms) labels (omega arith))) h w

pub ruleset changing =
    (changes_short, changes_measured, changes_laid, kept_in, section_small, next_small, place_small, rules)
