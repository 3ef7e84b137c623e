-- The whole walk, over data blocks in a row and all other items, and the verdict. Assumes nothing.
use mathlib.Core.Path.{◌≡◌, refl, sym, ap, ◌∙◌, subst}
use mathlib.Core.Bool.{Bool, true, false}
use mathlib.Core.List.{List, [], ◌∷◌, ◌++◌}
use Prim.Native.Nat.{ℕ, ◌+◌, ◌-◌, ◌≤◌, ◌<◌}
use native.Mathlib.Omega.{arith}
use native.Mathlib.Numerals.{add-one}
use borrow.Author.Rules.{rules}
use borrow.Author.Tests.{ne_eqb}
use lib.Dec.{eqb}
use lib.ListN.{length, take, drop, set, length-take, length-append, length-set}
use lib.Seq.{drop-length, length-take-le, take-suc-set}
use Rattle.image.specs.Framing.{most_image, head, opens, framing, items as all_items}
use Rattle.image.proofs.Frames.{opens_right, framing_opened, framing_shut, opens_small}
use Rattle.order.specs.declared.Phase.TheVariants.{Data, Reel}
use Rattle.base.specs.If.{if_b}
use Rattle.base.proofs.Ifs.{if_true, if_false}
use Rattle.base.specs.Part.{part}
use Rattle.base.specs.declared.Verdict.{Verdict}
use Rattle.image.specs.Item.{decode}
use Rattle.volume.specs.declared.walk.Spot.{Spot}
use Rattle.volume.specs.declared.walk.Turn.{Turn}
use Rattle.volume.specs.declared.blocks.Lengths.{Lengths}
use Rattle.volume.specs.declared.blocks.Between.{Between}
use Rattle.volume.specs.State.{State, start}
use Rattle.volume.specs.Code.Body.{body, between, told_between, Given, PlaceInside, DidSkip}
use Rattle.volume.specs.Fault.{names_at}
use Rattle.volume.specs.Run.{runs, answer_of, image_verdict}
use Rattle.volume.specs.Code.Told.{told_from}
use Rattle.volume.specs.Code.Place.{contents, label_at}
use Rattle.volume.specs.Code.Walk.{told_at, told_end, told_after, places_after, DidStart, Walked, DidPass, FrameHere, Bounded, DidTurn}
use Rattle.volume.proofs.Reels.{told_whole}
use Rattle.volume.proofs.Walks.{end_good, end_bad}

-- ---- data blocks in a row

pub inside : (s : List ℕ) (x : Spot) → Bounded s x.at x.item x.state → PlaceInside s x.at x.item x.state.count
inside s x b = record { short = b.short; within = b.within; items = b.items; blocks = b.blocks }

-- past data blocks the verdict is the same
pub past_data : (s : List ℕ) (x : Spot) (h : Lengths) (m : List ℕ) (b : Between) → m ≡ part x.state.hdr2 80 s → Given h m
    → DidSkip s h (between x.at x.item x.state.count x.state.pending) b → x.state.phase ≡ Data
    → Bounded s x.at x.item x.state
    → DidPass s x
    (record {
      at = b.at;
      state =
          record {
            hdr1 = x.state.hdr1;
            hdr2 = x.state.hdr2;
            count = b.count;
            pending = b.pending;
            files = x.state.files;
            phase = Data;
            continues = x.state.continues;
          };
      item = b.item;
    })
unfolding told_at told_between contents label_at
past_data s x h m b e g k d w =
    record {
      same = λ volumes.
          let t : State = contents s volumes x.state in
          let inData : contents s volumes x.state ≡ body t x.state.count x.state.pending
          = λ i. record { phase = d i; volumes = t.volumes; files = t.files; continues = t.continues; hdr1 = t.hdr1; hdr2 = t.hdr2; count = t.count; pending = t.pending } in
          sym (k.same t (subst (Given h) e g))
          ∙ sym (ap (λ (u : State). told_from x.item u (decode (drop x.at s))) inData);
      onward = k.onward;
      bounded =
          record {
            short = w.short;
            within = k.inside.within;
            items = k.inside.items;
            files = omega (arith, w.files, k.passed);
            blocks = k.inside.blocks;
          };
    }

pub past_none : (s : List ℕ) (x : Spot) → Bounded s x.at x.item x.state → DidPass s x x
past_none s x b = record { same = λ _. refl; onward = omega arith; bounded = b }

pub ruleset pasts = (inside, past_data, past_none, rules)

-- ---- the whole walk

pub begun : (s : List ℕ) → 5 ≤ length s → length s ≤ most_image
    → DidStart s []
    (record {
      at = 5;
      state = record { hdr1 = length s; hdr2 = length s; count = 0; pending = 0; files = 0; phase = Reel; continues = false };
      item = 0;
    })
unfolding told_at all_items contents start names_at label_at part
begun s a b =
    let none : take 80 (drop (length s) s) ≡ [] = ap (take 80) (drop-length s) in
    record {
      same =
          ap (λ (u : State). told_from 0 u (decode (drop 5 s)))
          (λ i. record { phase = Reel; volumes = []; files = 0; continues = false; hdr1 = none i; hdr2 = none i; count = 0; pending = 0 });
      bounded = record { short = b; within = a; items = omega arith; files = omega arith; blocks = omega arith };
    }

pub walked_none : (s volumes : List ℕ) (x : Spot) → DidStart s [] x → length volumes ≡ 16 → Walked s volumes 0 x
walked_none s volumes x b e = record { begun = b; few = omega arith; kept = e }

-- a turn that goes on leads to a spot from which the verdict is the same
begun_after : (s volumes : List ℕ) (x y : Spot) (t : Turn) → DidStart s volumes x → DidPass s x y
    → DidTurn s volumes y.at (told_at s volumes y) t → t.on ≡ true
    → DidStart s (places_after volumes t) t.spot
unfolding told_after
begun_after s volumes x y t b p o h =
    record { same = sym (if_true _ _ _ h) ∙ o.same ∙ p.same volumes ∙ b.same; bounded = o.bounded }

pub walk_on : (s volumes : List ℕ) (reels : ℕ) (x y : Spot) (t : Turn) → Walked s volumes reels x → DidPass s x y
    → DidTurn s (take reels volumes) y.at (told_at s (take reels volumes) y) t → t.on ≡ true → t.named ≡ false
    → Walked s volumes reels t.spot
unfolding places_after
walk_on s volumes reels x y t w p o h n =
    record {
      begun =
          subst (λ (l : List ℕ). DidStart s l t.spot) (if_false _ _ _ n)
          (begun_after s (take reels volumes) x y t w.begun p o h);
      few = w.few;
      kept = w.kept;
    }

-- there is room for the name of a volume label that was passed
pub walk_room : (s volumes : List ℕ) (reels : ℕ) (x y : Spot) (t : Turn) → Walked s volumes reels x
    → DidTurn s (take reels volumes) y.at (told_at s (take reels volumes) y) t → t.named ≡ true → reels < 16
unfolding places_after
walk_room s volumes reels x y t w o n =
    let long : length (take reels volumes) ≡ reels = length-take-le reels volumes (omega (arith, w.few, w.kept)) in
    let most : length (take reels volumes ++ (t.name ∷ [])) ≤ 16
    = subst (λ (l : List ℕ). length l ≤ 16) (if_true _ _ _ n) (o.few (omega (arith, long, w.few))) in
    omega (arith, length-append (take reels volumes) (t.name ∷ []), long, most)

pub walk_named : (s volumes : List ℕ) (reels : ℕ) (x y : Spot) (t : Turn) → Walked s volumes reels x → DidPass s x y
    → DidTurn s (take reels volumes) y.at (told_at s (take reels volumes) y) t → t.on ≡ true → t.named ≡ true
    → Walked s (set volumes reels t.name) (reels + 1) t.spot
unfolding places_after
walk_named s volumes reels x y t w p o h n =
    let room : reels < 16 = walk_room s volumes reels x y t w o n in
    let places : take (reels + 1) (set volumes reels t.name) ≡ take reels volumes ++ (t.name ∷ [])
    = ap (λ (m : ℕ). take m (set volumes reels t.name)) (add-one reels)
    ∙ take-suc-set volumes reels t.name (omega (arith, w.kept)) in
    record {
      begun =
          subst (λ (l : List ℕ). DidStart s l t.spot) (if_true _ _ _ n ∙ sym places)
          (begun_after s (take reels volumes) x y t w.begun p o h);
      few = omega arith;
      kept = length-set volumes reels t.name ∙ w.kept;
    }

pub walk_falls : (s volumes : List ℕ) (reels : ℕ) (x y : Spot) (t : Turn) → DidPass s x y
    → DidTurn s (take reels volumes) y.at (told_at s (take reels volumes) y) t → t.on ≡ true
    → length s - t.spot.at < length s - x.at
walk_falls s volumes reels x y t p o h = omega (arith, p.onward, o.onward h, o.bounded.within)

pub walk_framed : (s volumes : List ℕ) (reels : ℕ) (x y : Spot) (t : Turn) → Walked s volumes reels x
    → DidTurn s (take reels volumes) y.at (told_at s (take reels volumes) y) t
    → FrameHere s t.spot.at t.spot.item (length (take reels volumes))
walk_framed s volumes reels x y t w o =
    let b : Bounded s t.spot.at t.spot.item t.spot.state = o.bounded in
    record {
      short = b.short;
      within = b.within;
      items = b.items;
      few = omega
          (arith, length-take-le reels volumes (omega (arith, w.few, w.kept)), w.few);
    }

pub walk_done : (s volumes : List ℕ) (reels : ℕ) (x y : Spot) (t : Turn) (v : Verdict) → Walked s volumes reels x → DidPass s x y
    → DidTurn s (take reels volumes) y.at (told_at s (take reels volumes) y) t → t.on ≡ false
    → v ≡ told_end s (take reels volumes) t.spot t.fault
    → v ≡ told_from 0 start (all_items s)
unfolding told_after
walk_done s volumes reels x y t v w p o h e = e ∙ sym (if_false _ _ _ h) ∙ o.same ∙ p.same (take reels volumes) ∙ w.begun.same

pub still_bounded : (s volumes : List ℕ) (reels : ℕ) (x : Spot) → Walked s volumes reels x
    → Bounded s x.at x.item x.state
still_bounded s volumes reels x w = w.begun.bounded

pub past_bounded : (s : List ℕ) (x y : Spot) → DidPass s x y → Bounded s y.at y.item y.state
past_bounded s x y p = p.bounded

pub reels_within : (s volumes : List ℕ) (reels : ℕ) (x : Spot) → Walked s volumes reels x → reels ≤ length volumes
reels_within s volumes reels x w = omega (arith, w.few, w.kept)

pub ruleset walks =
    (begun, walked_none, walk_on, walk_room, walk_named, walk_falls, walk_framed, walk_done, still_bounded, past_bounded, reels_within, end_good, end_bad, rules)

-- ---- the verdict

-- an image that opens as one has its head and is not too long
pub opened_long : (s : List ℕ) (b : Bool) → b ≡ opens s → b ≡ true → 5 ≤ length s
opened_long s b e h =
    let headed : take 5 s ≡ head = (opens_right s (sym e ∙ h)).headed in
    let five : length (take 5 s) ≡ 5 = ap length headed in
    omega (arith, length-take 5 s)

pub verdict_shut : (s : List ℕ) (b : Bool) (f : Verdict) → b ≡ opens s → b ≡ false → f ≡ framing s → f ≡ image_verdict s
unfolding image_verdict
verdict_shut s b f e h q = q ∙ sym (if_false _ _ _ (ne_eqb (framing s).number 0 (framing_shut s (sym e ∙ h))))

pub verdict_told : (s : List ℕ) (b : Bool) (v : Verdict) → b ≡ opens s → b ≡ true → v ≡ told_from 0 start (all_items s)
    → v ≡ image_verdict s
unfolding image_verdict
verdict_told s b v e h q =
    q ∙ told_whole (all_items s)
    ∙ ap (λ (f : Verdict). if_b (eqb f.number 0) (answer_of 0 (runs start (all_items s))) f) (sym (framing_opened s (sym e ∙ h)))

pub ruleset verdicts = (opened_long, opens_small, verdict_shut, verdict_told, rules)
