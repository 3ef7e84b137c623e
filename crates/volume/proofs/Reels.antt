-- What is read without fault is well framed: a broken item is never due, a 17th volume label is a fault, and the image may end
-- only behind an end of reel. So the framing of the whole is that of what is left from the first wrong item on. Assumes
-- nothing.
use Rattle.std.specs.Prelude.{Option, Some, None}
use mathlib.Core.Path.{◌≡◌, refl, sym, ap, ap₂, ◌∙◌, subst}
use mathlib.Core.Bool.{Bool, true, false, not, ◌&&◌, ◌||◌, false≢true}
use mathlib.Core.List.{List, [], ◌∷◌, ◌++◌}
use Prim.Native.Nat.{ℕ, zero, suc, ◌+◌, ◌-◌, ◌≤◌, ◌<◌}
use native.Mathlib.Omega.{arith}
use borrow.Author.Tests.{leb-false, eqb-true, eqb-false, eq-eqb, ne_eqb}
use lib.Dec.{eqb, leb}
use lib.ListN.{length, length-append}
use Rattle.base.specs.If.{if_b}
use Rattle.base.proofs.Ifs.{if_true, if_false, if_case, ap_if, and_left, or_false}
use Rattle.base.specs.Answer.{verdict, fault}
use Rattle.base.specs.declared.Fault.{Fault}
use Rattle.base.specs.declared.Verdict.{Verdict}
use Rattle.base.proofs.Faults.{or_second}
use Rattle.image.specs.Item.{Item, block, mark, reel_end, broken}
use Rattle.image.specs.Framing.{most_reels, framed_from}
use Rattle.image.proofs.Frames.{framed_block, framed_mark, framed_reel_end}
use Rattle.order.specs.Kind.{kind, other, vol, data_block, tape_mark, end_of_reel, end_of_image, is_kind}
use Rattle.order.specs.Due.{dues, choose, due_after}
use Rattle.order.specs.declared.Kind.{Kind}
use Rattle.order.specs.declared.Phase.{Phase}
use Rattle.order.specs.declared.Phase.TheVariants.{Reel}
use Rattle.order.proofs.Laws.{kind_is}
use Rattle.order.proofs.Phases.{at, Numbered, Outside, before_reel, behind_last, Seen, due_seen, due_stands, due_goes, reel_left}
use Rattle.label.specs.Name.{kind_of}
use Rattle.label.specs.Field.{volume_of}
use Rattle.label.specs.Judged.{label_fault}
use Rattle.label.proofs.Families.{kind_other}
use Rattle.volume.specs.State.{State, start}
use Rattle.volume.specs.Fault.{volume_fault, context_fault, item_fault}
use Rattle.volume.specs.Step.{Next, kind_in, bytes_in, is_due, state_after, volumes_after}
use Rattle.volume.specs.Code.Told.{is_inside, ended_in, closed_in, framed_in, framed_or, told_next, told_from}
use Rattle.volume.specs.Run.{runs, next, answer_of}
use Rattle.volume.specs.Accepted.{Faultless, state_behind}
use Rattle.volume.proofs.Runs.{answer_further, answer_end, answer_early}
use Rattle.volume.proofs.Accepted.{by_step}

-- ---- inside a reel and outside

-- behind the end of a reel VOL1 or the end of the image is due
outside_reel : {p : Phase} → Outside p → is_inside p ≡ false
unfolding is_inside is_due due_after dues choose is_kind if_b
outside_reel before_reel = refl
outside_reel behind_last = refl

-- where one of them is due, reading is outside a reel
outside_volume : (p : Phase) (k : Kind) (q : Phase) → due_after p k ≡ Some q → is_kind k (vol 1) ≡ true → is_inside p ≡ false
unfolding is_inside is_due
outside_volume p k q e v = if_true _ _ _ (ap is_due (ap (due_after p) (sym (kind_is k (vol 1) v)) ∙ e))

outside_over : (p : Phase) → is_due (due_after p end_of_image) ≡ true → is_inside p ≡ false
unfolding is_inside
outside_over p e = if_case (λ (a : Bool). a ≡ false) (is_due (due_after p (vol 1))) _ _ (λ _. refl) (λ _. ap not e)

-- inside one neither is due
inside : (p : Phase) → Numbered p → (at p).inside ≡ true → is_inside p ≡ true
unfolding is_inside is_due is_kind
inside p h w = if_false _ _ _ (undue (vol 1) refl) ∙ ap not (undue end_of_image refl)
  where
    undue : (k : Kind) → is_kind k end_of_image || is_kind k (vol 1) ≡ true → is_due (due_after p k) ≡ false
    undue k v = by_due (due_after p k) refl
      where
        by_due : (d : Option Phase) → due_after p k ≡ d → is_due d ≡ false
        by_due (Some q) e =
            absurd (false≢true (sym (if_true _ _ _ v ∙ ap₂ (λ (a b : Bool). not (a && b)) w h) ∙ due_stands p k q e))
        by_due None e = refl

-- a broken item is never due
pub broken_undue : (p q : Phase) → due_after p other ≡ Some q → ⊥
unfolding is_kind
broken_undue p q e = false≢true (ap (λ (x : Seen). x.suited) (due_seen p other q e))

-- ---- blocks

-- a block is data, a label or of no kind
pub block_other : (p : Phase) (l : List ℕ) (f n : ℕ) → 8 < f → is_kind (kind_in p (block l)) (kind f n) ≡ false
unfolding kind_in is_kind
block_other p l f n h =
    if_case (λ (k : Kind). is_kind k (kind f n) ≡ false) (is_due (due_after p data_block)) data_block (kind_of l)
    (λ _. and_left _ _ (ne_eqb 8 f (λ e. omega arith))) (λ _. kind_other l f n (omega arith))

-- a VOL1 without fault is at most the sixteenth
volume_few : (s : State) (l : List ℕ) → (item_fault s (vol 1) l).number ≡ 0 → length s.volumes < most_reels
unfolding item_fault context_fault is_kind if_b volume_fault fault
volume_few s l h =
    if_case (λ (f : Fault). f.number ≡ 0 → length s.volumes < most_reels) (leb most_reels (length s.volumes)) (fault 2 0) _
    (λ _ q. absurd (eqb-false 2 0 refl q)) (λ e _. leb-false most_reels (length s.volumes) e)
    (or_second (label_fault (vol 1) l) (context_fault s (vol 1) l) h)

-- ---- reels begun and reels ended

ended_inside : (p : Phase) (m : ℕ) → is_inside p ≡ true → ended_in p m ≡ m - 1
unfolding ended_in
ended_inside p m w = if_case (λ (r : ℕ). r ≡ m - 1) (eqb m 0) _ _ (λ z. omega (arith, eqb-true m 0 z)) (λ _. if_true _ _ _ w)

ended_outside : (p : Phase) (m : ℕ) → is_inside p ≡ false → ended_in p m ≡ m
unfolding ended_in
ended_outside p m w = if_case (λ (r : ℕ). r ≡ m) (eqb m 0) _ _ (λ z. sym (eqb-true m 0 z)) (λ _. if_false _ _ _ w)

closed_inside : (p : Phase) (m : ℕ) → is_inside p ≡ true → closed_in p m ≡ false
unfolding closed_in
closed_inside p m w = if_case (λ (c : Bool). c ≡ false) (eqb m 0) _ _ (λ _. refl) (λ _. ap not w)

closed_outside : (p : Phase) (m : ℕ) → is_inside p ≡ false → 1 ≤ m → closed_in p m ≡ true
unfolding closed_in
closed_outside p m w h = if_false _ _ _ (ne_eqb m 0 (λ z. omega arith)) ∙ ap not w

-- behind m volume labels: at most sixteen, and none only before the first
record Reels (p : Phase) (m : ℕ) : Type 0 where
  pub few : m ≤ most_reels
  pub numbered : Numbered p
  pub begun : m ≡ 0 → p ≡ Reel

-- one or more where something holds that does not hold before the first
some : (p : Phase) (m : ℕ) (f : Phase → Bool) → Reels p m → f Reel ≡ false → f p ≡ true → 1 ≤ m
some p zero f h a b = absurd (false≢true (sym a ∙ sym (ap f (h.begun refl)) ∙ b))
some p (suc m) f h a b = omega arith

begun_inside : (p : Phase) (m : ℕ) → Reels p m → (at p).inside ≡ true → 1 ≤ m
begun_inside p m h w = some p m (λ q. (at q).inside) h refl w

-- an item that ends no reel leads from p and m to q and o; such an item may stand there
record Passed (p q : Phase) (m o : ℕ) : Type 0 where
  pub room : ended_in p m ≡ most_reels → ⊥
  pub ended : ended_in p m ≡ ended_in q o
  pub still : closed_in q o ≡ false
  pub next : Reels q o

passed_on : (p q : Phase) (m : ℕ) (v : Bool) → Reels p m → (v ≡ false → (at p).inside ≡ true) → (v ≡ true → is_inside p ≡ false)
    → (v ≡ true → m < most_reels)
    → (at q).inside ≡ true → Numbered q → Passed p q m (if_b v (m + 1) m)
unfolding if_b
passed_on p q m true h from outside few to known =
    let all : ended_in p m ≡ m = ended_outside p m (outside refl) in
    let on : is_inside q ≡ true = inside q known to in
    let again : ended_in q (m + 1) ≡ m + 1 - 1 = ended_inside q (m + 1) on in
    record {
      room = λ e. omega (arith, few refl);
      ended = omega arith;
      still = closed_inside q (m + 1) on;
      next = record { few = omega (arith, few refl); numbered = known; begun = λ z. absurd (omega arith) };
    }
passed_on p q m false h from outside few to known =
    let one : 1 ≤ m = begun_inside p m h (from refl) in
    let before : ended_in p m ≡ m - 1 = ended_inside p m (inside p h.numbered (from refl)) in
    let on : is_inside q ≡ true = inside q known to in
    record {
      room = λ e. omega (arith, h.few);
      ended = before ∙ sym (ended_inside q m on);
      still = closed_inside q m on;
      next = record { few = h.few; numbered = known; begun = λ z. absurd (omega arith) };
    }

length_names : (s : State) (k : Kind) (l : List ℕ)
    → if_b (is_kind k (vol 1)) (length s.volumes + 1) (length s.volumes) ≡ length (volumes_after s k l)
unfolding volumes_after
length_names s k l =
    sym (ap_if length (is_kind k (vol 1)) (s.volumes ++ (volume_of l ∷ [])) s.volumes
    ∙ ap (λ (n : ℕ). if_b (is_kind k (vol 1)) n (length s.volumes)) (length-append s.volumes (volume_of l ∷ [])))

-- ---- one item

-- from item x on the framing is that from the next one on, in the state behind it
record FramedOn (n : ℕ) (s : State) (x : Item) (xs : List Item) (t : State) : Type 0 where
  pub framed : framed_in n s (x ∷ xs) ≡ framed_in (n + 1) t xs
  pub next : Reels t.phase (length t.volumes)

-- one of a kind that ends neither a reel nor the image
item_on : (s : State) (k : Kind) (l : List ℕ) (q : Phase) → Reels s.phase (length s.volumes) → is_kind k end_of_reel ≡ false
    → is_kind k end_of_image ≡ false
    → due_after s.phase k ≡ Some q → (item_fault s k l).number ≡ 0
    → Passed s.phase q (length s.volumes) (length (volumes_after s k l))
item_on s k l q h e i d z =
    subst (Passed s.phase q (length s.volumes)) (length_names s k l)
    (passed_on s.phase q (length s.volumes) (is_kind k (vol 1)) h
    (λ v. sym (if_false _ _ _ (or_false _ _ i v)) ∙ due_stands s.phase k q d) (outside_volume s.phase k q d)
    (λ v. volume_few s l (subst (λ (j : Kind). (item_fault s j l).number ≡ 0) (kind_is k (vol 1) v) z))
    (ap (λ (x : Seen). x.inside) (due_seen s.phase k q d) ∙ ap not (or_false _ _ e i))
    (due_goes s.phase k q h.numbered d).numbered)

-- what is left behind it
passed_framed : (n : ℕ) (xs : List Item) (p q : Phase) (m o : ℕ) → Passed p q m o
    → framed_from n (ended_in p m) false xs ≡ framed_from n (ended_in q o) (closed_in q o) xs
passed_framed n xs p q m o on = ap₂ (λ (r : ℕ) (c : Bool). framed_from n r c xs) on.ended (sym on.still)

onward : (n : ℕ) (s : State) (x : Item) (xs : List Item) (p : Phase) → Reels s.phase (length s.volumes) → Faultless s x p
    → FramedOn n s x xs (state_behind s x p)
unfolding framed_in kind_in bytes_in state_after is_kind volumes_after if_b
onward n s (block l) xs p h f =
    let k : Kind = kind_in s.phase (block l) in
    let on : Passed s.phase p (length s.volumes) (length (volumes_after s k l))
    = item_on s k l p h (block_other s.phase l 10 0 (omega arith)) (block_other s.phase l 11 0 (omega arith)) f.due f.sound in
    record { framed = framed_block n _ _ l xs on.room ∙ passed_framed (n + 1) xs _ _ _ _ on; next = on.next }
onward n s mark xs p h f =
    let on : Passed s.phase p (length s.volumes) (length s.volumes) = item_on s tape_mark [] p h refl refl f.due f.sound in
    record { framed = framed_mark n _ _ xs on.room ∙ passed_framed (n + 1) xs _ _ _ _ on; next = on.next }
onward n s reel_end xs p h f =
    let m : ℕ = length s.volumes in
    let from : (at s.phase).inside ≡ true = due_stands s.phase end_of_reel p f.due in
    let to : is_inside p ≡ false = outside_reel (reel_left s.phase p f.due) in
    let one : 1 ≤ m = begun_inside s.phase m h from in
    let before : ended_in s.phase m ≡ m - 1 = ended_inside s.phase m (inside s.phase h.numbered from) in
    let after : ended_in p m ≡ m = ended_outside p m to in
    let more : ended_in s.phase m + 1 ≡ ended_in p m = omega arith in
    record {
      framed =
          framed_reel_end n _ _ xs (λ e. omega (arith, h.few))
          ∙ ap₂ (λ (r : ℕ) (c : Bool). framed_from (n + 1) r c xs) more (sym (closed_outside p m to one));
      next = record {
        few = h.few;
        numbered = (due_goes s.phase end_of_reel p h.numbered f.due).numbered;
        begun = λ z. absurd (omega arith);
      };
    }
onward n s broken xs p h f = absurd (broken_undue s.phase p f.due)

-- ---- all items

told_end_lem : (n : ℕ) (s : State) → Reels s.phase (length s.volumes) → is_due (due_after s.phase end_of_image) ≡ true
    → verdict 0 0 0 ≡ framed_or n s [] (answer_of n (runs s []))
unfolding framed_or framed_in framed_from verdict is_due due_after dues choose is_kind if_b
told_end_lem n s h e =
    let one : 1 ≤ length s.volumes
    = some s.phase (length s.volumes) (λ p. is_due (due_after p end_of_image)) h refl e in
    let good : framed_in n s [] ≡ verdict 0 0 0
    = if_true _ _ _ (closed_outside s.phase (length s.volumes) (outside_over s.phase e) one) in
    sym (if_true _ _ _ (eq-eqb (framed_in n s []).number 0 (ap (λ (v : Verdict). v.number) good)) ∙ answer_end n s e)

told_all : (n : ℕ) (s : State) (xs : List Item) → Reels s.phase (length s.volumes)
    → told_from n s xs ≡ framed_or n s xs (answer_of n (runs s xs))
unfolding told_from told_next runs next answer_of framed_or
told_all n s [] h =
    if_case (λ (v : Verdict). v ≡ framed_or n s [] (answer_of n (runs s []))) (is_due (due_after s.phase end_of_image)) _ _
    (told_end_lem n s h) (λ e. ap (framed_or n s []) (sym (answer_early n s e)))
told_all n s (x ∷ xs) h =
    by_step (λ (r : Next). told_next n s (x ∷ xs) r (λ t. told_from (n + 1) t xs)
    ≡ framed_or n s (x ∷ xs) (answer_of n (next r (λ t. runs t xs)))) s x
    (λ p f.
    let on : FramedOn n s x xs (state_behind s x p) = onward n s x xs p h f in
    told_all (n + 1) (state_behind s x p) xs on.next
    ∙ ap (λ (f : Verdict). if_b (eqb f.number 0) (answer_of (n + 1) (runs (state_behind s x p) xs)) f) (sym on.framed)
    ∙ ap (framed_or n s (x ∷ xs)) (sym (answer_further n _ (runs (state_behind s x p) xs))))
    (λ k b _ _. let z : n ≡ n + 0 = omega arith in ap (λ (m : ℕ). framed_or n s (x ∷ xs) (verdict k m b)) z)

-- the framing from the first wrong item on decides as that of the whole does
pub told_whole : (xs : List Item)
    → told_from 0 start xs ≡ if_b (eqb (framed_from 0 0 false xs).number 0) (answer_of 0 (runs start xs)) (framed_from 0 0 false xs)
unfolding start framed_or framed_in ended_in closed_in if_b
told_whole xs =
    told_all 0 start xs (record { few = omega arith; numbered = refl; begun = λ _. refl })
