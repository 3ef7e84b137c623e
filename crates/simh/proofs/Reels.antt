-- Reels as lists of items: one that closes has no wrong item, its end is its last, and reels that close are told apart in the
-- items of a whole set.
-- Assumes nothing.
use mathlib.Core.Path.{◌≡◌, refl, sym, ap, ◌∙◌, subst}
use mathlib.Core.Bool.{Bool, true, false, false≢true}
use mathlib.Core.List.{List, [], ◌∷◌, ◌++◌, map, flatten as end_to_end}
use Prim.Native.Nat.{ℕ, suc, ◌+◌, ◌≤◌, ◌<◌}
use native.Mathlib.Omega.{arith}
use borrow.Author.Tests.{eq-eqb, ne_eqb, eqb-true, eqb-false, le-leb}
use lib.Dec.{eqb}
use lib.ListN.{length}
use Rattle.base.specs.If.{if_b}
use Rattle.base.proofs.Ifs.{if_true, if_false, if_case, and_true}
use Rattle.base.specs.Part.{part}
use Rattle.base.specs.Answer.{verdict}
use Rattle.base.specs.declared.Verdict.{Verdict}
use Rattle.base.proofs.Parts.{length_part}
use Rattle.image.specs.Item.{Item, block, mark, reel_end, broken, most_bytes}
use Rattle.image.specs.Code.Items.{is_item, all_items}
use Rattle.image.specs.Framing.{most_reels, framed_from}
use Rattle.image.specs.declared.Shape.{Shape}
use Rattle.image.specs.declared.Shape.TheVariants.{Block, Mark, ReelEnd, Broken}
use Rattle.image.proofs.Frames.{SoundItem}
use Rattle.image.proofs.Coding.{all_append, by_read}
use Rattle.simh.specs.Tape.{shape, item_of, item_in, left_of, decode}
use Rattle.simh.specs.Set.{torn, reel_verdict, reels_verdict, on_first, reels_of}
use Rattle.simh.proofs.Files.{BlockAt, left_less, decode_none, decode_more, block_at}

-- ---- one reel

unfoldable pub ReelCloses : List Item → Type 0
ReelCloses [] = ⊥
ReelCloses (block bs ∷ xs) = ReelCloses xs
ReelCloses (mark ∷ xs) = ReelCloses xs
ReelCloses (reel_end ∷ []) = Unit {0}
ReelCloses (reel_end ∷ x ∷ xs) = ⊥
ReelCloses (broken ∷ xs) = ⊥

-- number 0 exactly for these
pub reel_closes : (n : ℕ) (r : List Item) → (reel_verdict n r).number ≡ 0 → ReelCloses r
unfolding ReelCloses reel_verdict torn verdict
reel_closes n [] h = absurd (omega arith)
reel_closes n (block bs ∷ xs) h = reel_closes (n + 1) xs h
reel_closes n (mark ∷ xs) h = reel_closes (n + 1) xs h
reel_closes n (reel_end ∷ []) h = tt
reel_closes n (reel_end ∷ x ∷ xs) h = absurd (omega arith)
reel_closes n (broken ∷ xs) h = absurd (omega arith)

pub closes_reel : (n : ℕ) (r : List Item) → ReelCloses r → reel_verdict n r ≡ verdict 0 0 0
unfolding ReelCloses reel_verdict
closes_reel n [] h = absurd h
closes_reel n (block bs ∷ xs) h = closes_reel (n + 1) xs h
closes_reel n (mark ∷ xs) h = closes_reel (n + 1) xs h
closes_reel n (reel_end ∷ []) h = refl
closes_reel n (reel_end ∷ x ∷ xs) h = absurd h
closes_reel n (broken ∷ xs) h = absurd h

-- ---- reels

unfoldable pub AllClose : List (List Item) → Type 0
AllClose [] = Unit {0}
AllClose (r ∷ rs) = ReelCloses r × AllClose rs

pub reels_close : (n : ℕ) (rs : List (List Item)) → (reels_verdict n rs).number ≡ 0 → AllClose rs
unfolding AllClose reels_verdict
reels_close n [] h = tt
reels_close n (r ∷ rs) h =
    if_case (λ (v : Verdict). v.number ≡ 0 → AllClose (r ∷ rs)) (eqb (reel_verdict n r).number 0)
    (reels_verdict (n + length r) rs) (reel_verdict n r)
    (λ e q. (reel_closes n r (eqb-true (reel_verdict n r).number 0 e), reels_close (n + length r) rs q))
    (λ e q. absurd (eqb-false (reel_verdict n r).number 0 e q)) h

pub close_reels : (n : ℕ) (rs : List (List Item)) → AllClose rs → reels_verdict n rs ≡ verdict 0 0 0
unfolding AllClose reels_verdict verdict
close_reels n [] h = refl
close_reels n (r ∷ rs) h =
    if_true _ _ _ (eq-eqb (reel_verdict n r).number 0 (ap (λ (v : Verdict). v.number) (closes_reel n r h.0)))
    ∙ close_reels (n + length r) rs h.1

-- ---- the reels of items

first_joined : (x : Item) (rs : List (List Item)) → end_to_end (on_first x rs) ≡ x ∷ end_to_end rs
unfolding end_to_end on_first
first_joined x [] = refl
first_joined x (r ∷ rs) = refl

-- the reels of some items, end to end, are these items
pub reels_joined : (xs : List Item) → end_to_end (reels_of xs) ≡ xs
unfolding end_to_end reels_of
reels_joined [] = refl
reels_joined (block bs ∷ xs) = first_joined (block bs) (reels_of xs) ∙ ap (λ (l : List Item). block bs ∷ l) (reels_joined xs)
reels_joined (mark ∷ xs) = first_joined mark (reels_of xs) ∙ ap (λ (l : List Item). mark ∷ l) (reels_joined xs)
reels_joined (reel_end ∷ xs) = ap (λ (l : List Item). reel_end ∷ l) (reels_joined xs)
reels_joined (broken ∷ xs) = first_joined broken (reels_of xs) ∙ ap (λ (l : List Item). broken ∷ l) (reels_joined xs)

reel_apart : (r xs : List Item) → ReelCloses r → reels_of (r ++ xs) ≡ r ∷ reels_of xs
unfolding ReelCloses reels_of on_first
reel_apart [] xs h = absurd h
reel_apart (block bs ∷ r) xs h = ap (on_first (block bs)) (reel_apart r xs h)
reel_apart (mark ∷ r) xs h = ap (on_first mark) (reel_apart r xs h)
reel_apart (reel_end ∷ []) xs h = refl
reel_apart (reel_end ∷ x ∷ r) xs h = absurd h
reel_apart (broken ∷ r) xs h = absurd h

pub reels_apart : (rs : List (List Item)) → AllClose rs → reels_of (end_to_end rs) ≡ rs
unfolding AllClose end_to_end reels_of
reels_apart [] h = refl
reels_apart (r ∷ rs) h = reel_apart r (end_to_end rs) h.0 ∙ ap (λ (l : List (List Item)). r ∷ l) (reels_apart rs h.1)

-- ---- the framing of an image, and its reels

-- items with a good framing are reels that close, one at least where the last one before them is open, and few enough
pub record Reeled (r : ℕ) (closed : Bool) (xs : List Item) : Type 0 where
  pub close : AllClose (reels_of xs)
  pub some : closed ≡ false → 1 ≤ length (reels_of xs)
  pub few : r + length (reels_of xs) ≤ most_reels

reeled_first : (x : Item) (r : ℕ) (closed : Bool) (xs : List Item) → ((s : List Item) → ReelCloses s → ReelCloses (x ∷ s))
    → Reeled r false xs
    → reels_of (x ∷ xs) ≡ on_first x (reels_of xs) → Reeled r closed (x ∷ xs)
unfolding AllClose on_first
reeled_first x r closed xs more w e = by (reels_of xs) refl
  where
    by : (rs : List (List Item)) → reels_of xs ≡ rs → Reeled r closed (x ∷ xs)
    by [] q = absurd (omega (arith, w.some refl, ap length q))
    by (s ∷ rs) q =
        let all : AllClose (s ∷ rs) = subst AllClose q w.close in
        let there : reels_of (x ∷ xs) ≡ (x ∷ s) ∷ rs = e ∙ ap (on_first x) q in
        let count = ap length q in
        let size = ap length there in
        record {
          close = subst AllClose (sym there) (more s all.0, all.1);
          some = λ _. omega arith;
          few = omega (arith, w.few);
        }

-- one item further, while reels are left
module _ (xs : List Item)
    (again : (n r : ℕ) (closed : Bool) → r ≤ most_reels → (framed_from n r closed xs).number ≡ 0 → Reeled r closed xs) where
  next_reel_lem : (n r : ℕ) (closed : Bool) → r ≤ most_reels → (framed_from n r closed (reel_end ∷ xs)).number ≡ 0
      → Reeled r closed (reel_end ∷ xs)
  unfolding framed_from verdict AllClose ReelCloses reels_of
  next_reel_lem n r closed m =
      if_case (λ (v : Verdict). v.number ≡ 0 → Reeled r closed (reel_end ∷ xs)) (eqb r most_reels) _ _
      (λ _ q. absurd (omega arith))
      (λ f q.
      let less : r < most_reels = omega (arith, eqb-false r most_reels f) in
      let w : Reeled (r + 1) true xs = again (n + 1) (r + 1) true (omega arith) q in
      record { close = (tt, w.close); some = λ _. omega arith; few = omega (arith, w.few) })

  next_item : (x : Item) (n r : ℕ) (closed : Bool) → ((s : List Item) → ReelCloses s → ReelCloses (x ∷ s))
      → reels_of (x ∷ xs) ≡ on_first x (reels_of xs) → r ≤ most_reels
      → (if_b (eqb r most_reels) (verdict 2 n 0) (framed_from (n + 1) r false xs)).number ≡ 0 → Reeled r closed (x ∷ xs)
  unfolding verdict
  next_item x n r closed more e m =
      if_case (λ (v : Verdict). v.number ≡ 0 → Reeled r closed (x ∷ xs)) (eqb r most_reels) _ _ (λ _ q. absurd (omega arith))
      (λ _ q. reeled_first x r closed xs more (again (n + 1) r false m q) e)

pub framed_reels : (xs : List Item) (n r : ℕ) (closed : Bool) → r ≤ most_reels → (framed_from n r closed xs).number ≡ 0
    → Reeled r closed xs
unfolding framed_from verdict AllClose ReelCloses reels_of
framed_reels [] n r closed m h =
    if_case (λ (v : Verdict). v.number ≡ 0 → Reeled r closed []) closed (verdict 0 0 0) (verdict 2 n 0)
    (λ e _. record { close = tt; some = λ f. absurd (false≢true (sym f ∙ e)); few = omega arith }) (λ _ q. absurd (omega arith)) h
framed_reels (block bs ∷ xs) n r closed m h = next_item xs (framed_reels xs) (block bs) n r closed (λ s c. c) refl m h
framed_reels (mark ∷ xs) n r closed m h = next_item xs (framed_reels xs) mark n r closed (λ s c. c) refl m h
framed_reels (reel_end ∷ xs) n r closed m h = next_reel_lem xs (framed_reels xs) n r closed m h
framed_reels (broken ∷ xs) n r closed m h = absurd (omega arith)

-- and the other way round
reel_framed : (x xs : List Item) (n r : ℕ) (closed : Bool) → ReelCloses x → r < most_reels
    → framed_from n r closed (x ++ xs) ≡ framed_from (n + length x) (r + 1) true xs
unfolding ReelCloses framed_from
reel_framed [] xs n r closed h m = absurd h
reel_framed (block bs ∷ x) xs n r closed h m =
    let e : n + 1 + length x ≡ n + suc (length x) = omega arith in
    if_false _ _ _ (ne_eqb r most_reels (λ q. absurd (omega arith)))
    ∙ reel_framed x xs (n + 1) r false h m ∙ ap (λ (k : ℕ). framed_from k (r + 1) true xs) e
reel_framed (mark ∷ x) xs n r closed h m =
    let e : n + 1 + length x ≡ n + suc (length x) = omega arith in
    if_false _ _ _ (ne_eqb r most_reels (λ q. absurd (omega arith)))
    ∙ reel_framed x xs (n + 1) r false h m ∙ ap (λ (k : ℕ). framed_from k (r + 1) true xs) e
reel_framed (reel_end ∷ []) xs n r closed h m = if_false _ _ _ (ne_eqb r most_reels (λ q. absurd (omega arith)))
reel_framed (reel_end ∷ y ∷ x) xs n r closed h m = absurd h
reel_framed (broken ∷ x) xs n r closed h m = absurd h

later_framed : (rs : List (List Item)) (n r : ℕ) → AllClose rs → r + length rs ≤ most_reels
    → framed_from n r true (end_to_end rs) ≡ verdict 0 0 0
unfolding AllClose end_to_end framed_from
later_framed [] n r h m = if_true _ _ _ refl
later_framed (x ∷ rs) n r h m =
    reel_framed x (end_to_end rs) n r true h.0 (omega arith) ∙ later_framed rs (n + length x) (r + 1) h.1 (omega arith)

pub reels_framed : (rs : List (List Item)) → AllClose rs → 1 ≤ length rs → length rs ≤ most_reels
    → framed_from 0 0 false (end_to_end rs) ≡ verdict 0 0 0
unfolding AllClose end_to_end
reels_framed [] h s m = absurd (omega arith)
reels_framed (x ∷ rs) h s m =
    reel_framed x (end_to_end rs) 0 0 false h.0 (omega arith) ∙ later_framed rs (0 + length x) (0 + 1) h.1 (omega arith)

-- ---- a file whose items close holds only items that can stand in an image

-- an item as `decode` makes it has a legal length
sound_item : (p : Shape) (s : List ℕ) → shape s ≡ p → SoundItem (item_of p s)
unfolding SoundItem item_of is_item
sound_item (Block n) s e =
    let a : BlockAt s n = block_at s n e in
    let whole : 4 + n ≤ length s = omega (arith, a.whole) in
    let long : length (part 4 n s) ≡ n = length_part 4 n s whole in
    and_true _ _ (le-leb 1 (length (part 4 n s)) (omega (arith, a.some)))
    (le-leb (length (part 4 n s)) most_bytes (omega (arith, a.most)))
sound_item Mark s e = tt
sound_item ReelEnd s e = tt
sound_item Broken s e = tt

right_more : (x : Item) (xs : List Item) → SoundItem x → (ReelCloses xs → all_items xs ≡ true) → ReelCloses (x ∷ xs)
    → all_items (x ∷ xs) ≡ true
unfolding SoundItem ReelCloses all_items is_item
right_more (block bs) xs good again h = if_true _ _ _ good ∙ again h
right_more mark xs good again h = if_true _ _ _ refl ∙ again h
right_more reel_end [] good again h = if_true _ _ _ refl
right_more reel_end (x ∷ xs) good again h = absurd h
right_more broken xs good again h = absurd h

pub closes_right : (s : List ℕ) → ReelCloses (decode s) → all_items (decode s) ≡ true
unfolding ReelCloses
closes_right =
    by_read item_in left_of left_less (λ (s : List ℕ). ReelCloses (decode s) → all_items (decode s) ≡ true)
    (λ h. absurd (subst ReelCloses decode_none h))
    (λ s h again c.
    ap all_items (decode_more s h) ∙ right_more _ _ (sound_item (shape s) s refl) again (subst ReelCloses (decode_more s h) c))

-- the items of files that all close
pub all_right : (fs : List (List ℕ)) → AllClose (map decode fs) → all_items (end_to_end (map decode fs)) ≡ true
unfolding AllClose end_to_end all_items
all_right [] h = refl
all_right (f ∷ fs) h = all_append (decode f) (end_to_end (map decode fs)) (closes_right f h.0) (all_right fs h.1)
