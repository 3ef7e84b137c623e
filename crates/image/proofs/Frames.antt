-- Laws of the framing, as the loop over the items of an image wants them: what is left from a place answers as the whole. Assumes
-- nothing.
use mathlib.Core.Path.{◌≡◌, refl, sym, ap, ◌∙◌, subst}
use mathlib.Core.Bool.{Bool, true, false, false≢true}
use mathlib.Core.List.{List, ◌∷◌}
use Prim.Native.Nat.{ℕ, ◌+◌, ◌≤◌, ◌<◌}
use native.Mathlib.Omega.{arith}
use borrow.Author.Rules.{rules}
use borrow.Author.Tests.{eq-eqb, ne_eqb, le-leb, le-ltb, ltb-false}
use lib.Dec.{eqb, ltb}
use lib.ListN.{length, take, drop}
use Rattle.base.specs.If.{if_b}
use Rattle.base.proofs.Ifs.{if_true, if_false, if_case, and_true}
use Rattle.base.specs.Part.{part, same}
use Rattle.base.specs.Answer.{verdict}
use Rattle.base.specs.declared.Verdict.{Verdict}
use Rattle.base.proofs.Parts.{length_part}
use Rattle.base.proofs.Bytes.{same_refl, same_true}
use Rattle.image.specs.declared.Shape.{Shape}
use Rattle.image.specs.declared.Shape.TheVariants.{Block, Mark, ReelEnd, Broken}
use Rattle.image.specs.Item.{Item, block, mark, reel_end, broken, most_bytes, shape, item_of, decode}
use Rattle.image.specs.Code.Items.{is_item, all_items}
use Rattle.image.specs.Framing.{most_image, most_reels, head, framed_from, items, opens, framing, framing_from}
use Rattle.image.proofs.Items.{BlockAt, block_at, block_fits, decode_none, decode_more, by_items, decode_past, decode_at, decode_block, decode_mark, decode_reel_end, decode_broken}

-- the first five bytes, as the code takes them
pub head_first : (s p : List ℕ) (b : Bool) → p ≡ part 0 5 s → b ≡ same p head → b ≡ same (take 5 s) head
unfolding part
head_first s p b e h = h ∙ ap (λ (l : List ℕ). same l head) e

-- behind sixteen reels no item may stand
framed_full : (n r : ℕ) (closed : Bool) (x : Item) (xs : List Item) → r ≡ most_reels
    → framed_from n r closed (x ∷ xs) ≡ verdict 2 n 0
unfolding framed_from
framed_full n r closed (block bs) xs e = if_true _ _ _ (eq-eqb r most_reels e)
framed_full n r closed mark xs e = if_true _ _ _ (eq-eqb r most_reels e)
framed_full n r closed reel_end xs e = if_true _ _ _ (eq-eqb r most_reels e)
framed_full n r closed broken xs e = refl

-- one item further, while reels are left
pub framed_block : (n r : ℕ) (closed : Bool) (bs : List ℕ) (xs : List Item) → (r ≡ most_reels → ⊥)
    → framed_from n r closed (block bs ∷ xs) ≡ framed_from (n + 1) r false xs
unfolding framed_from
framed_block n r closed bs xs h = if_false _ _ _ (ne_eqb r most_reels h)

-- a tape mark is passed, and leaves the reel open
pub framed_mark : (n r : ℕ) (closed : Bool) (xs : List Item) → (r ≡ most_reels → ⊥)
    → framed_from n r closed (mark ∷ xs) ≡ framed_from (n + 1) r false xs
unfolding framed_from
framed_mark n r closed xs h = if_false _ _ _ (ne_eqb r most_reels h)

-- the end of a reel is passed, and closes it
pub framed_reel_end : (n r : ℕ) (closed : Bool) (xs : List Item) → (r ≡ most_reels → ⊥)
    → framed_from n r closed (reel_end ∷ xs) ≡ framed_from (n + 1) (r + 1) true xs
unfolding framed_from
framed_reel_end n r closed xs h = if_false _ _ _ (ne_eqb r most_reels h)

-- ---- the loop: at a place, with n items and r reels before it, from which the framing is that of the whole

-- the framing from here on, behind n items and r reels, is that of the whole image
pub record FramedUpTo (s : List ℕ) (whole : Verdict) (at n r : ℕ) (closed : Bool) : Type 0 where
  pub counted : n ≤ most_image + at
  pub reels : r ≤ most_reels
  pub left : framed_from n r closed (decode (drop at s)) ≡ whole

-- it is so at the beginning
pub walked_none : (s : List ℕ) (at n r : ℕ) (closed : Bool) → n ≤ most_image → r ≤ most_reels
    → FramedUpTo s (framed_from n r closed (decode (drop at s))) at n r closed
walked_none s at n r closed c e = record { counted = omega arith; reels = e; left = refl }

-- and behind a block
pub walked_block : (s : List ℕ) (whole : Verdict) (at n r m : ℕ) (closed : Bool) (p : Shape) → FramedUpTo s whole at n r closed
    → at < length s → (r ≡ most_reels → ⊥)
    → p ≡ shape (drop at s) → p ≡ Block m → FramedUpTo s whole (at + 3 + m) (n + 1) r false
walked_block s whole at n r m closed p w h f e q =
    record {
      counted = omega arith;
      reels = w.reels;
      left = sym (ap (framed_from n r closed) (decode_block s at m p h e q) ∙ framed_block n r closed _ _ f) ∙ w.left;
    }

-- and behind a tape mark
pub walked_mark : (s : List ℕ) (whole : Verdict) (at n r : ℕ) (closed : Bool) (p : Shape) → FramedUpTo s whole at n r closed
    → at < length s → (r ≡ most_reels → ⊥)
    → p ≡ shape (drop at s) → p ≡ Mark → FramedUpTo s whole (at + 3) (n + 1) r false
walked_mark s whole at n r closed p w h f e q =
    record {
      counted = omega arith;
      reels = w.reels;
      left = sym (ap (framed_from n r closed) (decode_mark s at p h e q) ∙ framed_mark n r closed _ f) ∙ w.left;
    }

-- and behind the end of a reel
pub walked_reel_end : (s : List ℕ) (whole : Verdict) (at n r : ℕ) (closed : Bool) (p : Shape) → FramedUpTo s whole at n r closed
    → at < length s → (r ≡ most_reels → ⊥)
    → p ≡ shape (drop at s) → p ≡ ReelEnd → FramedUpTo s whole (at + 3) (n + 1) (r + 1) true
walked_reel_end s whole at n r closed p w h f e q =
    record {
      counted = omega arith;
      reels = omega arith;
      left = sym (ap (framed_from n r closed) (decode_reel_end s at p h e q) ∙ framed_reel_end n r closed _ f) ∙ w.left;
    }

-- a 17th reel is 2 for the whole image
pub walked_full : (s : List ℕ) (whole : Verdict) (at n r : ℕ) (closed : Bool) (v : Verdict) → v ≡ verdict 2 n 0
    → FramedUpTo s whole at n r closed → at < length s → r ≡ most_reels → v ≡ whole
walked_full s whole at n r closed v a w h e =
    a ∙ sym (ap (framed_from n r closed) (decode_at s at h) ∙ framed_full n r closed _ _ e) ∙ w.left

-- so is what is no item
pub walked_broken : (s : List ℕ) (whole : Verdict) (at n r : ℕ) (closed : Bool) (p : Shape) (v : Verdict) → v ≡ verdict 2 n 0
    → FramedUpTo s whole at n r closed → at < length s
    → p ≡ shape (drop at s) → p ≡ Broken → v ≡ whole
unfolding framed_from
walked_broken s whole at n r closed p v a w h e q = a ∙ sym (ap (framed_from n r closed) (decode_broken s at p h e q)) ∙ w.left

-- behind the last item: right only behind the end of a reel
pub walked_closed : (s : List ℕ) (whole : Verdict) (at n r : ℕ) (closed : Bool) (v : Verdict) → v ≡ verdict 0 0 0
    → FramedUpTo s whole at n r closed → length s ≤ at → closed ≡ true → v ≡ whole
unfolding framed_from
walked_closed s whole at n r closed v a w h e =
    a ∙ sym (ap (framed_from n r closed) (decode_past s at h) ∙ if_true _ _ _ e) ∙ w.left

-- and an image that ends within a reel
pub walked_open : (s : List ℕ) (whole : Verdict) (at n r : ℕ) (closed : Bool) (v : Verdict) → v ≡ verdict 2 n 0
    → FramedUpTo s whole at n r closed → length s ≤ at → closed ≡ false → v ≡ whole
unfolding framed_from
walked_open s whole at n r closed v a w h e =
    a ∙ sym (ap (framed_from n r closed) (decode_past s at h) ∙ if_false _ _ _ e) ∙ w.left

pub ruleset walks =
    (walked_none, walked_block, walked_mark, walked_reel_end, walked_full, walked_broken, walked_closed, walked_open, block_fits, rules)

-- ---- what number 0 says: no item is broken

-- an item as `decode` makes it: a block has a legal length
unfoldable pub SoundItem : Item → Type 0
SoundItem (block bs) = is_item (block bs) ≡ true
SoundItem mark = Unit {0}
SoundItem reel_end = Unit {0}
SoundItem broken = Unit {0}

sound_item : (p : Shape) (s : List ℕ) → shape s ≡ p → SoundItem (item_of p s)
unfolding SoundItem item_of is_item
sound_item (Block n) s e =
    let a : BlockAt s n = block_at s n e in
    let long : length (part 3 n s) ≡ n = length_part 3 n s a.whole in
    and_true _ _ (le-leb 1 (length (part 3 n s)) (omega arith)) (le-leb (length (part 3 n s)) most_bytes (omega arith))
sound_item Mark s e = tt
sound_item ReelEnd s e = tt
sound_item Broken s e = tt

-- where number 0 comes of some items, from whatever count on, all of them can stand in an image
abbrev Right : List Item → Type 0
Right xs = (n r : ℕ) (closed : Bool) → (framed_from n r closed xs).number ≡ 0 → all_items xs ≡ true

right_next : (x : Item) (xs : List Item) (n r m k : ℕ) (closed : Bool) → is_item x ≡ true → Right xs
    → (if_b (eqb r most_reels) (verdict 2 n 0) (framed_from m k closed xs)).number ≡ 0 → all_items (x ∷ xs) ≡ true
unfolding all_items verdict
right_next x xs n r m k closed good again =
    if_case (λ (v : Verdict). v.number ≡ 0 → all_items (x ∷ xs) ≡ true) (eqb r most_reels) _ _ (λ _ q. absurd (omega arith))
    (λ _ q. if_true _ _ _ good ∙ again m k closed q)

right_more : (x : Item) (xs : List Item) → SoundItem x → Right xs → Right (x ∷ xs)
unfolding SoundItem is_item framed_from verdict
right_more (block bs) xs good again n r closed = right_next (block bs) xs n r (n + 1) r false good again
right_more mark xs good again n r closed = right_next mark xs n r (n + 1) r false refl again
right_more reel_end xs good again n r closed = right_next reel_end xs n r (n + 1) (r + 1) true refl again
right_more broken xs good again n r closed = λ q. absurd (omega arith)

pub framed_items : (s : List ℕ) (n r : ℕ) (closed : Bool) → (framed_from n r closed (decode s)).number ≡ 0
    → all_items (decode s) ≡ true
unfolding all_items
framed_items =
    by_items (λ (s : List ℕ). Right (decode s)) (λ n r closed q. ap all_items decode_none)
    (λ s h again. subst Right (sym (decode_more s h)) (right_more _ _ (sound_item (shape s) s refl) again))

-- an image with number 0 is short enough, has the head, and its items are right
pub record Framed (s : List ℕ) : Type 0 where
  pub small : length s ≤ most_image
  pub headed : take 5 s ≡ head
  pub right : (framed_from 0 0 false (items s)).number ≡ 0

-- an image with a good framing opens as one, and its items are framed
pub framing_zero : (s : List ℕ) → (framing s).number ≡ 0 → Framed s
unfolding framing verdict
framing_zero s =
    if_case (λ (v : Verdict). v.number ≡ 0 → Framed s) (ltb most_image (length s)) _ _ (λ _ q. absurd (omega arith))
    (λ l. if_case (λ (v : Verdict). v.number ≡ 0 → Framed s) (same (take 5 s) head) _ _
    (λ e q. record { small = ltb-false most_image (length s) l; headed = same_true (take 5 s) head e; right = q })
    (λ _ q. absurd (omega arith)))

-- each of its items can stand in an image
pub framing_items : (s : List ℕ) → (framing s).number ≡ 0 → all_items (items s) ≡ true
unfolding items
framing_items s h = framed_items (drop 5 s) 0 0 false (framing_zero s h).right

-- the framing from a place on, where the counts before it are those of an image
pub framing_from_lem : (s : List ℕ) (at n r : ℕ) (closed : Bool) → length s ≤ most_image → n ≤ most_image → r ≤ most_reels
    → framing_from s at n r closed ≡ framed_from n r closed (decode (drop at s))
unfolding framing_from
framing_from_lem s at n r closed short counted reels =
    if_false _ _ _ (le-ltb most_image (length s) short) ∙ if_false _ _ _ (le-ltb most_image n counted)
    ∙ if_false _ _ _ (le-ltb most_reels r reels)

-- ---- an image that opens as one

pub record OpensAs (s : List ℕ) : Type 0 where
  pub small : length s ≤ most_image
  pub headed : take 5 s ≡ head

-- what opens as an image has its head and its length
pub opens_right : (s : List ℕ) → opens s ≡ true → OpensAs s
unfolding opens
opens_right s =
    if_case (λ (b : Bool). b ≡ true → OpensAs s) (ltb most_image (length s)) false (same (take 5 s) head)
    (λ _ q. absurd (false≢true q))
    (λ l q. record { small = ltb-false most_image (length s) l; headed = same_true (take 5 s) head q })

-- and is not over the limit
pub opens_small : (s : List ℕ) (b : Bool) → b ≡ opens s → b ≡ true → length s ≤ most_image
opens_small s b e h = (opens_right s (sym e ∙ h)).small

-- its framing is that of its items; that of any other is a refusal
pub framing_opened : (s : List ℕ) → opens s ≡ true → framing s ≡ framed_from 0 0 false (items s)
unfolding opens framing
framing_opened s =
    if_case (λ (b : Bool). b ≡ true → framing s ≡ framed_from 0 0 false (items s)) (ltb most_image (length s)) false
    (same (take 5 s) head) (λ _ q. absurd (false≢true q))
    (λ l q. if_false _ _ _ l ∙ if_true _ _ _ q)

-- what does not open as an image has no good framing
pub framing_shut : (s : List ℕ) → opens s ≡ false → (framing s).number ≡ 0 → ⊥
unfolding opens
framing_shut s e z =
    let f : Framed s = framing_zero s z in
    false≢true (sym e ∙ if_false _ _ _ (le-ltb most_image (length s) f.small) ∙ ap (λ (l : List ℕ). same l head) f.headed
    ∙ same_refl head)
