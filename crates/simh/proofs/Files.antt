-- The equations of `decode`, the items of one file, and the item at a place as a walk over the places wants it. Assumes nothing.
use mathlib.Core.Path.{◌≡◌, refl, sym, ap, ap₂, ◌∙◌, subst}
use mathlib.Core.Bool.{true, false, false≢true}
use mathlib.Core.List.{List, [], ◌∷◌}
use Prim.Native.Nat.{ℕ, ◌+◌, ◌-◌, ◌%◌, ◌≤◌, ◌<◌}
use native.Mathlib.Omega.{arith}
use borrow.Author.Tests.{leb-true, eqb-true, eqb-false}
use lib.Dec.{leb, eqb}
use lib.ListN.{length, drop, length-drop, drop_of_length-le}
use lib.Seq.{drop-drop}
use Rattle.base.proofs.Ifs.{if_case, and_first, and_second}
use Rattle.base.specs.Part.{part, all_are}
use Rattle.base.proofs.Parts.{part_drop}
use Rattle.image.specs.Item.{Item, block, mark, reel_end, broken, most_bytes}
use Rattle.image.specs.Code.Items.{is_item}
use Rattle.image.specs.declared.Shape.{Shape}
use Rattle.image.specs.declared.Shape.TheVariants.{Block, Mark, ReelEnd, Broken}
use Rattle.image.proofs.Coding.{Less, read_none, read_more}
use Rattle.simh.specs.Tape.{end_word, word, second, span_of, is_whole, led_by, shape, item_of, behind, item_in, left_of, decode}

-- ---- the equations of `decode`

behind_less : (p : Shape) (x : ℕ) (xs : List ℕ) → length (behind p (x ∷ xs)) ≤ length xs
unfolding behind
behind_less (Block n) x xs = simp length-drop (omega arith)
behind_less Mark x xs = simp length-drop (omega arith)
behind_less ReelEnd x xs = simp length-drop (omega arith)
behind_less Broken x xs = omega arith

pub left_less : Less left_of
left_less x xs = behind_less (shape (x ∷ xs)) x xs

pub decode_none : decode [] ≡ []
unfolding decode
decode_none = read_none item_in left_of

pub decode_more : (s : List ℕ) → 0 < length s → decode s ≡ item_of (shape s) s ∷ decode (behind (shape s) s)
unfolding decode
decode_more s h = read_more item_in left_of left_less s h

-- ---- what a shape says of the bytes at whose head it stands

-- a block is whole and of a legal length
pub record BlockAt (s : List ℕ) (n : ℕ) : Type 0 where
  pub led : word s ≡ n
  pub some : 1 ≤ n
  pub most : n ≤ most_bytes
  pub whole : span_of n ≤ length s
  pub zero : all_are 0 (part (4 + n) (n % 2) s) ≡ true
  pub again : word (drop (second n) s) ≡ n

-- a mark and the end of the medium are their length word
pub record WordAt (s : List ℕ) (w : ℕ) : Type 0 where
  pub led : word s ≡ w
  pub whole : 4 ≤ length s

unfoldable Shaped : List ℕ → Shape → Type 0
Shaped s (Block n) = BlockAt s n
Shaped s Mark = WordAt s 0
Shaped s ReelEnd = WordAt s end_word
Shaped s Broken = Unit {0}

whole_block : (s : List ℕ) → eqb (word s) 0 ≡ false → leb (word s) most_bytes ≡ true → is_whole (word s) s ≡ true
    → BlockAt s (word s)
unfolding is_whole
whole_block s z m w =
    let rest = and_second (leb (span_of (word s)) (length s)) _ w in
    record {
      led = refl;
      some = omega (arith, eqb-false (word s) 0 z);
      most = leb-true (word s) most_bytes m;
      whole = leb-true (span_of (word s)) (length s) (and_first (leb (span_of (word s)) (length s)) _ w);
      zero = and_first (all_are 0 (part (4 + word s) (word s % 2) s)) _ rest;
      again = eqb-true _ (word s) (and_second (all_are 0 (part (4 + word s) (word s % 2) s)) _ rest);
    }

led_shaped : (s : List ℕ) → 4 ≤ length s → Shaped s (led_by (word s) s)
unfolding led_by Shaped
led_shaped s h =
    if_case (Shaped s) (eqb (word s) 0) _ _ (λ z. record { led = eqb-true (word s) 0 z; whole = h })
    (λ z. if_case (Shaped s) (eqb (word s) end_word) _ _ (λ e. record { led = eqb-true (word s) end_word e; whole = h })
    (λ _. if_case (Shaped s) (leb (word s) most_bytes) _ _
    (λ m. if_case (Shaped s) (is_whole (word s) s) _ _ (whole_block s z m) (λ _. tt)) (λ _. tt)))

shaped : (s : List ℕ) → Shaped s (shape s)
unfolding shape Shaped
shaped s = if_case (Shaped s) (leb 4 (length s)) _ _ (λ h. led_shaped s (leb-true 4 (length s) h)) (λ _. tt)

pub block_at : (s : List ℕ) (n : ℕ) → shape s ≡ Block n → BlockAt s n
unfolding Shaped
block_at s n e = subst (Shaped s) e (shaped s)

pub mark_at : (s : List ℕ) → shape s ≡ Mark → WordAt s 0
unfolding Shaped
mark_at s e = subst (Shaped s) e (shaped s)

pub end_at_lem : (s : List ℕ) → shape s ≡ ReelEnd → WordAt s end_word
unfolding Shaped
end_at_lem s e = subst (Shaped s) e (shaped s)

-- where no item is broken, the length word alone tells the shape
abbrev pub ShapeTold : List ℕ → Shape → Type 0
ShapeTold s p =
    is_item (item_of p s) ≡ true
    → (word s ≡ 0 → p ≡ Mark) × (word s ≡ end_word → p ≡ ReelEnd)
    × ((word s ≡ 0 → ⊥) → (word s ≡ end_word → ⊥) → p ≡ Block (word s))

pub told : (s : List ℕ) (p : Shape) → shape s ≡ p → ShapeTold s p
unfolding item_of is_item
told s (Block n) e h =
    let b : BlockAt s n = block_at s n e in
    let w : word s ≡ n = b.led in
    let some : 1 ≤ n = b.some in
    let most : n ≤ most_bytes = b.most in
    (λ z. absurd (omega arith), λ z. absurd (omega arith), λ _ _. ap Block (sym w))
told s Mark e h = let w : word s ≡ 0 = (mark_at s e).led in (λ _. refl, λ z. absurd (omega arith), λ z _. absurd (z w))
told s ReelEnd e h = let w : word s ≡ end_word = (end_at_lem s e).led in (λ z. absurd (omega arith), λ _. refl, λ _ z. absurd (z w))
told s Broken e h = absurd (false≢true h)

-- and it is there
pub word_whole : (s : List ℕ) (p : Shape) → shape s ≡ p → is_item (item_of p s) ≡ true → 4 ≤ length s
unfolding item_of is_item
word_whole s (Block n) e h = omega (arith, (block_at s n e).whole)
word_whole s Mark e h = (mark_at s e).whole
word_whole s ReelEnd e h = (end_at_lem s e).whole
word_whole s Broken e h = absurd (false≢true h)

-- ---- a walk over the places of a file: p is the shape at a place

pub block_within : (s : List ℕ) (at n : ℕ) → shape (drop at s) ≡ Block n → at + span_of n ≤ length s
block_within s at n e =
    let b : BlockAt (drop at s) n = block_at (drop at s) n e in
    let some : 1 ≤ n = b.some in
    let room : span_of n ≤ length s - at = simp length-drop at b.whole in
    omega arith

pub mark_within : (s : List ℕ) (at : ℕ) → shape (drop at s) ≡ Mark → at + 4 ≤ length s
mark_within s at e = let room : 4 ≤ length s - at = simp length-drop at (mark_at (drop at s) e).whole in omega arith

pub end_within : (s : List ℕ) (at : ℕ) → shape (drop at s) ≡ ReelEnd → at + 4 ≤ length s
end_within s at e = let room : 4 ≤ length s - at = simp length-drop at (end_at_lem (drop at s) e).whole in omega arith

-- the items from a place on
pub decode_past : (s : List ℕ) (at : ℕ) → length s ≤ at → decode (drop at s) ≡ []
decode_past s at h = ap decode (drop_of_length-le s h) ∙ decode_none

pub decode_at : (s : List ℕ) (at : ℕ) (p : Shape) → at < length s → shape (drop at s) ≡ p
    → decode (drop at s) ≡ item_of p (drop at s) ∷ decode (behind p (drop at s))
decode_at s at p h e =
    decode_more (drop at s) (simp length-drop (omega arith))
    ∙ ap (λ (q : Shape). item_of q (drop at s) ∷ decode (behind q (drop at s))) e

pub decode_block : (s : List ℕ) (at n : ℕ) → at < length s → shape (drop at s) ≡ Block n
    → decode (drop at s) ≡ block (part (at + 4) n s) ∷ decode (drop (at + span_of n) s)
unfolding item_of behind
decode_block s at n h e =
    decode_at s at (Block n) h e ∙ ap₂ (λ (bs l : List ℕ). block bs ∷ decode l) (part_drop at 4 n s) (drop-drop (span_of n) at s)

pub decode_mark : (s : List ℕ) (at : ℕ) → at < length s → shape (drop at s) ≡ Mark
    → decode (drop at s) ≡ mark ∷ decode (drop (at + 4) s)
unfolding item_of behind
decode_mark s at h e = decode_at s at Mark h e ∙ ap (λ (l : List ℕ). mark ∷ decode l) (drop-drop 4 at s)

pub decode_end : (s : List ℕ) (at : ℕ) → at < length s → shape (drop at s) ≡ ReelEnd
    → decode (drop at s) ≡ reel_end ∷ decode (drop (at + 4) s)
unfolding item_of behind
decode_end s at h e = decode_at s at ReelEnd h e ∙ ap (λ (l : List ℕ). reel_end ∷ decode l) (drop-drop 4 at s)

pub decode_broken : (s : List ℕ) (at : ℕ) → at < length s → shape (drop at s) ≡ Broken → decode (drop at s) ≡ broken ∷ []
unfolding item_of behind
decode_broken s at h e = decode_at s at Broken h e ∙ ap (λ (l : List Item). broken ∷ l) decode_none
