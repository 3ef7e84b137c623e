-- The equations of `decode`, by which everything above reads an image, and the item at a place as a walk over the places wants
-- it.
-- Assumes nothing.
use mathlib.Core.Path.{◌≡◌, refl, sym, ap, ap₂, ◌∙◌, subst}
use mathlib.Core.Bool.{true, false}
use mathlib.Core.List.{List, [], ◌∷◌}
use Prim.Native.Nat.{ℕ, ◌+◌, ◌*◌, ◌-◌, ◌^◌, ◌≤◌, ◌<◌}
use mir.Syntax.{w64}
use mir.Val.{Fits}
use native.Mathlib.Omega.{arith}
use borrow.Author.Tests.{leb-true, leb-false, eqb-true, eqb-false, ne_eqb, le-leb, lt-leb}
use lib.Dec.{leb, eqb}
use lib.ListN.{length, drop, get_or, length-drop, drop_of_length-le}
use lib.Seq.{drop-drop, get_or-drop}
use Rattle.base.proofs.Ifs.{if_true, if_false, if_case}
use Rattle.base.specs.Part.{part}
use Rattle.base.proofs.Parts.{part_drop}
use Rattle.image.specs.declared.Shape.{Shape}
use Rattle.image.specs.declared.Shape.TheVariants.{Block, Mark, ReelEnd, Broken}
use Rattle.image.specs.Item.{Item, block, mark, reel_end, broken, most_bytes, reel_end_word, word, led_by, shape, block_length, item_of, behind, item_in, left_of, decode}
use Rattle.image.proofs.Coding.{Less, read_none, read_more, by_read}

-- ---- the equations of `decode`

-- every item has a byte, so less is left behind it
behind_less : (p : Shape) (x : ℕ) (xs : List ℕ) → length (behind p (x ∷ xs)) ≤ length xs
unfolding behind
behind_less (Block n) x xs = simp length-drop (omega arith)
behind_less Mark x xs = simp length-drop (omega arith)
behind_less ReelEnd x xs = simp length-drop (omega arith)
behind_less Broken x xs = omega arith

pub left_less : Less left_of
left_less x xs = behind_less (shape (x ∷ xs)) x xs

pub decode_none : decode [] ≡ []
unfolding decode
decode_none = read_none item_in left_of

pub decode_more : (s : List ℕ) → 0 < length s → decode s ≡ item_of (shape s) s ∷ decode (behind (shape s) s)
unfolding decode
decode_more s h = read_more item_in left_of left_less s h

-- induction over the items
pub by_items : (P : List ℕ → Type 0) → P [] → ((s : List ℕ) → 0 < length s → P (behind (shape s) s) → P s) → (s : List ℕ) → P s
by_items = by_read item_in left_of left_less

-- ---- what stands at a place

pub shape_short : (s : List ℕ) (at : ℕ) → length s - at < 3 → Broken ≡ shape (drop at s)
unfolding shape
shape_short s at h = sym (if_false _ _ _ (lt-leb 3 (length (drop at s)) (simp length-drop h)))

-- behind the end of an image stands no item
pub shape_past : (s : List ℕ) (at : ℕ) → length s ≤ at → Broken ≡ shape (drop at s)
shape_past s at h = shape_short s at (omega arith)

-- the word at a place
word_at : (s : List ℕ) (at : ℕ) → word (drop at s) ≡ get_or s at 0 * 65536 + (get_or s (at + 1) 0 * 256 + get_or s (at + 2) 0)
unfolding word
word_at s at =
    let here : at + 0 ≡ at = omega arith in
    let first : get_or (drop at s) 0 0 ≡ get_or s at 0 = get_or-drop at s 0 0 ∙ ap (λ (k : ℕ). get_or s k 0) here in
    omega (arith, first, get_or-drop at s 1 0, get_or-drop at s 2 0)

-- as the code makes it, of two bytes or of three
pub word_low : (s : List ℕ) (at b c : ℕ) → get_or s at 0 ≡ 0 → b ≡ get_or s (at + 1) 0 → c ≡ get_or s (at + 2) 0
    → word (drop at s) ≡ b * 256 + c
word_low s at b c i j k = omega (arith, word_at s at)

pub word_whole : (s : List ℕ) (at a b c : ℕ) → a ≡ get_or s at 0 → b ≡ get_or s (at + 1) 0 → c ≡ get_or s (at + 2) 0
    → word (drop at s) ≡ a * 65536 + (b * 256 + c)
word_whole s at a b c i j k = omega (arith, word_at s at)

-- what is made of the shape at a place, where it is made of the word there and of how much stands behind it
pub by_word : {A : Type 0} (f : Shape → A) (s : List ℕ) (at : ℕ) (x : A) → (length s - at < 3 → x ≡ f Broken)
    → (3 ≤ length s - at → x ≡ f (led_by (word (drop at s)) (length s - at - 3))) → x ≡ f (shape (drop at s))
unfolding shape
by_word f s at x cut led =
    let long : length (drop at s) ≡ length s - at = length-drop at s in
    let behind : length (drop 3 (drop at s)) ≡ length s - at - 3 = simp length-drop (omega arith) in
    if_case (λ (p : Shape). x ≡ f p) (leb 3 (length (drop at s))) _ _
    (λ e. led (omega (arith, leb-true 3 (length (drop at s)) e)) ∙ ap (λ (n : ℕ). f (led_by (word (drop at s)) n)) (sym behind))
    (λ e. cut (omega (arith, leb-false 3 (length (drop at s)) e)))

-- what a length word leads
pub length_whole : (w n : ℕ) → w ≤ 99999 → w ≤ n → w ≡ block_length (led_by w n)
unfolding led_by block_length
length_whole w n h k =
    if_case (λ (p : Shape). w ≡ block_length p) (eqb w 0) _ _ (λ e. eqb-true w 0 e)
    (λ _. sym (ap block_length
    (if_false _ _ _ (ne_eqb w 16777215 (λ e. omega arith)) ∙ if_true _ _ _ (le-leb w 99999 h) ∙ if_true _ _ _ (le-leb w n k))))

pub length_cut : (w n : ℕ) → w ≤ 99999 → n < w → 0 ≡ block_length (led_by w n)
unfolding led_by block_length
length_cut w n h k =
    sym (ap block_length (if_false _ _ _ (ne_eqb w 0 (λ e. omega arith)) ∙ if_false _ _ _ (ne_eqb w 16777215 (λ e. omega arith))
    ∙ if_true _ _ _ (le-leb w 99999 h) ∙ if_false _ _ _ (lt-leb w n k)))

pub length_over : (w n : ℕ) → 99999 < w → 0 ≡ block_length (led_by w n)
unfolding led_by block_length
length_over w n h =
    if_case (λ (p : Shape). 0 ≡ block_length p) (eqb w 0) _ _ (λ _. refl)
    (λ _. if_case (λ (p : Shape). 0 ≡ block_length p) (eqb w 16777215) _ _ (λ _. refl)
    (λ _. sym (ap block_length (if_false _ _ _ (lt-leb w 99999 h)))))

-- where it is not 0, a block stands there
pub block_there : (p : Shape) (n : ℕ) → n ≡ block_length p → (n ≡ 0 → ⊥) → p ≡ Block n
unfolding block_length
block_there (Block m) n e h = ap Block (sym e)
block_there Mark n e h = absurd (h e)
block_there ReelEnd n e h = absurd (h e)
block_there Broken n e h = absurd (h e)

pub ruleset lengths = (length_whole, length_cut, length_over)

-- ---- what a shape says of the bytes at whose head it stands

-- a block is whole and of a legal length
pub record BlockAt (s : List ℕ) (n : ℕ) : Type 0 where
  pub led : word s ≡ n
  pub some : 1 ≤ n
  pub most : n ≤ most_bytes
  pub whole : 3 + n ≤ length s

-- a mark and the end of a reel are their length word
pub record WordAt (s : List ℕ) (w : ℕ) : Type 0 where
  pub led : word s ≡ w
  pub whole : 3 ≤ length s

-- the facts of each shape
unfoldable pub Shaped : List ℕ → Shape → Type 0
Shaped s (Block n) = BlockAt s n
Shaped s Mark = WordAt s 0
Shaped s ReelEnd = WordAt s reel_end_word
Shaped s Broken = Unit {0}

whole_block : (s : List ℕ) → 3 ≤ length s → eqb (word s) 0 ≡ false → leb (word s) most_bytes ≡ true
    → leb (word s) (length (drop 3 s)) ≡ true
    → BlockAt s (word s)
whole_block s h z m l =
    let some : 1 ≤ word s = omega (arith, eqb-false (word s) 0 z) in
    let room : word s ≤ length s - 3 = simp length-drop at (leb-true (word s) (length (drop 3 s)) l) in
    record { led = refl; some = some; most = leb-true (word s) most_bytes m; whole = omega arith }

led_shaped : (s : List ℕ) → 3 ≤ length s → Shaped s (led_by (word s) (length (drop 3 s)))
unfolding led_by Shaped
led_shaped s h =
    if_case (Shaped s) (eqb (word s) 0) _ _ (λ z. record { led = eqb-true (word s) 0 z; whole = h })
    (λ z. if_case (Shaped s) (eqb (word s) reel_end_word) _ _ (λ e. record { led = eqb-true (word s) reel_end_word e; whole = h })
    (λ _. if_case (Shaped s) (leb (word s) most_bytes) _ _
    (λ m. if_case (Shaped s) (leb (word s) (length (drop 3 s))) _ _ (whole_block s h z m) (λ _. tt)) (λ _. tt)))

pub shaped : (s : List ℕ) → Shaped s (shape s)
unfolding shape Shaped
shaped s = if_case (Shaped s) (leb 3 (length s)) _ _ (λ h. led_shaped s (leb-true 3 (length s) h)) (λ _. tt)

-- a block of n bytes stands where its shape says so
pub block_at : (s : List ℕ) (n : ℕ) → shape s ≡ Block n → BlockAt s n
unfolding Shaped
block_at s n e = subst (Shaped s) e (shaped s)

pub mark_at : (s : List ℕ) → shape s ≡ Mark → WordAt s 0
unfolding Shaped
mark_at s e = subst (Shaped s) e (shaped s)

pub reel_end_at : (s : List ℕ) → shape s ≡ ReelEnd → WordAt s reel_end_word
unfolding Shaped
reel_end_at s e = subst (Shaped s) e (shaped s)

-- ---- a walk over the places of an image: p is the shape that the code found at a place

-- a block ends within the image, as do the other items
pub block_within : (s : List ℕ) (at n : ℕ) (p : Shape) → p ≡ shape (drop at s) → p ≡ Block n → at + 3 + n ≤ length s
block_within s at n p e q =
    let room : 3 + n ≤ length s - at = simp length-drop at (block_at (drop at s) n (sym e ∙ q)).whole in
    omega arith

-- so the place behind it fits a `usize`
pub block_fits : (s : List ℕ) (at n : ℕ) (p : Shape) → p ≡ shape (drop at s) → p ≡ Block n → length s < 2 ^ 64
    → Fits w64 (at + 3 + n)
block_fits s at n p e q h = let within : at + 3 + n ≤ length s = block_within s at n p e q in record { fits = omega arith }

-- a tape mark ends inside the image
pub mark_within : (s : List ℕ) (at : ℕ) (p : Shape) → p ≡ shape (drop at s) → p ≡ Mark → at + 3 ≤ length s
mark_within s at p e q =
    let room : 3 ≤ length s - at = simp length-drop at (mark_at (drop at s) (sym e ∙ q)).whole in
    omega arith

-- so does the end of a reel
pub reel_end_within : (s : List ℕ) (at : ℕ) (p : Shape) → p ≡ shape (drop at s) → p ≡ ReelEnd → at + 3 ≤ length s
reel_end_within s at p e q =
    let room : 3 ≤ length s - at = simp length-drop at (reel_end_at (drop at s) (sym e ∙ q)).whole in
    omega arith

-- what each item leaves
pub behind_block : (s : List ℕ) (at n : ℕ) → behind (Block n) (drop at s) ≡ drop (at + 3 + n) s
unfolding behind
behind_block s at n = let e : at + (3 + n) ≡ at + 3 + n = omega arith in drop-drop (3 + n) at s ∙ ap (λ (k : ℕ). drop k s) e

pub behind_mark_lem : (s : List ℕ) (at : ℕ) → behind Mark (drop at s) ≡ drop (at + 3) s
unfolding behind
behind_mark_lem s at = drop-drop 3 at s

pub behind_reel_end : (s : List ℕ) (at : ℕ) → behind ReelEnd (drop at s) ≡ drop (at + 3) s
unfolding behind
behind_reel_end s at = drop-drop 3 at s

pub behind_broken : (s : List ℕ) (at : ℕ) → behind Broken (drop at s) ≡ []
unfolding behind
behind_broken s at = refl

-- the items from a place on
pub decode_past : (s : List ℕ) (at : ℕ) → length s ≤ at → decode (drop at s) ≡ []
decode_past s at h = ap decode (drop_of_length-le s h) ∙ decode_none

pub decode_at : (s : List ℕ) (at : ℕ) → at < length s
    → decode (drop at s) ≡ item_of (shape (drop at s)) (drop at s) ∷ decode (behind (shape (drop at s)) (drop at s))
decode_at s at h = decode_more (drop at s) (simp length-drop (omega arith))

-- the same where the shape is known
decode_shape : (s : List ℕ) (at : ℕ) (p : Shape) → at < length s → shape (drop at s) ≡ p
    → decode (drop at s) ≡ item_of p (drop at s) ∷ decode (behind p (drop at s))
decode_shape s at p h e = decode_at s at h ∙ ap (λ (q : Shape). item_of q (drop at s) ∷ decode (behind q (drop at s))) e

-- at a block: its bytes, and the items behind it
pub decode_block : (s : List ℕ) (at n : ℕ) (p : Shape) → at < length s → p ≡ shape (drop at s) → p ≡ Block n
    → decode (drop at s) ≡ block (part (at + 3) n s) ∷ decode (drop (at + 3 + n) s)
unfolding item_of
decode_block s at n p h e q =
    decode_shape s at (Block n) h (sym e ∙ q)
    ∙ ap₂ (λ (bs l : List ℕ). block bs ∷ decode l) (part_drop at 3 n s) (behind_block s at n)

-- at a tape mark: the mark, and the items behind it
pub decode_mark : (s : List ℕ) (at : ℕ) (p : Shape) → at < length s → p ≡ shape (drop at s) → p ≡ Mark
    → decode (drop at s) ≡ mark ∷ decode (drop (at + 3) s)
unfolding item_of
decode_mark s at p h e q = decode_shape s at Mark h (sym e ∙ q) ∙ ap (λ (l : List ℕ). mark ∷ decode l) (behind_mark_lem s at)

-- at the end of a reel: that end, and the items behind it
pub decode_reel_end : (s : List ℕ) (at : ℕ) (p : Shape) → at < length s → p ≡ shape (drop at s) → p ≡ ReelEnd
    → decode (drop at s) ≡ reel_end ∷ decode (drop (at + 3) s)
unfolding item_of
decode_reel_end s at p h e q =
    decode_shape s at ReelEnd h (sym e ∙ q) ∙ ap (λ (l : List ℕ). reel_end ∷ decode l) (behind_reel_end s at)

-- where no item stands, nothing is read behind
pub decode_broken : (s : List ℕ) (at : ℕ) (p : Shape) → at < length s → p ≡ shape (drop at s) → p ≡ Broken
    → decode (drop at s) ≡ broken ∷ []
unfolding item_of
decode_broken s at p h e q =
    decode_shape s at Broken h (sym e ∙ q) ∙ ap (λ (l : List ℕ). broken ∷ decode l) (behind_broken s at)
    ∙ ap (λ (l : List Item). broken ∷ l) decode_none
