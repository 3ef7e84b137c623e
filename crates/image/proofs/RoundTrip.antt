-- The two round trips of the container: items that can stand in an image are read again from their bytes, and an image in which
-- no item is broken is written again from its items. Assumes nothing.
use mathlib.Core.Path.{◌≡◌, refl, sym, ap, ap₂, ◌∙◌, subst}
use mathlib.Core.Bool.{true, false, false≢true}
use mathlib.Core.List.{List, [], ◌∷◌, ◌++◌, append_assoc}
use Prim.Native.Nat.{ℕ, zero, suc, ◌+◌, ◌*◌, ◌/◌, ◌%◌, ◌≤◌, ◌<◌}
use native.Mathlib.Omega.{arith}
use borrow.Author.Tests.{ne_eqb, le-leb, le-ltb, leb-true}
use lib.Dec.{leb}
use lib.ListN.{length, take, drop, length-append, take-append-drop}
use lib.Seq.{drop-drop, get_or-drop, take-append_seam, drop-append_seam}
use Rattle.base.proofs.Ifs.{if_true, if_false, and_first, and_second}
use Rattle.base.specs.Part.{part}
use Rattle.base.proofs.Parts.{length_part}
use Rattle.base.proofs.Bytes.{same_refl}
use Rattle.image.specs.declared.Shape.{Shape}
use Rattle.image.specs.declared.Shape.TheVariants.{Block, Mark, ReelEnd, Broken}
use Rattle.image.specs.Item.{Item, block, mark, reel_end, broken, most_bytes, reel_end_word, word, led_by, shape, item_of, behind, item_in, left_of, decode, three, bytes_of, encode}
use Rattle.image.specs.Code.Items.{is_item, all_items}
use Rattle.image.specs.Byte.{Bytes}
use Rattle.image.specs.Framing.{most_image, head, framed_from, items, framing}
use Rattle.image.proofs.Coding.{by_append, items_again, bytes_again}
use Rattle.image.proofs.Frames.{framing_zero, framing_items}
use Rattle.image.proofs.Items.{left_less, decode_more, BlockAt, WordAt, block_at, mark_at, reel_end_at}

-- ---- lists of bytes

-- behind some bytes are bytes
pub bytes_drop : (n : ℕ) (s : List ℕ) → Bytes s → Bytes (drop n s)
bytes_drop n s b i = subst (λ (k : ℕ). k < 256) (sym (get_or-drop n s i 0)) (b (n + i))

-- and before some
pub bytes_take : (n : ℕ) (s : List ℕ) → Bytes s → Bytes (take n s)
bytes_take zero s b i = omega arith
bytes_take (suc n) [] b i = omega arith
bytes_take (suc n) (x ∷ s) b zero = b zero
bytes_take (suc n) (x ∷ s) b (suc i) = bytes_take n s (λ j. b (suc j)) i

-- ---- items one behind the other

-- items end to end are their bytes end to end
pub encode_append : (xs ys : List Item) → encode (xs ++ ys) ≡ encode xs ++ encode ys
unfolding encode
encode_append = by_append bytes_of

-- ---- items, their bytes, the items again

word_three : (n : ℕ) (rest : List ℕ) → word (three n ++ rest) ≡ n
unfolding word three
word_three n rest = omega arith

shape_three : (n : ℕ) (rest : List ℕ) → shape (three n ++ rest) ≡ led_by n (length rest)
unfolding shape three
shape_three n rest =
    if_true _ _ _ (le-leb 3 (suc (suc (suc (length rest)))) (omega arith))
    ∙ ap (λ (w : ℕ). led_by w (length rest)) (word_three n rest)

-- what is read from a length word and what follows it
decode_three : (n : ℕ) (rest : List ℕ) (p : Shape) → led_by n (length rest) ≡ p
    → decode (three n ++ rest) ≡ item_of p (three n ++ rest) ∷ decode (behind p (three n ++ rest))
unfolding three
decode_three n rest p e =
    decode_more (three n ++ rest) (omega arith)
    ∙ ap (λ (q : Shape). item_of q (three n ++ rest) ∷ decode (behind q (three n ++ rest))) (shape_three n rest ∙ e)

led_block : (n k : ℕ) → 1 ≤ n → n ≤ most_bytes → n ≤ k → led_by n k ≡ Block n
unfolding led_by
led_block n k some most room =
    let not-mark : n ≡ 0 → ⊥ = omega arith in
    let not_end : n ≡ reel_end_word → ⊥ = omega arith in
    if_false _ _ _ (ne_eqb n 0 not-mark) ∙ if_false _ _ _ (ne_eqb n reel_end_word not_end) ∙ if_true _ _ _ (le-leb n most_bytes most)
    ∙ if_true _ _ _ (le-leb n k room)

led_mark : (k : ℕ) → led_by 0 k ≡ Mark
unfolding led_by
led_mark k = if_true _ _ _ refl

led_reel_end : (k : ℕ) → led_by reel_end_word k ≡ ReelEnd
unfolding led_by
led_reel_end k = if_false _ _ _ refl ∙ if_true _ _ _ refl

block_again : (bs t : List ℕ) → is_item (block bs) ≡ true → decode (three (length bs) ++ (bs ++ t)) ≡ block bs ∷ decode t
unfolding is_item item_of behind part three
block_again bs t h =
    let some : 1 ≤ length bs = leb-true 1 (length bs) (and_first _ _ h) in
    let most : length bs ≤ most_bytes = leb-true (length bs) most_bytes (and_second (leb 1 (length bs)) _ h) in
    let room : length bs ≤ length (bs ++ t) = simp length-append (omega arith) in
    decode_three (length bs) (bs ++ t) (Block (length bs)) (led_block (length bs) (length (bs ++ t)) some most room)
    ∙ ap₂ (λ (b l : List ℕ). block b ∷ decode l) (take-append_seam bs t)
    (sym (drop-drop (length bs) 3 (three (length bs) ++ (bs ++ t))) ∙ drop-append_seam bs t)

mark_again : (t : List ℕ) → decode (three 0 ++ t) ≡ mark ∷ decode t
unfolding item_of behind three
mark_again t = decode_three 0 t Mark (led_mark (length t))

reel_end_again : (t : List ℕ) → decode (three reel_end_word ++ t) ≡ reel_end ∷ decode t
unfolding item_of behind three
reel_end_again t = decode_three reel_end_word t ReelEnd (led_reel_end (length t))

pub decode_item : (x : Item) (t : List ℕ) → is_item x ≡ true → decode (bytes_of x ++ t) ≡ x ∷ decode t
unfolding bytes_of is_item
decode_item (block bs) t h = ap decode (append_assoc (three (length bs)) bs t) ∙ block_again bs t h
decode_item mark t h = mark_again t
decode_item reel_end t h = reel_end_again t
decode_item broken t h = absurd (false≢true h)

pub decode_encode : (xs : List Item) → all_items xs ≡ true → decode (encode xs) ≡ xs
unfolding decode encode
decode_encode = items_again item_in left_of bytes_of decode_item

-- ---- bytes, their items, the bytes again

-- three bytes are the three bytes of the number that they mean
three_word : (s : List ℕ) → Bytes s → 3 ≤ length s → three (word s) ≡ take 3 s
unfolding three word
three_word [] b h = absurd (omega arith)
three_word (x ∷ []) b h = absurd (omega arith)
three_word (x ∷ y ∷ []) b h = absurd (omega arith)
three_word (x ∷ y ∷ z ∷ s) b h =
    let small : y < 256 = b 1 in
    let smaller : z < 256 = b 2 in
    let high : (x * 65536 + y * 256 + z) / 65536 ≡ x = omega arith in
    let middle : (x * 65536 + y * 256 + z) / 256 % 256 ≡ y = omega arith in
    let low : (x * 65536 + y * 256 + z) % 256 ≡ z = omega arith in
    cc

-- a length word and what stands behind it are the whole
word_again : (s : List ℕ) (w : ℕ) → Bytes s → WordAt s w → three w ++ drop 3 s ≡ s
word_again s w b a =
    ap (λ (k : ℕ). three k ++ drop 3 s) (sym a.led) ∙ ap (λ (l : List ℕ). l ++ drop 3 s) (three_word s b a.whole)
    ∙ take-append-drop 3 s

whole_again : (s : List ℕ) (n : ℕ) → Bytes s → BlockAt s n → three (length (part 3 n s)) ++ part 3 n s ++ drop (3 + n) s ≡ s
unfolding part
whole_again s n b a =
    let long : length (part 3 n s) ≡ n = length_part 3 n s a.whole in
    append_assoc (three (length (part 3 n s))) (part 3 n s) (drop (3 + n) s)
    ∙ ap (λ (k : ℕ). three k ++ (part 3 n s ++ drop (3 + n) s)) long
    ∙ ap (λ (l : List ℕ). three n ++ (part 3 n s ++ l)) (sym (drop-drop n 3 s))
    ∙ ap (λ (l : List ℕ). three n ++ l) (take-append-drop n (drop 3 s))
    ∙ word_again s n b (record { led = a.led; whole = omega arith })

-- an item that is not broken has the bytes at whose head it stands
item_again : (p : Shape) (s : List ℕ) → shape s ≡ p → Bytes s → is_item (item_of p s) ≡ true
    → bytes_of (item_of p s) ++ behind p s ≡ s
unfolding item_of behind bytes_of is_item
item_again (Block n) s e b h = whole_again s n b (block_at s n e)
item_again Mark s e b h = word_again s 0 b (mark_at s e)
item_again ReelEnd s e b h = word_again s reel_end_word b (reel_end_at s e)
item_again Broken s e b h = absurd (false≢true h)

bytes_behind_lem : (p : Shape) (s : List ℕ) → Bytes s → Bytes (behind p s)
unfolding behind
bytes_behind_lem (Block n) s b = bytes_drop (3 + n) s b
bytes_behind_lem Mark s b = bytes_drop 3 s b
bytes_behind_lem ReelEnd s b = bytes_drop 3 s b
bytes_behind_lem Broken s b = λ i. omega arith

pub encode_decode : (s : List ℕ) → Bytes s → all_items (decode s) ≡ true → encode (decode s) ≡ s
unfolding decode encode
encode_decode =
    bytes_again item_in left_of left_less bytes_of (λ s b h. item_again (shape s) s refl b h) (λ s b. bytes_behind_lem (shape s) s b)

-- ---- whole images

-- an image made of items holds these items
pub items_image : (xs : List Item) → all_items xs ≡ true → items (head ++ encode xs) ≡ xs
unfolding items
items_image xs h = decode_encode xs h

-- an image with a good framing is made of its items
pub image_items : (s : List ℕ) → Bytes s → (framing s).number ≡ 0 → head ++ encode (items s) ≡ s
unfolding items
image_items s b h =
    ap (λ (l : List ℕ). head ++ l) (encode_decode (drop 5 s) (bytes_drop 5 s b) (framing_items s h))
    ∙ ap (λ (l : List ℕ). l ++ drop 5 s) (sym (framing_zero s h).headed)
    ∙ take-append-drop 5 s

-- the framing of a written image is that of its items
pub framing_image : (xs : List Item) → all_items xs ≡ true → length (head ++ encode xs) ≤ most_image
    → framing (head ++ encode xs) ≡ framed_from 0 0 false xs
unfolding framing
framing_image xs h small =
    if_false _ _ _ (le-ltb most_image (length (head ++ encode xs)) small)
    ∙ if_true _ _ _ (same_refl head)
    ∙ ap (framed_from 0 0 false) (items_image xs h)
