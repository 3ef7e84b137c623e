-- The two round trips of one file: items that can stand on a reel are read again from their bytes, and a file in which no item is
-- broken is written again from its items. Assumes nothing.
use mathlib.Core.Path.{◌≡◌, refl, sym, ap, ap₂, ◌∙◌}
use mathlib.Core.Bool.{Bool, true, false, false≢true}
use mathlib.Core.List.{List, [], ◌∷◌, ◌++◌, append_assoc}
use Prim.Native.Nat.{ℕ, suc, ◌+◌, ◌*◌, ◌/◌, ◌%◌, ◌≤◌, ◌<◌}
use native.Mathlib.Omega.{arith}
use borrow.Author.Tests.{eq-eqb, ne_eqb, le-leb, leb-true, eqb-true}
use lib.Dec.{leb, eqb}
use lib.ListN.{length, take, drop, length-append, length-drop, take-append-drop}
use lib.Seq.{drop-drop, take_at, drop_at}
use Rattle.base.proofs.Ifs.{if_true, if_false, if_case, and_true, and_first, and_second}
use Rattle.base.specs.Part.{part, all_are}
use Rattle.base.proofs.Parts.{length_part}
use Rattle.image.specs.Item.{Item, block, mark, reel_end, broken, most_bytes}
use Rattle.image.specs.Code.Items.{is_item, all_items}
use Rattle.image.specs.Byte.{Bytes}
use Rattle.image.specs.declared.Shape.{Shape}
use Rattle.image.specs.declared.Shape.TheVariants.{Block, Mark, ReelEnd, Broken}
use Rattle.image.proofs.Coding.{items_again, bytes_again}
use Rattle.image.proofs.RoundTrip.{bytes_drop}
use Rattle.simh.specs.Tape.{end_word, word, second, span_of, is_whole, led_by, shape, item_of, behind, item_in, left_of, decode, four, pad, bytes_of, encode}
use Rattle.simh.proofs.Words.{length_pad}
use Rattle.simh.proofs.Files.{BlockAt, block_at, mark_at, end_at_lem, left_less, decode_more}

-- ---- items, their bytes, the items again

word_four : (n : ℕ) (t : List ℕ) → word (four n ++ t) ≡ n
unfolding word four
word_four n t = omega arith

shape_four : (n : ℕ) (t : List ℕ) → shape (four n ++ t) ≡ led_by n (four n ++ t)
unfolding shape four
shape_four n t =
    if_true _ _ _ (le-leb 4 (suc (suc (suc (suc (length t))))) (omega arith))
    ∙ ap (λ (w : ℕ). led_by w (four n ++ t)) (word_four n t)

-- what is read from a length word and what follows it
decode_four : (n : ℕ) (t : List ℕ) (p : Shape) → led_by n (four n ++ t) ≡ p
    → decode (four n ++ t) ≡ item_of p (four n ++ t) ∷ decode (behind p (four n ++ t))
unfolding four
decode_four n t p e =
    decode_more (four n ++ t) (omega arith)
    ∙ ap (λ (q : Shape). item_of q (four n ++ t) ∷ decode (behind q (four n ++ t))) (shape_four n t ∙ e)

pad_zero : (n : ℕ) → all_are 0 (pad n) ≡ true
unfolding pad all_are
pad_zero n = if_case (λ (l : List ℕ). all_are 0 l ≡ true) (eqb (n % 2) 0) [] (0 ∷ []) (λ _. refl) (λ _. if_true _ _ _ refl)

-- a block as it is written, and what follows it
module _ (bs t : List ℕ) where
  abbrev n : ℕ
  n = length bs

  abbrev written : List ℕ
  written = four n ++ (bs ++ (pad n ++ (four n ++ t)))

  at_data : drop 4 written ≡ bs ++ (pad n ++ (four n ++ t))
  unfolding four
  at_data = refl

  at_pad : drop (4 + n) written ≡ pad n ++ (four n ++ t)
  at_pad = sym (drop-drop n 4 written) ∙ ap (drop n) at_data ∙ drop_at bs (pad n ++ (four n ++ t)) n refl

  at_second : drop (second n) written ≡ four n ++ t
  at_second =
      sym (drop-drop (n % 2) (4 + n) written) ∙ ap (drop (n % 2)) at_pad ∙ drop_at (pad n) (four n ++ t) (n % 2) (length_pad n)

  at_end : drop (span_of n) written ≡ t
  unfolding four
  at_end = sym (drop-drop 4 (second n) written) ∙ ap (drop 4) at_second

  long : length written ≡ span_of n + length t
  unfolding four
  long =
      let a = length-append bs (pad n ++ (four n ++ t)) in
      let b = length-append (pad n) (four n ++ t) in
      let c = length_pad n in
      omega arith

  is_whole_lem : is_whole n written ≡ true
  unfolding is_whole part
  is_whole_lem =
      and_true _ _ (le-leb (span_of n) (length written) (omega (arith, long)))
      (and_true _ _ (ap (λ (l : List ℕ). all_are 0 (take (n % 2) l)) at_pad
      ∙ ap (all_are 0) (take_at (pad n) (four n ++ t) (n % 2) (length_pad n)) ∙ pad_zero n)
      (eq-eqb (word (drop (second n) written)) n (ap word at_second ∙ word_four n t)))

  block_again : is_item (block bs) ≡ true → decode written ≡ block bs ∷ decode t
  unfolding is_item led_by item_of behind part
  block_again h =
      let some : 1 ≤ n = leb-true 1 n (and_first _ _ h) in
      let most : n ≤ most_bytes = leb-true n most_bytes (and_second (leb 1 n) _ h) in
      let not-mark : n ≡ 0 → ⊥ = omega arith in
      let not_end : n ≡ end_word → ⊥ = omega arith in
      decode_four n (bs ++ (pad n ++ (four n ++ t))) (Block n)
      (if_false _ _ _ (ne_eqb n 0 not-mark) ∙ if_false _ _ _ (ne_eqb n end_word not_end) ∙ if_true _ _ _ (le-leb n most_bytes most)
      ∙ if_true _ _ _ is_whole_lem)
      ∙ ap₂ (λ (b l : List ℕ). block b ∷ decode l) (ap (take n) at_data ∙ take_at bs (pad n ++ (four n ++ t)) n refl) at_end

pub decode_item : (x : Item) (t : List ℕ) → is_item x ≡ true → decode (bytes_of x ++ t) ≡ x ∷ decode t
unfolding bytes_of is_item led_by item_of behind four
decode_item (block bs) t h =
    let n : ℕ = length bs in
    ap decode (append_assoc (four n ++ bs ++ pad n) (four n) t ∙ append_assoc (four n ++ bs) (pad n) (four n ++ t)
    ∙ append_assoc (four n) bs (pad n ++ (four n ++ t)))
    ∙ block_again bs t h
decode_item mark t h = decode_four 0 t Mark (if_true _ _ _ refl)
decode_item reel_end t h = decode_four end_word t ReelEnd (if_false _ _ _ refl ∙ if_true _ _ _ refl)
decode_item broken t h = absurd (false≢true h)

pub decode_encode : (xs : List Item) → all_items xs ≡ true → decode (encode xs) ≡ xs
unfolding decode encode
decode_encode = items_again item_in left_of bytes_of decode_item

-- ---- bytes, their items, the bytes again

four_word : (s : List ℕ) → Bytes s → 4 ≤ length s → four (word s) ≡ take 4 s
unfolding four word
four_word [] b h = absurd (omega arith)
four_word (x ∷ []) b h = absurd (omega arith)
four_word (x ∷ y ∷ []) b h = absurd (omega arith)
four_word (x ∷ y ∷ z ∷ []) b h = absurd (omega arith)
four_word (x ∷ y ∷ z ∷ u ∷ s) b h =
    let i : x < 256 = b 0 in
    let j : y < 256 = b 1 in
    let k : z < 256 = b 2 in
    let a : (x + y * 256 + z * 65536 + u * 16777216) % 256 ≡ x = omega arith in
    let behind-first : (x + y * 256 + z * 65536 + u * 16777216) / 256 ≡ y + z * 256 + u * 65536 = omega arith in
    let behind-second : (x + y * 256 + z * 65536 + u * 16777216) / 65536 ≡ z + u * 256 = omega arith in
    let c : (x + y * 256 + z * 65536 + u * 16777216) / 256 % 256 ≡ y = ap (λ (m : ℕ). m % 256) behind-first ∙ omega arith in
    let d : (x + y * 256 + z * 65536 + u * 16777216) / 65536 % 256 ≡ z = ap (λ (m : ℕ). m % 256) behind-second ∙ omega arith in
    let e : (x + y * 256 + z * 65536 + u * 16777216) / 16777216 ≡ u = omega arith in
    cc

-- a length word and what stands behind it are the whole
word_again : (s : List ℕ) (w : ℕ) → Bytes s → word s ≡ w → 4 ≤ length s → four w ++ drop 4 s ≡ s
word_again s w b e h =
    ap (λ (k : ℕ). four k ++ drop 4 s) (sym e) ∙ ap (λ (l : List ℕ). l ++ drop 4 s) (four_word s b h) ∙ take-append-drop 4 s

-- bytes that are all 0, none or one
zeros : (n : ℕ) (l : List ℕ) → length l ≡ n % 2 → all_are 0 l ≡ true → l ≡ pad n
unfolding pad all_are
zeros n [] e h = sym (if_true _ _ _ (eq-eqb (n % 2) 0 (sym e)))
zeros n (x ∷ []) e h =
    let odd : n % 2 ≡ 0 → ⊥ = omega arith in
    let z : x ≡ 0 = if_case (λ (t : Bool). t ≡ true → x ≡ 0) (eqb x 0) true false (λ q _. eqb-true x 0 q) (λ _ q. absurd (false≢true q)) h in
    ap (λ (k : ℕ). k ∷ []) z ∙ sym (if_false _ _ _ (ne_eqb (n % 2) 0 odd))
zeros n (x ∷ y ∷ l) e h = absurd (omega arith)

whole_again : (s : List ℕ) (n : ℕ) → Bytes s → BlockAt s n → bytes_of (block (part 4 n s)) ++ drop (span_of n) s ≡ s
unfolding bytes_of part
whole_again s n b a =
    let whole : span_of n ≤ length s = a.whole in
    let size : length (part 4 n s) ≡ n = length_part 4 n s (omega arith) in
    let padded : part (4 + n) (n % 2) s ≡ pad n = zeros n (part (4 + n) (n % 2) s) (length_part (4 + n) (n % 2) s (omega arith)) a.zero in
    let left : 4 ≤ length (drop (second n) s) = simp length-drop (omega arith) in
    let last : four n ++ drop (span_of n) s ≡ drop (second n) s
    = ap (λ (l : List ℕ). four n ++ l) (sym (drop-drop 4 (second n) s)) ∙ word_again (drop (second n) s) n (bytes_drop (second n) s b) a.again left in
    let third : pad n ++ drop (second n) s ≡ drop (4 + n) s
    = ap₂ ◌++◌ (sym padded) (sym (drop-drop (n % 2) (4 + n) s)) ∙ take-append-drop (n % 2) (drop (4 + n) s) in
    let data-there : part 4 n s ++ drop (4 + n) s ≡ drop 4 s
    = ap (λ (l : List ℕ). part 4 n s ++ l) (sym (drop-drop n 4 s)) ∙ take-append-drop n (drop 4 s) in
    ap (λ (k : ℕ). (four k ++ part 4 n s ++ pad k ++ four k) ++ drop (span_of n) s) size
    ∙ append_assoc (four n ++ part 4 n s ++ pad n) (four n) (drop (span_of n) s)
    ∙ ap (λ (l : List ℕ). (four n ++ part 4 n s ++ pad n) ++ l) last
    ∙ append_assoc (four n ++ part 4 n s) (pad n) (drop (second n) s)
    ∙ ap (λ (l : List ℕ). (four n ++ part 4 n s) ++ l) third
    ∙ append_assoc (four n) (part 4 n s) (drop (4 + n) s)
    ∙ ap (λ (l : List ℕ). four n ++ l) data-there
    ∙ word_again s n b a.led (omega arith)

-- an item that is not broken has the bytes at whose head it stands
item_again : (p : Shape) (s : List ℕ) → shape s ≡ p → Bytes s → is_item (item_of p s) ≡ true
    → bytes_of (item_of p s) ++ behind p s ≡ s
unfolding item_of behind bytes_of is_item
item_again (Block n) s e b h = whole_again s n b (block_at s n e)
item_again Mark s e b h = word_again s 0 b (mark_at s e).led (mark_at s e).whole
item_again ReelEnd s e b h = word_again s end_word b (end_at_lem s e).led (end_at_lem s e).whole
item_again Broken s e b h = absurd (false≢true h)

bytes_behind_lem : (p : Shape) (s : List ℕ) → Bytes s → Bytes (behind p s)
unfolding behind
bytes_behind_lem (Block n) s b = bytes_drop (span_of n) s b
bytes_behind_lem Mark s b = bytes_drop 4 s b
bytes_behind_lem ReelEnd s b = bytes_drop 4 s b
bytes_behind_lem Broken s b = λ i. omega arith

pub encode_decode : (s : List ℕ) → Bytes s → all_items (decode s) ≡ true → encode (decode s) ≡ s
unfolding decode encode
encode_decode =
    bytes_again item_in left_of left_less bytes_of (λ s b h. item_again (shape s) s refl b h) (λ s b. bytes_behind_lem (shape s) s b)
