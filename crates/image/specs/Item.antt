-- The image of a set as items. Document 01, "The image of a set" (house): bytes `TGI`, a 16-bit version, high byte first, equal
-- to 1; then items, each led by a 3-byte length, high byte first: 0 is a tape mark, 1 to 99,999 a block of that many bytes,
-- 16,777,215 the end of the reel; any other length is wrong.
--
-- Read first: `shape`, what stands at the head of some bytes; `decode`, the items of the bytes behind the five-byte head, of
-- which `decode_none` and `decode_more` (proofs/Items.antt) are the equations; `encode`, the bytes of items.
-- A wrong length, or an item cut short, is the item `broken`, behind which nothing is read: `decode` is total.
use Rattle.std.specs.Prelude.{List, [], ◌∷◌, ◌++◌, ℕ, zero, suc, ◌+◌, ◌*◌, ◌/◌, ◌%◌, leb, eqb, length, drop, get_or}
use Rattle.base.specs.If.{if_b}
use Rattle.base.specs.Part.{part}
use Rattle.image.specs.declared.Shape.{Shape}
use Rattle.image.specs.declared.Shape.TheVariants.{Block, Mark, ReelEnd, Broken}

pub data Item : Type 0 where
  block : List ℕ → Item
  mark : Item
  reel_end : Item
  broken : Item

-- the most bytes of a block, and the length word that ends a reel
abbrev pub most_bytes : ℕ
most_bytes = 99999

abbrev pub reel_end_word : ℕ
reel_end_word = 16777215

-- ---- items from bytes

-- the length word at the head: three bytes, the high byte first
unfoldable pub word : List ℕ → ℕ
word s = get_or s 0 0 * 65536 + get_or s 1 0 * 256 + get_or s 2 0

-- what a length word with n bytes behind it leads
unfoldable pub led_by : ℕ → ℕ → Shape
led_by w n = if_b (eqb w 0) Mark (if_b (eqb w reel_end_word) ReelEnd (if_b (leb w most_bytes) (if_b (leb w n) (Block w) Broken) Broken))

-- what stands at the head of some bytes; fewer than three are a cut item
unfoldable pub shape : List ℕ → Shape
shape s = if_b (leb 3 (length s)) (led_by (word s) (length (drop 3 s))) Broken

-- the length of a block of that shape; 0, which no block has, for anything else
unfoldable pub block_length : Shape → ℕ
block_length (Block n) = n
block_length Mark = 0
block_length ReelEnd = 0
block_length Broken = 0

-- the item of that shape at the head of some bytes
unfoldable pub item_of : Shape → List ℕ → Item
item_of (Block n) s = block (part 3 n s)
item_of Mark s = mark
item_of ReelEnd s = reel_end
item_of Broken s = broken

-- what is left behind it: nothing behind a broken item
unfoldable pub behind : Shape → List ℕ → List ℕ
behind (Block n) s = drop (3 + n) s
behind Mark s = drop 3 s
behind ReelEnd s = drop 3 s
behind Broken s = []

-- items one behind the other, in any container: which item stands at the head of some bytes, and what is left behind it; this
-- counts down a number that is large enough, the length
unfoldable pub decode_f : (List ℕ → Item) → (List ℕ → List ℕ) → ℕ → List ℕ → List Item
decode_f item rest zero s = []
decode_f item rest (suc f) [] = []
decode_f item rest (suc f) (x ∷ xs) = item (x ∷ xs) ∷ decode_f item rest f (rest (x ∷ xs))

abbrev pub decode_by : (List ℕ → Item) → (List ℕ → List ℕ) → List ℕ → List Item
decode_by item rest s = decode_f item rest (length s) s

abbrev pub item_in : List ℕ → Item
item_in s = item_of (shape s) s

abbrev pub left_of : List ℕ → List ℕ
left_of s = behind (shape s) s

unfoldable pub decode : List ℕ → List Item
decode s = decode_by item_in left_of s

-- ---- bytes from items

-- a length as three bytes, the high byte first
unfoldable pub three : ℕ → List ℕ
three n = (n / 65536) ∷ (n / 256 % 256) ∷ (n % 256) ∷ []

unfoldable pub bytes_of : Item → List ℕ
bytes_of (block bs) = three (length bs) ++ bs
bytes_of mark = three 0
bytes_of reel_end = three reel_end_word
bytes_of broken = []

-- the bytes of items one behind the other, in any container
unfoldable pub encode_by : (Item → List ℕ) → List Item → List ℕ
encode_by bytes [] = []
encode_by bytes (x ∷ xs) = bytes x ++ encode_by bytes xs

unfoldable pub encode : List Item → List ℕ
encode xs = encode_by bytes_of xs
