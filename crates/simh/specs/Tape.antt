-- A reel as an emulator keeps it: the SIMH magtape form. Document 02, P1: a 4-byte length, low byte first, the data padded to an
-- even count, the length again; 0 is a tape mark, FFFFFFFF hexadecimal the end of the medium. Of good data records alone: any
-- other length word is wrong, as is a second length that differs, or a pad byte that is not 0.
--
-- Read first: `shape`, what stands at the head of some bytes of a file; `decode`, the items of a file; `encode`, the file of
-- items.
-- As in an image, a wrong word and a block cut short are the item `broken`, behind which nothing is read.
use Rattle.std.specs.Prelude.{Bool, ◌&&◌, List, [], ◌∷◌, ◌++◌, ℕ, ◌+◌, ◌*◌, ◌/◌, ◌%◌, leb, eqb, length, drop, get_or}
use Rattle.base.specs.If.{if_b}
use Rattle.base.specs.Part.{part, all_are}
use Rattle.image.specs.Item.{Item, block, mark, reel_end, broken, most_bytes, decode_by, encode_by}
use Rattle.image.specs.declared.Shape.{Shape}
use Rattle.image.specs.declared.Shape.TheVariants.{Block, Mark, ReelEnd, Broken}

-- the length word that ends the medium
abbrev pub end_word : ℕ
end_word = 4294967295

-- ---- items from bytes

-- the length word at the head: four bytes, the low byte first
unfoldable pub word : List ℕ → ℕ
word s = get_or s 0 0 + get_or s 1 0 * 256 + get_or s 2 0 * 65536 + get_or s 3 0 * 16777216

-- where the second length of a block of n bytes stands: behind the first one, the data and the pad byte of an odd count
abbrev pub second : ℕ → ℕ
second n = 4 + n + n % 2

-- all bytes of such a block
abbrev pub span_of : ℕ → ℕ
span_of n = second n + 4

-- a block of n bytes stands whole at the head: to the end of its second length, which is n again, and its pad byte is 0
unfoldable pub is_whole : ℕ → List ℕ → Bool
is_whole n s = leb (span_of n) (length s) && (all_are 0 (part (4 + n) (n % 2) s) && eqb (word (drop (second n) s)) n)

-- what a length word at the head leads
unfoldable pub led_by : ℕ → List ℕ → Shape
led_by w s = if_b (eqb w 0) Mark (if_b (eqb w end_word) ReelEnd (if_b (leb w most_bytes) (if_b (is_whole w s) (Block w) Broken) Broken))

-- what stands at the head of some bytes; fewer than four are a word cut short
unfoldable pub shape : List ℕ → Shape
shape s = if_b (leb 4 (length s)) (led_by (word s) s) Broken

-- the item of that shape, and what is left behind it
unfoldable pub item_of : Shape → List ℕ → Item
item_of (Block n) s = block (part 4 n s)
item_of Mark s = mark
item_of ReelEnd s = reel_end
item_of Broken s = broken

unfoldable pub behind : Shape → List ℕ → List ℕ
behind (Block n) s = drop (span_of n) s
behind Mark s = drop 4 s
behind ReelEnd s = drop 4 s
behind Broken s = []

abbrev pub item_in : List ℕ → Item
item_in s = item_of (shape s) s

abbrev pub left_of : List ℕ → List ℕ
left_of s = behind (shape s) s

-- the items of a file, to its last byte
unfoldable pub decode : List ℕ → List Item
decode s = decode_by item_in left_of s

-- ---- bytes from items

-- a length as four bytes, the low byte first
unfoldable pub four : ℕ → List ℕ
four n = (n % 256) ∷ (n / 256 % 256) ∷ (n / 65536 % 256) ∷ (n / 16777216) ∷ []

-- the pad byte of an odd count
unfoldable pub pad : ℕ → List ℕ
pad n = if_b (eqb (n % 2) 0) [] (0 ∷ [])

unfoldable pub bytes_of : Item → List ℕ
bytes_of (block bs) = four (length bs) ++ bs ++ pad (length bs) ++ four (length bs)
bytes_of mark = four 0
bytes_of reel_end = four end_word
bytes_of broken = []

unfoldable pub encode : List Item → List ℕ
encode xs = encode_by bytes_of xs
