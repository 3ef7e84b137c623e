-- What the passes over files and over an image find, and what they ask for before they write: contracts of functions that no
-- caller sees.
use Rattle.std.specs.Prelude.{◌≡◌, true, Result, Ok, Err, ℕ, ◌+◌, ◌≤◌, length}
use mathlib.Core.List.{List, [], ◌∷◌, flatten as end_to_end}
use Rattle.base.specs.Answer.{verdict}
use Rattle.base.specs.Sum.{sum}
use Rattle.base.specs.declared.Verdict.{Verdict}
use Rattle.image.specs.Item.{Item, block, mark, reel_end, broken, encode as image_bytes}
use Rattle.image.specs.Code.Items.{all_items}
use Rattle.image.specs.Framing.{items}
use Rattle.simh.specs.declared.import.Scan.{Scan}
use Rattle.simh.specs.declared.export.Size.{Size}
use Rattle.simh.specs.declared.export.Tapes.{Tapes}
use Rattle.simh.specs.Tape.{span_of, decode, encode}
use Rattle.simh.specs.Set.{reels_verdict, reels_in}

-- what was found where nothing is wrong
pub record Right {A : Type 0} (v : Verdict) (found : A → Type 0) (x : A) : Type 0 where
  pub said : v ≡ verdict 0 0 0
  pub is : found x

-- a refusal, which has a number
pub record Wrong (v refusal : Verdict) : Type 0 where
  pub said : refusal ≡ v
  pub number : refusal.number ≡ 0 → ⊥

-- where the answer is v: with number 0 what was found, and else that answer
abbrev pub Answered : {A : Type 0} → Verdict → (A → Type 0) → Result A Verdict → Type 0
Answered v found (Ok x) = Right v found x
Answered v found (Err refusal) = Wrong v refusal

-- ---- in

-- the items of a whole set
abbrev pub items_in : List ℕ → List ℕ → List Item
items_in tape lengths = end_to_end (reels_in tape lengths)

-- one file whose first item is number n, and in which nothing is wrong
pub record Scanned (n : ℕ) (s : List ℕ) (r : Scan) : Type 0 where
  pub all : r.item ≡ n + length (decode s)
  pub bytes : r.len ≡ length (image_bytes (decode s))
  pub few : r.item ≤ n + length s
  pub less : r.len ≤ length s

-- all files, by the bytes of their items in an image
abbrev pub Measured : List ℕ → List ℕ → ℕ → Type 0
Measured tape lengths n = n ≡ length (image_bytes (items_in tape lengths))

-- items that can stand in an image, and that have room from a place on
pub record FittingItems (xs : List Item) (size at : ℕ) : Type 0 where
  pub right : all_items xs ≡ true
  pub room : at + length (image_bytes xs) ≤ size

-- files that their lengths tell, in which nothing is wrong, with room behind the head of an image
pub record Storable (tape lengths : List ℕ) (size : ℕ) : Type 0 where
  pub whole : sum lengths ≡ length tape
  pub right : (reels_verdict 0 (reels_in tape lengths)).number ≡ 0
  pub room : 5 + length (image_bytes (items_in tape lengths)) ≤ size

-- ---- out

-- the lengths of the files of some items, the first of which has so many bytes already
unfoldable pub lengths_from : ℕ → List Item → List ℕ
lengths_from n [] = []
lengths_from n (block bs ∷ xs) = lengths_from (n + span_of (length bs)) xs
lengths_from n (mark ∷ xs) = lengths_from (n + 4) xs
lengths_from n (reel_end ∷ xs) = (n + 4) ∷ lengths_from 0 xs
lengths_from n (broken ∷ xs) = []

-- an image with a good framing, by the bytes and the number of its files
pub record Sized (s : List ℕ) (r : Size) : Type 0 where
  pub bytes : r.len ≡ length (encode (items s))
  pub reels : r.files ≡ length (lengths_from 0 (items s))

-- items that can stand in an image, with room for their files and for the lengths of these
pub record FilesFit (xs : List Item) (size list : ℕ) : Type 0 where
  pub right : all_items xs ≡ true
  pub room : length (encode xs) ≤ size
  pub entries : length (lengths_from 0 xs) ≤ list

-- number 10
unfoldable pub short_of : Tapes
short_of = record { verdict = verdict 10 0 0; len = 0; files = 0 }
