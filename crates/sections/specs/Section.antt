-- The labels that the writer makes around the blocks of a section. Document 01: the writer makes no optional labels.
use Rattle.std.specs.Prelude.{List, [], ◌∷◌, ◌++◌, ℕ, ◌+◌, get_or}
use Rattle.base.specs.Part.{part}
use Rattle.image.specs.Item.{Item, block, mark, reel_end, encode}
use Rattle.image.specs.Framing.{head}
use Rattle.label.specs.Name.{hdr1_name, hdr2_name, eov1_name, eov2_name, eof1_name, eof2_name}
use Rattle.label.specs.Made.{made_volume, entry_length, made_first, made_second}

-- HDR1, HDR2 and a mark
unfoldable pub headers : List ℕ → List ℕ → ℕ → ℕ → List Item
headers set e section sequence = block (made_first hdr1_name set e section sequence 0) ∷ block (made_second hdr2_name e) ∷ mark ∷ []

-- a mark, EOF1, EOF2 and a mark behind the last section of a file with its block count
unfoldable pub file_end : List ℕ → List ℕ → ℕ → ℕ → ℕ → List Item
file_end set e section sequence count =
    mark ∷ block (made_first eof1_name set e section sequence count) ∷ block (made_second eof2_name e) ∷ mark ∷ []

-- a mark, EOV1, EOV2, two marks and the end of the reel behind a section that goes on
unfoldable pub volume_end : List ℕ → List ℕ → ℕ → ℕ → ℕ → List Item
volume_end set e section sequence count =
    mark ∷ block (made_first eov1_name set e section sequence count) ∷ block (made_second eov2_name e) ∷ mark ∷ mark ∷ reel_end ∷ []

-- what an image begins with: its head, and the volume label of the first reel
unfoldable pub image_head : List ℕ → List ℕ
image_head name = head ++ encode (block (made_volume name) ∷ [])

-- the bytes of the set entry
abbrev pub set_length : ℕ
set_length = 6

-- what the labels of a file are made of, one behind the other: the file's entry, its number in the set, and the set entry
abbrev pub entry_in : List ℕ → List ℕ
entry_in labels = part 0 entry_length labels

abbrev pub sequence_in : List ℕ → ℕ
sequence_in labels = get_or labels entry_length 0

abbrev pub set_in : List ℕ → List ℕ
set_in labels = part (entry_length + 1) set_length labels
