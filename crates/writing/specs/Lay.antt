-- Laying a meaning down on reels as items. Document 01: when a block must be opened and the reel has no room for it, the section
-- ends with EOV and the next named reel is begun. The room of a reel counts its data blocks, over all its files; a quota is the
-- same room for every reel.
--
-- One pass with what follows as a continuation: `short` where a reel is needed and none is left (number 12).
use Rattle.std.specs.Prelude.{List, [], ◌∷◌, ◌++◌, ℕ, zero, suc, pred}
use Rattle.image.specs.Item.{Item, block, mark, reel_end}
use Rattle.label.specs.Made.{made_volume}
use Rattle.sections.specs.Section.{headers, file_end, volume_end}
use Rattle.volume.specs.Meaning.{File, Meaning}
use Rattle.reading.specs.Legal.{Sheet, format_from, block_length_from}
use Rattle.writing.specs.Pack.{blocks_of}

-- a reel that may be written: its name, and the data blocks for which it has room, 1 or more
pub record Reel : Type 0 where
  pub name : List ℕ
  pub room : ℕ

-- reels with one room: what a quota says
unfoldable pub reels_of : ℕ → List (List ℕ) → List Reel
reels_of quota [] = []
reels_of quota (n ∷ ns) = record { name = n; room = quota } ∷ reels_of quota ns

pub data Laid : Type 0 where
  laid : List Item → Laid
  short : Laid

-- items in front of what is laid
unfoldable pub put : List Item → Laid → Laid
put xs (laid ys) = laid (xs ++ ys)
put xs short = short

-- ---- the blocks of a file, from a section with `count` blocks on, on a reel with room for `room` more

-- what follows a file, by the room on its last reel and the reels that are left
abbrev pub Sequel : Type 0
Sequel = ℕ → List Reel → Laid

-- `reels` are those not begun yet; `next` lays what follows the file
unfoldable pub rest : List ℕ → List ℕ → ℕ → ℕ → ℕ → ℕ → List Reel → List (List ℕ) → Sequel → Laid
rest set e sequence section count room reels [] next = put (file_end set e section sequence count) (next room reels)
rest set e sequence section count (suc room) reels (b ∷ bs) next =
    put (block b ∷ []) (rest set e sequence section (suc count) room reels bs next)
rest set e sequence section count zero [] (b ∷ bs) next = short
rest set e sequence section count zero (r ∷ reels) (b ∷ bs) next =
    put (volume_end set e section sequence count ++ (block (made_volume r.name) ∷ headers set e (suc section) sequence) ++
    (block b ∷ []))
    (rest set e sequence (suc section) 1 (pred r.room) reels bs next)

-- ---- all files

unfoldable pub lay_files : List ℕ → ℕ → ℕ → List Reel → List File → Laid
lay_files set sequence room reels [] = laid (mark ∷ reel_end ∷ [])
lay_files set sequence room reels (d ∷ ds) =
    put (headers set d.fields 1 sequence)
    (rest set d.fields sequence 1 0 room reels (blocks_of (format_from d.fields) (block_length_from d.fields) d.records)
    (λ left others. lay_files set (suc sequence) left others ds))

-- the items of a meaning on these reels: the first reel, its files, and the second mark and the end of the last reel
unfoldable pub lay_on : Meaning → List Reel → Laid
lay_on m [] = short
lay_on m (r ∷ rs) = put (block (made_volume r.name) ∷ []) (lay_files m.set 1 r.room rs m.files)

unfoldable pub lay : Sheet → Laid
lay s = lay_on s.meaning (reels_of s.quota s.names)
