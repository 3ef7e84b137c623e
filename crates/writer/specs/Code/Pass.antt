-- How a pass of the writer ends: what the buffer then holds, and where the image ends in it; or that a reel is lacking. A pass
-- that lays writes as it goes on, one that measures only counts. What is left to be written from a pen on is told by the
-- definitions of packing and laying; what follows the file is a continuation, as there.
--
-- In this folder, and wherever code has definitions of its own, `CanX` is what a function asks for, and `DidX` what it owes its
-- definition when it is done.
use Rattle.std.specs.Prelude.{◌≡◌, Bool, true, false, List, [], ◌∷◌, ◌++◌, ℕ, ◌+◌, ◌*◌, ◌≤◌, ◌<◌, eqb, length, take, drop, get_or}
use Rattle.base.specs.If.{if_b}
use Rattle.base.specs.Part.{part, put_at}
use Rattle.image.specs.Item.{encode, three}
use Rattle.image.specs.Framing.{head}
use Rattle.label.specs.Made.{entry_length}
use Rattle.sections.specs.Section.{set_length, entry_in, sequence_in, set_in}
use Rattle.sheet.specs.Flat.{in_parts}
use Rattle.writing.specs.Pack.{Left, finished, going, start_of, fill, after, blocks_left}
use Rattle.writing.specs.Lay.{Reel, Laid, laid, short, Sequel, rest}
use Rattle.writer.specs.declared.pen.Job.{Job as Held}
use Rattle.writer.specs.declared.pen.Pen.{Pen}

-- one more than the longest image
abbrev pub over_long : ℕ
over_long = 16777216

-- ---- the reels

-- reels of these rooms and names
unfoldable pub reels_from : List ℕ → List (List ℕ) → List Reel
reels_from [] ns = []
reels_from (q ∷ qs) [] = []
reels_from (q ∷ qs) (n ∷ ns) = record { name = n; room = q } ∷ reels_from qs ns

-- those behind the first i, as the slices hold them
unfoldable pub reels_at : List ℕ → List ℕ → ℕ → List Reel
reels_at rooms names i = reels_from (drop i rooms) (in_parts 6 (drop (6 * i) names))

-- a room for each name, of 1 to 999,999 blocks
pub record Reels (rooms names : List ℕ) : Type 0 where
  pub whole : length names ≡ 6 * length rooms
  pub few : length rooms ≤ 16
  pub least : (i : ℕ) → i < length rooms → 1 ≤ get_or rooms i 0
  pub most : (i : ℕ) → i < length rooms → get_or rooms i 0 ≤ 999999

-- what the labels of a file are made of, and the reels
pub record Job : Type 0 where
  pub set : List ℕ
  pub entry : List ℕ
  pub sequence : ℕ
  pub rooms : List ℕ
  pub names : List ℕ

abbrev pub job : List ℕ → List ℕ → ℕ → List ℕ → List ℕ → Job
job set e sequence rooms names = record { set = set; entry = e; sequence = sequence; rooms = rooms; names = names }

-- the names of n reels, behind the other label parts
abbrev pub names_in : ℕ → List ℕ → List ℕ
names_in n labels = part (entry_length + 1 + set_length) (6 * n) labels

abbrev pub job_with : List ℕ → List ℕ → Job
job_with labels rooms = job (set_in labels) (entry_in labels) (sequence_in labels) rooms (names_in (length rooms) labels)

-- as the code holds it
abbrev pub job_of : Held → Job
job_of h = job_with h.labels.now h.rooms.now

-- ---- the buffer

-- o with bs at a place, where the pass lays; else o
unfoldable pub ink_at : Bool → List ℕ → ℕ → List ℕ → List ℕ
ink_at lay o at bs = if_b lay (put_at o at bs) o

-- what is left to be written: how long the open block becomes, and the bytes behind what is written; or a reel is lacking
pub data Ink : Type 0 where
  ink : ℕ → List ℕ → Ink
  lacks : Ink

-- cs for the open block, of which u bytes are used, then items
unfoldable pub inked : ℕ → List ℕ → Laid → Ink
inked u cs (laid xs) = ink (u + length cs) (cs ++ encode xs)
inked u cs short = lacks

-- how a pass ends; where a reel is lacking, nothing is said of the buffer
pub record PassEnd : Type 0 where
  pub out : List ℕ
  pub end : ℕ
  pub short : Bool

-- the place behind what is written: behind the u bytes of the block that is open at a place, or there
unfoldable pub behind : Bool → ℕ → ℕ → ℕ
behind is_open at u = if_b is_open (at + 3 + u) at

-- the length of an open block is written last
unfoldable pub inked_at : Bool → ℕ → ℕ → List ℕ → ℕ → List ℕ → List ℕ
inked_at is_open at u o n ys = if_b is_open (put_at (put_at o (at + 3 + u) ys) at (three n)) (put_at o at ys)

unfoldable pub outcome : Bool → Bool → ℕ → ℕ → List ℕ → Ink → PassEnd
outcome lay is_open at u o (ink n ys) =
    record { out = if_b lay (inked_at is_open at u o n ys) o; end = behind is_open at u + length ys; short = false }
outcome lay is_open at u o lacks = record { out = []; end = 0; short = true }

-- ---- a pen

-- the blocks bs from a pen between blocks on
unfoldable pub rest_of : Job → Pen → List (List ℕ) → Sequel → Laid
rest_of j p bs next =
    rest j.set j.entry j.sequence p.section p.count p.room (reels_at j.rooms j.names p.next) bs next

-- how the pass ends if the open block still gets cs, and the blocks bs follow
unfoldable pub ends : Bool → Job → Pen → List ℕ → List ℕ → List (List ℕ) → Sequel → PassEnd
ends lay j p o cs bs next =
    outcome lay p.on p.at p.used o (if_b p.short lacks (inked p.used cs (rest_of j p bs next)))

-- how the pass ends from a pen between files on, if l is still to be laid
unfoldable pub laid_from : Bool → Pen → List ℕ → Laid → PassEnd
laid_from lay p o l = outcome lay false p.at 0 o (if_b p.short lacks (inked 0 [] l))

-- how it ends from the very beginning on
unfoldable pub imaged : Laid → Ink
imaged (laid xs) = ink 0 (head ++ encode xs)
imaged short = lacks

unfoldable pub image_from : Bool → List ℕ → Laid → PassEnd
image_from lay o l = outcome lay false 0 0 o (imaged l)

-- ---- what is due of a file

-- between units, what is left of the file; or within a unit, of which k bytes of x are still to come, and the records behind x
pub data UnitDue : Type 0 where
  between : Left → UnitDue
  within : ℕ → List ℕ → List (List ℕ) → UnitDue

unfoldable pub fill_of : ℕ → ℕ → ℕ → Left → List ℕ
fill_of f b u finished = []
fill_of f b u (going t x xs) = fill f b u t x xs

unfoldable pub after_of : ℕ → ℕ → ℕ → Left → Left
after_of f b u finished = finished
after_of f b u (going t x xs) = after f b u t x xs

-- what the open block still gets, if one is open, and what is left behind it
unfoldable pub fill_due : ℕ → ℕ → Bool → ℕ → UnitDue → List ℕ
fill_due f b is_open u (between l) = if_b is_open (fill_of f b u l) []
fill_due f b is_open u (within k x xs) = take k x ++ if_b (eqb k (length x)) (fill_of f b (u + k) (start_of xs)) []

unfoldable pub left_due : ℕ → ℕ → Bool → ℕ → UnitDue → Left
left_due f b is_open u (between l) = if_b is_open (after_of f b u l) l
left_due f b is_open u (within k x xs) = if_b (eqb k (length x)) (after_of f b (u + k) (start_of xs)) (going 1 (drop k x) xs)

-- how the pass ends from a pen on, with that due and then whatever follows the file
unfoldable pub penned : Bool → ℕ → ℕ → Job → Pen → List ℕ → UnitDue → Sequel → PassEnd
penned lay f b j p o d next =
    ends lay j p o (fill_due f b p.on p.used d) (blocks_left f b (left_due f b p.on p.used d)) next

-- ---- bounds

-- a pass that lays has measured: it ends within the buffer
pub record EndsWithin (w : PassEnd) (size : ℕ) : Type 0 where
  pub given : w.short ≡ false
  pub within : w.end ≤ size
  pub most : w.end < over_long

-- the numbers of a pen behind that many groups of labels. Its place is bounded by them and by the blocks for which there was
-- room, of at most 100,002 bytes each
pub record SoundAt (rooms names : List ℕ) (labels : ℕ) (p : Pen) : Type 0 where
  pub reels : Reels rooms names
  pub blocks : p.count + p.room ≤ 999999
  pub begun : 1 ≤ p.next
  pub sections : p.section ≤ p.next
  pub within : p.next ≤ length rooms
  pub turn : labels ≤ 200
  pub used : p.used ≤ 99999
  pub place : p.at + 100002 * p.room ≤ 200000000000 * p.next + 1000 * labels
  pub on : p.on ≡ true → p.at + 100002 + 100002 * p.room ≤ 200000000000 * p.next + 1000 * labels

-- those of a pen between files, of which n are laid, and of one in a file: each has a group before it and a group behind it
abbrev pub BetweenFiles : List ℕ → List ℕ → ℕ → Pen → Type 0
BetweenFiles rooms names n p = SoundAt rooms names (2 * n + 1) p

abbrev pub Sound : Job → Pen → Type 0
Sound j p = SoundAt j.rooms j.names (2 * j.sequence) p
