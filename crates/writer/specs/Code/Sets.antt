-- All files of a set laid down. They come from the slices of a sheet or from an accepted image: `files_at` is what is left of them
-- at a place, and the loop over them knows nothing else.
use Rattle.std.specs.Prelude.{◌≡◌, Bool, true, false, List, [], ◌∷◌, ℕ, suc, ◌+◌, ◌*◌, ◌≤◌, ◌<◌, ltb, length, drop, get_or, Option, Some, None}
use Rattle.base.specs.If.{if_b}
use Rattle.base.specs.Part.{part}
use Rattle.base.specs.Sum.{sum}
use Rattle.image.specs.Item.{mark, reel_end}
use Rattle.label.specs.Made.{entry_length}
use Rattle.volume.specs.Meaning.{File, Meaning, fields_from, content}
use Rattle.reading.specs.Legal.{Sheet, legal_files, legal_names, legal_quota}
use Rattle.sheet.specs.Flat.{in_parts, files_from}
use Rattle.content.specs.File.{file_behind}
use Rattle.content.specs.Code.Files.{Filed as Met}
use Rattle.content.specs.declared.Walk.{Walk}
use Rattle.content.specs.declared.FileAt.{FileAt}
use Rattle.writing.specs.Lay.{Laid, laid, lay_files, lay_on}
use Rattle.sections.specs.Section.{entry_in, sequence_in, set_in}
use Rattle.writer.specs.declared.pen.Pen.{Pen}
use Rattle.writer.specs.declared.source.Cursor.{Cursor}
use Rattle.writer.specs.declared.set.Input.{Input}
use Rattle.writer.specs.declared.set.Place.{Place}
use Rattle.writer.specs.Code.Pass.{names_in, reels_at, Reels, laid_from, image_from, EndsWithin, BetweenFiles}

-- where files come from: the entries and counts of a sheet, or an image
pub data Origin : Type 0 where
  listed : List ℕ → List ℕ → Origin
  read : Origin

unfoldable pub origin_of : Bool → List ℕ → List ℕ → Origin
origin_of image files counts = if_b image read (listed files counts)

-- how many files there are
unfoldable pub total_of : Origin → List ℕ → ℕ
total_of (listed files counts) bytes = length counts
total_of read bytes = length (content bytes).files

-- the files from a place on
unfoldable pub files_at : Origin → List ℕ → List ℕ → Place → List File
files_at (listed files counts) lengths bytes g =
    files_from (in_parts entry_length (drop (entry_length * g.nth) files))
    (drop g.nth counts) (drop g.first lengths) (drop g.byte bytes)
files_at read lengths bytes g = drop g.nth (content bytes).files

-- a place among the files of a sheet, where what is left adds up
pub record Listed (files counts lengths bytes : List ℕ) (g : Place) : Type 0 where
  pub entries : length files ≡ entry_length * length counts
  pub records : g.first + sum (drop g.nth counts) ≡ length lengths
  pub inside : g.byte + sum (drop g.first lengths) ≡ length bytes

-- a place is one among these files: in an image, the next file stands there, where there is one
abbrev pub StandsAmong : Origin → List ℕ → List ℕ → Place → Type 0
StandsAmong (listed files counts) lengths bytes g = Listed files counts lengths bytes g
StandsAmong read lengths bytes g =
    g.nth < length (content bytes).files → Met bytes (Some g.file) (drop g.nth (content bytes).files)

-- a place among the files, from which on all of them are legal
pub record PlacedAmong (from : Origin) (set lengths bytes : List ℕ) (g : Place) : Type 0 where
  pub few : total_of from bytes ≤ 64
  pub within : g.nth ≤ total_of from bytes
  pub stands : StandsAmong from lengths bytes g
  pub legal : legal_files set (files_at from lengths bytes g) ≡ true

-- ---- one file

-- the cursor at the first record of a sheet's file, whose lengths end at `stop`, and of an image's
abbrev pub listed_at : ℕ → ℕ → ℕ → Cursor
listed_at byte count stop = record { at = byte; left = count; stop = stop; offset = 0; record_length = 0; format = 0; image = false }

abbrev pub walk_at : Walk → Cursor
walk_at w = record { at = w.at; left = w.left; stop = 0; offset = w.offset; record_length = w.record_length; format = w.format; image = true }

-- the cursor at the first record of the file at a place; of a sheet it ends within its n lengths
unfoldable pub cursor_at : Bool → List ℕ → Place → Cursor
cursor_at image counts g =
    if_b image (walk_at g.file.walk) (listed_at g.byte (get_or counts g.nth 0) (g.first + get_or counts g.nth 0))

pub record CanCount (image : Bool) (counts : List ℕ) (n : ℕ) (g : Place) : Type 0 where
  pub nth : image ≡ false → g.nth < length counts
  pub stop : image ≡ false → g.first + get_or counts g.nth 0 ≤ n

-- the entry of the file at a place, which stands within so many bytes
unfoldable pub entry_at : Bool → List ℕ → List ℕ → Place → List ℕ
entry_at image files bytes g =
    if_b image (fields_from (part g.file.hdr1 80 bytes) (part g.file.hdr2 80 bytes))
    (part (entry_length * g.nth) entry_length files)

pub record CanEnter (image : Bool) (entries size : ℕ) (g : Place) : Type 0 where
  pub few : g.nth < 64
  pub listed : image ≡ false → entry_length * g.nth + entry_length ≤ entries
  pub first : image ≡ true → g.file.hdr1 + 80 ≤ size
  pub second : image ≡ true → g.file.hdr2 + 80 ≤ size

-- label parts with that entry and number, and otherwise as before
pub record DidEnter (labels e : List ℕ) (n : ℕ) (r : List ℕ) : Type 0 where
  pub entry : entry_in r ≡ e
  pub sequence : sequence_in r ≡ n
  pub others : drop (entry_length + 1) r ≡ drop (entry_length + 1) labels

-- the place behind a file, with the next of an image, and whether there is one to be laid
abbrev pub passed : Place → ℕ → ℕ → FileAt → Bool → Place
passed g stop end f on = record { nth = g.nth + 1; first = stop; byte = end; file = f; on = on }

unfoldable pub followed_by : Place → ℕ → ℕ → Option FileAt → Place
followed_by g stop end (Some h) = passed g stop end h true
followed_by g stop end None = passed g stop end g.file false

unfoldable pub behind_file : Bool → List ℕ → List ℕ → Place → ℕ → ℕ → Bool → Place
behind_file image counts bytes g stop end short =
    if_b short (passed g stop end g.file false)
    (if_b image (followed_by g stop end (file_behind bytes g.file.hdr1 end))
    (passed g stop end g.file (ltb (g.nth + 1) (length counts))))

-- ---- all files

-- the set that is laid: where its files come from, the set entry, and the reels
pub record Task : Type 0 where
  pub from : Origin
  pub set : List ℕ
  pub lengths : List ℕ
  pub bytes : List ℕ
  pub rooms : List ℕ
  pub names : List ℕ

abbrev pub task : Origin → List ℕ → List ℕ → List ℕ → List ℕ → List ℕ → Task
task from set lengths bytes rooms names =
    record { from = from; set = set; lengths = lengths; bytes = bytes; rooms = rooms; names = names }

abbrev pub task_with : Bool → List ℕ → List ℕ → List ℕ → List ℕ → List ℕ → List ℕ → Task
task_with image files counts lengths bytes labels rooms =
    task (origin_of image files counts) (set_in labels) lengths bytes rooms (names_in (length rooms) labels)

-- as the code holds them
abbrev pub origin_in : Input → Origin
origin_in x = origin_of x.image x.files.now x.counts.now

abbrev pub task_of : Input → List ℕ → List ℕ → Task
task_of x labels rooms = task_with x.image x.files.now x.counts.now x.lengths.now x.bytes.now labels rooms

abbrev pub PlacedIn : Task → Place → Type 0
PlacedIn t g = PlacedAmong t.from t.set t.lengths t.bytes g

-- the files from a place and a pen on
unfoldable pub lay_at : Task → Place → Pen → Laid
lay_at t g p =
    lay_files t.set (suc g.nth) p.room (reels_at t.rooms t.names p.next)
    (files_at t.from t.lengths t.bytes g)

-- where the laying of files is
pub record Filing : Type 0 where
  pub place : Place
  pub pen : Pen

-- files were laid from place g and pen p on, up to where x stands; or a reel is lacking
pub record DidFile (lay : Bool) (t : Task) (g : Place) (p : Pen) (o q : List ℕ) (x : Filing) : Type 0 where
  pub placed : x.pen.short ≡ false → PlacedIn t x.place
  pub sound : x.pen.short ≡ false → BetweenFiles t.rooms t.names x.place.nth x.pen
  pub kept : length q ≡ length o
  pub untouched : lay ≡ false → q ≡ o
  pub enough : x.place.on ≡ true → x.pen.short ≡ false
  pub more : x.place.on ≡ true → x.place.nth < total_of t.from t.bytes
  pub over : x.place.on ≡ false → x.pen.short ≡ false → total_of t.from t.bytes ≤ x.place.nth
  pub same : laid_from lay x.pen q (lay_at t x.place x.pen) ≡ laid_from lay p o (lay_at t g p)

-- from where a file can be laid
pub record CanFile (lay : Bool) (t : Task) (g : Place) (p : Pen) (o : List ℕ) : Type 0 where
  pub placed : PlacedIn t g
  pub more : g.nth < total_of t.from t.bytes
  pub sound : BetweenFiles t.rooms t.names g.nth p
  pub enough : p.short ≡ false
  pub fits : lay ≡ true → EndsWithin (laid_from true p o (lay_at t g p)) (length o)

-- one file was laid
pub record DidFileOne (lay : Bool) (t : Task) (g : Place) (p : Pen) (o q : List ℕ) (x : Filing) : Type 0 where
  pub filed : DidFile lay t g p o q x
  pub next : x.place.nth ≡ g.nth + 1

-- all files were laid, or a reel is lacking
pub record DidFileAll (lay : Bool) (t : Task) (g : Place) (p : Pen) (o q : List ℕ) (x : Filing) : Type 0 where
  pub filed : DidFile lay t g p o q x
  pub off : x.place.on ≡ false

-- ---- the set

-- behind the last file the last reel is ended, unless a reel is lacking
pub record CanEndSet (lay : Bool) (p : Pen) (size : ℕ) : Type 0 where
  pub place : p.short ≡ false → p.at ≤ 1000000000000000
  pub room : lay ≡ true → p.short ≡ false → p.at + 6 ≤ size

pub record DidEndSet (lay : Bool) (p : Pen) (o q : List ℕ) (r : Pen) : Type 0 where
  pub kept : length q ≡ length o
  pub untouched : lay ≡ false → q ≡ o
  pub same : laid_from lay r q (laid []) ≡ laid_from lay p o (laid (mark ∷ reel_end ∷ []))

-- the pen behind the head of an image and the volume label of the first reel
abbrev pub first_pen : ℕ → Pen
first_pen room = record { at = 88; used = 0; room = room; next = 1; section = 1; count = 0; on = false; short = false }

-- the pass from the very beginning on: l is laid at the front of the buffer; or a reel is lacking
pub record DidLaySet (lay : Bool) (l : Laid) (o q : List ℕ) (r : Pen) : Type 0 where
  pub untouched : lay ≡ false → q ≡ o
  pub kept : length q ≡ length o
  pub same : laid_from lay r q (laid []) ≡ image_from lay o l

-- the meaning of the files from a place on
unfoldable pub meaning_at : Task → Place → Meaning
meaning_at t g = record { set = t.set; files = files_at t.from t.lengths t.bytes g }

-- what the writer asks of the files from the first on, and of the reels
pub record CanWrite (t : Task) (g : Place) : Type 0 where
  pub placed : PlacedIn t g
  pub first : g.nth ≡ 0
  pub on : g.on ≡ true
  pub some : g.nth < total_of t.from t.bytes
  pub reels : Reels t.rooms t.names
  pub one : 1 ≤ length t.rooms

-- the whole set on its reels
unfoldable pub set_laid : Task → Place → Laid
set_laid t g = lay_on (meaning_at t g) (reels_at t.rooms t.names 0)

-- the same, and where the pass lays, it ends within the buffer
pub record CanLaySet (lay : Bool) (t : Task) (g : Place) (o : List ℕ) : Type 0 where
  pub writable : CanWrite t g
  pub fits : lay ≡ true → EndsWithin (image_from true o (set_laid t g)) (length o)

-- ---- a quota

-- the sheet of the files from a place on
unfoldable pub sheet_at : Origin → List ℕ → List ℕ → List ℕ → Place → ℕ → List ℕ → Sheet
sheet_at from set lengths bytes g quota names =
    record { meaning = record { set = set; files = files_at from lengths bytes g }; quota = quota; names = in_parts 6 names }

-- what the writer asks of the files from the first on, the quota and the names
pub record CanOrder (from : Origin) (set lengths bytes : List ℕ) (g : Place) (quota : ℕ) (names : List ℕ) : Type 0 where
  pub placed : PlacedAmong from set lengths bytes g
  pub first : g.nth ≡ 0
  pub on : g.on ≡ true
  pub some : g.nth < total_of from bytes
  pub room : legal_quota quota ≡ true
  pub named : legal_names (in_parts 6 names) ≡ true
  pub six : length set ≡ 6
