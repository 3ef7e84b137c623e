-- The operations that a caller can reach, each as a function of what it is given: an image, an order sheet, a lent buffer is a
-- list of bytes. `ours` are the definitions that the promises of the public functions cite: what these say of lists, the
-- functions do with slices. The measures of `content` by which these are made, its search from a file's data on and the line of a
-- refusal are no operations of their own: each function's promise is its definition, on any bytes.
use Rattle.std.specs.Prelude.{List, ℕ, length, Result}
use Rattle.content.specs.declared.Found.{Found}
use Rattle.base.specs.declared.Verdict.{Verdict}
use Rattle.output.specs.Output.{Written, Result as Stored, fitted}
use Rattle.simh.specs.Set.{Converted, from_simh, to_simh}
use Rattle.volume.specs.Run.{image_verdict}
use Rattle.sheet.specs.Flat.{Flat}
use Rattle.base.specs.Part.{put_at}
use Rattle.content.specs.Walk.{step_at, join_at}
use Rattle.content.specs.Row.{StepRow, steps_in, row_of}
use Rattle.label.specs.Judged.{field_with}
use Rattle.content.specs.File.{begun_at, first_file, next_file}
use Rattle.content.specs.Items.{item_at}
use Rattle.content.specs.Found.{found_at, left_at, part_of}
use Rattle.content.specs.Records.{records_at, facts_of}
use Rattle.content.specs.Numbers.{record_of, beginning_of, file_of, stepped_of}
use Rattle.content.specs.declared.Walk.{Walk}
use Rattle.content.specs.declared.items.ItemAt.{ItemAt}
use Rattle.content.specs.declared.numbers.Located.{Located}
use Rattle.content.specs.declared.numbers.Beginning.{Beginning}
use Rattle.content.specs.declared.numbers.Stepped.{Stepped}
use Rattle.content.specs.declared.row.Row.{Row}
use Rattle.content.specs.declared.counting.Facts.{Facts}
use Rattle.reader.specs.Read.{opened_at, read_at, count_at}
use Rattle.reader.specs.declared.Opened.{Opened}
use Rattle.reader.specs.declared.Reading.{Reading}
use Rattle.reader.specs.declared.FileFacts.{FileFacts}
use Rattle.listing.specs.Text.{text_of}
use Rattle.writing.specs.Write.{write}
use Rattle.writing.specs.Rewrite.{rewrite}

-- where a record is, and what the joining buffer holds afterwards
pub record Handing : Type 0 where
  pub at : Located
  pub left : List ℕ

-- a step of a walk, and what the joining buffer holds afterwards
pub record Moving : Type 0 where
  pub answer : Stepped
  pub left : List ℕ

-- steps taken at once, and what the lists of places and lengths hold afterwards
pub record Listing : Type 0 where
  pub answer : Row
  pub places : List ℕ
  pub lengths : List ℕ

pub record Operations : Type 0 where
  -- the verdict on an image
  pub check : List ℕ → Verdict
  -- file n of an image
  pub begin : List ℕ → ℕ → Beginning
  -- the first file of an image, and the one behind a file whose HDR1 and HDR2 stand at two places
  pub first : List ℕ → Beginning
  pub further : List ℕ → ℕ → ℕ → Beginning
  -- record r of file n, with a joining buffer
  pub find : List ℕ → ℕ → ℕ → List ℕ → Handing
  -- the record at a walk's place, with a joining buffer
  pub step : List ℕ → Walk → List ℕ → Moving
  -- steps from a walk's place, as many as two lists have room for
  pub steps : List ℕ → Walk → List ℕ → List ℕ → Listing
  -- the record that was found: a part of the image or the front of the joining buffer
  pub part : List ℕ → List ℕ → Result Found Verdict → List ℕ
  -- how many records, and how many bytes of them, there are from a walk on
  pub facts : List ℕ → Walk → Facts
  -- a reader that stands at a walk's place: file n opened, the record there, and the facts of file n
  pub opened : List ℕ → Walk → ℕ → Opened
  pub next : List ℕ → Walk → List ℕ → Moving
  pub count : List ℕ → ℕ → FileFacts
  -- the item at a place of an image in a group, and the field of a kind of label, by family and number, in which a byte stands
  pub item : List ℕ → ℕ → ℕ → ItemAt
  pub field : ℕ → ℕ → ℕ → ℕ
  -- the listing of an image in a buffer
  pub list : List ℕ → List ℕ → Written
  -- an order sheet written into a buffer
  pub write : Flat → List ℕ → Written
  -- an image rewritten with a quota and a list of names into a buffer
  pub rewrite : List ℕ → ℕ → List ℕ → List ℕ → Stored
  -- tape files, end to end, and their lengths, into an image in a buffer
  pub import : List ℕ → List ℕ → List ℕ → Stored
  -- an image into tape files in a buffer, and their lengths in a list
  pub export : List ℕ → List ℕ → List ℕ → Converted

-- what a reader says of the record, in numbers
unfoldable pub reading_of : Reading → Stepped
reading_of x =
    record {
      number = (record_of x.found).verdict.number;
      joined = (record_of x.found).joined;
      start = (record_of x.found).start;
      len = (record_of x.found).len;
      walk = x.walk;
    }

-- steps, put at the front of the two lists
abbrev pub listing : List ℕ → List ℕ → StepRow → Listing
listing places lengths x =
    record { answer = row_of x; places = put_at places 0 x.places; lengths = put_at lengths 0 x.lengths }

abbrev pub ours : Operations
ours =
    record {
      check = image_verdict;
      begin = λ s n. beginning_of (begun_at s n);
      first = λ s. file_of (first_file s);
      further = λ s hdr1 hdr2. file_of (next_file s hdr1 hdr2);
      find = λ s n r old. record { at = record_of (found_at s n r (length old)); left = left_at s n r old };
      step = λ s w old. record { answer = stepped_of w (step_at s (length old) w); left = join_at s old w };
      steps = λ s w places lengths. listing places lengths (steps_in s places lengths w);
      part = part_of;
      facts = λ s w. facts_of (records_at s w);
      opened = opened_at;
      next = λ s w old. record { answer = reading_of (read_at s (length old) w); left = join_at s old w };
      count = count_at;
      item = item_at;
      field = λ family number byte. field_with (record { family = family; number = number }) byte;
      list = λ s out. fitted (text_of s) out;
      write = write;
      rewrite = rewrite;
      import = from_simh;
      export = to_simh;
    }
