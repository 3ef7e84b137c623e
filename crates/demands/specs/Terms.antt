-- The words of the page of demands.
use Rattle.std.specs.Prelude.{◌≡◌, true, Bool, false, List, [], ◌∷◌, ◌++◌, ℕ, ◌+◌, zero, suc, ◌≤◌, ◌<◌, eqb, leb, length, drop, Some, Err, Ok}
use Rattle.base.specs.If.{if_b}
use Rattle.base.specs.Answer.{verdict}
use Rattle.base.specs.declared.Verdict.{Verdict}
use Rattle.image.specs.Item.{Item, encode}
use Rattle.image.specs.Framing.{head, most_image}
use Rattle.content.specs.Walk.{whole, Record, split, record_at}
use Rattle.base.specs.Part.{part, put_at}
use Rattle.output.specs.Output.{Written, refused}
use Rattle.volume.specs.Meaning.{File, fields_from}
use Rattle.reading.specs.Legal.{Sheet}
use Rattle.content.specs.Row.{StepRow as Row, stays, ahead}
use Rattle.content.specs.Found.{passed}
use Rattle.content.specs.Records.{facts_of}
use Rattle.content.specs.Numbers.{record_of, stepped_of}
use Rattle.content.specs.declared.Walk.{Walk}
use Rattle.content.specs.declared.numbers.Stepped.{Stepped}
use Rattle.content.specs.declared.numbers.Located.{Located}
use Rattle.content.specs.declared.Found.TheVariants.{InImage, Joined}
use Rattle.writing.specs.Lay.{laid, short, lay}
use Rattle.demands.specs.Operations.{Handing, Moving, Operations}

-- ---- answers

unfoldable pub is_in : List ℕ → ℕ → Bool
is_in [] n = false
is_in (m ∷ ms) n = if_b (eqb m n) true (is_in ms n)

-- done; or what is wrong with the image, or the tape files, that were given; or one of these numbers, which have no place
pub data Answer (own : Verdict) (numbers : List ℕ) : Verdict → Type 0 where
  done : Answer own numbers (verdict 0 0 0)
  given : (own.number ≡ 0 → ⊥) → Answer own numbers own
  other : (n : ℕ) → is_in numbers n ≡ true → Answer own numbers (verdict n 0 0)

-- an operation answers v, and where that is a refusal nothing is changed
pub record Answered (own : Verdict) (numbers : List ℕ) (v : Verdict) (unchanged : Type 0) : Type 0 where
  pub answer : Answer own numbers v
  pub kept : (v.number ≡ 0 → ⊥) → unchanged

-- where no image and no tape files are given, or they are not judged
abbrev pub none_given : Verdict
none_given = verdict 0 0 0

-- none of 1 to n
abbrev pub OutOf : ℕ → ℕ → Type 0
OutOf n k = (i : ℕ) → i < n → i + 1 ≡ k → ⊥

-- ---- records

-- no record, with the buffer as it was
abbrev pub no_record : Verdict → List ℕ → Handing
no_record v old = record { at = record_of (Err v); left = old }

-- Record r of image s is handed out by f, whatever the joining buffer held. Where x, the record as it stands, is one unit, it is
-- that part of the image, and the buffer, of whatever length, stays; where it is several segments, they are joined in the front
-- of the buffer, and refused with 10 exactly where that is shorter than the record.
pub data Handed (s r : List ℕ) (f : List ℕ → Handing) (x : Record) : Type 0 where
  one : (start : ℕ) (v : Walk) → x ≡ whole start (length r) v → part start (length r) s ≡ r
      → ((old : List ℕ) → f old ≡ record { at = record_of (Ok (InImage start (length r))); left = old }) → Handed s r f x
  several : (v : Walk) → x ≡ split r v
      → ((old : List ℕ) → f old
      ≡ if_b (leb (length r) (length old)) (record { at = record_of (Ok (Joined (length r))); left = put_at old 0 r })
      (no_record (verdict 10 0 0) old))
      → Handed s r f x

-- what a step hands out
unfoldable pub located_in : Stepped → Located
located_in x = record { verdict = verdict x.number 0 0; joined = x.joined; start = x.start; len = x.len }

abbrev pub handing : Moving → Handing
handing x = record { at = located_in x.answer; left = x.left }

-- step after step from w hands out these records, each with the walk moved on, and the step behind the last is 13
abbrev pub Steps : Operations → List ℕ → Walk → List (List ℕ) → Type 0
Steps p s w [] = (old : List ℕ) → p.step s w old ≡ record { answer = stepped_of w (Err 13); left = old }
Steps p s w (r ∷ rs) =
    (v : Walk) × Handed s r (λ old. handing (p.step s w old)) (record_at s w)
    × ((old : List ℕ) → (p.step s w old).answer.number ≡ 0 → (p.step s w old).answer.walk ≡ v)
    × Steps p s v rs

-- at most so many steps from w, one after the other and without a buffer to join in, as long as each gives a part of the image
unfoldable pub row_on : Walk → Stepped → (Walk → Row) → Row
row_on w x others =
    if_b (eqb x.number 0) (if_b (eqb x.joined 0) (ahead x.start x.len (others x.walk)) (stays w)) (stays w)

unfoldable pub row_by : Operations → List ℕ → ℕ → Walk → Row
row_by p s zero w = stays w
row_by p s (suc room) w = row_on w (p.step s w []).answer (λ v. row_by p s room v)

-- file n of image s is d: its labels have its fields; a walk over it, and asking by number, give its records and no other
pub record FileGiven (p : Operations) (s : List ℕ) (n : ℕ) (d : File) : Type 0 where
  pub begun : (p.begin s n).verdict ≡ verdict 0 0 0
  pub fields : d.fields ≡ fields_from (part (p.begin s n).hdr1 80 s) (part (p.begin s n).hdr2 80 s)
  pub walked : Steps p s (p.begin s n).walk d.records
  pub asked : (rs : List (List ℕ)) (r : List ℕ) (ts : List (List ℕ)) → d.records ≡ rs ++ (r ∷ ts)
      → (w : Walk) × (passed s (length rs) (p.begin s n).walk ≡ Some w)
      × Handed s r (λ old. p.find s n (length rs + 1) old) (record_at s w)
  pub counted : p.facts s (p.begin s n).walk ≡ facts_of d.records
  pub none : (k : ℕ) → OutOf (length d.records) k → (old : List ℕ) → p.find s n k old ≡ no_record (verdict 13 0 0) old

-- a reader says what beginning a file and stepping say, and moves with them
pub record ByReader (p : Operations) : Type 0 where
  pub opened : (s : List ℕ) (w : Walk) (n : ℕ)
      → p.opened s w n ≡ record {
        verdict = (p.begin s n).verdict;
        walk = if_b (eqb (p.begin s n).verdict.number 0)
            (p.begin s n).walk w;
      }
  pub next : (s : List ℕ) (w : Walk) (old : List ℕ) → p.next s w old ≡ p.step s w old
  pub count : (s : List ℕ) (n : ℕ)
      → p.count s n ≡ record { verdict = (p.begin s n).verdict; facts = p.facts s (p.begin s n).walk }

-- ---- room

-- what is laid down for a sheet, in an image that is not over the limit and has room in a buffer of so many bytes
pub record Fits (x : Sheet) (room : ℕ) : Type 0 where
  pub items : List Item
  pub laying : lay x ≡ laid items
  pub limit : length (head ++ encode items) ≤ most_image
  pub enough : length (head ++ encode items) ≤ room

-- that image
abbrev pub image : {x : Sheet} {room : ℕ} → Fits x room → List ℕ
image f = head ++ encode f.items

-- ---- writing

-- What writing sheet x gives, where n is the number of its legality, 0, 9 or 11: the image fixed in document 01 at the front of
-- the buffer, whose other bytes stay, exactly where it fits; else the first of 9 or 11, 12, 14 and 10 that applies.
pub data WriteOutcome (n : ℕ) (x : Sheet) (out : List ℕ) : Written → Type 0 where
  fits : n ≡ 0 → (f : Fits x (length out))
      → WriteOutcome n x out (record { number = 0; len = length (image f); out = image f ++ drop (length (image f)) out })
  illegal : (n ≡ 0 → ⊥) → WriteOutcome n x out (refused n out)
  few_reels : n ≡ 0 → lay x ≡ short → WriteOutcome n x out (refused 12 out)
  too_long : n ≡ 0 → (xs : List Item) → lay x ≡ laid xs → most_image < length (head ++ encode xs)
      → WriteOutcome n x out (refused 14 out)
  no_room : n ≡ 0 → (xs : List Item) → lay x ≡ laid xs → length (head ++ encode xs) ≤ most_image
      → length out < length (head ++ encode xs) → WriteOutcome n x out (refused 10 out)

-- 15 at an item, or 2, which has no place
pub record Torn (v : Verdict) : Type 0 where
  pub number : is_in (0 ∷ 15 ∷ 2 ∷ []) v.number ≡ true
  pub item : v.number ≡ 2 → v.item ≡ 0
  pub byte : v.byte ≡ 0
