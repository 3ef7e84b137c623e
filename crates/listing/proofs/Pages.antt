-- The listing of an accepted set has room on a page: a heading of 40 bytes, and at most 64 lines of at most 43. Assumes nothing.
use Rattle.std.specs.Prelude.{Option}
use mathlib.Core.Path.{◌≡◌, refl}
use mathlib.Core.Bool.{Bool, true, false, false≢true}
use mathlib.Core.List.{List, [], ◌∷◌, ◌++◌, map}
use Prim.Native.Nat.{ℕ, ◌+◌, ◌*◌, ◌^◌, ◌≤◌, ◌<◌}
use native.Mathlib.Omega.{arith}
use borrow.Author.Tests.{leb-true}
use lib.Dec.{leb}
use lib.ListN.{length, drop, length-append, length-take}
use Rattle.base.specs.If.{if_b}
use Rattle.base.proofs.Ifs.{if_case}
use Rattle.base.specs.Part.{part}
use Rattle.base.specs.Sum.{sum}
use Rattle.base.specs.Digits.{digits}
use Rattle.base.proofs.Numbers.{length_digits}
use Rattle.image.proofs.Frames.{framing_zero}
use Rattle.output.specs.Text.{bytes}
use Rattle.volume.specs.Run.{image_verdict}
use Rattle.volume.specs.Meaning.{File, Meaning, content}
use Rattle.volume.proofs.Accepted.{accepted_iff}
use Rattle.reading.specs.Legal.{legal_meaning, legal_files}
use Rattle.reading.proofs.Legality.{accepted_legal}
use Rattle.content.specs.Held.{file_held}
use Rattle.content.specs.File.{first_file, next_file}
use Rattle.content.specs.Walked.{FileIs}
use Rattle.content.specs.Code.Files.{Filed}
use Rattle.content.specs.declared.FileAt.{FileAt}
use Rattle.content.proofs.Helds.{held_within}
use Rattle.content.proofs.Walked.{files_all}
use Rattle.listing.specs.Decimal.{decimal}
use Rattle.listing.specs.Text.{newline, heading, named, counted, described, line, lines, listing_of}
use Rattle.listing.proofs.Decimals.{decimal_long}

-- a file has no more records, and no more bytes of them, than the image has bytes
few_records : (s : List ℕ) (f : FileAt) (d : File) → FileIs s f d
    → (length d.records ≤ length s) × (sum (map length d.records) ≤ length s)
unfolding file_held
few_records s f d c =
    let w = f.walk in
    let k = held_within s w.format w.record_length w.offset w.at in
    (omega (arith, k.records, c.amounts.records), omega (arith, k.bytes, c.amounts.bytes))

space : length (bytes " ") ≡ 1
unfolding bytes
space = refl

named_long : (i g : List ℕ) → length (named i g) ≡ 2 + length i + length g
unfolding named
named_long i g =
    let is : length (named i g) ≡ length (bytes " " ++ i ++ bytes " " ++ g) = refl in
    omega (
      arith,
      is,
      space,
      length-append (bytes " " ++ i ++ bytes " ") g,
      length-append (bytes " " ++ i)
          (bytes " "),
      length-append (bytes " ") i,
    )

part_most : (a n : ℕ) (l : List ℕ) → length (part a n l) ≤ n
unfolding part
part_most a n l = omega (arith, length-take n (drop a l))

counted_long : (n m : ℕ) → n < 10 ^ 8 → m < 10 ^ 8 → length (counted n m) ≤ 19
unfolding counted
counted_long n m a b =
    let p = decimal_long 7 n a in
    let q = decimal_long 7 m b in
    let first = bytes " " ++ decimal n in
    let second = bytes " " ++ decimal m in
    let is : length (counted n m) ≡ length (first ++ second ++ newline) = refl in
    omega (
      arith,
      is,
      p,
      q,
      space,
      length-append (first ++ second) newline,
      length-append first second,
      length-append (bytes " ")
          (decimal n),
      length-append (bytes " ") (decimal m),
    )

line_long : (n : ℕ) (d : File) → length d.records < 10 ^ 8 → sum (map length d.records) < 10 ^ 8 → length (line n d) ≤ 43
unfolding line described
line_long n d a b =
    let names = named (part 0 17 d.fields) (part 35 1 d.fields) in
    let counts = counted (length d.records) (sum (map length d.records)) in
    let is : length (line n d) ≡ length (digits 4 n ++ (names ++ counts)) = refl in
    omega (
      arith,
      is,
      length-append (digits 4 n) (names ++ counts),
      length-append names counts,
      length_digits 4 n,
      named_long (part 0 17 d.fields) (part 35 1 d.fields),
      part_most 0 17 d.fields,
      part_most 35 1 d.fields,
      counted_long (length d.records) (sum (map length d.records)) a b,
    )

lines_long : (s : List ℕ) (ds : List File) (x : Option FileAt) (n : ℕ) → length s ≤ 16777215 → Filed s x ds
    → length (lines n ds) ≤ 43 * length ds
unfolding lines
lines_long s [] x n h c = omega arith
lines_long s (d ∷ ds) x n h (f, e, is, rest) =
    let few = few_records s f d is in
    let here = line_long n d (omega (arith, few.0)) (omega (arith, few.1)) in
    let again = lines_long s ds (next_file s f.hdr1 f.hdr2) (n + 1) h rest in
    let is : length (lines n (d ∷ ds)) ≡ length (line n d ++ lines (n + 1) ds) = refl in
    omega (arith, is, here, again, length-append (line n d) (lines (n + 1) ds))

-- at most 64 files
few_files : (m : Meaning) → legal_meaning m ≡ true → length m.files ≤ 64
unfolding legal_meaning
few_files m =
    if_case P (leb 1 (length m.files)) (if_b (leb (length m.files) 64) (legal_files m.set m.files) false) false
    (λ _. if_case P (leb (length m.files) 64) (legal_files m.set m.files) false
    (λ t _. leb-true (length m.files) 64 t) never)
    never
  where
    P : Bool → Type 0
    P t = t ≡ true → length m.files ≤ 64

    never : {t : Bool} → t ≡ false → P false
    never _ h = absurd (false≢true h)

-- The listing of an accepted set has at most 2,792 bytes.
pub listing_long : (s : List ℕ) → (image_verdict s).number ≡ 0 → length (listing_of (content s)) ≤ 2792
unfolding listing_of heading bytes
listing_long s h =
    let small = (framing_zero s ((accepted_iff s).0 h).framed).small in
    let few = few_files (content s) (accepted_legal s h) in
    let long = lines_long s (content s).files (first_file s) 1 small (files_all s h) in
    let is : length (listing_of (content s)) ≡ length (heading ++ lines 1 (content s).files) = refl in
    let forty : length heading ≡ 40 = refl in
    omega (arith, is, forty, few, long, length-append heading (lines 1 (content s).files))
