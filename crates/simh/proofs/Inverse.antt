-- The two conversions are inverse to each other: our image into files and back gives our bytes, files into our image and back
-- give their bytes and their lengths. Assumes nothing.
use mathlib.Core.Path.{◌≡◌, refl, sym, ap, ap₂, ◌∙◌, subst}
use mathlib.Core.Bool.{Bool, true, false, ◌&&◌}
use mathlib.Core.List.{List, [], ◌∷◌, ◌++◌, append-nil, map, flatten as end_to_end}
use Prim.Native.Nat.{ℕ, ◌+◌, ◌*◌, ◌/◌, ◌≤◌}
use native.Mathlib.Omega.{arith}
use borrow.Author.Tests.{eq-eqb, eqb-true, eqb-false, le-leb, leb-true}
use lib.Dec.{eqb, leb}
use lib.ListN.{length, take, drop}
use lib.Seq.{take-append_seam}
use Rattle.base.proofs.Ifs.{if_true, if_false, if_case, and_true, and_first, and_second}
use Rattle.base.specs.Sum.{sum, cut_by}
use Rattle.base.specs.Answer.{verdict}
use Rattle.base.specs.declared.Verdict.{Verdict}
use Rattle.base.proofs.Sums.{length_map, sum_lengths, cut_back, cut_lengths, cut_whole}
use Rattle.image.specs.Item.{Item, encode as image_bytes}
use Rattle.image.specs.Code.Items.{all_items}
use Rattle.image.specs.Byte.{Bytes}
use Rattle.image.specs.Framing.{most_image, most_reels, head, items, framing}
use Rattle.image.proofs.Coding.{all_front, all_back}
use Rattle.image.proofs.Frames.{framing_zero, framing_items}
use Rattle.image.proofs.RoundTrip.{bytes_drop, bytes_take, items_image, image_items, framing_image}
use Rattle.output.specs.Output.{Result, refused, refused_with, placed, image_in}
use Rattle.simh.specs.Tape.{decode, encode}
use Rattle.simh.specs.Set.{reels_verdict, reels_in, is_few, tape_verdict, image_of, from_simh, reels_of, files_of, Converted, kept, stored, to_simh, tape_in, lengths_in}
use Rattle.simh.proofs.Answering.{Convertible, tape_zero}
use Rattle.simh.proofs.Lengths.{joined_files, file_bytes}
use Rattle.simh.proofs.Sizes.{image_shorter, files_longer}
use Rattle.simh.proofs.Reels.{AllClose, Reeled, reels_close, close_reels, reels_joined, reels_apart, framed_reels, reels_framed, closes_right, all_right}
use Rattle.simh.proofs.RoundTrip.{decode_encode, encode_decode}

-- ---- what number 0 says, in

-- tape files that were taken in: their image, in the buffer and within the limit
pub record In (tape lengths out : List ℕ) (r : Result) : Type 0 where
  pub sound : Convertible tape lengths
  pub small : length (image_of tape lengths) ≤ most_image
  pub done : r.verdict ≡ verdict 0 0 0
  pub image : image_in r ≡ image_of tape lengths

front : (xs o : List ℕ) → take (length xs) (xs ++ drop (length xs) o) ≡ xs
front xs o = take-append_seam xs (drop (length xs) o)

-- so it is where the number is 0
pub from_zero : (tape lengths out : List ℕ) → (from_simh tape lengths out).verdict.number ≡ 0
    → In tape lengths out (from_simh tape lengths out)
unfolding from_simh refused_with placed refused verdict image_in
from_zero tape lengths out =
    if_case P (eqb (tape_verdict tape lengths).number 0) _ _
    (λ z. if_case P (leb (length (image_of tape lengths)) most_image) _ _
    (λ s. if_case (λ w. P (placed w)) (leb (length (image_of tape lengths)) (length out)) _ _
    (λ _ _. record {
      sound = tape_zero tape lengths (eqb-true (tape_verdict tape lengths).number 0 z);
      small = leb-true (length (image_of tape lengths)) most_image s;
      done = refl;
      image = front (image_of tape lengths) out;
    }) (λ _ q. absurd (omega arith)))
    (λ _ q. absurd (omega arith)))
    (λ z q. absurd (eqb-false (tape_verdict tape lengths).number 0 z q))
  where
    P : Result → Type 0
    P r = r.verdict.number ≡ 0 → In tape lengths out r

sound_zero : (tape lengths : List ℕ) → Convertible tape lengths → (tape_verdict tape lengths).number ≡ 0
unfolding tape_verdict verdict
sound_zero tape lengths s =
    ap (λ (v : Verdict). v.number)
    (if_true _ _ _ (eq-eqb (sum lengths) (length tape) s.whole) ∙ if_true _ _ _ (eq-eqb _ 0 s.right)
    ∙ if_true _ _ _ s.few)

from_done : (tape lengths out : List ℕ) → Convertible tape lengths → length (image_of tape lengths) ≤ most_image
    → length (image_of tape lengths) ≤ length out
    → In tape lengths out (from_simh tape lengths out)
unfolding from_simh placed verdict image_in
from_done tape lengths out s m r =
    subst (In tape lengths out)
    (sym (if_true _ _ _ (eq-eqb _ 0 (sound_zero tape lengths s))
    ∙ if_true _ _ _ (le-leb (length (image_of tape lengths)) most_image m)
    ∙ ap placed (if_true _ _ _ (le-leb (length (image_of tape lengths)) (length out) r))))
    (record { sound = s; small = m; done = refl; image = front (image_of tape lengths) out })

-- ---- and out

-- an image that was handed out: its files and their lengths, in the two buffers
pub record Out (s : List ℕ) (c : Converted) : Type 0 where
  pub framed : (framing s).number ≡ 0
  pub done : c.verdict ≡ verdict 0 0 0
  pub tape : tape_in c ≡ end_to_end (files_of s)
  pub lengths : lengths_in c ≡ map length (files_of s)

stored_out : (s out lens : List ℕ) → (framing s).number ≡ 0
    → leb (length (end_to_end (files_of s))) (length out) && leb (length (files_of s)) (length lens) ≡ true
    → Out s (stored (files_of s) out lens)
unfolding stored tape_in lengths_in
stored_out s out lens f h =
    let fs : List (List ℕ) = files_of s in
    let count : length fs ≡ length (map length fs) = sym (length_map length fs) in
    subst (Out s) (sym (if_true _ _ _ h))
    (record {
      framed = f;
      done = refl;
      tape = front (end_to_end fs) out;
      lengths = ap (λ (n : ℕ). take n (map length fs ++ drop n lens)) count ∙ front (map length fs) lens;
    })

short_number : (fs : List (List ℕ)) (out lens : List ℕ)
    → leb (length (end_to_end fs)) (length out) && leb (length fs) (length lens) ≡ false
    → (stored fs out lens).verdict.number ≡ 0 → ⊥
unfolding stored kept verdict
short_number fs out lens e q =
    let ten : (stored fs out lens).verdict.number ≡ 10 = ap (λ (c : Converted). c.verdict.number) (if_false _ _ _ e) in
    omega arith

-- so it is where the number is 0
pub to_zero : (s out lens : List ℕ) → (to_simh s out lens).verdict.number ≡ 0 → Out s (to_simh s out lens)
unfolding to_simh kept verdict
to_zero s out lens =
    if_case P (eqb (framing s).number 0) _ _
    (λ z. by (leb (length (end_to_end (files_of s))) (length out) && leb (length (files_of s)) (length lens)) refl
    (eqb-true (framing s).number 0 z))
    (λ z q. absurd (eqb-false (framing s).number 0 z q))
  where
    P : Converted → Type 0
    P c = c.verdict.number ≡ 0 → Out s c

    by : (t : Bool) → leb (length (end_to_end (files_of s))) (length out) && leb (length (files_of s)) (length lens) ≡ t
        → (framing s).number ≡ 0
        → (stored (files_of s) out lens).verdict.number ≡ 0 → Out s (stored (files_of s) out lens)
    by true e f q = stored_out s out lens f e
    by false e f q = absurd (short_number (files_of s) out lens e q)

to_done : (s out lens : List ℕ) → (framing s).number ≡ 0 → length (end_to_end (files_of s)) ≤ length out
    → length (files_of s) ≤ length lens
    → Out s (to_simh s out lens)
unfolding to_simh
to_done s out lens f h k =
    subst (Out s) (sym (if_true _ _ _ (eq-eqb _ 0 f)))
    (stored_out s out lens f
    (and_true _ _ (le-leb (length (end_to_end (files_of s))) (length out) h) (le-leb (length (files_of s)) (length lens) k)))

-- ---- our image, its files, our image again

read_files : (rs : List (List Item)) → all_items (end_to_end rs) ≡ true → map decode (map encode rs) ≡ rs
unfolding end_to_end
read_files [] h = refl
read_files (r ∷ rs) h = ap₂ ◌∷◌ (decode_encode r (all_front r (end_to_end rs) h)) (read_files rs (all_back r (end_to_end rs) h))

module _ (s : List ℕ) (f : (framing s).number ≡ 0) where
  reeled : Reeled 0 false (items s)
  reeled = framed_reels (items s) 0 0 false (omega arith) (framing_zero s f).right

  -- the files of an image are read as its reels
  pub files_read : reels_in (end_to_end (files_of s)) (map length (files_of s)) ≡ reels_of (items s)
  unfolding reels_in files_of
  files_read =
      ap (map decode) (ap (cut_by (map length (files_of s))) (sym (append-nil (end_to_end (files_of s)))) ∙ cut_back (files_of s) [])
      ∙ read_files (reels_of (items s)) (ap all_items (reels_joined (items s)) ∙ framing_items s f)

  files_sound : Convertible (end_to_end (files_of s)) (map length (files_of s))
  unfolding is_few files_of verdict
  files_sound =
      let count : length (map length (files_of s)) ≡ length (reels_of (items s))
      = length_map length (files_of s) ∙ length_map encode (reels_of (items s)) in
      let some : 1 ≤ length (reels_of (items s)) = reeled.some refl in
      let few : length (reels_of (items s)) ≤ most_reels = omega (arith, reeled.few) in
      record {
        whole = sum_lengths (files_of s);
        right =
            ap (λ (rs : List (List Item)). (reels_verdict 0 rs).number) files_read
            ∙ ap (λ (v : Verdict). v.number) (close_reels 0 (reels_of (items s)) reeled.close);
        few =
            and_true _ _ (le-leb 1 (length (map length (files_of s))) (omega arith))
            (le-leb (length (map length (files_of s))) most_reels (omega arith));
      }

  image_back : Bytes s → image_of (end_to_end (files_of s)) (map length (files_of s)) ≡ s
  unfolding image_of
  image_back b =
      ap (λ (rs : List (List Item)). head ++ image_bytes (end_to_end rs)) files_read
      ∙ ap (λ (xs : List Item). head ++ image_bytes xs) (reels_joined (items s))
      ∙ image_items s b f

-- into files and back gives our bytes
pub ours_again : (s out lens other : List ℕ) → Bytes s → (to_simh s out lens).verdict.number ≡ 0 → length s ≤ length other
    → ((from_simh (tape_in (to_simh s out lens)) (lengths_in (to_simh s out lens)) other).verdict ≡ verdict 0 0 0)
    × (image_in (from_simh (tape_in (to_simh s out lens)) (lengths_in (to_simh s out lens)) other) ≡ s)
ours_again s out lens other b z room =
    let c : Out s (to_simh s out lens) = to_zero s out lens z in
    let back : image_of (end_to_end (files_of s)) (map length (files_of s)) ≡ s = image_back s c.framed b in
    let small : length (image_of (end_to_end (files_of s)) (map length (files_of s))) ≤ most_image = subst (λ (l : List ℕ). length l ≤ most_image) (sym back) (framing_zero s c.framed).small in
    let fits : length (image_of (end_to_end (files_of s)) (map length (files_of s))) ≤ length other = subst (λ (l : List ℕ). length l ≤ length other) (sym back) room in
    let r : In (end_to_end (files_of s)) (map length (files_of s)) other (from_simh (end_to_end (files_of s)) (map length (files_of s)) other)
    = from_done (end_to_end (files_of s)) (map length (files_of s)) other (files_sound s c.framed) small fits in
    let same : from_simh (tape_in (to_simh s out lens)) (lengths_in (to_simh s out lens)) other ≡ from_simh (end_to_end (files_of s)) (map length (files_of s)) other
    = ap₂ (λ (t ls : List ℕ). from_simh t ls other) c.tape c.lengths in
    (ap (λ (x : Result). x.verdict) same ∙ r.done, ap image_in same ∙ r.image ∙ back)

-- ---- files, our image, the files again

unfoldable AllBytes : List (List ℕ) → Type 0
AllBytes [] = Unit {0}
AllBytes (f ∷ fs) = Bytes f × AllBytes fs

cut_bytes : (ns s : List ℕ) → Bytes s → AllBytes (cut_by ns s)
unfolding AllBytes cut_by
cut_bytes [] s b = tt
cut_bytes (n ∷ ns) s b = (bytes_take n s b, cut_bytes ns (drop n s) (bytes_drop n s b))

write_files : (fs : List (List ℕ)) → AllBytes fs → AllClose (map decode fs)
    → map encode (map decode fs) ≡ fs
unfolding AllClose AllBytes
write_files [] b h = refl
write_files (f ∷ fs) b h = ap₂ ◌∷◌ (encode_decode f b.0 (closes_right f h.0)) (write_files fs b.1 h.1)

module _ (tape lengths : List ℕ) (x : Convertible tape lengths) where
  close : AllClose (reels_in tape lengths)
  close = reels_close 0 (reels_in tape lengths) x.right

  right : all_items (end_to_end (reels_in tape lengths)) ≡ true
  unfolding reels_in
  right = all_right (cut_by lengths tape) close

  -- the image of tape files holds their items
  pub converted_items : items (image_of tape lengths) ≡ end_to_end (reels_in tape lengths)
  unfolding image_of
  converted_items = items_image (end_to_end (reels_in tape lengths)) right

  -- and is well framed
  pub converted_framing : length (image_of tape lengths) ≤ most_image → framing (image_of tape lengths) ≡ verdict 0 0 0
  unfolding image_of is_few reels_in
  converted_framing m =
      let count : length (reels_in tape lengths) ≡ length lengths
      = length_map decode (cut_by lengths tape) ∙ sym (length_map length (cut_by lengths tape)) ∙ ap length (cut_lengths lengths tape (omega (arith, x.whole))) in
      let some : 1 ≤ length lengths = leb-true 1 (length lengths) (and_first (leb 1 (length lengths)) _ x.few) in
      let few : length lengths ≤ most_reels = leb-true (length lengths) most_reels (and_second (leb 1 (length lengths)) (leb (length lengths) most_reels) x.few) in
      framing_image (end_to_end (reels_in tape lengths)) right m
      ∙ reels_framed (reels_in tape lengths) close (omega arith) (omega arith)

  files_again : Bytes tape → files_of (image_of tape lengths) ≡ cut_by lengths tape
  unfolding files_of reels_in
  files_again b =
      ap (λ (xs : List Item). map encode (reels_of xs)) converted_items
      ∙ ap (map encode) (reels_apart (reels_in tape lengths) close)
      ∙ write_files (cut_by lengths tape) (cut_bytes lengths tape b) close

  reels_whole : Bytes tape → encode (end_to_end (reels_in tape lengths)) ≡ tape
  unfolding reels_in
  reels_whole b =
      sym (joined_files (reels_in tape lengths))
      ∙ ap end_to_end (write_files (cut_by lengths tape) (cut_bytes lengths tape b) close)
      ∙ cut_whole lengths tape x.whole

-- into our image and back gives their bytes and their lengths
pub theirs_again : (tape lengths out other list : List ℕ) → Bytes tape → (from_simh tape lengths out).verdict.number ≡ 0
    → length tape ≤ length other
    → length lengths ≤ length list
    → ((to_simh (image_in (from_simh tape lengths out)) other list).verdict ≡ verdict 0 0 0)
    × (tape_in (to_simh (image_in (from_simh tape lengths out)) other list) ≡ tape)
    × (lengths_in (to_simh (image_in (from_simh tape lengths out)) other list) ≡ lengths)
unfolding verdict
theirs_again tape lengths out other list b z room entries =
    let r : In tape lengths out (from_simh tape lengths out) = from_zero tape lengths out z in
    let image : List ℕ = image_of tape lengths in
    let fs : files_of image ≡ cut_by lengths tape = files_again tape lengths r.sound b in
    let whole : end_to_end (files_of image) ≡ tape = ap end_to_end fs ∙ cut_whole lengths tape r.sound.whole in
    let each : map length (files_of image) ≡ lengths = ap (map length) fs ∙ cut_lengths lengths tape (omega (arith, r.sound.whole)) in
    let count : length (files_of image) ≡ length lengths = sym (length_map length (files_of image)) ∙ ap length each in
    let c : Out image (to_simh image other list)
    = to_done image other list (ap (λ (v : Verdict). v.number) (converted_framing tape lengths r.sound r.small))
    (subst (λ (l : List ℕ). length l ≤ length other) (sym whole) room) (omega arith) in
    let same : to_simh (image_in (from_simh tape lengths out)) other list ≡ to_simh image other list = ap (λ (s : List ℕ). to_simh s other list) r.image in
    (ap (λ (y : Converted). y.verdict) same ∙ c.done, ap tape_in same ∙ c.tape ∙ whole, ap lengths_in same ∙ c.lengths ∙ each)

-- ---- buffers that are always long enough

image_within : (tape lengths : List ℕ) → length (image_of tape lengths) ≤ 5 + length (encode (end_to_end (reels_in tape lengths)))
unfolding image_of
image_within tape lengths = omega (arith, image_shorter (end_to_end (reels_in tape lengths)))

files_size : (s : List ℕ) → length (end_to_end (files_of s)) ≡ length (encode (items s))
unfolding files_of
files_size s = ap length (file_bytes (items s))

files_few : (s : List ℕ) → (framing s).number ≡ 0 → length (files_of s) ≤ most_reels
unfolding files_of
files_few s f = omega (arith, length_map encode (reels_of (items s)), (reeled s f).few)

-- a buffer that is always long enough for an image
pub room_in : (tape lengths out : List ℕ) → Bytes tape → (tape_verdict tape lengths).number ≡ 0
    → length (image_of tape lengths) ≤ most_image
    → 5 + length tape ≤ length out → (from_simh tape lengths out).verdict ≡ verdict 0 0 0
room_in tape lengths out b z m r = (from_done tape lengths out sound m (omega (arith, shorter, whole))).done
  where
    sound : Convertible tape lengths
    sound = tape_zero tape lengths z

    whole : length (encode (end_to_end (reels_in tape lengths))) ≡ length tape
    whole = ap length (reels_whole tape lengths sound b)

    shorter : length (image_of tape lengths) ≤ 5 + length (encode (end_to_end (reels_in tape lengths)))
    shorter = image_within tape lengths

-- buffers that are always long enough for tape files
pub room_out : (s out lens : List ℕ) → Bytes s → (framing s).number ≡ 0 → 5 * length s / 2 ≤ length out → 16 ≤ length lens
    → (to_simh s out lens).verdict ≡ verdict 0 0 0
room_out s out lens b f r l = (to_done s out lens f (omega (arith, longer, size, long)) (omega (arith, count))).done
  where
    longer : 2 * length (encode (items s)) ≤ 5 * length (image_bytes (items s))
    longer = files_longer (items s) (framing_items s f)

    size : length (end_to_end (files_of s)) ≡ length (encode (items s))
    size = files_size s

    long : 5 + length (image_bytes (items s)) ≡ length s
    long = omega (arith, ap length (image_items s b f))

    count : length (files_of s) ≤ most_reels
    count = files_few s f
