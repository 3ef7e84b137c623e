-- What the requests of document 02 ask of the definitions beyond the three demands: each theorem below the words that it renders.
-- Assumes nothing.
use mathlib.Core.Path.{◌≡◌, refl, sym, ◌∙◌}
use mathlib.Core.Bool.{false}
use mathlib.Core.Logic.{◌↔◌}
use mathlib.Core.List.{List, flatten as end_to_end}
use Prim.Native.Nat.{ℕ, ◌+◌, ◌*◌, ◌/◌, ◌≤◌}
use lib.ListN.{length}
use Rattle.base.specs.If.{if_b}
use Rattle.base.proofs.Ifs.{if_false}
use Rattle.base.specs.Answer.{verdict}
use Rattle.base.proofs.Faults.{or_first}
use Rattle.image.specs.Byte.{Bytes}
use Rattle.image.specs.Framing.{most_image, items, framing}
use Rattle.order.specs.Kind.{hdr, eov, eof, is_kind}
use Rattle.order.specs.declared.Kind.{Kind}
use Rattle.output.specs.Output.{image_in}
use Rattle.volume.specs.State.{State, start}
use Rattle.volume.specs.Step.{hdr1_after}
use Rattle.volume.specs.Fault.{trailer1_fault, open_fault, file_end_fault, context_fault}
use Rattle.volume.specs.Accepted.{All, MayEnd, Accepted}
use Rattle.volume.specs.Meaning.{content}
use Rattle.volume.specs.Dates.{undated, undated_from, SameDates}
use Rattle.volume.proofs.Accepted.{accepted_iff}
use Rattle.sheet.specs.Flat.{reels_number}
use Rattle.reading.proofs.Dates.{header_same, trailer_dates, later_dates}
use Rattle.writing.specs.Rewrite.{sheet_from, rewrite}
use Rattle.simh.specs.Set.{reels_in, tape_verdict, image_of, from_simh, to_simh, tape_in, lengths_in}
use Rattle.simh.proofs.Inverse.{ours_again, theirs_again, room_in, room_out}
use Rattle.demands.specs.Operations.{ours}
use Rattle.demands.specs.Terms.{Fits, Torn}
use Rattle.demands.proofs.Tapes.{tape_torn, image_holds, image_accepted, equal_files, files_mean}
use Rattle.demands.specs.Demands.{Normal}
use Rattle.demands.proofs.Ours.{demand_3}

-- ---- P1

-- "Our image to theirs and back must give our bytes again;" for every image that is converted, whatever `check` says of it, and
-- whatever the lent buffers held before.
-- `Bytes` holds of every slice of bytes. Ruled out: a converter that loses the block before a pad byte, or what stands behind two
-- tape marks.
pub our_bytes_again : (s out lens other : List ℕ) → Bytes s → (to_simh s out lens).verdict.number ≡ 0 → length s ≤ length other
    → ((from_simh (tape_in (to_simh s out lens)) (lengths_in (to_simh s out lens)) other).verdict ≡ verdict 0 0 0)
    × (image_in (from_simh (tape_in (to_simh s out lens)) (lengths_in (to_simh s out lens)) other) ≡ s)
our_bytes_again = ours_again

-- "theirs to ours and back must give theirs": the bytes and the lengths. Ruled out: a reader that lets a gap or a wrong second
-- length pass.
pub their_bytes_again : (tape lengths out other list : List ℕ) → Bytes tape → (from_simh tape lengths out).verdict.number ≡ 0
    → length tape ≤ length other
    → length lengths ≤ length list
    → ((to_simh (image_in (from_simh tape lengths out)) other list).verdict ≡ verdict 0 0 0)
    × (tape_in (to_simh (image_in (from_simh tape lengths out)) other list) ≡ tape)
    × (lengths_in (to_simh (image_in (from_simh tape lengths out)) other list) ≡ lengths)
their_bytes_again = theirs_again

-- "Refusals: 15, lengths that don't add up to the buffer (item 0), then the first word or block cut short [..] with the item
-- number as in our image; then 2 (no file or a 17th)".
-- Demand 1 has the rest. Ruled out: a place for number 2.
pub torn_files : (tape lengths : List ℕ) → Torn (tape_verdict tape lengths)
torn_files = tape_torn

-- Buffers that are always long enough, so that number 10 need not be met: an image has at most 5 bytes more than its files, these
-- at most 5 bytes for 2 of the image, and 16 lengths are those of any set.
pub import_room : (tape lengths out : List ℕ) → Bytes tape → (tape_verdict tape lengths).number ≡ 0
    → length (image_of tape lengths) ≤ most_image
    → 5 + length tape ≤ length out → (from_simh tape lengths out).verdict ≡ verdict 0 0 0
import_room = room_in

pub export_room : (s out lens : List ℕ) → Bytes s → (framing s).number ≡ 0 → 5 * length s / 2 ≤ length out → 16 ≤ length lens
    → (to_simh s out lens).verdict ≡ verdict 0 0 0
export_room = room_out

-- "Demands 2 and 3 are read over the converted image." That image holds the items of the tape files, in order, and nothing else;
-- so it is accepted exactly when these follow the rules, and what the demands say of an accepted set is said of it. Ruled out: a
-- conversion that leaves a reel out, or makes a set right that is not.
module _ (tape lengths out : List ℕ) (z : (from_simh tape lengths out).verdict.number ≡ 0) where
  pub converted_holds : items (image_in (from_simh tape lengths out)) ≡ end_to_end (reels_in tape lengths)
  converted_holds = image_holds tape lengths out z

  pub converted_accepted : Accepted (image_in (from_simh tape lengths out)) ↔ All MayEnd start (end_to_end (reels_in tape lengths))
  converted_accepted = image_accepted tape lengths out z

-- So two sets of tape files have equal normal sets exactly when they have one meaning. Ruled out: an image that keeps more of the
-- tape files than their items.
pub converted_one_normal_set : (t ls v u ms w : List ℕ) → (from_simh t ls v).verdict.number ≡ 0
    → (from_simh u ms w).verdict.number ≡ 0
    → All MayEnd start (end_to_end (reels_in t ls)) → All MayEnd start (end_to_end (reels_in u ms)) → (quota : ℕ) (names o p : List ℕ)
    → reels_number quota names ≡ 0
    → Fits (sheet_from (image_in (from_simh t ls v)) quota names) (length o)
    → Fits (sheet_from (image_in (from_simh u ms w)) quota names) (length p)
    → Normal ours (image_in (from_simh t ls v)) quota names o × Normal ours (image_in (from_simh u ms w)) quota names p
    × ((image_in (rewrite (image_in (from_simh t ls v)) quota names o) ≡ image_in (rewrite (image_in (from_simh u ms w)) quota names p))
    ↔ (content (image_in (from_simh t ls v)) ≡ content (image_in (from_simh u ms w))))
converted_one_normal_set t ls v u ms w zt zu ft fu quota names o p legal f g =
    demand_3.normal (image_in (from_simh t ls v)) (image_in (from_simh u ms w)) quota names o p ((converted_accepted t ls v zt).1 ft)
    ((converted_accepted u ms w zu).1 fu) legal f g

-- And normal sets that go out as tape files, where the lent buffers have room for both, are equal in every byte and length
-- exactly when the two meanings are.
pub equal_files_exactly : (a b : List ℕ) (quota : ℕ) (names o p : List ℕ) → Accepted a → Accepted b → reels_number quota names ≡ 0
    → Fits (sheet_from a quota names) (length o) → Fits (sheet_from b quota names) (length p) → (e f ls ms : List ℕ)
    → (to_simh (image_in (rewrite a quota names o)) e ls).verdict.number ≡ 0
    → (to_simh (image_in (rewrite b quota names p)) f ms).verdict.number ≡ 0
    → ((tape_in (to_simh (image_in (rewrite a quota names o)) e ls) ≡ tape_in (to_simh (image_in (rewrite b quota names p)) f ms))
    × (lengths_in (to_simh (image_in (rewrite a quota names o)) e ls) ≡ lengths_in (to_simh (image_in (rewrite b quota names p)) f ms)))
    ↔ (content a ≡ content b)
equal_files_exactly a b quota names o p x y legal i j e f ls ms za zb =
    let (first, second, equal) = demand_3.normal a b quota names o p x y legal i j in (
      λ q. sym first.means.meaning
          ∙ files_mean (image_in (rewrite a quota names o)) (image_in (rewrite b quota names p)) e f ls ms za zb q.0 q.1
          ∙ second.means.meaning,
      λ m. equal_files (image_in (rewrite a quota names o)) (image_in (rewrite b quota names p)) e f ls ms za zb (equal.1 m),
    )

-- ---- P2

-- "Number 6 is no longer given for BP 42-53 between sections." Whatever its dates are, HDR1 has the same fault, or none, against
-- what was read before it. Ruled out: a section held to the dates of another.
pub dates_not_compared : (s : State) (l m : List ℕ) → length l ≡ 80 → length m ≡ 80 → undated l ≡ undated m
    → context_fault s (hdr 1) l ≡ context_fault s (hdr 1) m
unfolding context_fault is_kind if_b
dates_not_compared s l m a b e = header_same l m a b e s.continues s.files s.hdr1

-- "a trailer still equals its own header", in its dates too. The state has the last HDR1, its own section's: HDR1 takes that
-- place, and nothing else does. Ruled out: a trailer held to section 0001, or to no header.
pub its_header : (s : State) (l : List ℕ)
    → (hdr1_after s (hdr 1) l ≡ l) × ((k : Kind) → is_kind k (hdr 1) ≡ false → hdr1_after s k l ≡ s.hdr1)
unfolding hdr1_after is_kind if_b
its_header s l = (refl, λ k h. if_false _ _ _ h)

pub dates_of_its_header : (s : State) (l : List ℕ)
    → ((context_fault s (eov 1) l).number ≡ 0 → SameDates s.hdr1 l)
    × ((context_fault s (eof 1) l).number ≡ 0 → SameDates s.hdr1 l)
unfolding context_fault file_end_fault is_kind if_b
dates_of_its_header s l = (
  trailer_dates s.hdr1 l s.count,
  λ h. trailer_dates s.hdr1 l s.count (or_first (trailer1_fault s.hdr1 s.count l) (open_fault s.pending) h),
)

-- "so demand 3 now makes two sets alike that differ only in later dates." `NewYear.antt` computes such a pair, and that every
-- section is written with the dates of section 0001.
-- Ruled out: dates of a later section in the meaning.
pub later_dates_alike : (a b : List ℕ) (quota : ℕ) (names o p : List ℕ) → Accepted a → Accepted b → reels_number quota names ≡ 0
    → Fits (sheet_from a quota names) (length o) → Fits (sheet_from b quota names) (length p)
    → undated_from start (items a) ≡ undated_from start (items b)
    → image_in (rewrite a quota names o) ≡ image_in (rewrite b quota names p)
later_dates_alike a b quota names o p x y legal f g e =
    (demand_3.normal a b quota names o p x y legal f g).2.1 (later_dates a b ((accepted_iff a).1 x) ((accepted_iff b).1 y) e)
