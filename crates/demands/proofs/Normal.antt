-- Demands 2 and 3: what is written of a sheet that fits, and that an accepted set has one normal set. Assumes nothing.
use mathlib.Core.Path.{◌≡◌, refl, sym, ap, ◌∙◌, subst}
use mathlib.Core.Bool.{Bool, true, false}
use mathlib.Core.Logic.{◌↔◌}
use mathlib.Core.List.{List, ◌++◌}
use Prim.Native.Nat.{ℕ, ◌≤◌}
use borrow.Author.Tests.{eq-eqb, eqb-true, eqb-false, le-leb, leb-true, leb-false}
use lib.Dec.{eqb, leb}
use lib.ListN.{length, drop}
use lib.Seq.{take_at}
use Rattle.base.specs.If.{if_b}
use Rattle.base.proofs.Ifs.{if_true, if_false, if_case}
use Rattle.base.specs.Answer.{verdict}
use Rattle.image.specs.Item.{Item, encode}
use Rattle.image.specs.Framing.{head, most_image}
use Rattle.output.specs.Output.{Written, refused, Result, refused_with, placed, image_in}
use Rattle.volume.specs.Run.{image_verdict}
use Rattle.volume.specs.Accepted.{Accepted}
use Rattle.volume.specs.Meaning.{Meaning, content, Means}
use Rattle.volume.proofs.Accepted.{accepted_iff}
use Rattle.reading.specs.Legal.{Sheet}
use Rattle.sheet.specs.Flat.{Flat, in_parts, reels_number, sheet_of, sheet_number}
use Rattle.writing.specs.Lay.{Laid, laid, short, lay}
use Rattle.writing.specs.Write.{stored, stored_laid, write_sheet, write}
use Rattle.writing.specs.Rewrite.{sheet_from, rewrite}
use Rattle.writing.proofs.RoundTrip.{image_means}
use Rattle.writing.proofs.Rewriting.{image_legal}
use Rattle.demands.specs.Terms.{Fits, image, WriteOutcome, fits, illegal, few_reels, too_long, no_room}

-- ---- writing

-- an image at the front of a buffer, whose other bytes stay
abbrev pub written : List ℕ → List ℕ → Written
written s out = record { number = 0; len = length s; out = s ++ drop (length s) out }

sheet_written : (x : Sheet) (out : List ℕ) (f : Fits x (length out)) → write_sheet x out ≡ written (image f) out
unfolding write_sheet stored_laid stored
sheet_written x out f =
    ap (λ (l : Laid). stored_laid l out) f.laying ∙ if_true _ _ _ (le-leb _ _ f.limit)
    ∙ if_true _ _ _ (le-leb _ _ f.enough)

-- a legal sheet that fits is written
pub write_done : (x : Flat) (out : List ℕ) → sheet_number x ≡ 0 → Fits (sheet_of x) (length out) → (write x out).number ≡ 0
unfolding write
write_done x out z f =
    ap (λ (w : Written). w.number) (if_true _ _ _ (eq-eqb (sheet_number x) 0 z) ∙ sheet_written (sheet_of x) out f)

-- whatever the sheet, it is written where it fits, and else refused with the first number that applies
laid_outcome : (n : ℕ) → n ≡ 0 → (x : Sheet) (out : List ℕ) (l : Laid) → lay x ≡ l → WriteOutcome n x out (stored_laid l out)
unfolding stored_laid stored
laid_outcome n z x out (laid xs) e =
    if_case (WriteOutcome n x out) (leb (length (head ++ encode xs)) most_image) _ _
    (λ a. if_case (WriteOutcome n x out) (leb (length (head ++ encode xs)) (length out)) _ _
    (λ b. fits z (record { items = xs; laying = e; limit = leb-true _ _ a; enough = leb-true _ _ b }))
    (λ b. no_room z xs e (leb-true _ _ a) (leb-false _ _ b)))
    (λ a. too_long z xs e (leb-false _ _ a))
laid_outcome n z x out short e = few_reels z e

pub write_outcome : (x : Flat) (out : List ℕ) → WriteOutcome (sheet_number x) (sheet_of x) out (write x out)
unfolding write write_sheet
write_outcome x out =
    if_case (WriteOutcome (sheet_number x) (sheet_of x) out) (eqb (sheet_number x) 0) _ _
    (λ e. laid_outcome (sheet_number x) (eqb-true _ 0 e) (sheet_of x) out (lay (sheet_of x)) refl) (λ e. illegal (eqb-false _ 0 e))

-- ---- rewriting an accepted set

pub rewrite_outcome : (s : List ℕ) (quota : ℕ) (names out : List ℕ) → Accepted s
    → (w : Written) × WriteOutcome (reels_number quota names) (sheet_from s quota names) out w
    × (rewrite s quota names out ≡ placed w)
unfolding rewrite write_sheet refused_with placed refused
rewrite_outcome s quota names out a =
    by_legal (eqb (reels_number quota names) 0) refl (if_true _ _ _ (eq-eqb (image_verdict s).number 0 ((accepted_iff s).1 a)))
  where
    wrote : Written
    wrote = stored_laid (lay (sheet_from s quota names)) out

    by_legal : (t : Bool) → eqb (reels_number quota names) 0 ≡ t
        → rewrite s quota names out
        ≡ if_b (eqb (reels_number quota names) 0) (placed wrote) (placed (refused (reels_number quota names) out))
        → (w : Written) × WriteOutcome (reels_number quota names) (sheet_from s quota names) out w
        × (rewrite s quota names out ≡ placed w)
    by_legal true e q = (wrote, laid_outcome _ (eqb-true _ 0 e) _ out _ refl, q ∙ if_true _ _ _ e)
    by_legal false e q = (refused (reels_number quota names) out, illegal (eqb-false _ 0 e), q ∙ if_false _ _ _ e)

-- one that fits, with a legal quota and legal names
module _ (s : List ℕ) (quota : ℕ) (names out : List ℕ) (a : Accepted s) (legal : reels_number quota names ≡ 0)
    (f : Fits (sheet_from s quota names) (length out)) where
  pub rewritten : rewrite s quota names out ≡ placed (written (image f) out)
  unfolding rewrite
  rewritten =
      if_true _ _ _ (eq-eqb (image_verdict s).number 0 ((accepted_iff s).1 a))
      ∙ if_true _ _ _ (eq-eqb (reels_number quota names) 0 legal)
      ∙ ap placed (sheet_written (sheet_from s quota names) out f)

  pub rewrite_done : (rewrite s quota names out).verdict ≡ verdict 0 0 0
  unfolding placed
  rewrite_done = ap (λ (r : Result). r.verdict) rewritten

  pub rewrite_image : image_in (rewrite s quota names out) ≡ image f
  unfolding placed image_in
  rewrite_image = ap image_in rewritten ∙ take_at (image f) (drop (length (image f)) out) (length (image f)) refl

  pub rewrite_means : Means (image_in (rewrite s quota names out)) (content s)
  unfolding sheet_from
  rewrite_means =
      subst (λ (x : List ℕ). Means x (content s)) (sym rewrite_image)
      (image_means (sheet_from s quota names) f.items (image_legal s quota names ((accepted_iff s).1 a) legal) f.laying
      f.limit)

-- ---- one meaning, one normal set

-- equal meanings make equal sheets
pub sheet_same : (s t : List ℕ) (quota : ℕ) (names : List ℕ) → content s ≡ content t
    → sheet_from s quota names ≡ sheet_from t quota names
unfolding sheet_from
sheet_same s t quota names e = ap (λ (m : Meaning). record { meaning = m; quota = quota; names = in_parts 6 names }) e

-- and so equal images
image_same : (x y : Sheet) (m n : ℕ) (f : Fits x m) (g : Fits y n) → x ≡ y → image f ≡ image g
image_same x y m n f g e =
    let both : laid f.items ≡ laid g.items = sym f.laying ∙ ap lay e ∙ g.laying in
    let same : f.items ≡ g.items = cc in
    ap (λ (xs : List Item). head ++ encode xs) same

pub equal_images : (s t : List ℕ) (quota : ℕ) (names o q : List ℕ) → Accepted s → Accepted t → reels_number quota names ≡ 0
    → Fits (sheet_from s quota names) (length o) → Fits (sheet_from t quota names) (length q)
    → (image_in (rewrite s quota names o) ≡ image_in (rewrite t quota names q)) ↔ (content s ≡ content t)
equal_images s t quota names o q a b legal f g = (
  λ e. sym (rewrite_means s quota names o a legal f).meaning ∙ ap content e ∙ (rewrite_means t quota names q b legal g).meaning,
  λ e. rewrite_image s quota names o a legal f ∙ image_same _ _ (length o) (length q) f g (sheet_same s t quota names e)
      ∙ sym (rewrite_image t quota names q b legal g),
)

-- the normal set fits wherever it has room
fits_again : (s t : List ℕ) (quota : ℕ) (names : List ℕ) (m n : ℕ) → content t ≡ content s
    → (f : Fits (sheet_from s quota names) m) → length (image f) ≤ n
    → Fits (sheet_from t quota names) n
fits_again s t quota names m n e f room =
    record { items = f.items; laying = ap lay (sheet_same t s quota names e) ∙ f.laying; limit = f.limit; enough = room }

-- rewritten, it gives itself again
pub rewrite_again : (s : List ℕ) (quota : ℕ) (names out : List ℕ) → Accepted s → reels_number quota names ≡ 0
    → Fits (sheet_from s quota names) (length out) → (other : List ℕ)
    → length (image_in (rewrite s quota names out)) ≤ length other
    → ((rewrite (image_in (rewrite s quota names out)) quota names other).verdict ≡ verdict 0 0 0)
    × (image_in (rewrite (image_in (rewrite s quota names out)) quota names other) ≡ image_in (rewrite s quota names out))
rewrite_again s quota names out a legal f other room =
    let m = rewrite_means s quota names out a legal f in
    let t : List ℕ = image_in (rewrite s quota names out) in
    let b : Accepted t = m.accepted in
    let enough : length (image f) ≤ length other = subst (λ (x : List ℕ). length x ≤ length other) (rewrite_image s quota names out a legal f) room in
    let g : Fits (sheet_from t quota names) (length other) = fits_again s t quota names (length out) (length other) m.meaning f enough in
    (rewrite_done t quota names other b legal g, (equal_images t s quota names other out b a legal g f).1 m.meaning)
