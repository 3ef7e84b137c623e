-- A text whose length was found in one buffer, and that was written into another where it has room. Assumes nothing.
use mathlib.Core.Path.{◌≡◌, refl, sym, ap, ap₂, ◌∙◌, subst}
use mathlib.Core.List.{List, ◌++◌}
use Prim.Native.Nat.{ℕ, ◌+◌, ◌*◌, ◌^◌, ◌≤◌, ◌<◌}
use native.Mathlib.Omega.{arith}
use borrow.Author.Rules.{rules}
use borrow.Author.Tests.{le-leb, lt-leb, eq-eqb, ne_eqb}
use lib.ListN.{length, take, drop}
use lib.Seq.{length-take-le, take-append_seam}
use Rattle.base.proofs.Ifs.{if_true, if_false}
use Rattle.base.specs.Part.{put_at}
use Rattle.base.specs.Answer.{verdict}
use Rattle.base.specs.declared.Verdict.{Verdict}
use Rattle.output.specs.Output.{Written, fitted, refusal_of, written_of, Answers}
use Rattle.output.specs.declared.Written.{Written as Answer}
use Rattle.output.proofs.Writing.{answers_refused, wrote_same}
use Rattle.volume.specs.Run.{image_verdict}
use Rattle.volume.specs.Meaning.{content}
use Rattle.listing.specs.Code.Page.{DidPutPage}
use Rattle.listing.specs.Text.{listing_of, refusal_line, text_of}
use Rattle.listing.proofs.Pages.{listing_long}

pub fitted_short : (text o p : List ℕ) (r : ℕ) (out : List ℕ) (a : Answer) → DidPutPage o 0 text p r → length out < r
    → a ≡ refusal_of 10 → Answers (fitted text out) a out
fitted_short text o p r out a w h e =
    let less : length out < length text = omega (arith, w.place) in
    subst (λ (b : Answer). Answers (fitted text out) b out) (sym e)
    (subst (λ (x : Written). Answers x (refusal_of 10) out) (sym (if_false _ _ _ (lt-leb _ _ less))) (answers_refused 10 out))

pub fitted_done : (text o p : List ℕ) (r : ℕ) (out q : List ℕ) (t : ℕ) (a : Answer) → DidPutPage o 0 text p r
    → length out * 1 < 2 ^ 63 → r ≤ length out
    → DidPutPage out 0 text q t → a ≡ written_of r → Answers (fitted text out) a q
unfolding written_of put_at
fitted_done text o p r out q t a w h l v e =
    let size : r ≡ length text = omega (arith, w.place) in
    let room : length text ≤ length out = omega arith in
    let none : 0 + length text ≡ length text = omega arith in
    let laid : q ≡ put_at out 0 text = v.done (omega (arith, v.place)) (omega (arith, v.place)) in
    subst (λ (b : Answer). Answers (fitted text out) b q) (sym e)
    (subst (λ (x : Written). Answers x (record { verdict = verdict 0 0 0; len = r }) q) (sym (if_true _ _ _ (le-leb _ _ room)))
    (record { said = refl; len = size; out = laid ∙ ap (λ (k : ℕ). text ++ drop k out) none }))

-- ---- the listing, on a page in which it has room

page_place : (s o p : List ℕ) (r : ℕ) → (image_verdict s).number ≡ 0 → DidPutPage o 0 (listing_of (content s)) p r
    → (r ≡ length (listing_of (content s))) × (r ≤ 2792)
page_place s o p r h w = let long = listing_long s h in (omega (arith, long, w.place), omega (arith, long, w.place))

pub page_room : (s o p : List ℕ) (r : ℕ) → (image_verdict s).number ≡ 0 → length o ≡ 2792
    → DidPutPage o 0 (listing_of (content s)) p r → r ≤ length p
page_room s o p r h l w = omega (arith, (page_place s o p r h w).1, w.kept, l)

pub page_part : (s o p : List ℕ) (r : ℕ) → (image_verdict s).number ≡ 0 → length o ≡ 2792
    → DidPutPage o 0 (listing_of (content s)) p r → r ≡ length (take r p)
page_part s o p r h l w = sym (length-take-le r p (page_room s o p r h l w))

-- the front of the page is the listing
page_text : (s o p : List ℕ) (r : ℕ) → (image_verdict s).number ≡ 0 → length o ≡ 2792 → DidPutPage o 0 (listing_of (content s)) p r
    → take r p ≡ listing_of (content s)
unfolding put_at
page_text s o p r h l w =
    let (size, few) = page_place s o p r h w in
    let text = listing_of (content s) in
    ap₂ (λ (k : ℕ) (q : List ℕ). take k q) size (w.done (omega (arith, few)) (omega (arith, few, l)))
    ∙ take-append_seam text (drop (0 + length text) o)

pub page_done : (s o p : List ℕ) (r : ℕ) (out q : List ℕ) (t : ℕ) (a : Answer) → (image_verdict s).number ≡ 0 → length o ≡ 2792
    → DidPutPage o 0 (listing_of (content s)) p r
    → length out * 1 < 2 ^ 63 → r ≤ length out → DidPutPage out 0 (take r p) q t → a ≡ written_of r
    → Answers (fitted (listing_of (content s)) out) a q
page_done s o p r out q t a h l w m k v e =
    fitted_done (listing_of (content s)) o p r out q t a w m k
    (wrote_same out 0 (take r p) (listing_of (content s)) q t (page_text s o p r h l w) v) e

pub ruleset fitting = (fitted_short, fitted_done, rules)

pub ruleset paging = (fitted_short, page_room, page_part, page_done, rules)

-- ---- the text of an image

pub text_refused : (s : List ℕ) (v : Verdict) (out : List ℕ) (a : Answer) (p : List ℕ) → v ≡ image_verdict s → (v.number ≡ 0 → ⊥)
    → Answers (fitted (refusal_line v) out) a p → Answers (fitted (text_of s) out) a p
unfolding text_of
text_refused s v out a p e d h =
    subst (λ (text : List ℕ). Answers (fitted text out) a p)
    (ap refusal_line e ∙ sym
    (if_false _ _ _ (ne_eqb (image_verdict s).number 0 (λ z. d (ap (λ (x : Verdict). x.number) e ∙ z))))) h

pub text_accepted : (s : List ℕ) (v : Verdict) (out : List ℕ) (a : Answer) (p : List ℕ) → v ≡ image_verdict s → v.number ≡ 0
    → Answers (fitted (listing_of (content s)) out) a p → Answers (fitted (text_of s) out) a p
unfolding text_of
text_accepted s v out a p e z h =
    subst (λ (text : List ℕ). Answers (fitted text out) a p)
    (sym (if_true _ _ _ (eq-eqb (image_verdict s).number 0 (sym (ap (λ (x : Verdict). x.number) e) ∙ z)))) h

pub number_none : (s : List ℕ) (v : Verdict) → v ≡ image_verdict s → v.number ≡ 0 → (image_verdict s).number ≡ 0
number_none s v e z = sym (ap (λ (x : Verdict). x.number) e) ∙ z

pub ruleset texts = (text_refused, text_accepted, number_none, rules)
