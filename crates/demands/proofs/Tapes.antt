-- Sets of reels in the SIMH form, which are read as the images that they are converted into (document 02, P1). Assumes nothing.
use mathlib.Core.Path.{◌≡◌, refl, sym, ap, ap₂, ◌∙◌, subst}
use mathlib.Core.Logic.{◌↔◌}
use mathlib.Core.Bool.{true}
use mathlib.Core.List.{List, [], ◌∷◌, map, flatten as end_to_end}
use Prim.Native.Nat.{ℕ, ◌+◌}
use native.Mathlib.Omega.{arith}
use lib.Dec.{eqb}
use lib.ListN.{length}
use Rattle.base.specs.If.{if_b}
use Rattle.base.proofs.Ifs.{if_case}
use Rattle.base.specs.Sum.{sum}
use Rattle.base.specs.Answer.{verdict}
use Rattle.base.specs.declared.Verdict.{Verdict}
use Rattle.image.specs.Item.{Item, block, mark, reel_end, broken}
use Rattle.image.specs.Framing.{items, framing}
use Rattle.output.specs.Output.{image_in}
use Rattle.simh.specs.Set.{torn, reel_verdict, reels_verdict, reels_in, is_few, tape_verdict, from_simh, files_of, Converted, to_simh, tape_in, lengths_in}
use Rattle.simh.proofs.Inverse.{In, from_zero, Out, to_zero, files_read, converted_items, converted_framing}
use Rattle.simh.proofs.Reels.{reels_joined}
use Rattle.volume.specs.State.{start}
use Rattle.volume.specs.Run.{runs}
use Rattle.volume.specs.Accepted.{All, MayEnd, Accepted}
use Rattle.volume.specs.Meaning.{meaning_of, handed_out, content}
use Rattle.demands.specs.Terms.{is_in, Torn}

-- ---- the image of a set of files

module _ (tape lengths out : List ℕ) (z : (from_simh tape lengths out).verdict.number ≡ 0) where
  given : In tape lengths out (from_simh tape lengths out)
  given = from_zero tape lengths out z

  -- it holds the items of the files, in order, and nothing else
  pub image_holds : items (image_in (from_simh tape lengths out)) ≡ end_to_end (reels_in tape lengths)
  image_holds = ap items given.image ∙ converted_items tape lengths given.sound

  -- its framing is good, so that it is accepted exactly where these items follow the rules
  pub image_accepted : Accepted (image_in (from_simh tape lengths out)) ↔ All MayEnd start (end_to_end (reels_in tape lengths))
  unfolding verdict
  image_accepted = (
    λ a. subst (All MayEnd start) image_holds a.followed,
    λ a. record { framed = framed; followed = subst (All MayEnd start) (sym image_holds) a },
  )
    where
      framed : (framing (image_in (from_simh tape lengths out))).number ≡ 0
      framed =
          ap (λ (s : List ℕ). (framing s).number) given.image
          ∙ ap (λ (v : Verdict). v.number) (converted_framing tape lengths given.sound given.small)

-- ---- the files of an image

-- equal files have equal items, and so one meaning
same_items : (a b : List ℕ) (c d : Converted) → Out a c → Out b d → tape_in c ≡ tape_in d → lengths_in c ≡ lengths_in d
    → items a ≡ items b
same_items a b c d x y t l =
    let first : end_to_end (reels_in (tape_in c) (lengths_in c)) ≡ items a
    = ap end_to_end (ap₂ reels_in x.tape x.lengths ∙ files_read a x.framed) ∙ reels_joined (items a) in
    let other : end_to_end (reels_in (tape_in d) (lengths_in d)) ≡ items b
    = ap end_to_end (ap₂ reels_in y.tape y.lengths ∙ files_read b y.framed) ∙ reels_joined (items b) in
    sym first ∙ ap end_to_end (ap₂ reels_in t l) ∙ other

-- two images are converted into the same files where they are equal, and only where their meanings are
module _ (a b o p ls ms : List ℕ) (za : (to_simh a o ls).verdict.number ≡ 0) (zb : (to_simh b p ms).verdict.number ≡ 0) where
  pub equal_files : a ≡ b
      → (tape_in (to_simh a o ls) ≡ tape_in (to_simh b p ms)) × (lengths_in (to_simh a o ls) ≡ lengths_in (to_simh b p ms))
  equal_files e =
      let x : Out a (to_simh a o ls) = to_zero a o ls za in
      let y : Out b (to_simh b p ms) = to_zero b p ms zb in (
        x.tape ∙ ap (λ (s : List ℕ). end_to_end (files_of s)) e ∙ sym y.tape,
        x.lengths
            ∙ ap (λ (s : List ℕ). map length (files_of s)) e ∙ sym y.lengths,
      )

  pub files_mean : tape_in (to_simh a o ls) ≡ tape_in (to_simh b p ms) → lengths_in (to_simh a o ls) ≡ lengths_in (to_simh b p ms)
      → content a ≡ content b
  unfolding content
  files_mean t l =
      ap (λ (xs : List Item). meaning_of (handed_out (runs start xs)))
      (same_items a b (to_simh a o ls) (to_simh b p ms) (to_zero a o ls za) (to_zero b p ms zb) t l)

-- ---- what is wrong with a set of files

is_torn : (n i : ℕ) → is_in (0 ∷ 15 ∷ 2 ∷ []) n ≡ true → (n ≡ 2 → i ≡ 0) → Torn (verdict n i 0)
unfolding verdict
is_torn n i h k = record { number = h; item = k; byte = refl }

torn_at : (n : ℕ) → Torn (torn n)
unfolding torn is_in if_b
torn_at n = is_torn 15 _ refl (λ z. omega arith)

whole : Torn (verdict 0 0 0)
unfolding is_in if_b
whole = is_torn 0 0 refl (λ z. omega arith)

reel_torn : (n : ℕ) (xs : List Item) → Torn (reel_verdict n xs)
unfolding reel_verdict
reel_torn n [] = torn_at n
reel_torn n (block bs ∷ xs) = reel_torn (n + 1) xs
reel_torn n (mark ∷ xs) = reel_torn (n + 1) xs
reel_torn n (reel_end ∷ []) = whole
reel_torn n (reel_end ∷ x ∷ xs) = torn_at (n + 1)
reel_torn n (broken ∷ xs) = torn_at n

reels_torn : (n : ℕ) (rs : List (List Item)) → Torn (reels_verdict n rs)
unfolding reels_verdict
reels_torn n [] = whole
reels_torn n (r ∷ rs) =
    if_case Torn (eqb (reel_verdict n r).number 0) _ _ (λ _. reels_torn (n + length r) rs) (λ _. reel_torn n r)

pub tape_torn : (tape lengths : List ℕ) → Torn (tape_verdict tape lengths)
unfolding tape_verdict is_in if_b
tape_torn tape lengths =
    if_case Torn (eqb (sum lengths) (length tape)) _ _
    (λ _. if_case Torn (eqb (reels_verdict 0 (reels_in tape lengths)).number 0) _ _
    (λ _. if_case Torn (is_few (length lengths)) _ _ (λ _. whole) (λ _. is_torn 2 0 refl (λ _. refl)))
    (λ _. reels_torn 0 (reels_in tape lengths)))
    (λ _. is_torn 15 0 refl (λ _. refl))
