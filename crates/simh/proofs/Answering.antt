-- What is answered, and what the lent buffers then hold. Assumes nothing.
use mathlib.Core.Path.{◌≡◌, refl, sym, ap, ◌∙◌, subst}
use mathlib.Core.Bool.{true, false, ◌&&◌}
use mathlib.Core.List.{List, ◌++◌, map, flatten as end_to_end}
use Prim.Native.Nat.{ℕ, ◌+◌, ◌≤◌, ◌<◌}
use native.Mathlib.Omega.{arith}
use borrow.Author.Rules.{rules}
use borrow.Author.Tests.{eq-eqb, ne_eqb, eqb-true, eqb-false, le-leb, lt-leb}
use lib.Dec.{eqb, leb}
use lib.ListN.{length, drop}
use Rattle.base.specs.If.{if_b}
use Rattle.base.proofs.Ifs.{if_true, if_false, if_case, and_true, and_left, and_right}
use Rattle.base.specs.Part.{put_at, put_in}
use Rattle.base.specs.Sum.{sum}
use Rattle.base.specs.Answer.{verdict}
use Rattle.base.specs.declared.Verdict.{Verdict}
use Rattle.base.proofs.Parts.{length_put, put_put, put_first_of_all}
use Rattle.base.proofs.Sums.{length_map}
use Rattle.image.specs.Item.{encode as image_bytes}
use Rattle.image.specs.Framing.{most_image, head, items, framing}
use Rattle.image.proofs.Frames.{framing_zero, framing_items}
use Rattle.output.specs.Output.{Result, AnswersAt, refused, refused_with, placed, refusal_of, written_of}
use Rattle.output.specs.declared.Written.{Written as Answer}
use Rattle.base.proofs.Copies.{put_in_lem}
use Rattle.simh.specs.declared.export.Size.{Size}
use Rattle.simh.specs.declared.export.Tapes.{Tapes}
use Rattle.simh.specs.Tape.{encode}
use Rattle.simh.specs.Set.{reels_verdict, reels_in, is_few, tape_verdict, image_of, from_simh, files_of, Converted, kept, stored, to_simh, Converts}
use Rattle.simh.specs.Code.Passes.{items_in, Right, Wrong, Measured, Storable, lengths_from, Sized, FilesFit, short_of}
use Rattle.simh.proofs.Lengths.{file_lengths, file_bytes, file_count}
use Rattle.simh.proofs.Reels.{Reeled, framed_reels}

-- ---- in

-- a set of files that number 15 and number 2 are not given for
pub record Convertible (tape lengths : List ℕ) : Type 0 where
  pub whole : sum lengths ≡ length tape
  pub right : (reels_verdict 0 (reels_in tape lengths)).number ≡ 0
  pub few : is_few (length lengths) ≡ true

pub tape_zero : (tape lengths : List ℕ) → (tape_verdict tape lengths).number ≡ 0 → Convertible tape lengths
unfolding tape_verdict verdict
tape_zero tape lengths =
    if_case P (eqb (sum lengths) (length tape)) _ _
    (λ s. if_case P (eqb (reels_verdict 0 (reels_in tape lengths)).number 0) _ _
    (λ r. if_case P (is_few (length lengths)) _ _
    (λ f _. record {
      whole = eqb-true (sum lengths) (length tape) s;
      right = eqb-true
          (reels_verdict 0 (reels_in tape lengths)).number 0 r;
      few = f;
    })
    (λ _ q. absurd (omega arith)))
    (λ r q. absurd (eqb-false (reels_verdict 0 (reels_in tape lengths)).number 0 r q)))
    (λ _ q. absurd (omega arith))
  where
    P : Verdict → Type 0
    P v = v.number ≡ 0 → Convertible tape lengths

pub from_refused : (tape lengths out : List ℕ) (v : Verdict) (a : Answer) → Wrong (tape_verdict tape lengths) v
    → a ≡ record { verdict = v; len = 0 } → AnswersAt (from_simh tape lengths out) a out
unfolding from_simh refused_with
from_refused tape lengths out v a x e =
    subst (λ (w : Result). AnswersAt w a out) (sym (if_false _ _ _ (ne_eqb _ 0 (λ q. x.number (ap (λ (u : Verdict). u.number) x.said ∙ q)))))
    (record { said = ap (λ (r : Answer). r.verdict) e ∙ x.said; len = ap (λ (r : Answer). r.len) e; out = refl })

module _ (tape lengths out : List ℕ) (n : ℕ) (x : Right (tape_verdict tape lengths) (Measured tape lengths) n) where
  number : (tape_verdict tape lengths).number ≡ 0
  unfolding verdict
  number = ap (λ (v : Verdict). v.number) x.said

  sound : Convertible tape lengths
  sound = tape_zero tape lengths number

  size : length (image_of tape lengths) ≡ n + 5
  unfolding image_of
  size = omega (arith, x.is)

  passed : (w : Result)
      → if_b (leb (length (image_of tape lengths)) most_image) (placed (if_b (leb (length (image_of tape lengths)) (length out))
      (record {
        number = 0;
        len = length (image_of tape lengths);
        out = image_of tape lengths ++
            drop (length (image_of tape lengths)) out;
      })
      (refused 10 out))) (refused_with (verdict 14 0 0) out) ≡ w → from_simh tape lengths out ≡ w
  unfolding from_simh
  passed w e = if_true _ _ _ (eq-eqb _ 0 number) ∙ e

  pub from_long : (a : Answer) → 16777210 < n → a ≡ refusal_of 14 → AnswersAt (from_simh tape lengths out) a out
  unfolding refused_with refusal_of
  from_long a h e =
      subst (λ (b : Answer). AnswersAt (from_simh tape lengths out) b out) (sym e)
      (subst (λ (w : Result). AnswersAt w (refusal_of 14) out)
      (sym (passed (refused_with (verdict 14 0 0) out)
      (if_false _ _ _ (lt-leb (length (image_of tape lengths)) most_image (omega (arith, size))))))
      (record { said = refl; len = refl; out = refl }))

  module _ (l : n ≤ 16777210) where
    fits : leb (length (image_of tape lengths)) most_image ≡ true
    fits = le-leb (length (image_of tape lengths)) most_image (omega (arith, size))

    pub from_short : (a : Answer) → length out < n + 5 → a ≡ refusal_of 10 → AnswersAt (from_simh tape lengths out) a out
    unfolding placed refused refusal_of
    from_short a h e =
        subst (λ (b : Answer). AnswersAt (from_simh tape lengths out) b out) (sym e)
        (subst (λ (w : Result). AnswersAt w (refusal_of 10) out)
        (sym (passed (placed (refused 10 out)) (if_true _ _ _ fits
        ∙ ap placed (if_false _ _ _ (lt-leb (length (image_of tape lengths)) (length out) (omega (arith, size)))))))
        (record { said = refl; len = refl; out = refl }))

    module _ (h : n + 5 ≤ length out) where
      pub from_storable : (p : List ℕ) → p ≡ put_in out 0 head → Storable tape lengths (length p)
      from_storable p e =
          let put : p ≡ put_at out 0 head = e ∙ put_in_lem out 0 head (omega arith) in
          let long : length p ≡ length out = ap length put ∙ length_put out 0 head (omega arith) in
          record { whole = sound.whole; right = sound.right; room = omega (arith, x.is) }

      pub from_done : (a : Answer) (p q : List ℕ) → p ≡ put_in out 0 head → q ≡ put_at p 5 (image_bytes (items_in tape lengths))
          → a ≡ written_of (n + 5)
          → AnswersAt (from_simh tape lengths out) a q
      unfolding placed written_of image_of
      from_done a p q e f g =
          let put : p ≡ put_at out 0 head = e ∙ put_in_lem out 0 head (omega arith) in
          let whole : q ≡ image_of tape lengths ++ drop (length (image_of tape lengths)) out
          = f ∙ ap (λ (l : List ℕ). put_at l 5 (image_bytes (items_in tape lengths))) put
          ∙ put_put out 0 head (image_bytes (items_in tape lengths)) (omega arith)
          ∙ put_first_of_all out (head ++ image_bytes (items_in tape lengths)) in
          subst (λ (b : Answer). AnswersAt (from_simh tape lengths out) b q) (sym g)
          (subst (λ (w : Result). AnswersAt w (written_of (n + 5)) q)
          (sym (passed _ (if_true _ _ _ fits
          ∙ ap placed (if_true _ _ _ (le-leb (length (image_of tape lengths)) (length out) (omega (arith, size)))))))
          (record { said = refl; len = sym size; out = whole }))

pub ruleset froms = (from_refused, from_long, from_short, from_storable, from_done, rules)

-- ---- out

pub to_refused : (s out lens : List ℕ) (v : Verdict) (a : Tapes) → Wrong (framing s) v → a ≡ record { verdict = v; len = 0; files = 0 }
    → Converts (to_simh s out lens) a out lens
unfolding to_simh kept
to_refused s out lens v a x e =
    subst (λ (b : Tapes). Converts (to_simh s out lens) b out lens) (sym e)
    (subst (λ (c : Converted). Converts c (record { verdict = v; len = 0; files = 0 }) out lens)
    (sym (if_false _ _ _ (ne_eqb _ 0 (λ q. x.number (ap (λ (u : Verdict). u.number) x.said ∙ q)))))
    (record { said = x.said; len = refl; files = refl; out = refl; lengths = refl }))

module _ (s out lens : List ℕ) (z : Size) (x : Right (framing s) (Sized s) z) where
  framed_number : (framing s).number ≡ 0
  unfolding verdict
  framed_number = ap (λ (v : Verdict). v.number) x.said

  framed : Reeled 0 false (items s)
  framed = framed_reels (items s) 0 0 false (omega arith) (framing_zero s framed_number).right

  bytes : length (end_to_end (files_of s)) ≡ z.len
  unfolding files_of
  bytes = ap length (file_bytes (items s)) ∙ sym (x.is.bytes)

  count : length (files_of s) ≡ z.files
  unfolding files_of
  count = file_count (items s) framed.close ∙ sym (x.is.reels)

  opened : to_simh s out lens ≡ stored (files_of s) out lens
  unfolding to_simh
  opened = if_true _ _ _ (eq-eqb _ 0 framed_number)

  short : (a : Tapes) → leb (length (end_to_end (files_of s))) (length out) && leb (length (files_of s)) (length lens) ≡ false
      → a ≡ short_of
      → Converts (to_simh s out lens) a out lens
  unfolding stored kept short_of
  short a f e =
      subst (λ (b : Tapes). Converts (to_simh s out lens) b out lens) (sym e)
      (subst (λ (c : Converted). Converts c short_of out lens) (sym (opened ∙ if_false _ _ _ f))
      (record { said = refl; len = refl; files = refl; out = refl; lengths = refl }))

  pub to_short : (a : Tapes) → length out < z.len → a ≡ short_of → Converts (to_simh s out lens) a out lens
  to_short a h = short a (and_left _ _ (lt-leb (length (end_to_end (files_of s))) (length out) (omega (arith, bytes))))

  pub to_few : (a : Tapes) → length lens < z.files → a ≡ short_of → Converts (to_simh s out lens) a out lens
  to_few a h =
      short a (and_right (leb (length (end_to_end (files_of s))) (length out)) _
      (lt-leb (length (files_of s)) (length lens) (omega (arith, count))))

  module _ (h : z.len ≤ length out) (k : z.files ≤ length lens) where
    pub to_filed : FilesFit (items s) (length out) (length lens)
    to_filed =
        record {
          right = framing_items s framed_number;
          room = omega (arith, x.is.bytes);
          entries = omega (arith, x.is.reels);
        }

    pub to_done : (q r : List ℕ) (v : Verdict) → v ≡ verdict 0 0 0 → q ≡ put_at out 0 (encode (items s))
        → r ≡ put_at lens 0 (lengths_from 0 (items s))
        → Converts (to_simh s out lens) (record { verdict = v; len = z.len; files = z.files }) q r
    unfolding stored files_of
    to_done q r v y e f =
        let room : leb (length (end_to_end (files_of s))) (length out) && leb (length (files_of s)) (length lens) ≡ true
        = and_true _ _ (le-leb (length (end_to_end (files_of s))) (length out) (omega (arith, bytes))) (le-leb (length (files_of s)) (length lens) (omega (arith, count))) in
        let list : lengths_from 0 (items s) ≡ map length (files_of s) = file_lengths (items s) framed.close in
        let long : length (map length (files_of s)) ≡ length (files_of s) = length_map length (files_of s) in
        subst (λ (c : Converted). Converts c (record { verdict = v; len = z.len; files = z.files }) q r)
        (sym (opened ∙ if_true _ _ _ room))
        (record {
          said = y;
          len = sym bytes;
          files = sym count;
          out =
              e ∙ put_first_of_all out (encode (items s))
              ∙ ap (λ (l : List ℕ). l ++ drop (length l) out) (sym (file_bytes (items s)));
          lengths =
              f ∙ put_first_of_all lens (lengths_from 0 (items s)) ∙ ap (λ (l : List ℕ). l ++ drop (length l) lens) list
              ∙ ap (λ (i : ℕ). map length (files_of s) ++ drop i lens) long;
        })

pub ruleset tos = (to_refused, to_short, to_few, to_filed, to_done, rules)
