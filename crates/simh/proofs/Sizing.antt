-- The framing of an image and the size of its files, as the loop over its items finds them. Assumes nothing.
use mathlib.Core.Path.{◌≡◌, refl, sym, ap, ◌∙◌, subst}
use mathlib.Core.Bool.{Bool, true, false}
use mathlib.Core.List.{List, []}
use Prim.Native.Nat.{ℕ, ◌+◌, ◌*◌, ◌≤◌, ◌<◌}
use native.Mathlib.Omega.{arith}
use mir.Syntax.{w64}
use mir.Val.{Fits}
use borrow.Author.Rules.{rules}
use lib.ListN.{length, drop}
use Rattle.base.specs.Answer.{verdict}
use Rattle.std.specs.Prelude.{Result}
use Rattle.base.specs.Part.{part}
use Rattle.base.specs.declared.Verdict.{Verdict}
use Rattle.base.proofs.Parts.{length_part}
use Rattle.image.specs.Item.{Item, most_bytes, shape, decode}
use Rattle.image.specs.Framing.{most_image, most_reels, framed_from, items, opens, framing}
use Rattle.image.specs.declared.Shape.{Shape}
use Rattle.image.specs.declared.Shape.TheVariants.{Block, Mark, ReelEnd, Broken}
use Rattle.image.proofs.Items.{block_at, block_within, block_fits, decode_past, decode_block, decode_mark, decode_reel_end}
use Rattle.image.proofs.Frames.{FramedUpTo, walked_none, walked_block, walked_mark, walked_reel_end, walked_full, walked_broken, walked_closed, walked_open, opens_small, framing_opened, framing_shut}
use Rattle.simh.specs.declared.export.Size.{Size}
use Rattle.simh.specs.Tape.{span_of, encode}
use Rattle.simh.specs.Code.Passes.{lengths_from, Answered, Right, Wrong, Sized}
use Rattle.simh.proofs.Lengths.{lengths_alike}
use Rattle.simh.proofs.Sizes.{no_file, file_block, file_mark, file_end_lem}

pub record Sizing (s : List ℕ) (at n r : ℕ) (closed : Bool) (len : ℕ) : Type 0 where
  pub walked : FramedUpTo s (framed_from 0 0 false (items s)) at n r closed
  pub small : len ≤ 3 * at
  pub bytes : len + length (encode (decode (drop at s))) ≡ length (encode (items s))
  pub count : r + length (lengths_from 0 (decode (drop at s))) ≡ length (lengths_from 0 (items s))

pub sizing_none : (s : List ℕ) → Sizing s 5 0 0 false 0
unfolding items
sizing_none s =
    record {
      walked = walked_none s 5 0 0 false (omega arith)
          (omega arith);
      small = omega arith;
      bytes = omega arith;
      count = omega arith;
    }

module _ (s : List ℕ) (at n r : ℕ) (closed : Bool) (len : ℕ) (p : Shape) (w : Sizing s at n r closed len) (h : at < length s)
    (f : r ≡ most_reels → ⊥)
    (e : p ≡ shape (drop at s)) where
  pub sizing_block : (m k : ℕ) → p ≡ Block m → k ≡ span_of m → Sizing s (at + 3 + m) (n + 1) r false (len + k)
  unfolding lengths_from
  sizing_block m k q i =
      let d = decode_block s at m p h e q in
      let bs : List ℕ = part (at + 3) m s in
      let xs : List Item = decode (drop (at + 3 + m) s) in
      let some : 1 ≤ m = (block_at (drop at s) m (sym e ∙ q)).some in
      let long : length bs ≡ m = length_part (at + 3) m s (block_within s at m p e q) in
      let size = ap (λ (ys : List Item). length (encode ys)) d ∙ file_block bs xs in
      let more = ap (λ (ys : List Item). length (lengths_from 0 ys)) d ∙ lengths_alike (0 + span_of (length bs)) 0 xs in
      record {
        walked = walked_block s _ at n r m closed p w.walked h f e q;
        small = omega (arith, w.small);
        bytes = omega (arith, w.bytes);
        count = omega (arith, w.count);
      }

  pub sizing_mark : p ≡ Mark → Sizing s (at + 3) (n + 1) r false (len + 4)
  unfolding lengths_from
  sizing_mark q =
      let d = decode_mark s at p h e q in
      let xs : List Item = decode (drop (at + 3) s) in
      let size = ap (λ (ys : List Item). length (encode ys)) d ∙ file_mark xs in
      let more = ap (λ (ys : List Item). length (lengths_from 0 ys)) d ∙ lengths_alike (0 + 4) 0 xs in
      record {
        walked = walked_mark s _ at n r closed p w.walked h f e q;
        small = omega (arith, w.small);
        bytes = omega (arith, w.bytes);
        count = omega (arith, w.count);
      }

  pub sizing_end : p ≡ ReelEnd → Sizing s (at + 3) (n + 1) (r + 1) true (len + 4)
  unfolding lengths_from
  sizing_end q =
      let d = decode_reel_end s at p h e q in
      let xs : List Item = decode (drop (at + 3) s) in
      let size = ap (λ (ys : List Item). length (encode ys)) d ∙ file_end_lem xs in
      let more = ap (λ (ys : List Item). length (lengths_from 0 ys)) d in
      record {
        walked = walked_reel_end s _ at n r closed p w.walked h f e q;
        small = omega (arith, w.small);
        bytes = omega (arith, w.bytes);
        count = omega (arith, w.count);
      }

-- ---- the returns

-- number 2 is a refusal
two_wrong : (s : List ℕ) (v : Verdict) (n : ℕ) → v ≡ verdict 2 n 0 → v ≡ framed_from 0 0 false (items s)
    → Wrong (framed_from 0 0 false (items s)) v
unfolding verdict
two_wrong s v n e a =
    let two : v.number ≡ 2 = ap (λ (u : Verdict). u.number) e in
    record { said = a; number = λ q. absurd (omega arith) }

module _ (s : List ℕ) (at n r : ℕ) (closed : Bool) (len : ℕ) (w : Sizing s at n r closed len) where
  pub sized_full : (v : Verdict) → v ≡ verdict 2 n 0 → at < length s → r ≡ most_reels → Wrong (framed_from 0 0 false (items s)) v
  sized_full v e h q = two_wrong s v n e (walked_full s _ at n r closed v e w.walked h q)

  pub sized_broken : (p : Shape) (v : Verdict) → v ≡ verdict 2 n 0 → at < length s → p ≡ shape (drop at s) → p ≡ Broken
      → Wrong (framed_from 0 0 false (items s)) v
  sized_broken p v e h k q = two_wrong s v n e (walked_broken s _ at n r closed p v e w.walked h k q)

  pub sized_open : (v : Verdict) → v ≡ verdict 2 n 0 → length s ≤ at → closed ≡ false → Wrong (framed_from 0 0 false (items s)) v
  sized_open v e h q = two_wrong s v n e (walked_open s _ at n r closed v e w.walked h q)

  pub sized_closed : length s ≤ at → closed ≡ true
      → Right (framed_from 0 0 false (items s)) (Sized s) (record { len = len; files = r })
  unfolding lengths_from
  sized_closed h q =
      let gone : decode (drop at s) ≡ [] = decode_past s at h in
      let none = ap (λ (ys : List Item). length (encode ys)) gone ∙ no_file in
      let over = ap (λ (ys : List Item). length (lengths_from 0 ys)) gone in
      record {
        said = sym (walked_closed s _ at n r closed (verdict 0 0 0) refl w.walked h q);
        is = record { bytes = omega (arith, w.bytes); reels = omega (arith, w.count) };
      }

  pub len_fits : (p : Shape) (m k : ℕ) → p ≡ shape (drop at s) → p ≡ Block m → k ≡ span_of m → length s ≤ most_image
      → Fits w64 (len + k)
  len_fits p m k e q i h =
      let within : at + 3 + m ≤ length s = block_within s at m p e q in
      record { fits = omega (arith, w.small) }

pub block_most : (s : List ℕ) (at m : ℕ) (p : Shape) → p ≡ shape (drop at s) → p ≡ Block m → m ≤ most_bytes
block_most s at m p e q = (block_at (drop at s) m (sym e ∙ q)).most

pub ruleset sizes =
    (sizing_none, sizing_block, sizing_mark, sizing_end, sized_full, sized_broken, sized_open, sized_closed, len_fits, block_most, block_fits, rules)

-- ---- any image

pub framed_opened : (s : List ℕ) (b : Bool) (z : Result Size Verdict) → b ≡ opens s → b ≡ true
    → Answered (framed_from 0 0 false (items s)) (Sized s) z → Answered (framing s) (Sized s) z
framed_opened s b z e h = subst (λ (v : Verdict). Answered v (Sized s) z) (sym (framing_opened s (sym e ∙ h)))

pub framed_shut : (s : List ℕ) (b : Bool) (v : Verdict) → b ≡ opens s → b ≡ false → v ≡ framing s → Wrong (framing s) v
framed_shut s b v e h q =
    record { said = q; number = λ z. framing_shut s (sym e ∙ h) (sym (ap (λ (u : Verdict). u.number) q) ∙ z) }

pub ruleset frames = (framed_opened, framed_shut, opens_small, rules)
