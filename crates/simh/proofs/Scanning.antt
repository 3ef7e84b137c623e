-- The check of one file: what is left of it answers as the whole. Assumes nothing.
use mathlib.Core.Path.{◌≡◌, refl, sym, ap, ◌∙◌, subst}
use mathlib.Core.List.{List, [], ◌∷◌}
use Prim.Native.Nat.{ℕ, ◌+◌, ◌^◌, ◌≤◌, ◌<◌, min}
use native.Mathlib.Omega.{arith}
use mir.Syntax.{w64}
use mir.Val.{Fits}
use borrow.Author.Rules.{rules}
use lib.ListN.{length, drop}
use Rattle.base.specs.Part.{part}
use Rattle.base.specs.Answer.{verdict}
use Rattle.base.specs.declared.Verdict.{Verdict}
use Rattle.std.specs.Prelude.{Ok, Err}
use Rattle.base.proofs.Parts.{length_part}
use Rattle.image.specs.Item.{Item, block, mark, reel_end, most_bytes, encode as image_bytes}
use Rattle.image.specs.declared.Shape.{Shape}
use Rattle.image.specs.declared.Shape.TheVariants.{Block, Mark, ReelEnd, Broken}
use Rattle.simh.specs.Tape.{span_of, shape, decode}
use Rattle.simh.specs.Set.{torn, reel_verdict}
use Rattle.simh.specs.Code.Passes.{Answered, Scanned}
use Rattle.simh.proofs.Files.{block_at, block_within, mark_within, end_within, decode_past, decode_at, decode_block, decode_mark, decode_end, decode_broken}
use Rattle.simh.proofs.Sizes.{no_bytes, image_block, image_mark, image_end_lem}

-- ---- the place of 15

pub torn_place : (n k : ℕ) → k ≡ min n 4294967295 → verdict 15 k 0 ≡ torn n
unfolding torn verdict
torn_place n k e = ap (λ (i : ℕ). verdict 15 i 0) e

-- and it is a refusal
torn_wrong : (v : Verdict) (n : ℕ) → v ≡ torn n → v.number ≡ 0 → ⊥
unfolding torn verdict
torn_wrong v n e z = let said : v.number ≡ 15 = ap (λ (u : Verdict). u.number) e in absurd (omega arith)

-- ---- one file: at a place, with items and their bytes passed

pub record Scanning (first : ℕ) (s : List ℕ) (at item len : ℕ) : Type 0 where
  pub counted : item ≤ first + at
  pub short : len ≤ at
  pub within : at ≤ length s
  pub left : reel_verdict item (decode (drop at s)) ≡ reel_verdict first (decode s)
  pub all : item + length (decode (drop at s)) ≡ first + length (decode s)
  pub bytes : len + length (image_bytes (decode (drop at s))) ≡ length (image_bytes (decode s))

pub scanning_none : (first : ℕ) (s : List ℕ) → Scanning first s 0 first 0
scanning_none first s =
    record { counted = omega arith; short = omega arith; within = omega arith; left = refl; all = refl; bytes = omega arith }

module _ (first : ℕ) (s : List ℕ) (at item len : ℕ) (p : Shape) (w : Scanning first s at item len) (h : at < length s)
    (e : p ≡ shape (drop at s)) where
  pub scanning_block : (n r : ℕ) → p ≡ Block n → r ≡ span_of n → Scanning first s (at + r) (item + 1) (len + 3 + n)
  unfolding reel_verdict
  scanning_block n r q k =
      let there : shape (drop at s) ≡ Block n = sym e ∙ q in
      let room : at + span_of n ≤ length s = block_within s at n there in
      let d : decode (drop at s) ≡ block (part (at + 4) n s) ∷ decode (drop (at + span_of n) s) = decode_block s at n h there in
      let long : length (part (at + 4) n s) ≡ n = length_part (at + 4) n s (omega arith) in
      let count : length (decode (drop at s)) ≡ 1 + length (decode (drop (at + span_of n) s)) = ap length d ∙ omega arith in
      let size = ap (λ (xs : List Item). length (image_bytes xs)) d ∙ image_block (part (at + 4) n s) (decode (drop (at + span_of n) s)) in
      subst (λ (x : ℕ). Scanning first s (at + x) (item + 1) (len + 3 + n)) (sym k)
      (record {
        counted = omega (arith, w.counted);
        short = omega (arith, w.short);
        within = room;
        left = sym (ap (reel_verdict item) d) ∙ w.left;
        all = omega (arith, w.all);
        bytes = omega (arith, w.bytes);
      })

  pub scanning_mark : p ≡ Mark → Scanning first s (at + 4) (item + 1) (len + 3)
  unfolding reel_verdict
  scanning_mark q =
      let there : shape (drop at s) ≡ Mark = sym e ∙ q in
      let room : at + 4 ≤ length s = mark_within s at there in
      let d : decode (drop at s) ≡ mark ∷ decode (drop (at + 4) s) = decode_mark s at h there in
      let count : length (decode (drop at s)) ≡ 1 + length (decode (drop (at + 4) s)) = ap length d ∙ omega arith in
      let size = ap (λ (xs : List Item). length (image_bytes xs)) d ∙ image_mark (decode (drop (at + 4) s)) in
      record {
        counted = omega (arith, w.counted);
        short = omega (arith, w.short);
        within = room;
        left = sym (ap (reel_verdict item) d) ∙ w.left;
        all = omega (arith, w.all);
        bytes = omega (arith, w.bytes);
      }

  -- the end of the medium, with nothing behind it
  pub scanned_end : p ≡ ReelEnd → length s ≤ at + 4
      → Answered (reel_verdict first (decode s)) (Scanned first s) (Ok (record { item = item + 1; len = len + 3 }))
  unfolding reel_verdict
  scanned_end q k =
      let there : shape (drop at s) ≡ ReelEnd = sym e ∙ q in
      let room : at + 4 ≤ length s = end_within s at there in
      let last : decode (drop at s) ≡ reel_end ∷ []
      = decode_end s at h there ∙ ap (λ (xs : List Item). reel_end ∷ xs) (decode_past s (at + 4) k) in
      record {
        said = sym w.left ∙ ap (reel_verdict item) last;
        is =
            record {
              all = omega (arith, w.all, ap length last);
              bytes = omega (arith, w.bytes, ap (λ (xs : List Item). length (image_bytes xs)) last ∙ image_end_lem [], no_bytes);
              few = omega (arith, w.counted);
              less = omega (arith, w.short);
            };
      }

  -- bytes behind it are wrong
  pub scanned_over : (v : Verdict) → v ≡ torn (item + 1) → p ≡ ReelEnd → at + 4 < length s
      → Answered (reel_verdict first (decode s)) (Scanned first s) (Err v)
  unfolding reel_verdict
  scanned_over v t q k =
      let d : decode (drop at s) ≡ reel_end ∷ decode (drop (at + 4) s) = decode_end s at h (sym e ∙ q) in
      record {
        said =
            t ∙ sym (sym w.left ∙ ap (reel_verdict item) (d
            ∙ ap (λ (xs : List Item). reel_end ∷ xs) (decode_at s (at + 4) (shape (drop (at + 4) s)) k refl)));
        number = torn_wrong v (item + 1) t;
      }

  -- so is what is no item
  pub scanned_broken : (v : Verdict) → v ≡ torn item → p ≡ Broken
      → Answered (reel_verdict first (decode s)) (Scanned first s) (Err v)
  unfolding reel_verdict
  scanned_broken v t q =
      record {
        said = t ∙ sym (sym w.left ∙ ap (reel_verdict item) (decode_broken s at h (sym e ∙ q)));
        number = torn_wrong v item t;
      }

-- no end of the medium
pub scanned_open : (first : ℕ) (s : List ℕ) (at item len : ℕ) → Scanning first s at item len → length s ≤ at
    → (v : Verdict) → v ≡ torn item → Answered (reel_verdict first (decode s)) (Scanned first s) (Err v)
unfolding reel_verdict
scanned_open first s at item len w h v t =
    record { said = t ∙ sym (sym w.left ∙ ap (reel_verdict item) (decode_past s at h)); number = torn_wrong v item t }

-- what the sums of a turn want
pub block_most : (s : List ℕ) (at n : ℕ) (p : Shape) → p ≡ shape (drop at s) → p ≡ Block n → n ≤ most_bytes
block_most s at n p e q = (block_at (drop at s) n (sym e ∙ q)).most

pub place_fits : (s : List ℕ) (at n r : ℕ) (p : Shape) → p ≡ shape (drop at s) → p ≡ Block n → r ≡ span_of n → length s < 2 ^ 64
    → Fits w64 (at + r)
place_fits s at n r p e q k h = let room : at + span_of n ≤ length s = block_within s at n (sym e ∙ q) in record { fits = omega arith }

pub len_fits : (first : ℕ) (s : List ℕ) (at item len n : ℕ) (p : Shape) → Scanning first s at item len → p ≡ shape (drop at s)
    → p ≡ Block n
    → length s < 2 ^ 64 → Fits w64 (len + 3 + n)
len_fits first s at item len n p w e q h =
    let room : at + span_of n ≤ length s = block_within s at n (sym e ∙ q) in record { fits = omega (arith, w.short) }

pub mark_fits : (s : List ℕ) (at : ℕ) (p : Shape) → p ≡ shape (drop at s) → p ≡ Mark → length s < 2 ^ 64 → Fits w64 (at + 4)
mark_fits s at p e q h = let room : at + 4 ≤ length s = mark_within s at (sym e ∙ q) in record { fits = omega arith }

pub end_fits : (s : List ℕ) (at : ℕ) (p : Shape) → p ≡ shape (drop at s) → p ≡ ReelEnd → length s < 2 ^ 64 → Fits w64 (at + 4)
end_fits s at p e q h = let room : at + 4 ≤ length s = end_within s at (sym e ∙ q) in record { fits = omega arith }

pub ruleset scans =
    (scanning_none, scanning_block, scanning_mark, scanned_end, scanned_over, scanned_broken, scanned_open, block_most, place_fits, len_fits, mark_fits, end_fits, rules)
