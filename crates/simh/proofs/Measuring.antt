-- The check of all files of a set: those that are left answer as all of them. Assumes nothing.
use mathlib.Core.Path.{◌≡◌, refl, sym, ap, ◌∙◌}
use mathlib.Core.Bool.{Bool, true, false}
use mathlib.Core.List.{List, [], ◌∷◌, map, flatten as end_to_end}
use Prim.Native.Nat.{ℕ, ◌+◌, ◌-◌, ◌^◌, ◌≤◌, ◌<◌}
use native.Mathlib.Omega.{arith}
use native.Mathlib.Numerals.{add-one}
use mir.Syntax.{w64}
use mir.Val.{Fits}
use borrow.Author.Rules.{rules}
use borrow.Author.Tests.{eq-eqb, ne_eqb, eqb-true}
use lib.Dec.{eqb}
use lib.ListN.{length, take, drop, get_or, length-append, length-take, length-drop, drop_of_length-le}
use lib.Seq.{drop-cons, drop-drop}
use Rattle.base.specs.If.{if_b}
use Rattle.base.proofs.Ifs.{if_true, if_false}
use Rattle.base.specs.Sum.{sum, cut_by}
use Rattle.base.specs.Answer.{verdict}
use Rattle.base.specs.declared.Verdict.{Verdict}
use Rattle.base.proofs.Sums.{sum_at}
use Rattle.image.specs.Item.{Item, encode as image_bytes}
use Rattle.image.proofs.RoundTrip.{encode_append}
use Rattle.simh.specs.declared.import.Scan.{Scan}
use Rattle.simh.specs.Tape.{decode}
use Rattle.simh.specs.Set.{reel_verdict, reels_verdict, reels_in, is_few, tape_verdict}
use Rattle.simh.specs.Code.Passes.{items_in, Right, Wrong, Scanned, Measured}
use Rattle.simh.proofs.Sizes.{no_bytes}

-- the files from number i on, which begin at a place
abbrev pub reels_from : List ℕ → List ℕ → ℕ → ℕ → List (List Item)
reels_from tape lengths from i = map decode (cut_by (drop i lengths) (drop from tape))

-- the file at a place, as the code cuts it, and those behind it
pub reels_at_lem : (tape lengths : List ℕ) (from i : ℕ) → i < length lengths
    → reels_from tape lengths from i
    ≡ decode (take (from + get_or lengths i 0 - from) (drop from tape)) ∷ reels_from tape lengths (from + get_or lengths i 0) (i + 1)
unfolding cut_by
reels_at_lem tape lengths from i h =
    let n : ℕ = get_or lengths i 0 in
    let e : n ≡ from + n - from = omega arith in
    ap (λ (l : List ℕ). map decode (cut_by l (drop from tape)))
    (drop-cons lengths i 0 h ∙ ap (λ (k : ℕ). n ∷ drop k lengths) (sym (add-one i)))
    ∙ ap (λ (l : List ℕ). decode (take n (drop from tape)) ∷ map decode (cut_by (drop (i + 1) lengths) l)) (drop-drop n from tape)
    ∙ ap (λ (k : ℕ). decode (take k (drop from tape)) ∷ reels_from tape lengths (from + n) (i + 1)) e

pub reels_past : (tape lengths : List ℕ) (from i : ℕ) → length lengths ≤ i → reels_from tape lengths from i ≡ []
unfolding cut_by
reels_past tape lengths from i h = ap (λ (l : List ℕ). map decode (cut_by l (drop from tape))) (drop_of_length-le lengths h)

-- the bytes of the first of several reels, and of the others
pub reels_bytes : (r : List Item) (rs : List (List Item))
    → length (image_bytes (end_to_end (r ∷ rs))) ≡ length (image_bytes r) + length (image_bytes (end_to_end rs))
unfolding end_to_end
reels_bytes r rs = ap length (encode_append r (end_to_end rs)) ∙ length-append (image_bytes r) (image_bytes (end_to_end rs))

no_reels : length (image_bytes (end_to_end [])) ≡ 0
unfolding end_to_end
no_reels = no_bytes

-- ---- a walk over the files

-- a place is where a file begins: its length and those behind it are what is left
pub record FileStart (tape lengths : List ℕ) (from i : ℕ) : Type 0 where
  pub within : i ≤ length lengths
  pub place : from + sum (drop i lengths) ≡ length tape

pub between_none : (tape lengths : List ℕ) → sum lengths ≡ length tape → FileStart tape lengths 0 0
between_none tape lengths h = record { within = omega arith; place = omega arith }

pub between_more : (tape lengths : List ℕ) (from i : ℕ) → FileStart tape lengths from i → i < length lengths
    → FileStart tape lengths (from + get_or lengths i 0) (i + 1)
between_more tape lengths from i b h =
    let e = sum_at lengths i h in
    record { within = omega arith; place = omega (arith, b.place) }

pub file_within : (tape lengths : List ℕ) (from i : ℕ) → FileStart tape lengths from i → i < length lengths
    → from + get_or lengths i 0 ≤ length tape
file_within tape lengths from i b h = let e = sum_at lengths i h in omega (arith, b.place)

pub file_fits : (tape lengths : List ℕ) (from i : ℕ) → FileStart tape lengths from i → i < length lengths → length tape < 2 ^ 64
    → Fits w64 (from + get_or lengths i 0)
file_fits tape lengths from i b h f = record { fits = omega (arith, file_within tape lengths from i b h) }

pub record Measuring (tape lengths : List ℕ) (from item len i : ℕ) : Type 0 where
  pub between : FileStart tape lengths from i
  pub counted : item ≤ from
  pub short : len ≤ from
  pub left : reels_verdict item (reels_from tape lengths from i) ≡ reels_verdict 0 (reels_in tape lengths)
  pub bytes : len + length (image_bytes (end_to_end (reels_from tape lengths from i))) ≡ length (image_bytes (items_in tape lengths))

pub measuring_none : (tape lengths : List ℕ) → sum lengths ≡ length tape → Measuring tape lengths 0 0 0 0
unfolding reels_in
measuring_none tape lengths h =
    record { between = between_none tape lengths h; counted = omega arith; short = omega arith; left = refl; bytes = omega arith }

file_long : (tape : List ℕ) (from n : ℕ) → from + n ≤ length tape → length (take (from + n - from) (drop from tape)) ≡ n
file_long tape from n h = simp (length-take, length-drop) (omega arith)

module _ (tape lengths : List ℕ) (from item len i : ℕ) (m : Measuring tape lengths from item len i) (h : i < length lengths) where
  room : from + get_or lengths i 0 ≤ length tape
  room = file_within tape lengths from i m.between h

  pub scan_fits : length tape < 18446744073709551616
      → item + length (take (from + get_or lengths i 0 - from) (drop from tape)) < 18446744073709551616
  scan_fits f = omega (arith, m.counted, room, file_long tape from (get_or lengths i 0) room)

  module _ (r : Scan) (x : Scanned item (take (from + get_or lengths i 0 - from) (drop from tape)) r) where
    long : length (take (from + get_or lengths i 0 - from) (drop from tape)) ≡ get_or lengths i 0
    long = file_long tape from (get_or lengths i 0) room

    pub lens_fit : length tape < 2 ^ 64 → Fits w64 (len + r.len)
    lens_fit f = record { fits = omega (arith, m.short, x.less, long, room) }

    pub measuring_more : reel_verdict item (decode (take (from + get_or lengths i 0 - from) (drop from tape))) ≡ verdict 0 0 0
        → Measuring tape lengths (from + get_or lengths i 0) r.item (len + r.len) (i + 1)
    unfolding reels_verdict verdict
    measuring_more f =
        let here : List ℕ = take (from + get_or lengths i 0 - from) (drop from tape) in
        let rest : List (List Item) = reels_from tape lengths (from + get_or lengths i 0) (i + 1) in
        let at : reels_from tape lengths from i ≡ decode here ∷ rest = reels_at_lem tape lengths from i h in
        let none : (reel_verdict item (decode here)).number ≡ 0 = ap (λ (v : Verdict). v.number) f in
        let size = ap (λ (rs : List (List Item)). length (image_bytes (end_to_end rs))) at ∙ reels_bytes (decode here) rest in
        record {
          between = between_more tape lengths from i m.between h;
          counted = omega (arith, m.counted, x.few, long);
          short = omega (arith, m.short, x.less, long);
          left =
              ap (λ (k : ℕ). reels_verdict k rest) x.all
              ∙ sym (ap (reels_verdict item) at ∙ if_true _ _ _ (eq-eqb _ 0 none))
              ∙ m.left;
          bytes = omega (arith, m.bytes, size, x.bytes);
        }

  -- a file in which something is wrong answers for all
  pub measured_torn : (v : Verdict) → Wrong (reel_verdict item (decode (take (from + get_or lengths i 0 - from) (drop from tape)))) v
      → Wrong (reels_verdict 0 (reels_in tape lengths)) v
  unfolding reels_verdict
  measured_torn v x =
      let here : List ℕ = take (from + get_or lengths i 0 - from) (drop from tape) in
      record {
        said =
            x.said ∙ sym (ap (reels_verdict item) (reels_at_lem tape lengths from i h)
            ∙ if_false _ _ _ (ne_eqb (reel_verdict item (decode here)).number 0 (λ z. x.number (ap (λ (u : Verdict). u.number) x.said ∙ z))))
            ∙ m.left;
        number = x.number;
      }

pub measured_all : (tape lengths : List ℕ) (from item len i : ℕ) → Measuring tape lengths from item len i → length lengths ≤ i
    → Right (reels_verdict 0 (reels_in tape lengths)) (Measured tape lengths) len
unfolding reels_verdict
measured_all tape lengths from item len i m h =
    let gone : reels_from tape lengths from i ≡ [] = reels_past tape lengths from i h in
    let size = ap (λ (rs : List (List Item)). length (image_bytes (end_to_end rs))) gone ∙ no_reels in
    record { said = sym m.left ∙ ap (reels_verdict item) gone; is = omega (arith, m.bytes) }

pub file_start : (from n : ℕ) → from ≤ from + n
file_start from n = omega arith

pub ruleset measures =
    (measuring_none, measuring_more, measured_torn, measured_all, file_within, file_fits, file_start, scan_fits, lens_fit, rules)

-- ---- the answer on the set

pub sums_right : (b : Bool) (tape lengths : List ℕ) → b ≡ eqb (sum lengths) (length tape) → b ≡ true → sum lengths ≡ length tape
sums_right b tape lengths e h = eqb-true (sum lengths) (length tape) (sym e ∙ h)

pub checked_sum : (b : Bool) (tape lengths : List ℕ) (v : Verdict) → b ≡ eqb (sum lengths) (length tape) → b ≡ false
    → v ≡ verdict 15 0 0 → Wrong (tape_verdict tape lengths) v
unfolding tape_verdict verdict
checked_sum b tape lengths v e h q =
    let said : v.number ≡ 15 = ap (λ (u : Verdict). u.number) q in
    record { said = q ∙ sym (if_false _ _ _ (sym e ∙ h)); number = λ z. absurd (omega arith) }

module _ (b : Bool) (tape lengths : List ℕ) (e : b ≡ eqb (sum lengths) (length tape)) (h : b ≡ true) where
  pub checked_torn : (v : Verdict) → Wrong (reels_verdict 0 (reels_in tape lengths)) v → Wrong (tape_verdict tape lengths) v
  unfolding tape_verdict
  checked_torn v x =
      record {
        said =
            x.said ∙ sym (if_true _ _ _ (sym e ∙ h)
            ∙ if_false _ _ _ (ne_eqb _ 0 (λ q. x.number (ap (λ (u : Verdict). u.number) x.said ∙ q))));
        number = x.number;
      }

  module _ (n : ℕ) (x : Right (reels_verdict 0 (reels_in tape lengths)) (Measured tape lengths) n) (few : Bool)
      (k : few ≡ is_few (length lengths)) where
    found : tape_verdict tape lengths ≡ if_b (is_few (length lengths)) (verdict 0 0 0) (verdict 2 0 0)
    unfolding tape_verdict verdict
    found = if_true _ _ _ (sym e ∙ h) ∙ if_true _ _ _ (eq-eqb _ 0 (ap (λ (u : Verdict). u.number) x.said))

    pub checked_few : few ≡ true → Right (tape_verdict tape lengths) (Measured tape lengths) n
    checked_few l = record { said = found ∙ if_true _ _ _ (sym k ∙ l); is = x.is }

    pub checked_many : (v : Verdict) → few ≡ false → v ≡ verdict 2 0 0 → Wrong (tape_verdict tape lengths) v
    unfolding verdict
    checked_many v l q =
        let said : v.number ≡ 2 = ap (λ (u : Verdict). u.number) q in
        record { said = q ∙ sym (found ∙ if_false _ _ _ (sym k ∙ l)); number = λ z. absurd (omega arith) }

pub ruleset checks = (sums_right, checked_sum, checked_torn, checked_few, checked_many, rules)
