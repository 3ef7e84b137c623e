-- What a legal file's entry gives: good labels, lengths that suit each other, and the entry again from the labels made of it.
-- Assumes nothing.
use Rattle.std.specs.Prelude.{Option, Some, None}
use mathlib.Core.Path.{◌≡◌, refl, sym, ap, ap₂, ◌∙◌, subst}
use mathlib.Core.Bool.{Bool, true, false, false≢true, ◌||◌}
use mathlib.Core.List.{List, [], ◌∷◌, ◌++◌}
use Prim.Native.Nat.{ℕ, suc, ◌+◌, ◌*◌, ◌-◌, ◌^◌, ◌≤◌, ◌<◌}
use native.Mathlib.Omega.{arith}
use borrow.Author.Tests.{eqb-true}
use lib.Dec.{eqb, leb}
use lib.ListN.{length, take, drop, get_or}
use lib.Seq.{take_all, take-add, drop-drop}
use Rattle.base.proofs.Ifs.{if_case}
use Rattle.base.specs.Part.{part, same}
use Rattle.base.specs.Digits.{is_digit, all_digits, value}
use Rattle.base.proofs.Bytes.{same_true}
use Rattle.base.proofs.Parts.{length_part}
use Rattle.charset.specs.Number.{number_in}
use Rattle.charset.proofs.Digits.{digit_low, digit_high}
use Rattle.charset.proofs.Numbers.{power_more}
use Rattle.order.specs.Kind.{hdr}
use Rattle.label.specs.Name.{hdr1_name, hdr2_name}
use Rattle.label.specs.Field.{suits, suits_both, is_length, least_record, is_positive, is_format, is_record_length}
use Rattle.label.specs.Judged.{label_fault}
use Rattle.label.specs.Made.{made_first, made_second, format_in, block_length_in, record_length_in}
use Rattle.volume.specs.Fault.{value_of}
use Rattle.volume.specs.Meaning.{fields_from}
use Rattle.reading.specs.Legal.{format_from, block_length_from, record_length_from, is_sound, legal_entry}
use Rattle.writing.proofs.Units.{Format, is_f, is_d, is_s, both}
use Rattle.writing.proofs.PackedFiles.{Suited}
use Rattle.writing.proofs.Labels.{GoodFirst, GoodSecond, good_first, good_second, byte_of, first_identifier, first_generation, first_version, first_created, first_expires, second_format, second_block, second_record}

-- ---- legality

sound_zero : (k : Rattle.order.specs.declared.Kind.Kind) (l : List ℕ) → is_sound (label_fault k l) ≡ true
    → (label_fault k l).number ≡ 0
unfolding is_sound
sound_zero k l h = eqb-true _ 0 h

-- a legal entry has what HDR1 asks
pub legal_first : (set e : List ℕ) → legal_entry set e ≡ true → GoodFirst set e
unfolding legal_entry
legal_first set e =
    both (eqb (length set) 6) _
    (λ a. both (eqb (length e) 46) _
    (λ b. both (is_sound (label_fault (hdr 1) (made_first hdr1_name set e 1 1 0))) _
    (λ c d. good_first set e (eqb-true _ _ a) (eqb-true _ _ b) (sound_zero (hdr 1) _ c))))

-- and what HDR2 asks
pub legal_second : (set e : List ℕ) → legal_entry set e ≡ true → GoodSecond e
unfolding legal_entry
legal_second set e =
    both (eqb (length set) 6) _
    (λ a. both (eqb (length e) 46) _
    (λ b. both (is_sound (label_fault (hdr 1) (made_first hdr1_name set e 1 1 0))) _
    (λ c d. good_second e (eqb-true _ _ b) (sound_zero (hdr 2) _ d))))

-- ---- the lengths

-- digits mean a number below the power of ten of their count
value_below : (s : List ℕ) (n i : ℕ) → n < 10 ^ i → all_digits s ≡ true → value n s < 10 ^ (i + length s)
unfolding value all_digits
value_below [] n i h = λ d. let e : i ≡ i + 0 = omega arith in subst (λ (k : ℕ). n < 10 ^ k) e h
value_below (x ∷ s) n i h =
    both (is_digit x) (all_digits s)
    (λ here rest.
    let low : 48 ≤ x = digit_low x here in
    let high : x ≤ 57 = digit_high x here in
    let e : i + 1 + length s ≡ i + suc (length s) = omega arith in
    subst (λ (k : ℕ). value (n * 10 + (x - 48)) s < 10 ^ k) e
    (value_below s (n * 10 + (x - 48)) (i + 1) (power_more n (x - 48) i h (omega arith)) rest))

five_digits : (s : List ℕ) → length s ≡ 5 → value_of (number_in s) ≤ 99999
unfolding number_in value_of
five_digits s h =
    if_case (λ (n : Option ℕ). value_of n ≤ 99999) (leb (length s) 9) _ None
    (λ a. if_case (λ (n : Option ℕ). value_of n ≤ 99999) (all_digits s) (Some (value 0 s)) None
    (λ d. let v : value 0 s < 10 ^ (0 + length s) = value_below s 0 0 (omega arith) d in
    let five : 0 + length s ≡ 5 = omega arith in
    let w : value 0 s < 100000 = subst (λ (k : ℕ). value 0 s < 10 ^ k) five v in
    omega arith)
    (λ d. omega arith))
    (λ a. omega arith)

lengths_suit : (f : ℕ) (b r : Option ℕ) → is_positive b ≡ true → is_record_length f b r (Some 0) ≡ true
    → suits f (value_of b) (value_of r) 0 ≡ true
unfolding is_positive is_record_length is_length suits_both value_of
lengths_suit f None r p h = absurd (false≢true p)
lengths_suit f (Some b) None p h = absurd (false≢true h)
lengths_suit f (Some b) (Some r) p h = both (leb (least_record f) r) (suits f b r 0) (λ _ q. q) h

format_one : (e : List ℕ) → is_format (format_in e) ≡ true → Format (format_from e)
unfolding is_format format_from
format_one e =
    go (same (format_in e) (70 ∷ [])) (same (format_in e) (68 ∷ [])) (same (format_in e) (83 ∷ [])) refl refl refl
  where
    byte : (x : ℕ) → same (format_in e) (x ∷ []) ≡ true → get_or e 35 0 ≡ x
    byte x h = sym (byte_of 35 e) ∙ ap (λ (l : List ℕ). get_or l 0 0) (same_true (format_in e) (x ∷ []) h)

    go : (a b c : Bool) → same (format_in e) (70 ∷ []) ≡ a → same (format_in e) (68 ∷ []) ≡ b → same (format_in e) (83 ∷ []) ≡ c
        → a || (b || c) ≡ true → Format (get_or e 35 0)
    go true b c p q r h = is_f (byte 70 p)
    go false true c p q r h = is_d (byte 68 q)
    go false false true p q r h = is_s (byte 83 r)
    go false false false p q r h = absurd (false≢true h)

-- its lengths suit its format
pub suited : (e : List ℕ) → GoodSecond e → Suited (format_from e) (block_length_from e) (record_length_from e)
unfolding block_length_from record_length_from
suited e g =
    let long : length e ≡ 46 = g.long in
    record {
      format = format_one e g.format;
      lengths =
          lengths_suit (format_from e) (number_in (block_length_in e)) (number_in (record_length_in e)) g.block_length
          g.record_length;
      most = five_digits (block_length_in e) (length_part 36 5 e (omega arith));
    }

-- ---- the entry again

part_add : (a m n : ℕ) (l : List ℕ) → part a (m + n) l ≡ part a m l ++ part (a + m) n l
unfolding part
part_add a m n l = take-add m n (drop a l) ∙ ap (λ (r : List ℕ). take m (drop a l) ++ take n r) (drop-drop m a l)

parts : (a b m n : ℕ) (l k : List ℕ) → part a m l ≡ part b m k → part (a + m) n l ≡ part (b + m) n k
    → part a (m + n) l ≡ part b (m + n) k
parts a b m n l k p q = part_add a m n l ∙ ap₂ ◌++◌ p q ∙ sym (part_add b m n k)

pub entry_back : (set e : List ℕ) (a q : ℕ) → length e ≡ 46 → fields_from (made_first hdr1_name set e a q 0) (made_second hdr2_name e) ≡ e
unfolding fields_from
entry_back set e a q h =
    let f : List ℕ = made_first hdr1_name set e a q 0 in
    let s : List ℕ = made_second hdr2_name e in
    let dates : part 41 12 f ≡ part 23 12 e = parts 41 23 6 6 f e (first_created hdr1_name set e a q 0 h) (first_expires hdr1_name set e a q 0 h) in
    let later : part 39 14 f ≡ part 21 14 e = parts 39 21 2 12 f e (first_version hdr1_name set e a q 0 h) dates in
    let middle : part 35 18 f ≡ part 17 18 e = parts 35 17 4 14 f e (first_generation hdr1_name set e a q 0 h) later in
    let lengths : part 5 10 s ≡ part 36 10 e = parts 5 36 5 5 s e (second_block hdr2_name e h) (second_record hdr2_name e h) in
    let last : part 4 11 s ≡ part 35 11 e = parts 4 35 1 10 s e (second_format hdr2_name e h) lengths in
    ap₂ ◌++◌ (first_identifier hdr1_name set e a q 0 h) (ap₂ ◌++◌ middle last ∙ sym (part_add 17 18 11 e))
    ∙ sym (part_add 0 17 29 e)
    ∙ whole
  where
    whole : part 0 46 e ≡ e
    whole = unfold part in take_all 46 e (omega arith)
