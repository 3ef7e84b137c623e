-- The entry of a file whose header labels were read without fault is a legal one: the header labels that the writer makes of it
-- have no fault.
-- Their fields are those that were read; the others are SPACEs, ZEROs and numbers that suit their rules. Assumes nothing.
use Rattle.std.specs.Prelude.{Option, Some, None}
use mathlib.Core.Path.{◌≡◌, refl, sym, ap, ◌∙◌, subst}
use mathlib.Core.Bool.{Bool, true, false, false≢true}
use mathlib.Core.List.{List, [], ◌∷◌, ◌++◌}
use Prim.Native.Nat.{ℕ, ◌+◌, ◌≤◌}
use native.Mathlib.Omega.{arith}
use borrow.Author.Tests.{eq-eqb, le-leb, leb-true}
use lib.Dec.{leb, eqb}
use lib.ListN.{length, take, drop, get_or, length-append, length-drop}
use lib.Seq.{get_or-take, get_or-drop, take-append-le, drop-append-le, drop-append-add}
use Rattle.base.specs.If.{if_b}
use Rattle.base.proofs.Ifs.{if_true, if_false, if_case}
use Rattle.base.specs.Part.{part, all_are}
use Rattle.base.specs.Digits.{is_digit, all_digits, value, digits}
use Rattle.base.specs.Answer.{fault}
use Rattle.base.specs.declared.Fault.{Fault}
use Rattle.base.proofs.Parts.{length_part, part_part}
use Rattle.charset.specs.Class.{is_a, all_a}
use Rattle.charset.specs.Number.{number_in}
use Rattle.charset.proofs.Numbers.{number_value}
use Rattle.order.specs.Kind.{hdr, is_kind}
use Rattle.label.specs.Name.{hdr1_name, hdr2_name}
use Rattle.label.specs.Field.{set_of, format_of, block_length_of, record_length_of, offset_of, least_record, suits, suits_both, is_length, is_record_length, has_record_length, good}
use Rattle.label.specs.Table.{hdr1, hdr2, fields_of, free, characters, spaces, zeros, digits as digits_rule, format_row, block_length_row, record_length_row, offset_row}
use Rattle.label.specs.Judged.{good_at, wrong_in, access_of, access_at, label_fault}
use Rattle.label.specs.Made.{fitted, laid, identifier_in, generation_in, version_in, created_in, format_in, block_length_in, made_first, made_second}
use Rattle.label.proofs.Laid.{fielded, eighty_hdr1, eighty_hdr2}
use Rattle.label.proofs.Every.{Hold, all_hold_lem, sound, sound_fields}
use Rattle.label.proofs.Fine.{Suit, fields_in, filled_fine, suit_with, suit_other, read_suit}
use Rattle.label.proofs.Read.{second_field, access_first}
use Rattle.volume.specs.Fault.{value_of}
use Rattle.volume.specs.Meaning.{fields_from}
use Rattle.reading.specs.Legal.{format_from, record_length_from, is_sound, legal_entry}

-- ---- the entry of a file: 46 bytes of its first HDR1 and HDR2

part_left : (x y : List ℕ) (a n : ℕ) → a + n ≤ length x → part a n (x ++ y) ≡ part a n x
unfolding part
part_left x y a n h =
    ap (take n) (drop-append-le a x y (omega arith)) ∙ take-append-le n (drop a x) y (simp length-drop (omega arith))

part_right : (x y : List ℕ) (w a n : ℕ) → length x ≡ w → part (w + a) n (x ++ y) ≡ part a n y
unfolding part
part_right x y w a n h =
    let place : w + a ≡ length x + a = omega arith in
    ap (λ (k : ℕ). take n (drop k (x ++ y))) place ∙ ap (take n) (drop-append-add x y a)

module _ (f s : List ℕ) (lf : length f ≡ 80) (ls : length s ≡ 80) where
  length_name : length (part 4 17 f) ≡ 17
  length_name = length_part 4 17 f (omega arith)

  length_dates : length (part 35 18 f) ≡ 18
  length_dates = length_part 35 18 f (omega arith)

  -- the fields of a file are 46 bytes
  pub length_entry : length (fields_from f s) ≡ 46
  unfolding fields_from
  length_entry =
      let x : length (part 4 17 f) ≡ 17 = length_name in
      let y : length (part 35 18 f) ≡ 18 = length_dates in
      let z : length (part 4 11 s) ≡ 11 = length_part 4 11 s (omega arith) in
      simp length-append (omega arith)

  -- its identifier stands in front, as HDR1 has it
  pub entry_name : (a n : ℕ) → a + n ≤ 17 → part a n (fields_from f s) ≡ part (4 + a) n f
  unfolding fields_from
  entry_name a n h =
      let x : length (part 4 17 f) ≡ 17 = length_name in
      part_left (part 4 17 f) (part 35 18 f ++ part 4 11 s) a n (omega arith) ∙ part_part 4 a n 17 f h

  entry_dates : (a n : ℕ) → a + n ≤ 18 → part (17 + a) n (fields_from f s) ≡ part (35 + a) n f
  unfolding fields_from
  entry_dates a n h =
      let y : length (part 35 18 f) ≡ 18 = length_dates in
      part_right (part 4 17 f) (part 35 18 f ++ part 4 11 s) 17 a n length_name
      ∙ part_left (part 35 18 f) (part 4 11 s) a n (omega arith)
      ∙ part_part 35 a n 18 f h

  -- its format and lengths stand behind, as HDR2 has them
  pub entry_second : (a n : ℕ) → a + n ≤ 11 → part (17 + (18 + a)) n (fields_from f s) ≡ part (4 + a) n s
  unfolding fields_from
  entry_second a n h =
      part_right (part 4 17 f) (part 35 18 f ++ part 4 11 s) 17 (18 + a) n length_name
      ∙ part_right (part 35 18 f) (part 4 11 s) 18 a n length_dates
      ∙ part_part 4 a n 11 s h

-- ---- the first header label

-- the fields of HDR1 made of a label read: those of that label, but for what the writer gives itself
abbrev first_read : List ℕ → List (List ℕ)
first_read f =
    fielded 0 hdr1_name (fielded 3 (digits 4 1)
    (fielded 4 (digits 4 1) (fielded 9 [] (fielded 10 (digits 6 0) (fielded 11 [] (fielded 12 [] (fields_in hdr1 0 f)))))))

first_suit : (f : List ℕ) → length f ≡ 80 → wrong_in f hdr1 ≡ 0 → Suit hdr1 f (first_read f)
unfolding good if_b digits fitted all_digits is_digit all_a is_a all_are
first_suit f lf h =
    let read : Suit hdr1 f (fields_in hdr1 0 f) = read_suit hdr1 f (omega (arith, eighty_hdr1, lf)) h in
    let own12 : Suit hdr1 f (fielded 12 [] (fields_in hdr1 0 f)) = suit_with hdr1 f _ 12 spaces [] read refl in
    let own11 : Suit hdr1 f (fielded 11 [] (fielded 12 [] (fields_in hdr1 0 f))) = suit_with hdr1 f _ 11 characters [] own12 refl in
    let own10 = suit_with hdr1 f (fielded 11 [] (fielded 12 [] (fields_in hdr1 0 f))) 10 zeros (digits 6 0) own11 refl in
    let own9 = suit_with hdr1 f (fielded 10 (digits 6 0) (fielded 11 [] (fielded 12 [] (fields_in hdr1 0 f)))) 9 characters [] own10 refl in
    let own4 = suit_with hdr1 f (fielded 9 [] (fielded 10 (digits 6 0) (fielded 11 [] (fielded 12 [] (fields_in hdr1 0 f))))) 4 digits_rule (digits 4 1) own9 refl in
    let own3 = suit_with hdr1 f (fielded 4 (digits 4 1) (fielded 9 [] (fielded 10 (digits 6 0) (fielded 11 [] (fielded 12 [] (fields_in hdr1 0 f)))))) 3 digits_rule (digits 4 1) own4 refl in
    suit_with hdr1 f (fielded 3 (digits 4 1)
    (fielded 4 (digits 4 1)
    (fielded 9 [] (fielded 10 (digits 6 0) (fielded 11 [] (fielded 12 [] (fields_in hdr1 0 f))))))) 0 free hdr1_name own3 refl

first_made : (f s : List ℕ) → length f ≡ 80 → length s ≡ 80
    → laid hdr1 (first_read f) ≡ made_first hdr1_name (set_of f) (fields_from f s) 1 1 0
unfolding made_first laid set_of
first_made f s lf ls =
    ap (λ (x : List ℕ). shape x (part 35 4 f) (part 39 2 f) (part 41 6 f) (part 47 6 f))
    (sym (entry_name f s lf ls 0 17 (omega arith)))
    ∙ ap (λ (x : List ℕ). shape (identifier_in e) x (part 39 2 f) (part 41 6 f) (part 47 6 f))
    (sym (entry_dates f s lf ls 0 4 (omega arith)))
    ∙ ap (λ (x : List ℕ). shape (identifier_in e) (generation_in e) x (part 41 6 f) (part 47 6 f))
    (sym (entry_dates f s lf ls 4 2 (omega arith)))
    ∙ ap (λ (x : List ℕ). shape (identifier_in e) (generation_in e) (version_in e) x (part 47 6 f))
    (sym (entry_dates f s lf ls 6 6 (omega arith)))
    ∙ ap (shape (identifier_in e) (generation_in e) (version_in e) (created_in e)) (sym (entry_dates f s lf ls 12 6 (omega arith)))
  where
    e : List ℕ
    e = fields_from f s

    shape : List ℕ → List ℕ → List ℕ → List ℕ → List ℕ → List ℕ
    shape i g v c x = laid hdr1 (hdr1_name ∷ i ∷ part 21 6 f ∷ digits 4 1 ∷ digits 4 1 ∷ g ∷ v ∷ c ∷ x ∷ [] ∷ digits 6 0 ∷ [])

pub first_sound : (f s : List ℕ) → length f ≡ 80 → length s ≡ 80 → (label_fault (hdr 1) f).number ≡ 0
    → (label_fault (hdr 1) (made_first hdr1_name (set_of f) (fields_from f s) 1 1 0)).number ≡ 0
unfolding fields_of access_of is_kind if_b fault
first_sound f s lf ls h =
    let fine : wrong_in (laid hdr1 (first_read f)) hdr1 ≡ 0
    = filled_fine hdr1 (first_read f)
    (suit_other hdr1 f (laid hdr1 (first_read f)) (first_read f) (λ p. absurd (false≢true (sym p))) (first_suit f lf (sound_fields (hdr 1) f h))) in
    ap (λ (x : Fault). x.number)
    (sound (hdr 1) (made_first hdr1_name (set_of f) (fields_from f s) 1 1 0)
    (ap (λ (l : List ℕ). wrong_in l hdr1) (sym (first_made f s lf ls)) ∙ fine)
    (access_first hdr1_name (set_of f) (fields_from f s) 1 1 0))

-- ---- the second header label

-- a byte is that of the part of one byte at its place
pub byte_part : (a : ℕ) (l : List ℕ) → get_or l a 0 ≡ get_or (part a 1 l) 0 0
unfolding part
byte_part a l =
    let e : a ≡ a + 0 = omega arith in
    ap (λ (k : ℕ). get_or l k 0) e ∙ sym (get_or-take 1 (drop a l) 0 0 (omega arith) ∙ get_or-drop a l 0 0)

-- offset 00 in place of another makes R against B no harder
suits_none : (f b r o : ℕ) → suits f b r o ≡ true → suits f b r 0 ≡ true
unfolding suits
suits_none f b r o = by_format (eqb f 83)
  where
    by_format : (t : Bool) → if_b t (leb (o + 6) b) (leb (r + o) b) ≡ true → if_b t (leb (0 + 6) b) (leb (r + 0) b) ≡ true
    by_format true h = let k : o + 6 ≤ b = leb-true (o + 6) b (sym (if_true true _ (leb (r + o) b) refl) ∙ h) in if_true _ _ _ refl ∙ le-leb 6 b (omega arith)
    by_format false h = let k : r + o ≤ b = leb-true (r + o) b (sym (if_false false (leb (o + 6) b) _ refl) ∙ h) in if_false _ _ _ refl ∙ le-leb (r + 0) b (omega arith)

length_none : (f : ℕ) (b r : Option ℕ) (o : ℕ) → is_record_length f b r (Some o) ≡ true → is_record_length f b r (Some 0) ≡ true
unfolding is_record_length is_length suits_both
length_none f b None o h = h
length_none f None (Some r) o h = h
length_none f (Some b) (Some r) o h =
    if_case (λ (t : Bool). t ≡ true → if_b (leb (least_record f) r) (suits f b r 0) false ≡ true) (leb (least_record f) r)
    (suits f b r o) false
    (λ e q. if_true _ _ _ e ∙ suits_none f b r o q) (λ _ q. absurd (false≢true q)) h

abbrev made2 : List ℕ → List ℕ
made2 e = made_second hdr2_name e

-- the fields of HDR2 made of a label read
abbrev second_read : List ℕ → List (List ℕ)
second_read s = fielded 0 hdr2_name (fielded 4 [] (fielded 5 (digits 2 0) (fielded 6 [] (fields_in hdr2 0 s))))

second_suit : (s : List ℕ) → length s ≡ 80 → wrong_in s hdr2 ≡ 0 → Suit hdr2 s (second_read s)
unfolding good if_b digits fitted all_digits is_digit all_are
second_suit s ls h =
    let read : Suit hdr2 s (fields_in hdr2 0 s) = read_suit hdr2 s (omega (arith, eighty_hdr2, ls)) h in
    let own6 = suit_with hdr2 s (fields_in hdr2 0 s) 6 spaces [] read refl in
    let own5 = suit_with hdr2 s (fielded 6 [] (fields_in hdr2 0 s)) 5 digits_rule (digits 2 0) own6 refl in
    let own4 = suit_with hdr2 s (fielded 5 (digits 2 0) (fielded 6 [] (fields_in hdr2 0 s))) 4 free [] own5 refl in
    suit_with hdr2 s (fielded 4 [] (fielded 5 (digits 2 0) (fielded 6 [] (fields_in hdr2 0 s)))) 0 free hdr2_name own4 refl

module _ (f s : List ℕ) (lf : length f ≡ 80) (ls : length s ≡ 80) where
  made_format : part 4 1 (made2 (fields_from f s)) ≡ part 4 1 s
  made_format =
      second_field hdr2_name (fields_from f s) format_row (length_part 35 1 _ (omega (arith, length_entry f s lf ls)))
      ∙ entry_second f s lf ls 0 1 (omega arith)

  made_block : part 5 5 (made2 (fields_from f s)) ≡ part 5 5 s
  made_block =
      second_field hdr2_name (fields_from f s) block_length_row (length_part 36 5 _ (omega (arith, length_entry f s lf ls)))
      ∙ entry_second f s lf ls 1 5 (omega arith)

  made_record : part 10 5 (made2 (fields_from f s)) ≡ part 10 5 s
  made_record =
      second_field hdr2_name (fields_from f s) record_length_row (length_part 41 5 _ (omega (arith, length_entry f s lf ls)))
      ∙ entry_second f s lf ls 6 5 (omega arith)

  made_offset : number_in (part 50 2 (made2 (fields_from f s))) ≡ Some 0
  unfolding digits number_in all_digits is_digit value if_b
  made_offset = ap number_in (second_field hdr2_name (fields_from f s) offset_row refl)

  -- R against B and O
  made_suits : all_digits (part 50 2 s) ≡ true → has_record_length s ≡ true → has_record_length (made2 (fields_from f s)) ≡ true
  unfolding has_record_length format_of block_length_of record_length_of offset_of
  made_suits o h =
      let format : get_or m 4 0 ≡ get_or s 4 0 = byte_part 4 m ∙ ap (λ (x : List ℕ). get_or x 0 0) made_format ∙ sym (byte_part 4 s) in
      let two : length (part 50 2 s) ≡ 2 = length_part 50 2 s (omega arith) in
      let offset : number_in (part 50 2 s) ≡ Some (value 0 (part 50 2 s)) = number_value (part 50 2 s) (omega arith) o in
      ap (λ (x : ℕ). is_record_length x (number_in (part 5 5 m)) (number_in (part 10 5 m)) (number_in (part 50 2 m))) format
      ∙ ap (λ (x : List ℕ). is_record_length (get_or s 4 0) (number_in x) (number_in (part 10 5 m)) (number_in (part 50 2 m))) made_block
      ∙ ap (λ (x : List ℕ). is_record_length (get_or s 4 0) (number_in (part 5 5 s)) (number_in x) (number_in (part 50 2 m))) made_record
      ∙ ap (λ (x : Option ℕ). is_record_length (get_or s 4 0) (number_in (part 5 5 s)) (number_in (part 10 5 s)) x) made_offset
      ∙ length_none (get_or s 4 0) (number_in (part 5 5 s)) (number_in (part 10 5 s)) (value 0 (part 50 2 s))
      (subst (λ (x : Option ℕ). is_record_length (get_or s 4 0) (number_in (part 5 5 s)) (number_in (part 10 5 s)) x ≡ true) offset h)
    where
      m : List ℕ
      m = made2 (fields_from f s)

  second_made : laid hdr2 (second_read s) ≡ made2 (fields_from f s)
  unfolding made_second laid
  second_made =
      ap (λ (x : List ℕ). shape x (part 5 5 s) (part 10 5 s)) (sym (entry_second f s lf ls 0 1 (omega arith)))
      ∙ ap (λ (x : List ℕ). shape (format_in e) x (part 10 5 s)) (sym (entry_second f s lf ls 1 5 (omega arith)))
      ∙ ap (shape (format_in e) (block_length_in e)) (sym (entry_second f s lf ls 6 5 (omega arith)))
    where
      e : List ℕ
      e = fields_from f s

      shape : List ℕ → List ℕ → List ℕ → List ℕ
      shape o b r = laid hdr2 (hdr2_name ∷ o ∷ b ∷ r ∷ [] ∷ digits 2 0 ∷ [])

  pub second_sound : (label_fault (hdr 2) s).number ≡ 0 → (label_fault (hdr 2) (made2 (fields_from f s))).number ≡ 0
  unfolding fields_of access_of access_at is_kind if_b fault good_at good
  second_sound h =
      let none : wrong_in s hdr2 ≡ 0 = sound_fields (hdr 2) s h in
      let rows : Hold (good_at s) hdr2 = all_hold_lem (good_at s) hdr2 none in
      let suits : has_record_length (laid hdr2 (second_read s)) ≡ true = ap has_record_length second_made ∙ made_suits (rows offset_row refl) (rows record_length_row refl) in
      let fine : wrong_in (laid hdr2 (second_read s)) hdr2 ≡ 0
      = filled_fine hdr2 (second_read s) (suit_other hdr2 s (laid hdr2 (second_read s)) (second_read s) (λ _. suits) (second_suit s ls none)) in
      ap (λ (x : Fault). x.number)
      (sound (hdr 2) (made2 (fields_from f s)) (ap (λ (l : List ℕ). wrong_in l hdr2) (sym second_made) ∙ fine) refl)

  -- the entry is legal, and its format and record length are those of HDR2
  pub entry_legal : (label_fault (hdr 1) f).number ≡ 0 → (label_fault (hdr 2) s).number ≡ 0
      → legal_entry (set_of f) (fields_from f s) ≡ true
  unfolding legal_entry is_sound set_of
  entry_legal h k =
      if_true _ _ _ (eq-eqb (length (part 21 6 f)) 6 (length_part 21 6 f (omega arith)))
      ∙ (if_true _ _ _ (eq-eqb (length (fields_from f s)) 46 (length_entry f s lf ls))
      ∙ (if_true _ _ _ (eq-eqb (label_fault (hdr 1) (made_first hdr1_name (part 21 6 f) (fields_from f s) 1 1 0)).number 0
      (first_sound f s lf ls h))
      ∙ eq-eqb (label_fault (hdr 2) (made2 (fields_from f s))).number 0 (second_sound k)))

  pub entry_format : format_from (fields_from f s) ≡ format_of s
  unfolding format_from format_of
  entry_format =
      byte_part 35 (fields_from f s) ∙ ap (λ (x : List ℕ). get_or x 0 0) (entry_second f s lf ls 0 1 (omega arith))
      ∙ sym (byte_part 4 s)

  pub entry_record : record_length_from (fields_from f s) ≡ value_of (record_length_of s)
  unfolding record_length_from record_length_of
  entry_record = ap (λ (x : List ℕ). value_of (number_in x)) (entry_second f s lf ls 6 5 (omega arith))
