-- The labels that the writer makes, as they are read: that they have no fault by themselves, that a trailer and a later section
-- equal their header, and what is read of them. A label differs from the one that the order sheet is judged by in few fields, and
-- of each of these its row is asked. Assumes nothing.
use Rattle.std.specs.Prelude.{Some}
use mathlib.Core.Path.{◌≡◌, refl, sym, ap, ◌∙◌}
use mathlib.Core.Bool.{true, false≢true}
use mathlib.Core.List.{List}
use Prim.Native.Nat.{ℕ, ◌+◌, ◌<◌}
use native.Mathlib.Omega.{arith}
use lib.ListN.{length, drop, get_or}
use lib.Seq.{get_or-take, get_or-drop}
use Rattle.base.specs.If.{if_b}
use Rattle.base.specs.Part.{part, same, all_are}
use Rattle.base.specs.Digits.{all_digits, digits}
use Rattle.base.specs.Answer.{fault}
use Rattle.base.proofs.Numbers.{length_digits}
use Rattle.base.proofs.Parts.{length_part}
use Rattle.charset.specs.Number.{number_in}
use Rattle.charset.proofs.Digits.{digits_digits}
use Rattle.charset.proofs.Numbers.{number_digits}
use Rattle.order.specs.Kind.{hdr, eov, eof, is_kind}
use Rattle.label.specs.Name.{hdr1_name, hdr2_name, eov1_name, eov2_name, eof1_name, eof2_name, required, kind_of}
use Rattle.label.specs.Table.{free, zeros, digits as digits_rule, per_section, per_file, first, hdr1, hdr2, fields_of, identifier_row, set_row, section_row, sequence_row, generation_row, version_row, created_row, expires_row, count_row, format_row, block_length_row, record_length_row, offset_row}
use Rattle.label.specs.Field.{good, is_positive, is_format, is_record_length, has_record_length, format_of, block_length_of, record_length_of, offset_of, set_of, section_of, sequence_of, count_of}
use Rattle.label.specs.Judged.{good_at, wrong_in, unequal_in, access_of, access_at, label_fault}
use Rattle.label.specs.Made.{fitted, laid, made_first, made_second, identifier_in, generation_in, version_in, created_in, expires_in, format_in, block_length_in, record_length_in}
use Rattle.label.proofs.Laid.{fitted_all}
use Rattle.label.proofs.Every.{Hold, all_hold_lem, sound, sound_fields}
use Rattle.label.proofs.Fine.{Suit, is_plain, filled_fine, fine_filled, suit_with, suit_other, alike_with, filled_alike}
use Rattle.label.proofs.Read.{first_fields, second_fields, first_field, second_field, access_first, kind_first, kind_second}
use Rattle.reading.specs.Legal.{format_from}

-- ---- the first label of a file's section

-- what the writer's first labels are made of: the label that the order sheet is judged by has no wrong field
pub record GoodFirst (set e : List ℕ) : Type 0 where
  pub six : length set ≡ 6
  pub long : length e ≡ 46
  pub fine : wrong_in (made_first hdr1_name set e 1 1 0) hdr1 ≡ 0

pub good_first : (set e : List ℕ) → length set ≡ 6 → length e ≡ 46 → (label_fault (hdr 1) (made_first hdr1_name set e 1 1 0)).number ≡ 0
    → GoodFirst set e
unfolding fields_of is_kind if_b
good_first set e s h z = record { six = s; long = h; fine = sound_fields (hdr 1) (made_first hdr1_name set e 1 1 0) z }

-- digits suit their rule
digits_good : (w n : ℕ) (l : List ℕ) → good digits_rule l (fitted w (digits w n)) ≡ true
unfolding good if_b
digits_good w n l = ap all_digits (fitted_all w (digits w n) (length_digits w n)) ∙ digits_digits w n

-- with another name, section, sequence and count it has none either, by a table with a rule that the count suits
first_fine : (name set e : List ℕ) (a q c rule : ℕ) → is_plain (first rule) ≡ true → GoodFirst set e
    → ((l : List ℕ) → good rule l (fitted 6 (digits 6 c)) ≡ true) → wrong_in (made_first name set e a q c) (first rule) ≡ 0
unfolding made_first laid good if_b
first_fine name set e a q c rule plain g count =
    let l : List ℕ = made_first hdr1_name set e 1 1 0 in
    let given : Suit hdr1 l (first_fields hdr1_name set e 1 1 0) = fine_filled hdr1 (first_fields hdr1_name set e 1 1 0) g.fine in
    let named : Suit hdr1 l (first_fields name set e 1 1 0) = suit_with hdr1 l (first_fields hdr1_name set e 1 1 0) 0 free name given refl in
    let section : Suit hdr1 l (first_fields name set e a 1 0)
    = suit_with hdr1 l (first_fields name set e 1 1 0) section_row digits_rule (digits 4 a) named (digits_good 4 a l) in
    let sequence : Suit hdr1 l (first_fields name set e a q 0)
    = suit_with hdr1 l (first_fields name set e a 1 0) sequence_row digits_rule (digits 4 q) section (digits_good 4 q l) in
    let counted : Suit (first rule) l (first_fields name set e a q c)
    = suit_with hdr1 l (first_fields name set e a q 0) count_row rule (digits 6 c) sequence (count l) in
    filled_fine (first rule) (first_fields name set e a q c)
    (suit_other (first rule) l (laid (first rule) (first_fields name set e a q c)) (first_fields name set e a q c)
    (λ p. absurd (false≢true (sym p ∙ plain))) counted)

zeros_good : (l : List ℕ) → good zeros l (fitted 6 (digits 6 0)) ≡ true
unfolding good if_b fitted digits all_are
zeros_good l = refl

pub header_sound : (set e : List ℕ) (a q : ℕ) → GoodFirst set e → label_fault (hdr 1) (made_first hdr1_name set e a q 0) ≡ fault 0 0
unfolding fields_of access_of is_kind if_b
header_sound set e a q g = sound (hdr 1) _ (first_fine hdr1_name set e a q 0 zeros refl g zeros_good) (access_first hdr1_name set e a q 0)

pub volume_end_sound : (set e : List ℕ) (a q c : ℕ) → GoodFirst set e
    → label_fault (eov 1) (made_first eov1_name set e a q c) ≡ fault 0 0
unfolding fields_of access_of is_kind if_b
volume_end_sound set e a q c g =
    sound (eov 1) _ (first_fine eov1_name set e a q c digits_rule refl g (digits_good 6 c)) (access_first eov1_name set e a q c)

pub file_end_sound : (set e : List ℕ) (a q c : ℕ) → GoodFirst set e → label_fault (eof 1) (made_first eof1_name set e a q c) ≡ fault 0 0
unfolding fields_of access_of is_kind if_b
file_end_sound set e a q c g =
    sound (eof 1) _ (first_fine eof1_name set e a q c digits_rule refl g (digits_good 6 c)) (access_first eof1_name set e a q c)

pub header_kind : (set e : List ℕ) (a q : ℕ) → kind_of (made_first hdr1_name set e a q 0) ≡ hdr 1
unfolding required same is_kind if_b
header_kind set e a q = kind_first hdr1_name set e a q 0 (hdr 1) refl refl refl

pub volume_end_kind : (set e : List ℕ) (a q c : ℕ) → kind_of (made_first eov1_name set e a q c) ≡ eov 1
unfolding required same is_kind if_b
volume_end_kind set e a q c = kind_first eov1_name set e a q c (eov 1) refl refl refl

pub file_end_kind : (set e : List ℕ) (a q c : ℕ) → kind_of (made_first eof1_name set e a q c) ≡ eof 1
unfolding required same is_kind if_b
file_end_kind set e a q c = kind_first eof1_name set e a q c (eof 1) refl refl refl

-- ---- what is read of it

module _ (name set e : List ℕ) (a q c : ℕ) where
  pub section_back : a < 10000 → section_of (made_first name set e a q c) ≡ Some a
  unfolding section_of
  section_back h = ap number_in (first_field name set e a q c section_row (length_digits 4 a)) ∙ number_digits 4 a (omega arith) h

  pub sequence_back : q < 10000 → sequence_of (made_first name set e a q c) ≡ Some q
  unfolding sequence_of
  sequence_back h = ap number_in (first_field name set e a q c sequence_row (length_digits 4 q)) ∙ number_digits 4 q (omega arith) h

  pub count_back : c < 1000000 → count_of (made_first name set e a q c) ≡ Some c
  unfolding count_of
  count_back h = ap number_in (first_field name set e a q c count_row (length_digits 6 c)) ∙ number_digits 6 c (omega arith) h

  pub set_back : length set ≡ 6 → set_of (made_first name set e a q c) ≡ set
  unfolding set_of
  set_back h = first_field name set e a q c set_row h

  pub first_identifier : length e ≡ 46 → part 4 17 (made_first name set e a q c) ≡ identifier_in e
  first_identifier h = first_field name set e a q c identifier_row (length_part 0 17 e (omega arith))

  pub first_generation : length e ≡ 46 → part 35 4 (made_first name set e a q c) ≡ generation_in e
  first_generation h = first_field name set e a q c generation_row (length_part 17 4 e (omega arith))

  pub first_version : length e ≡ 46 → part 39 2 (made_first name set e a q c) ≡ version_in e
  first_version h = first_field name set e a q c version_row (length_part 21 2 e (omega arith))

  pub first_created : length e ≡ 46 → part 41 6 (made_first name set e a q c) ≡ created_in e
  first_created h = first_field name set e a q c created_row (length_part 23 6 e (omega arith))

  pub first_expires : length e ≡ 46 → part 47 6 (made_first name set e a q c) ≡ expires_in e
  first_expires h = first_field name set e a q c expires_row (length_part 29 6 e (omega arith))

-- ---- two labels compared

-- a trailer's first label and its header's
pub trailer_agrees : (name set e : List ℕ) (a q c : ℕ)
    → unequal_in per_section (made_first hdr1_name set e a q 0) (made_first name set e a q c) hdr1 ≡ 0
unfolding made_first
trailer_agrees name set e a q c =
    let fs : List (List ℕ) = first_fields hdr1_name set e a q 0 in
    filled_alike per_section hdr1 fs (first_fields name set e a q c)
    (alike_with per_section hdr1 fs (first_fields hdr1_name set e a q c) 0 name refl
    (alike_with per_section hdr1 fs fs count_row (digits 6 c) refl (λ k r t. refl)))

-- the first labels of two sections
pub section_agrees : (set e : List ℕ) (a d q : ℕ)
    → unequal_in per_file (made_first hdr1_name set e a q 0) (made_first hdr1_name set e d q 0) hdr1 ≡ 0
unfolding made_first
section_agrees set e a d q =
    let fs : List (List ℕ) = first_fields hdr1_name set e a q 0 in
    filled_alike per_file hdr1 fs (first_fields hdr1_name set e d q 0)
    (alike_with per_file hdr1 fs fs section_row (digits 4 d) refl (λ k r t. refl))

-- the second labels
pub second_agrees : (name e : List ℕ) → unequal_in per_section (made_second hdr2_name e) (made_second name e) hdr2 ≡ 0
unfolding made_second
second_agrees name e =
    let fs : List (List ℕ) = second_fields hdr2_name e in
    filled_alike per_section hdr2 fs (second_fields name e) (alike_with per_section hdr2 fs fs 0 name refl (λ k r t. refl))

pub second_section_agrees : (e : List ℕ) → unequal_in per_file (made_second hdr2_name e) (made_second hdr2_name e) hdr2 ≡ 0
unfolding made_second
second_section_agrees e = filled_alike per_file hdr2 (second_fields hdr2_name e) (second_fields hdr2_name e) (λ k r t. refl)

-- ---- the second label of a file's section

module _ (name e : List ℕ) where
  pub second_format : length e ≡ 46 → part 4 1 (made_second name e) ≡ format_in e
  second_format h = second_field name e format_row (length_part 35 1 e (omega arith))

  pub second_block : length e ≡ 46 → part 5 5 (made_second name e) ≡ block_length_in e
  second_block h = second_field name e block_length_row (length_part 36 5 e (omega arith))

  pub second_record : length e ≡ 46 → part 10 5 (made_second name e) ≡ record_length_in e
  second_record h = second_field name e record_length_row (length_part 41 5 e (omega arith))

-- the byte that a part of one byte is
pub byte_of : (a : ℕ) (l : List ℕ) → get_or (part a 1 l) 0 0 ≡ get_or l (a + 0) 0
unfolding part
byte_of a l = get_or-take 1 (drop a l) 0 0 (omega arith) ∙ get_or-drop a l 0 0

pub format_back : (name e : List ℕ) → length e ≡ 46 → format_of (made_second name e) ≡ format_from e
unfolding format_of format_from
format_back name e h =
    sym (byte_of 4 (made_second name e)) ∙ ap (λ (l : List ℕ). get_or l 0 0) (second_format name e h) ∙ byte_of 35 e

pub block_back : (name e : List ℕ) → length e ≡ 46 → block_length_of (made_second name e) ≡ number_in (block_length_in e)
unfolding block_length_of
block_back name e h = ap number_in (second_block name e h)

pub record_back : (name e : List ℕ) → length e ≡ 46 → record_length_of (made_second name e) ≡ number_in (record_length_in e)
unfolding record_length_of
record_back name e h = ap number_in (second_record name e h)

pub offset_back : (name e : List ℕ) → offset_of (made_second name e) ≡ Some 0
unfolding offset_of
offset_back name e =
    ap number_in (second_field name e offset_row (length_digits 2 0)) ∙ number_digits 2 0 (omega arith) (omega arith)

length_back : (name e : List ℕ) → length e ≡ 46
    → has_record_length (made_second name e)
    ≡ is_record_length (format_from e) (number_in (block_length_in e)) (number_in (record_length_in e)) (Some 0)
unfolding has_record_length
length_back name e h = rw (format_back name e h, block_back name e h, record_back name e h, offset_back name e)

-- what the writer's second labels are made of, and what the fields of such an entry hold
pub record GoodSecond (e : List ℕ) : Type 0 where
  pub long : length e ≡ 46
  pub fine : wrong_in (made_second hdr2_name e) hdr2 ≡ 0
  pub format : is_format (format_in e) ≡ true
  pub block_length : is_positive (number_in (block_length_in e)) ≡ true
  pub record_length : is_record_length (format_from e) (number_in (block_length_in e)) (number_in (record_length_in e)) (Some 0) ≡ true

pub good_second : (e : List ℕ) → length e ≡ 46 → (label_fault (hdr 2) (made_second hdr2_name e)).number ≡ 0 → GoodSecond e
unfolding fields_of is_kind if_b good_at good
good_second e h z =
    let fine : wrong_in (made_second hdr2_name e) hdr2 ≡ 0 = sound_fields (hdr 2) (made_second hdr2_name e) z in
    let rows : Hold (good_at (made_second hdr2_name e)) hdr2 = all_hold_lem (good_at (made_second hdr2_name e)) hdr2 fine in
    record {
      long = h;
      fine = fine;
      format = ap is_format (sym (second_format hdr2_name e h)) ∙ rows format_row refl;
      block_length = ap (λ (l : List ℕ). is_positive (number_in l)) (sym (second_block hdr2_name e h)) ∙ rows block_length_row refl;
      record_length = sym (length_back hdr2_name e h) ∙ rows record_length_row refl;
    }

-- with another name it has no wrong field either
second_fine : (name e : List ℕ) → GoodSecond e → wrong_in (made_second name e) hdr2 ≡ 0
unfolding made_second good if_b
second_fine name e g =
    let l : List ℕ = made_second hdr2_name e in
    let given : Suit hdr2 l (second_fields hdr2_name e) = fine_filled hdr2 (second_fields hdr2_name e) g.fine in
    filled_fine hdr2 (second_fields name e)
    (suit_other hdr2 l (made_second name e) (second_fields name e) (λ _. length_back name e g.long ∙ g.record_length)
    (suit_with hdr2 l (second_fields hdr2_name e) 0 free name given refl))

pub second_header_sound : (e : List ℕ) → GoodSecond e → label_fault (hdr 2) (made_second hdr2_name e) ≡ fault 0 0
unfolding fields_of access_of access_at is_kind if_b
second_header_sound e g = sound (hdr 2) _ (second_fine hdr2_name e g) refl

pub second_header_kind : (e : List ℕ) → kind_of (made_second hdr2_name e) ≡ hdr 2
unfolding required same is_kind if_b
second_header_kind e = kind_second hdr2_name e (hdr 2) refl refl refl

pub second_volume_end_sound : (e : List ℕ) → GoodSecond e → label_fault (eov 2) (made_second eov2_name e) ≡ fault 0 0
unfolding fields_of access_of access_at is_kind if_b
second_volume_end_sound e g = sound (eov 2) _ (second_fine eov2_name e g) refl

pub second_volume_end_kind : (e : List ℕ) → kind_of (made_second eov2_name e) ≡ eov 2
unfolding required same is_kind if_b
second_volume_end_kind e = kind_second eov2_name e (eov 2) refl refl refl

pub second_file_end_sound : (e : List ℕ) → GoodSecond e → label_fault (eof 2) (made_second eof2_name e) ≡ fault 0 0
unfolding fields_of access_of access_at is_kind if_b
second_file_end_sound e g = sound (eof 2) _ (second_fine eof2_name e g) refl

pub second_file_end_kind : (e : List ℕ) → kind_of (made_second eof2_name e) ≡ eof 2
unfolding required same is_kind if_b
second_file_end_kind e = kind_second eof2_name e (eof 2) refl refl refl
