-- What a reader finds in a label that was made: its fields by their rows, its length, its kind, and free access. Assumes nothing.
use mathlib.Core.Path.{◌≡◌, refl, ap, ◌∙◌}
use mathlib.Core.Bool.{false}
use mathlib.Core.List.{List, [], ◌∷◌}
use Prim.Native.Nat.{ℕ}
use borrow.Author.Tests.{eq-eqb}
use lib.ListN.{length}
use Rattle.base.specs.If.{if_b}
use Rattle.base.proofs.Ifs.{if_true, if_false}
use Rattle.base.specs.Part.{part, same}
use Rattle.base.specs.Digits.{digits}
use Rattle.base.specs.Answer.{fault}
use Rattle.order.specs.Kind.{other, vol, is_kind}
use Rattle.order.specs.declared.Kind.{Kind}
use Rattle.label.specs.Name.{vol1_name, required, or_else, named, kind_of}
use Rattle.label.specs.Table.{width_of, field, vol1, hdr1, hdr2, volume_row, access_row}
use Rattle.label.specs.Field.{volume_of}
use Rattle.label.specs.Judged.{access_at}
use Rattle.label.specs.Made.{fitted, made_volume, made_first, made_second, identifier_in, generation_in, version_in, created_in, expires_in, format_in, block_length_in, record_length_in}
use Rattle.label.proofs.Laid.{field_at, length_laid, filled_back, fitted_all, eighty_vol1, eighty_hdr1, eighty_hdr2}

-- ---- the fields

-- the fields of which HDR1, EOV1 and EOF1 are made
abbrev pub first_fields : List ℕ → List ℕ → List ℕ → ℕ → ℕ → ℕ → List (List ℕ)
first_fields name set e a q c =
    name ∷ identifier_in e ∷ set ∷ digits 4 a ∷ digits 4 q ∷ generation_in e ∷ version_in e ∷ created_in e ∷ expires_in e ∷ [] ∷
    digits 6 c ∷ []

-- those of HDR2, EOV2 and EOF2
abbrev pub second_fields : List ℕ → List ℕ → List (List ℕ)
second_fields name e = name ∷ format_in e ∷ block_length_in e ∷ record_length_in e ∷ [] ∷ digits 2 0 ∷ []

module _ (name set e : List ℕ) (a q c : ℕ) where
  -- row k, where the field has the row's width
  pub first_field : (k : ℕ) → length (field_at k (first_fields name set e a q c)) ≡ width_of hdr1 k
      → field hdr1 k (made_first name set e a q c) ≡ field_at k (first_fields name set e a q c)
  unfolding made_first
  first_field k h =
      filled_back hdr1 (first_fields name set e a q c) k ∙ fitted_all (width_of hdr1 k) (field_at k (first_fields name set e a q c)) h

  -- HDR1, EOV1 and EOF1 have 80 bytes
  pub length_first : length (made_first name set e a q c) ≡ 80
  unfolding made_first
  length_first = length_laid hdr1 _ ∙ eighty_hdr1

  -- accessibility is SPACE
  pub access_first : access_at 54 (made_first name set e a q c) ≡ fault 0 0
  unfolding made_first access_at if_b fitted same
  access_first = if_true _ _ _ (ap (λ (l : List ℕ). same l (32 ∷ [])) (filled_back hdr1 (first_fields name set e a q c) access_row))

module _ (name e : List ℕ) where
  -- each field of HDR2, EOV2 or EOF2 is read back
  pub second_field : (k : ℕ) → length (field_at k (second_fields name e)) ≡ width_of hdr2 k
      → field hdr2 k (made_second name e) ≡ field_at k (second_fields name e)
  unfolding made_second
  second_field k h = filled_back hdr2 (second_fields name e) k ∙ fitted_all (width_of hdr2 k) (field_at k (second_fields name e)) h

  -- and these have 80 bytes
  pub length_second : length (made_second name e) ≡ 80
  unfolding made_second
  length_second = length_laid hdr2 _ ∙ eighty_hdr2

-- the volume identifier of VOL1 is read back
pub volume_back : (n : List ℕ) → length n ≡ 6 → volume_of (made_volume n) ≡ n
unfolding volume_of made_volume
volume_back n h = filled_back vol1 _ volume_row ∙ fitted_all 6 n h

-- VOL1 has 80 bytes
pub length_volume : (n : List ℕ) → length (made_volume n) ≡ 80
unfolding made_volume
length_volume n = length_laid vol1 _ ∙ eighty_vol1

-- ---- the kind

-- a label of 80 bytes is of the kind that its name says
kind_named : (l name : List ℕ) (k : Kind) → length l ≡ 80 → part 0 4 l ≡ name → required name ≡ k → is_kind k other ≡ false
    → kind_of l ≡ k
unfolding kind_of named or_else
kind_named l name k h n r o =
    let p : required (part 0 4 l) ≡ k = ap required n ∙ r in
    if_true _ _ _ (eq-eqb (length l) 80 h) ∙ if_false _ _ _ (ap (λ (j : Kind). is_kind j other) p ∙ o) ∙ p

-- VOL1 is read as VOL1
pub kind_volume : (n : List ℕ) → kind_of (made_volume n) ≡ vol 1
unfolding required same is_kind if_b made_volume
kind_volume n = kind_named _ vol1_name (vol 1) (length_volume n) (filled_back vol1 _ 0 ∙ fitted_all 4 vol1_name refl) refl refl

-- the first label of a group is read as its name says
pub kind_first : (name set e : List ℕ) (a q c : ℕ) (k : Kind) → length name ≡ 4 → required name ≡ k → is_kind k other ≡ false
    → kind_of (made_first name set e a q c) ≡ k
kind_first name set e a q c k h = kind_named _ name k (length_first name set e a q c) (first_field name set e a q c 0 h)

-- and so is the second
pub kind_second : (name e : List ℕ) (k : Kind) → length name ≡ 4 → required name ≡ k → is_kind k other ≡ false
    → kind_of (made_second name e) ≡ k
kind_second name e k h = kind_named _ name k (length_second name e) (second_field name e 0 h)
