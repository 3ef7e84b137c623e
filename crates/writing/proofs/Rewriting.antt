-- The sheet of an accepted image with a legal quota and legal names is legal. Assumes nothing.
use mathlib.Core.Path.{◌≡◌}
use mathlib.Core.Bool.{true}
use mathlib.Core.List.{List}
use Prim.Native.Nat.{ℕ, ◌/◌, ◌≤◌}
use native.Mathlib.Omega.{arith}
use borrow.Author.Tests.{ltb-false}
use lib.ListN.{length}
use Rattle.base.proofs.Ifs.{if_case}
use Rattle.volume.specs.Run.{image_verdict}
use Rattle.reading.specs.Legal.{legal_sheet, legal_quota, legal_names}
use Rattle.sheet.specs.Flat.{in_parts, reels_number}
use Rattle.reading.proofs.Legality.{accepted_sheet}
use Rattle.writing.specs.Rewrite.{sheet_from}

pub record LegalReels (quota : ℕ) (names : List ℕ) : Type 0 where
  pub few : length names / 6 ≤ 16
  pub room : legal_quota quota ≡ true
  pub named : legal_names (in_parts 6 names) ≡ true

-- reels that have no number are legal
pub reels_legal : (quota : ℕ) (names : List ℕ) → reels_number quota names ≡ 0 → LegalReels quota names
unfolding reels_number
reels_legal quota names =
    if_case Legal _ _ _ (λ _ h. absurd (nine h))
    (λ few. if_case Legal _ _ _
    (λ _. if_case Legal (legal_quota quota) _ _
    (λ q. if_case Legal (legal_names (in_parts 6 names)) _ _ (λ n _. record { few = ltb-false _ _ few; room = q; named = n })
    (λ _ h. absurd (eleven h)))
    (λ _ h. absurd (eleven h)))
    (λ _ h. absurd (eleven h)))
  where
    Legal : ℕ → Type 0
    Legal number = number ≡ 0 → LegalReels quota names

    nine : ◌≡◌ {A = ℕ} 9 0 → ⊥
    nine h = omega arith

    eleven : ◌≡◌ {A = ℕ} 11 0 → ⊥
    eleven h = omega arith

-- an accepted image makes a legal sheet
pub image_legal : (s : List ℕ) (quota : ℕ) (names : List ℕ) → (image_verdict s).number ≡ 0 → reels_number quota names ≡ 0
    → legal_sheet (sheet_from s quota names) ≡ true
unfolding sheet_from
image_legal s quota names h k = let l = reels_legal quota names k in accepted_sheet s quota (in_parts 6 names) h l.room l.named
