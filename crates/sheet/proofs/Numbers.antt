-- Laws of the numbers given back for a sheet: the tests of the code, in their order, decide as the definitions do. Assumes
-- nothing.
use mathlib.Core.Path.{◌≡◌, refl, sym, ap, ◌∙◌}
use mathlib.Core.Bool.{Bool, true, false, not}
use mathlib.Core.List.{List, [], ◌∷◌}
use Prim.Native.Nat.{ℕ, suc, ◌*◌, ◌/◌, ◌%◌, ◌≤◌, ◌<◌}
use native.Mathlib.Nat.{pos_of_ne-zero}
use native.Mathlib.Omega.{arith}
use borrow.Author.Rules.{rules}
use borrow.Author.Tests.{eq-eqb, ne_eqb, le-leb, lt-leb, lt-ltb, le-ltb, eqb-true, eqb-false, ltb-false, not-true, not-false}
use lib.Dec.{eqb, ltb}
use lib.ListN.{length}
use Rattle.base.specs.If.{if_b}
use Rattle.base.proofs.Ifs.{if_true, if_false, if_case, if_same}
use Rattle.base.specs.Sum.{sum}
use Rattle.volume.specs.Meaning.{Meaning}
use Rattle.reading.specs.Legal.{legal_files, legal_meaning, fresh_names, legal_names, legal_quota, legal_sheet}
use Rattle.sheet.specs.Flat.{Flat, in_parts, files_from, adds_up, sheet_of, sheet_number, reels_number}
use Rattle.sheet.specs.Code.Passing.{fill_bytes, says_files}
use Rattle.sheet.proofs.Cutting.{length_parts}

-- ---- the quota and the names

-- as many names as there are six bytes
names_count : (names : List ℕ) → length names % 6 ≡ 0 → length (in_parts 6 names) ≡ length names / 6
names_count names h = length_parts 6 (length names / 6) names (omega arith) (omega arith)

no_names : (ns : List (List ℕ)) → length ns ≡ 0 → legal_names ns ≡ false
unfolding legal_names
no_names ns h = if_false _ _ _ (lt-leb 1 (length ns) (omega arith))

some_names : (ns : List (List ℕ)) → 1 ≤ length ns → length ns ≤ 16 → legal_names ns ≡ fresh_names [] ns
unfolding legal_names
some_names ns h k = if_true _ _ _ (le-leb 1 (length ns) h) ∙ if_true _ _ _ (le-leb (length ns) 16 k)

module _ (q : ℕ) (names : List ℕ) where
  pub reels_many : 16 < length names / 6 → 9 ≡ reels_number q names
  unfolding reels_number
  reels_many h = sym (if_true _ _ _ (lt-ltb 16 (length names / 6) h))

  pub reels_odd : length names / 6 ≤ 16 → (length names % 6 ≡ 0 → ⊥) → 11 ≡ reels_number q names
  unfolding reels_number
  reels_odd h k = sym (if_false _ _ _ (le-ltb 16 (length names / 6) h) ∙ if_false _ _ _ (ne_eqb (length names % 6) 0 k))

  -- whole names, and not too many
  reels_whole : length names / 6 ≤ 16 → length names % 6 ≡ 0
      → reels_number q names ≡ if_b (legal_quota q) (if_b (legal_names (in_parts 6 names)) 0 11) 11
  unfolding reels_number
  reels_whole h k = if_false _ _ _ (le-ltb 16 (length names / 6) h) ∙ if_true _ _ _ (eq-eqb (length names % 6) 0 k)

  pub reels_none : length names / 6 ≤ 16 → length names % 6 ≡ 0 → length names ≡ 0 → 11 ≡ reels_number q names
  reels_none h k z =
      let e = names_count names k in
      sym (reels_whole h k
      ∙ ap (λ (b : Bool). if_b (legal_quota q) (if_b b 0 11) 11) (no_names (in_parts 6 names) (omega arith))
      ∙ ap (λ (n : ℕ). if_b (legal_quota q) n 11) (if_false _ _ _ refl)
      ∙ if_same (legal_quota q) 11)

  pub reels_quota : (p : Bool) → length names / 6 ≤ 16 → length names % 6 ≡ 0 → p ≡ legal_quota q → not p ≡ true
      → 11 ≡ reels_number q names
  reels_quota p h k e t = sym (reels_whole h k ∙ if_false _ _ _ (sym e ∙ not-true p t))

  -- a legal quota and one name or more
  reels_some : length names / 6 ≤ 16 → length names % 6 ≡ 0 → (length names ≡ 0 → ⊥) → legal_quota q ≡ true
      → reels_number q names ≡ if_b (fresh_names [] (in_parts 6 names)) 0 11
  reels_some h k z e =
      let l = names_count names k in
      let some : 1 ≤ length names / 6 = omega arith in
      reels_whole h k ∙ if_true _ _ _ e ∙ ap (λ (b : Bool). if_b b 0 11) (some_names (in_parts 6 names) (omega arith) (omega arith))

  pub reels_wrong : (p t : Bool) → length names / 6 ≤ 16 → length names % 6 ≡ 0 → (length names ≡ 0 → ⊥) → p ≡ legal_quota q
      → not p ≡ false
      → t ≡ fresh_names [] (in_parts 6 names) → not t ≡ true → 11 ≡ reels_number q names
  reels_wrong p t h k z e u f v = sym (reels_some h k z (sym e ∙ not-false p u) ∙ if_false _ _ _ (sym f ∙ not-true t v))

  pub reels_right : (p t : Bool) → length names / 6 ≤ 16 → length names % 6 ≡ 0 → (length names ≡ 0 → ⊥) → p ≡ legal_quota q
      → not p ≡ false
      → t ≡ fresh_names [] (in_parts 6 names) → not t ≡ false → 0 ≡ reels_number q names
  reels_right p t h k z e u f v = sym (reels_some h k z (sym e ∙ not-false p u) ∙ if_true _ _ _ (sym f ∙ not-false t v))

pub ruleset reels = (reels_many, reels_odd, reels_none, reels_quota, reels_wrong, reels_right, rules)

-- ---- the files

-- whole entries, as many as there are counts
says_whole : (set files counts lengths bytes : List ℕ) → length files % 46 ≡ 0 → length files / 46 ≡ length counts
    → says_files set files counts lengths bytes
    ≡ if_b (eqb (length counts) 0) false
    (if_b (eqb (sum counts) (length lengths)) (fill_bytes set files counts lengths bytes) false)
unfolding says_files
says_whole set files counts lengths bytes h k = if_true _ _ _ (eq-eqb (length files % 46) 0 h) ∙ if_true _ _ _ (eq-eqb (length files / 46) (length counts) k)

length_files : (es : List (List ℕ)) (cs ls bs : List ℕ) → length es ≡ length cs → length (files_from es cs ls bs) ≡ length cs
unfolding files_from
length_files [] [] ls bs h = refl
length_files [] (c ∷ cs) ls bs h = absurd (omega arith)
length_files (e ∷ es) [] ls bs h = absurd (omega arith)
length_files (e ∷ es) (c ∷ cs) ls bs h = ap suc (length_files es cs _ _ (omega arith))

no_files : (m : Meaning) → length m.files ≡ 0 → legal_meaning m ≡ false
unfolding legal_meaning
no_files m h = if_false _ _ _ (lt-leb 1 (length m.files) (omega arith))

some_files : (m : Meaning) → 1 ≤ length m.files → length m.files ≤ 64 → legal_meaning m ≡ legal_files m.set m.files
unfolding legal_meaning
some_files m h k = if_true _ _ _ (le-leb 1 (length m.files) h) ∙ if_true _ _ _ (le-leb (length m.files) 64 k)

module _ (set files counts lengths bytes : List ℕ) (few : length files / 46 ≤ 64) where
  abbrev meant : Meaning
  meant = record { set = set; files = files_from (in_parts 46 files) counts lengths bytes }

  -- the same tests, behind the one whether the entries are whole and as many as the counts
  abbrev sums : Bool → Bool
  sums t = if_b (eqb (sum counts) (length lengths)) (if_b (eqb (sum lengths) (length bytes)) t false) false

  sums_false : sums false ≡ false
  sums_false =
      ap (λ (b : Bool). if_b (eqb (sum counts) (length lengths)) b false) (if_same (eqb (sum lengths) (length bytes)) false)
      ∙ if_same (eqb (sum counts) (length lengths)) false

  says_even : length files ≡ 46 * length counts → says_files set files counts lengths bytes ≡ sums (legal_meaning meant)
  unfolding fill_bytes
  says_even h =
      let l : length meant.files ≡ length counts
      = length_files (in_parts 46 files) counts lengths bytes (length_parts 46 (length counts) files (omega arith) (omega arith)) in
      says_whole set files counts lengths bytes (omega arith) (omega arith)
      ∙ if_case (λ (b : Bool). b ≡ sums (legal_meaning meant)) (eqb (length counts) 0) false (sums (legal_files set meant.files))
      (λ t. let z = eqb-true (length counts) 0 t in sym (ap sums (no_files meant (omega arith)) ∙ sums_false))
      (λ t. let z = eqb-false (length counts) 0 t in
      let some : 1 ≤ length counts = pos_of_ne-zero z in
      sym (ap sums (some_files meant (omega arith) (omega arith))))

  says_odd : (length files ≡ 46 * length counts → ⊥) → says_files set files counts lengths bytes ≡ false
  unfolding says_files
  says_odd h =
      if_case (λ (b : Bool). b ≡ false) (eqb (length files % 46) 0) _ false
      (λ t. let w = eqb-true (length files % 46) 0 t in if_false _ _ _ (ne_eqb (length files / 46) (length counts) (λ e. h (omega arith))))
      (λ t. refl)

  says_meant : says_files set files counts lengths bytes
      ≡ if_b (eqb (length files) (46 * length counts)) (sums (legal_meaning meant)) false
  says_meant =
      if_case (λ (b : Bool). says_files set files counts lengths bytes ≡ b) (eqb (length files) (46 * length counts))
      (sums (legal_meaning meant)) false
      (λ t. says_even (eqb-true (length files) (46 * length counts) t))
      (λ t. says_odd (eqb-false (length files) (46 * length counts) t))

-- ---- the whole sheet

-- a test before others, and behind them
together : (a b c m : Bool) (x y : ℕ)
    → if_b (if_b a (if_b b (if_b c true false) false) false) (if_b m x y) y ≡ if_b (if_b a (if_b b (if_b c m false) false) false) x y
unfolding if_b
together true true true m x y = refl
together true true false m x y = refl
together true false c m x y = refl
together false b c m x y = refl

module _ (x : Flat) (few : length x.files / 46 ≤ 64) where
  -- not too many files and names
  sheet_few : length x.names / 6 ≤ 16 → sheet_number x ≡ if_b (adds_up x) (if_b (legal_sheet (sheet_of x)) 0 11) 11
  unfolding sheet_number
  sheet_few h = if_false _ _ _ (le-ltb 64 (length x.files / 46) few) ∙ if_false _ _ _ (le-ltb 16 (length x.names / 6) h)

  sheet_odd : (length x.names % 6 ≡ 0 → ⊥) → adds_up x ≡ false
  unfolding adds_up
  sheet_odd h =
      if_case (λ (b : Bool). b ≡ false) _ _ false
      (λ t. if_case (λ (b : Bool). b ≡ false) _ _ false
      (λ u. if_case (λ (b : Bool). b ≡ false) _ _ false (λ v. ne_eqb (length x.names % 6) 0 h) (λ v. refl)) (λ u. refl))
      (λ t. refl)

  sheet_illegal : legal_sheet (sheet_of x) ≡ false → ◌≡◌ {A = ℕ} (if_b (adds_up x) (if_b (legal_sheet (sheet_of x)) 0 11) 11) 11
  sheet_illegal h = ap (λ (n : ℕ). if_b (adds_up x) n 11) (if_false _ _ _ h) ∙ if_same (adds_up x) 11

  illegal_quota : legal_quota x.quota ≡ false → legal_sheet (sheet_of x) ≡ false
  unfolding legal_sheet sheet_of
  illegal_quota h = if_false _ _ _ h

  illegal_names : legal_quota x.quota ≡ true → legal_names (in_parts 6 x.names) ≡ false → legal_sheet (sheet_of x) ≡ false
  unfolding legal_sheet sheet_of
  illegal_names h k = if_true _ _ _ h ∙ if_false _ _ _ k

  sheet_names : ltb 16 (length x.names / 6) ≡ true → sheet_number x ≡ 9
  unfolding sheet_number
  sheet_names h = if_false _ _ _ (le-ltb 64 (length x.files / 46) few) ∙ if_true _ _ _ h

  -- what the quota and the names are refused with, the sheet is
  sheet_refused : (reels_number x.quota x.names ≡ 0 → ⊥) → reels_number x.quota x.names ≡ sheet_number x
  unfolding reels_number
  sheet_refused =
      if_case (λ (n : ℕ). (n ≡ 0 → ⊥) → n ≡ sheet_number x) (ltb 16 (length x.names / 6)) 9 _ (λ t z. sym (sheet_names t))
      (λ t. let h = ltb-false 16 (length x.names / 6) t in
      if_case (λ (n : ℕ). (n ≡ 0 → ⊥) → n ≡ sheet_number x) (eqb (length x.names % 6) 0) _ 11
      (λ w. if_case (λ (n : ℕ). (n ≡ 0 → ⊥) → n ≡ sheet_number x) (legal_quota x.quota) _ 11
      (λ q. if_case (λ (n : ℕ). (n ≡ 0 → ⊥) → n ≡ sheet_number x) (legal_names (in_parts 6 x.names)) 0 11 (λ l z. absurd (z refl))
      (λ l z. sym (sheet_few h ∙ sheet_illegal (illegal_names q l))))
      (λ q z. sym (sheet_few h ∙ sheet_illegal (illegal_quota q))))
      (λ w z. sym (sheet_few h ∙ if_false _ _ _ (sheet_odd (eqb-false (length x.names % 6) 0 w)))))

-- the quota and the names are legal
record Legal (q : ℕ) (names : List ℕ) : Type 0 where
  few : length names / 6 ≤ 16
  whole : length names % 6 ≡ 0
  quota : legal_quota q ≡ true
  named : legal_names (in_parts 6 names) ≡ true

reels_zero : (q : ℕ) (names : List ℕ) → reels_number q names ≡ 0 → Legal q names
unfolding reels_number
reels_zero q names =
    if_case (λ (n : ℕ). n ≡ 0 → Legal q names) (ltb 16 (length names / 6)) 9 _ (λ t z. absurd (omega arith))
    (λ t. if_case (λ (n : ℕ). n ≡ 0 → Legal q names) (eqb (length names % 6) 0) _ 11
    (λ w. if_case (λ (n : ℕ). n ≡ 0 → Legal q names) (legal_quota q) _ 11
    (λ l. if_case (λ (n : ℕ). n ≡ 0 → Legal q names) (legal_names (in_parts 6 names)) 0 11
    (λ m z. record { few = ltb-false 16 (length names / 6) t; whole = eqb-true (length names % 6) 0 w; quota = l; named = m })
    (λ m z. absurd (omega arith)))
    (λ l z. absurd (omega arith)))
    (λ w z. absurd (omega arith)))

module _ (x : Flat) (few : length x.files / 46 ≤ 64) where
  adds_whole : length x.names % 6 ≡ 0
      → adds_up x ≡ if_b (eqb (length x.files) (46 * length x.counts))
      (sums x.set x.files x.counts x.lengths x.bytes few true) false
  unfolding adds_up
  adds_whole h = rw (eq-eqb (length x.names % 6) 0 h)

  legal_meant : Legal x.quota x.names
      → legal_sheet (sheet_of x) ≡ legal_meaning (meant x.set x.files x.counts x.lengths x.bytes few)
  unfolding legal_sheet sheet_of
  legal_meant r = if_true _ _ _ r.quota ∙ if_true _ _ _ r.named

  -- where the quota and the names are legal, the files decide
  sheet_files : Legal x.quota x.names
      → sheet_number x ≡ if_b (says_files x.set x.files x.counts x.lengths x.bytes) 0 11
  sheet_files r =
      let m = legal_meaning (meant x.set x.files x.counts x.lengths x.bytes few) in
      sheet_few x few r.few
      ∙ ap (λ (b : Bool). if_b b (if_b (legal_sheet (sheet_of x)) 0 11) 11) (adds_whole r.whole)
      ∙ ap (λ (b : Bool). if_b
      (if_b (eqb (length x.files) (46 * length x.counts))
      (sums x.set x.files x.counts x.lengths x.bytes few true) false) (if_b b 0 11) 11)
      (legal_meant r)
      ∙ together (eqb (length x.files) (46 * length x.counts)) (eqb (sum x.counts) (length x.lengths))
      (eqb (sum x.lengths) (length x.bytes)) m 0 11
      ∙ ap (λ (b : Bool). if_b b 0 11) (sym (says_meant x.set x.files x.counts x.lengths x.bytes few))

-- ---- the returns of `sheet_number`

abbrev flat : List ℕ → List ℕ → List ℕ → List ℕ → List ℕ → ℕ → List ℕ → Flat
flat set files counts lengths bytes q names =
    record { set = set; files = files; counts = counts; lengths = lengths; bytes = bytes; quota = q; names = names }

module _ (set files counts lengths bytes : List ℕ) (q : ℕ) (names : List ℕ) where
  pub sheet_many : 64 < length files / 46 → 9 ≡ sheet_number (flat set files counts lengths bytes q names)
  unfolding sheet_number
  sheet_many h = sym (if_true _ _ _ (lt-ltb 64 (length files / 46) h))

  pub sheet_reels : (n : ℕ) → length files / 46 ≤ 64 → n ≡ reels_number q names → (n ≡ 0 → ⊥)
      → n ≡ sheet_number (flat set files counts lengths bytes q names)
  sheet_reels n h e z = e ∙ sheet_refused (flat set files counts lengths bytes q names) h (λ k. z (e ∙ k))

  pub sheet_right : (n : ℕ) (p : Bool) → length files / 46 ≤ 64 → n ≡ reels_number q names → n ≡ 0
      → p ≡ says_files set files counts lengths bytes → p ≡ true
      → 0 ≡ sheet_number (flat set files counts lengths bytes q names)
  sheet_right n p h e z f t =
      sym (sheet_files (flat set files counts lengths bytes q names) h (reels_zero q names (sym e ∙ z))
      ∙ if_true _ _ _ (sym f ∙ t))

  pub sheet_wrong : (n : ℕ) (p : Bool) → length files / 46 ≤ 64 → n ≡ reels_number q names → n ≡ 0
      → p ≡ says_files set files counts lengths bytes → p ≡ false
      → 11 ≡ sheet_number (flat set files counts lengths bytes q names)
  sheet_wrong n p h e z f t =
      sym (sheet_files (flat set files counts lengths bytes q names) h (reels_zero q names (sym e ∙ z))
      ∙ if_false _ _ _ (sym f ∙ t))

pub ruleset sheets = (sheet_many, sheet_reels, sheet_right, sheet_wrong, rules)
