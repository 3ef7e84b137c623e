-- Every legal meaning can be put on a sheet: slices that say just it, and that add up. Assumes nothing.
use mathlib.Core.Path.{◌≡◌, refl, sym, ap, ◌∙◌}
use mathlib.Core.Bool.{Bool, true, false, false≢true}
use mathlib.Core.List.{List, [], ◌∷◌, ◌++◌, map, flatten as end_to_end}
use Prim.Native.Nat.{ℕ, ◌+◌, ◌*◌, ◌/◌, ◌%◌, ◌<◌}
use native.Mathlib.Nat.{suc-mul}
use native.Mathlib.Omega.{arith}
use borrow.Author.Tests.{eq-eqb, eqb-true, leb-true, le-ltb}
use lib.Dec.{eqb, leb}
use lib.ListN.{length, take, drop, length-append}
use lib.Seq.{take_at, drop_at}
use Rattle.base.specs.If.{if_b}
use Rattle.base.proofs.Ifs.{if_true, if_false, if_case}
use Rattle.base.specs.Sum.{sum, cut_by}
use Rattle.base.proofs.Sums.{sum_append, length_map, sum_lengths, cut_back}
use Rattle.volume.specs.Fault.{is_among}
use Rattle.volume.specs.Meaning.{File, Meaning}
use Rattle.reading.specs.Legal.{Sheet, legal_entry, legal_file, legal_files, legal_meaning, legal_name, fresh_names, legal_names, legal_quota, legal_sheet}
use Rattle.sheet.specs.Flat.{in_parts, files_from, adds_up, sheet_of, sheet_number}
use Rattle.sheet.specs.Code.Flatten.{all_long, flatten}
use Rattle.sheet.proofs.Cutting.{parts_none, parts_cons}
use Rattle.sheet.proofs.Names.{legal_long}

-- both tests of a choice with `false` passed
both : (a b : Bool) → if_b a b false ≡ true → (a ≡ true) × (b ≡ true)
unfolding if_b
both true b h = (refl, h)
both false b h = absurd (false≢true h)

-- ---- parts of one length, laid end to end and cut again

parts_back : (w : ℕ) (xs : List (List ℕ)) → 0 < w → all_long w xs ≡ true → in_parts w (end_to_end xs) ≡ xs
unfolding all_long end_to_end
parts_back w [] z h = parts_none w
parts_back w (x ∷ xs) z h =
    let t = both (eqb (length x) w) (all_long w xs) h in
    parts_cons w x (end_to_end xs) z (eqb-true (length x) w t.0) ∙ ap (λ (r : List (List ℕ)). x ∷ r) (parts_back w xs z t.1)

length_parts_of : (w : ℕ) (xs : List (List ℕ)) → all_long w xs ≡ true → length (end_to_end xs) ≡ length xs * w
unfolding all_long end_to_end
length_parts_of w [] h = omega arith
length_parts_of w (x ∷ xs) h =
    let t = both (eqb (length x) w) (all_long w xs) h in
    let e = eqb-true (length x) w t.0 in
    let l = length_parts_of w xs t.1 in
    let m = suc-mul (length xs) w in
    length-append x (end_to_end xs) ∙ omega arith

-- ---- files

abbrev entries_of : List File → List (List ℕ)
entries_of ds = map (λ (d : File). d.fields) ds

abbrev counts_of : List File → List ℕ
counts_of ds = map (λ (d : File). length d.records) ds

abbrev lengths_of : List File → List ℕ
lengths_of ds = end_to_end (map (λ (d : File). map length d.records) ds)

abbrev bytes_of : List File → List ℕ
bytes_of ds = end_to_end (map (λ (d : File). end_to_end d.records) ds)

files_back : (ds : List File) → files_from (entries_of ds) (counts_of ds) (lengths_of ds) (bytes_of ds) ≡ ds
unfolding files_from end_to_end
files_back [] = refl
files_back (d ∷ ds) =
    let n = length d.records in
    let ls = map length d.records in
    let bs = end_to_end d.records in
    let l : length ls ≡ n = length_map length d.records in
    let first : take n (ls ++ lengths_of ds) ≡ ls = take_at ls (lengths_of ds) n l in
    let rest : drop n (ls ++ lengths_of ds) ≡ lengths_of ds = drop_at ls (lengths_of ds) n l in
    let behind : drop (sum ls) (bs ++ bytes_of ds) ≡ bytes_of ds = drop_at bs (bytes_of ds) (sum ls) (sym (sum_lengths d.records)) in
    ap (λ (k : List ℕ). record { fields = d.fields; records = cut_by k (bs ++ bytes_of ds) }
    ∷ files_from (entries_of ds) (counts_of ds) (drop n (ls ++ lengths_of ds)) (drop (sum k) (bs ++ bytes_of ds))) first
    ∙ ap (λ (r : List (List ℕ)). record { fields = d.fields; records = r }
    ∷ files_from (entries_of ds) (counts_of ds) (drop n (ls ++ lengths_of ds)) (drop (sum ls) (bs ++ bytes_of ds)))
    (cut_back d.records (bytes_of ds))
    ∙ ap (λ (k : List ℕ). d ∷ files_from (entries_of ds) (counts_of ds) k (drop (sum ls) (bs ++ bytes_of ds))) rest
    ∙ ap (λ (k : List ℕ). d ∷ files_from (entries_of ds) (counts_of ds) (lengths_of ds) k) behind
    ∙ ap (λ (r : List File). d ∷ r) (files_back ds)

counts_add : (ds : List File) → sum (counts_of ds) ≡ length (lengths_of ds)
unfolding sum end_to_end
counts_add [] = refl
counts_add (d ∷ ds) =
    ap (λ (n : ℕ). n + sum (counts_of ds)) (sym (length_map length d.records))
    ∙ ap (λ (n : ℕ). length (map length d.records) + n) (counts_add ds)
    ∙ sym (length-append (map length d.records) (lengths_of ds))

lengths_add : (ds : List File) → sum (lengths_of ds) ≡ length (bytes_of ds)
unfolding sum end_to_end
lengths_add [] = refl
lengths_add (d ∷ ds) =
    sum_append (map length d.records) (lengths_of ds)
    ∙ ap (λ (n : ℕ). n + sum (lengths_of ds)) (sum_lengths d.records)
    ∙ ap (λ (n : ℕ). length (end_to_end d.records) + n) (lengths_add ds)
    ∙ sym (length-append (end_to_end d.records) (bytes_of ds))

-- ---- what is legal has entries of 46 bytes and names of six

entry_long : (set e : List ℕ) → legal_entry set e ≡ true → eqb (length e) 46 ≡ true
unfolding legal_entry
entry_long set e h = (both (eqb (length e) 46) _ (both (eqb (length set) 6) _ h).1).0

entries_long : (set : List ℕ) (ds : List File) → legal_files set ds ≡ true → all_long 46 (entries_of ds) ≡ true
unfolding legal_files legal_file all_long
entries_long set [] h = refl
entries_long set (d ∷ ds) h =
    let t = both _ (legal_files set ds) h in
    if_true _ _ _ (entry_long set d.fields (both (legal_entry set d.fields) _ t.0).0) ∙ entries_long set ds t.1

-- names that are legal have six bytes each
pub names_long : (used ns : List (List ℕ)) → fresh_names used ns ≡ true → all_long 6 ns ≡ true
unfolding fresh_names all_long
names_long used [] h = refl
names_long used (n ∷ ns) h =
    let t = both (legal_name n) _ h in
    if_case (λ (b : Bool). b ≡ true → all_long 6 (n ∷ ns) ≡ true) (is_among n used) false (fresh_names (used ++ (n ∷ [])) ns)
    (λ e q. absurd (false≢true q))
    (λ e q. if_true _ _ _ (eq-eqb (length n) 6 (legal_long n t.0)) ∙ names_long (used ++ (n ∷ [])) ns q) t.1

meaning_long : (m : Meaning) → legal_meaning m ≡ true → all_long 46 (entries_of m.files) ≡ true
unfolding legal_meaning
meaning_long m h =
    entries_long m.set m.files (both (leb (length m.files) 64) _ (both (leb 1 (length m.files)) _ h).1).1

-- ---- the law

module _ (m : Meaning) (q : ℕ) (names : List (List ℕ)) where
  -- the slices say just this meaning, quota and names
  pub flat_of : legal_meaning m ≡ true → all_long 6 names ≡ true
      → sheet_of (flatten m q names) ≡ record { meaning = m; quota = q; names = names }
  unfolding sheet_of flatten
  flat_of h k =
      ap (λ (es : List (List ℕ)). record {
        meaning = record { set = m.set; files = files_from es (counts_of m.files) (lengths_of m.files) (bytes_of m.files) };
        quota = q;
        names = in_parts 6 (end_to_end names);
      }) (parts_back 46 (entries_of m.files) (omega arith) (meaning_long m h))
      ∙ ap (λ (ds : List File). record {
        meaning = record { set = m.set; files = ds };
        quota = q;
        names = in_parts 6
            (end_to_end names);
      }) (files_back m.files)
      ∙ ap (λ (ns : List (List ℕ)). record { meaning = m; quota = q; names = ns }) (parts_back 6 names (omega arith) k)

  -- and they add up
  pub flat_adds_up : legal_meaning m ≡ true → all_long 6 names ≡ true → adds_up (flatten m q names) ≡ true
  unfolding adds_up flatten
  flat_adds_up h k =
      let e = length_parts_of 46 (entries_of m.files) (meaning_long m h) in
      let f = length_map (λ (d : File). d.fields) m.files in
      let c = length_map (λ (d : File). length d.records) m.files in
      let n = length_parts_of 6 names k in
      if_true _ _ _ (eq-eqb (length (end_to_end (entries_of m.files))) (46 * length (counts_of m.files)) (omega arith))
      ∙ if_true _ _ _ (eq-eqb (sum (counts_of m.files)) (length (lengths_of m.files)) (counts_add m.files))
      ∙ if_true _ _ _ (eq-eqb (sum (lengths_of m.files)) (length (bytes_of m.files)) (lengths_add m.files))
      ∙ eq-eqb (length (end_to_end names) % 6) 0 (omega arith)

-- so every legal sheet can be handed in, and is answered with 0
pub flat_legal : (s : Sheet) → legal_sheet s ≡ true → sheet_number (flatten s.meaning s.quota s.names) ≡ 0
unfolding sheet_number flatten legal_sheet legal_names legal_meaning
flat_legal s h =
    let m = s.meaning in
    let reels = (both (legal_quota s.quota) _ h).1 in
    let meaning = (both (legal_names s.names) (legal_meaning m) reels).1 in
    let named = both (leb (length s.names) 16) _ (both (leb 1 (length s.names)) _ (both (legal_names s.names) (legal_meaning m) reels).0).1 in
    let long = names_long [] s.names named.1 in
    let few = leb-true (length s.names) 16 named.0 in
    let some = leb-true (length m.files) 64 (both (leb (length m.files) 64) _ (both (leb 1 (length m.files)) _ meaning).1).0 in
    let e = length_parts_of 46 (entries_of m.files) (meaning_long m meaning) in
    let f = length_map (λ (d : File). d.fields) m.files in
    let n = length_parts_of 6 s.names long in
    if_false _ _ _ (le-ltb 64 (length (end_to_end (entries_of m.files)) / 46) (omega arith))
    ∙ if_false _ _ _ (le-ltb 16 (length (end_to_end s.names) / 6) (omega arith))
    ∙ if_true _ _ _ (flat_adds_up m s.quota s.names meaning long)
    ∙ if_true _ _ _ (ap legal_sheet (flat_of m s.quota s.names meaning long) ∙ h)
