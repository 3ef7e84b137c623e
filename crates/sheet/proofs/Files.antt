-- Laws of files, as a loop over their entries and counts wants them. Assumes nothing.
use mathlib.Core.Path.{◌≡◌, refl, sym, ap, ◌∙◌}
use mathlib.Core.Bool.{Bool, true, false}
use mathlib.Core.List.{List, [], ◌∷◌}
use Prim.Native.Nat.{ℕ, ◌+◌, ◌-◌, ◌≤◌, ◌<◌, min}
use native.Mathlib.Omega.{arith}
use native.Mathlib.Numerals.{add-one}
use borrow.Author.Rules.{rules}
use lib.ListN.{length, take, drop, get_or, length-drop, take-append-drop, drop_of_length-le}
use lib.Seq.{drop-cons, drop-drop}
use Rattle.base.specs.If.{if_b}
use Rattle.base.proofs.Ifs.{if_true, if_false}
use Rattle.base.specs.Sum.{sum, cut_by}
use Rattle.base.proofs.Sums.{sum_append}
use Rattle.volume.specs.Meaning.{File}
use Rattle.reading.specs.Legal.{legal_file, legal_files}
use Rattle.sheet.specs.Flat.{in_parts, files_from}
use Rattle.sheet.specs.Code.Passing.{passed}
use Rattle.std.specs.Prelude.{Some, None}
use Rattle.std.proofs.lemmas.List.{nil_from_length}
use Rattle.sheet.proofs.Cutting.{behind, front_of, back_of, parts_none, parts_some}

-- ---- one file

abbrev pub file : List ℕ → List (List ℕ) → File
file e rs = record { fields = e; records = rs }

-- ---- the loop of `are_legal`: the files that are left from here decide as all of them

pub record FilesLeft (set files counts lengths s es cs ls : List ℕ) (at : ℕ) : Type 0 where
  pub within : length ls ≤ length lengths
  pub fits : at + sum ls ≤ length s
  pub left : legal_files set (files_from (in_parts 46 es) cs ls (drop at s))
      ≡ legal_files set (files_from (in_parts 46 files) counts lengths s)

pub left_none : (set files counts lengths s : List ℕ) → sum lengths ≤ length s
    → FilesLeft set files counts lengths s files counts lengths 0
left_none set files counts lengths s h = record { within = omega arith; fits = omega arith; left = refl }

no_entry : (set cs ls s : List ℕ) → legal_files set (files_from [] cs ls s) ≡ true
unfolding legal_files files_from
no_entry set cs ls s = refl

no_count : (set : List ℕ) (es : List (List ℕ)) (ls s : List ℕ) → legal_files set (files_from es [] ls s) ≡ true
unfolding legal_files files_from
no_count set [] ls s = refl
no_count set (e ∷ es) ls s = refl

pub left_entries : (set files counts lengths s es cs ls : List ℕ) (at : ℕ)
    → FilesLeft set files counts lengths s es cs ls at → length es ≡ 0
    → true ≡ legal_files set (files_from (in_parts 46 files) counts lengths s)
left_entries set files counts lengths s es cs ls at c h =
    let none : es ≡ [] = nil_from_length es h in
    sym (ap (λ (l : List ℕ). legal_files set (files_from (in_parts 46 l) cs ls (drop at s))) none
    ∙ ap (λ (l : List (List ℕ)). legal_files set (files_from l cs ls (drop at s))) (parts_none 46)
    ∙ no_entry set cs ls (drop at s))
    ∙ c.left

pub left_counts : (set files counts lengths s es ls : List ℕ) (at i : ℕ)
    → FilesLeft set files counts lengths s es (drop i counts) ls at → length counts ≤ i
    → true ≡ legal_files set (files_from (in_parts 46 files) counts lengths s)
left_counts set files counts lengths s es ls at i c h =
    sym (ap (λ (l : List ℕ). legal_files set (files_from (in_parts 46 es) l ls (drop at s))) (drop_of_length-le counts h)
    ∙ no_count set (in_parts 46 es) ls (drop at s))
    ∙ c.left

-- a place behind records says that they are legal, and none that they are not
passed_some : (b : Bool) (ls : List ℕ) (from at : ℕ) → Some at ≡ passed b ls from → (b ≡ true) × (at ≡ from + sum ls)
unfolding passed if_b
passed_some true ls from at e = (refl, cc)
passed_some false ls from at e = absurd (cc)

passed_none : (b : Bool) (ls : List ℕ) (from : ℕ) → None ≡ passed b ls from → b ≡ false
unfolding passed if_b
passed_none true ls from e = absurd (cc)
passed_none false ls from e = refl

-- the bytes of the lengths that are left are those of a file's and those behind
sum_parts : (n : ℕ) (ls : List ℕ) → sum ls ≡ sum (take n ls) + sum (drop n ls)
sum_parts n ls = ap sum (sym (take-append-drop n ls)) ∙ sum_append (take n ls) (drop n ls)

pub left_room : (set files counts lengths s es cs ls : List ℕ) (at n : ℕ)
    → FilesLeft set files counts lengths s es cs ls at → at + sum (take n ls) ≤ length s
left_room set files counts lengths s es cs ls at n c = omega (arith, c.fits, sum_parts n ls)

-- the next file has an entry of `size` bytes and n lengths
module _ (set files counts lengths s es ls : List ℕ) (at i size n : ℕ)
    (c : FilesLeft set files counts lengths s es (drop i counts) ls at) (h : i < length counts) (some : length es ≡ 0 → ⊥)
    (ee : size ≡ min (length es) 46) (ne : n ≡ min (length ls) (get_or counts i 0)) where
  -- that file and those behind it
  files_next : legal_files set (files_from (in_parts 46 es) (drop i counts) ls (drop at s))
      ≡ if_b (legal_file set (file (take size es) (cut_by (take n ls) (drop at s))))
      (legal_files set
      (files_from (in_parts 46 (take (length es - size) (drop size es))) (drop (i + 1) counts) (take (length ls - n) (drop n ls))
      (drop (sum (take n ls)) (drop at s))))
      false
  unfolding legal_files files_from
  files_next =
      rw (
        front_of 46 size es ee,
        back_of 46 size es ee,
        front_of (get_or counts i 0) n ls ne,
        back_of (get_or counts i 0) n ls ne,
        add-one,
        drop-cons counts i 0 h,
        parts_some 46 es (omega arith) (omega arith),
      )

  pub left_more : (end : ℕ) → Some end ≡ passed (legal_file set (file (take size es) (cut_by (take n ls) (drop at s)))) (take n ls) at
      → FilesLeft set files counts lengths s (take (length es - size) (drop size es)) (drop (i + 1) counts)
      (take (length ls - n) (drop n ls)) end
  left_more end r =
      let yes = passed_some (legal_file set (file (take size es) (cut_by (take n ls) (drop at s)))) (take n ls) at end r in
      let rest : take (length ls - n) (drop n ls) ≡ drop n ls = behind n ls in
      record {
        within = omega (arith, c.within, ap length rest, length-drop n ls);
        fits = omega (arith, c.fits, yes.1, sum_parts n ls, ap sum rest);
        left =
            ap (λ (l : List ℕ). legal_files set
            (files_from (in_parts 46 (take (length es - size) (drop size es))) (drop (i + 1) counts) (take (length ls - n) (drop n ls)) l))
            (ap (λ (k : ℕ). drop k s) yes.1 ∙ sym (drop-drop (sum (take n ls)) at s))
            ∙ sym (files_next ∙ if_true _ _ _ yes.0)
            ∙ c.left;
      }

  pub left_wrong : None ≡ passed (legal_file set (file (take size es) (cut_by (take n ls) (drop at s)))) (take n ls) at
      → false ≡ legal_files set (files_from (in_parts 46 files) counts lengths s)
  left_wrong r =
      sym (files_next
      ∙ if_false _ _ _ (passed_none (legal_file set (file (take size es) (cut_by (take n ls) (drop at s)))) (take n ls) at r))
      ∙ c.left

pub ruleset lefts = (left_none, left_entries, left_counts, left_room, left_more, left_wrong, rules)
