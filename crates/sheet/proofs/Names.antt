-- Laws of names that stand one behind the other, as a loop over them wants them. Assumes nothing.
use mathlib.Core.Path.{◌≡◌, refl, sym, ap, ◌∙◌}
use mathlib.Core.Bool.{Bool, true, false, false≢true}
use mathlib.Core.List.{List, [], ◌∷◌, ◌++◌}
use Prim.Native.Nat.{ℕ, ◌+◌, ◌-◌, ◌*◌, ◌/◌, ◌%◌, ◌≤◌, ◌<◌}
use native.Mathlib.Omega.{arith}
use native.Mathlib.Numerals.{add-one}
use borrow.Author.Rules.{rules}
use borrow.Author.Tests.{eqb-true, eqb-false}
use lib.Dec.{eqb}
use lib.ListN.{length, take, drop, set, length-set, length-drop, length-take, drop_of_length-le}
use lib.Seq.{drop-drop, take-suc-set}
use Rattle.std.proofs.lemmas.Bool.{false_from_ne_true}
use Rattle.base.specs.If.{if_b}
use Rattle.base.proofs.Ifs.{if_true, if_false, if_case}
use Rattle.base.specs.Part.{part}
use Rattle.base.proofs.Parts.{part_within}
use Rattle.volume.specs.Fault.{is_among, names_at}
use Rattle.volume.proofs.Afters.{names_append}
use Rattle.reading.specs.Legal.{legal_name, fresh_names}
use Rattle.sheet.specs.Flat.{in_parts}
use Rattle.sheet.proofs.Cutting.{parts_none, parts_some}

-- ---- one name

pub legal_long : (n : List ℕ) → legal_name n ≡ true → length n ≡ 6
unfolding legal_name
legal_long n h =
    if_case (λ (b : Bool). b ≡ true → length n ≡ 6) (eqb (length n) 6) _ false (λ e q. eqb-true (length n) 6 e)
    (λ e q. absurd (false≢true q)) h

-- ---- the loop of `are_fresh`: the names that are left behind those before them decide as all of them

pub record Fresh (s places : List ℕ) (n : ℕ) : Type 0 where
  pub within : n * 6 ≤ length s
  pub kept : length places ≡ 16
  pub left : fresh_names (names_at s (take n places)) (in_parts 6 (drop (n * 6) s)) ≡ fresh_names [] (in_parts 6 s)

pub fresh_none : (s places : List ℕ) → length places ≡ 16 → Fresh s places 0
unfolding names_at
fresh_none s places k = record { within = omega arith; kept = k; left = refl }

-- the name at a place, and those behind it
fresh_at : (used : List (List ℕ)) (s : List ℕ) (n : ℕ) → n * 6 < length s
    → fresh_names used (in_parts 6 (drop (n * 6) s))
    ≡ if_b (legal_name (part (n * 6) 6 s))
    (if_b (is_among (part (n * 6) 6 s) used) false
    (fresh_names (used ++ (part (n * 6) 6 s ∷ [])) (in_parts 6 (drop ((n + 1) * 6) s))))
    false
unfolding fresh_names part
fresh_at used s n h =
    let l = length-drop (n * 6) s in
    let next : (n + 1) * 6 ≡ n * 6 + 6 = omega arith in
    rw (next, sym (drop-drop 6 (n * 6) s), parts_some 6 (drop (n * 6) s) (omega arith) (omega arith))

module _ (s places : List ℕ) (n : ℕ) (p : Bool) (c : Fresh s places n) (h : n < length s / 6)
    (e : p ≡ legal_name (take (n * 6 + 6 - n * 6) (drop (n * 6) s))) where
  name : p ≡ legal_name (part (n * 6) 6 s)
  name = e ∙ ap legal_name (part_within (n * 6) 6 s)

  pub fresh_wrong : p ≡ false → false ≡ fresh_names [] (in_parts 6 s)
  fresh_wrong t = sym (fresh_at (names_at s (take n places)) s n (omega arith) ∙ if_false _ _ _ (sym name ∙ t)) ∙ c.left

  module _ (q : Bool) (yes : p ≡ true)
      (f : q ≡ is_among (take (n * 6 + 6 - n * 6) (drop (n * 6) s)) (names_at s (take n places))) where
    among : q ≡ is_among (part (n * 6) 6 s) (names_at s (take n places))
    among = f ∙ ap (λ (v : List ℕ). is_among v (names_at s (take n places))) (part_within (n * 6) 6 s)

    pub fresh_again : q ≡ true → false ≡ fresh_names [] (in_parts 6 s)
    fresh_again u =
        sym (fresh_at (names_at s (take n places)) s n (omega arith) ∙ if_true _ _ _ (sym name ∙ yes) ∙ if_true _ _ _ (sym among ∙ u))
        ∙ c.left

    pub fresh_more : length s ≤ 96 → q ≡ false → Fresh s (set places n (n * 6)) (n + 1)
    fresh_more few u =
        let used : List (List ℕ) = names_at s (take n places) in
        let more : names_at s (take (n + 1) (set places n (n * 6))) ≡ used ++ (part (n * 6) 6 s ∷ [])
        = ap (λ (m : ℕ). names_at s (take m (set places n (n * 6)))) (add-one n)
        ∙ ap (names_at s) (take-suc-set places n (n * 6) (omega (arith, c.kept)))
        ∙ names_append s (take n places) (n * 6) in
        record {
          within = omega arith;
          kept = length-set places n (n * 6) ∙ c.kept;
          left =
              ap (λ (v : List (List ℕ)). fresh_names v (in_parts 6 (drop ((n + 1) * 6) s))) more
              ∙ sym (fresh_at used s n (omega arith) ∙ if_true _ _ _ (sym name ∙ yes) ∙ if_false _ _ _ (sym among ∙ u))
              ∙ c.left;
        }

-- there is room for one more place
pub fresh_room : (s places : List ℕ) (n : ℕ) → length s ≤ 96 → Fresh s places n → n < length s / 6 → n < length places
fresh_room s places n few c h = omega (arith, c.kept)

-- what is left behind the last whole name is nothing, or no name
fresh_rest : (s places : List ℕ) (n : ℕ) → Fresh s places n → length s / 6 ≤ n → (t : Bool) → eqb (length s % 6) 0 ≡ t
    → t ≡ fresh_names [] (in_parts 6 s)
unfolding fresh_names part
fresh_rest s places n c h true e =
    let whole : length s % 6 ≡ 0 = eqb-true (length s % 6) 0 e in
    let none : drop (n * 6) s ≡ [] = drop_of_length-le s (omega arith) in
    sym (ap (λ (l : List ℕ). fresh_names (names_at s (take n places)) (in_parts 6 l)) none
    ∙ ap (fresh_names (names_at s (take n places))) (parts_none 6))
    ∙ c.left
fresh_rest s places n c h false e =
    let some : length s % 6 ≡ 0 → ⊥ = eqb-false (length s % 6) 0 e in
    let l = length-drop (n * 6) s in
    let t = length-take 6 (drop (n * 6) s) in
    let no : legal_name (part (n * 6) 6 s) ≡ false
    = false_from_ne_true (legal_name (part (n * 6) 6 s)) (λ y. let six = legal_long (part (n * 6) 6 s) y in omega (arith, c.within)) in
    sym (fresh_at (names_at s (take n places)) s n (omega (arith, c.within)) ∙ if_false _ _ _ no) ∙ c.left

pub fresh_all : (s places : List ℕ) (n : ℕ) → Fresh s places n → length s / 6 ≤ n
    → eqb (length s % 6) 0 ≡ fresh_names [] (in_parts 6 s)
fresh_all s places n c h = fresh_rest s places n c h (eqb (length s % 6) 0) refl

pub ruleset freshes = (fresh_none, fresh_wrong, fresh_again, fresh_more, fresh_room, fresh_all, rules)
