-- Laws of sums, as a loop that takes number after number from a total wants them, and of lists cut by their lengths. Assumes
-- nothing.
use mathlib.Core.Path.{◌≡◌, refl, sym, ap, ap₂, ◌∙◌}
use mathlib.Core.Bool.{Bool, true, false}
use mathlib.Core.List.{List, [], ◌∷◌, ◌++◌, append_assoc, map, flatten as end_to_end}
use Prim.Native.Nat.{ℕ, suc, ◌+◌, ◌-◌, ◌≤◌, ◌<◌}
use native.Mathlib.Omega.{arith}
use native.Mathlib.Numerals.{add-one}
use borrow.Author.Rules.{rules}
use borrow.Author.Tests.{eq-eqb, ne_eqb, eqb-true, eqb-false}
use lib.Dec.{eqb}
use lib.ListN.{length, take, drop, get_or, length-append, length-drop, take-append-drop, drop_of_length-le}
use lib.Seq.{drop-cons, take_at, drop_at, length-take-le}
use Rattle.base.specs.Sum.{sum, cut_by}

-- a sum from an index on is the number there and the sum behind it
pub sum_at : (ns : List ℕ) (i : ℕ) → i < length ns → sum (drop i ns) ≡ get_or ns i 0 + sum (drop (i + 1) ns)
unfolding sum
sum_at ns i h = rw (add-one, drop-cons ns i 0 h)

-- a sum over two lists end to end
pub sum_append : (ms ns : List ℕ) → sum (ms ++ ns) ≡ sum ms + sum ns
unfolding sum
sum_append [] ns = let e : sum ns ≡ 0 + sum ns = omega arith in e
sum_append (m ∷ ms) ns = let e = sum_append ms ns in omega arith

-- two equalities that follow from each other test alike
eqb_alike : (a b c d : ℕ) → (a ≡ b → c ≡ d) → (c ≡ d → a ≡ b) → eqb a b ≡ eqb c d
eqb_alike a b c d f g = by (eqb a b) refl
  where
    by : (t : Bool) → eqb a b ≡ t → eqb a b ≡ eqb c d
    by true e = e ∙ sym (eq-eqb c d (f (eqb-true a b e)))
    by false e = e ∙ sym (ne_eqb c d (λ q. eqb-false a b e (g q)))

-- ---- the loop of `add_up_to`: what is left over decides as the whole

pub record Taken (ns : List ℕ) (total i left : ℕ) : Type 0 where
  pub within : i ≤ length ns
  pub rest : eqb (sum (drop i ns)) left ≡ eqb (sum ns) total

pub taken_none : (ns : List ℕ) (total : ℕ) → Taken ns total 0 total
taken_none ns total = record { within = omega arith; rest = refl }

pub taken_more : (ns : List ℕ) (total i left : ℕ) → Taken ns total i left → i < length ns → get_or ns i 0 ≤ left
    → Taken ns total (i + 1) (left - get_or ns i 0)
taken_more ns total i left c h l =
    let e = sum_at ns i h in
    record {
      within = omega arith;
      rest =
          eqb_alike (sum (drop (i + 1) ns)) (left - get_or ns i 0) (sum (drop i ns)) left (λ q. omega arith) (λ q. omega arith)
          ∙ c.rest;
    }

pub taken_over : (ns : List ℕ) (total i left : ℕ) → Taken ns total i left → i < length ns → left < get_or ns i 0
    → false ≡ eqb (sum ns) total
taken_over ns total i left c h l =
    let e = sum_at ns i h in
    sym (ne_eqb (sum (drop i ns)) left (λ q. omega arith)) ∙ c.rest

pub taken_all : (ns : List ℕ) (total i left : ℕ) → Taken ns total i left → length ns ≤ i → eqb left 0 ≡ eqb (sum ns) total
unfolding sum
taken_all ns total i left c h =
    eqb_alike left 0 0 left sym sym ∙ ap (λ (l : List ℕ). eqb (sum l) left) (sym (drop_of_length-le ns h)) ∙ c.rest

pub ruleset pieces = (taken_none, taken_more, taken_over, taken_all, rules)

-- ---- lists laid end to end, and cut again by their lengths

-- a function on each element leaves the number of elements as it was
pub length_map : {A B : Type 0} (f : A → B) (xs : List A) → length (map f xs) ≡ length xs
length_map f [] = refl
length_map f (x ∷ xs) = ap suc (length_map f xs)

-- parts laid end to end are as long as their lengths add up to
pub sum_lengths : (xs : List (List ℕ)) → sum (map length xs) ≡ length (end_to_end xs)
unfolding sum end_to_end
sum_lengths [] = refl
sum_lengths (x ∷ xs) = ap (λ (n : ℕ). length x + n) (sum_lengths xs) ∙ sym (length-append x (end_to_end xs))

-- parts laid end to end, with anything behind them, are cut into the same parts by their lengths
pub cut_back : (xs : List (List ℕ)) (s : List ℕ) → cut_by (map length xs) (end_to_end xs ++ s) ≡ xs
unfolding cut_by end_to_end
cut_back [] s = refl
cut_back (x ∷ xs) s =
    let e : (x ++ end_to_end xs) ++ s ≡ x ++ (end_to_end xs ++ s) = append_assoc x (end_to_end xs) s in
    ap (λ (l : List ℕ). take (length x) l ∷ cut_by (map length xs) (drop (length x) l)) e
    ∙ ap (λ (l : List ℕ). l ∷ cut_by (map length xs) (drop (length x) (x ++ (end_to_end xs ++ s))))
    (take_at x (end_to_end xs ++ s) (length x) refl)
    ∙ ap (λ (l : List ℕ). x ∷ cut_by (map length xs) l) (drop_at x (end_to_end xs ++ s) (length x) refl)
    ∙ ap (λ (r : List (List ℕ)). x ∷ r) (cut_back xs s)

-- bytes cut by lengths that they have: each part has its length, and all of them are the bytes
pub cut_lengths : (ns s : List ℕ) → sum ns ≤ length s → map length (cut_by ns s) ≡ ns
unfolding sum cut_by
cut_lengths [] s h = refl
cut_lengths (n ∷ ns) s h =
    let rest : sum ns ≤ length (drop n s) = simp length-drop (omega arith) in
    ap₂ ◌∷◌ (length-take-le n s (omega arith)) (cut_lengths ns (drop n s) rest)

-- what is cut by lengths that add up to its own is the parts end to end
pub cut_whole : (ns s : List ℕ) → sum ns ≡ length s → end_to_end (cut_by ns s) ≡ s
unfolding sum cut_by end_to_end
cut_whole [] [] h = refl
cut_whole [] (x ∷ s) h = absurd (omega arith)
cut_whole (n ∷ ns) s h =
    let rest : sum ns ≡ length (drop n s) = simp length-drop (omega arith) in
    ap (λ (l : List ℕ). take n s ++ l) (cut_whole ns (drop n s) rest) ∙ take-append-drop n s
