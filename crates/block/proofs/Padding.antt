-- Laws of the padding test: what is left from a place on decides the whole. Assumes nothing.
use mathlib.Core.Path.{◌≡◌, refl, sym, ap, ◌∙◌}
use mathlib.Core.Bool.{Bool, true, false, not, ◌&&◌, and_assoc, and-true}
use mathlib.Core.List.{List, [], ◌∷◌, ◌++◌}
use Prim.Native.Nat.{ℕ, zero, suc, ◌+◌, ◌-◌, ◌≤◌, ◌<◌}
use native.Mathlib.Omega.{arith}
use native.Mathlib.Numerals.{add-one}
use borrow.Author.Rules.{rules}
use borrow.Author.Tests.{not-true, not-false, ne_eqb}
use lib.Dec.{eqb}
use lib.ListN.{length, take, drop, get_or, take-append-drop}
use lib.Seq.{drop-cons, drop-drop}
use Rattle.base.specs.If.{if_b}
use Rattle.base.specs.Part.{part, all_are}
use Rattle.base.proofs.Bytes.{all_end, all_other}
use Rattle.base.proofs.Parts.{part_to_end}

if_and : (t u : Bool) → if_b t u false ≡ t && u
unfolding if_b
if_and true u = refl
if_and false u = refl

pub all_cons : (b x : ℕ) (xs : List ℕ) → all_are b (x ∷ xs) ≡ eqb x b && all_are b xs
unfolding all_are
all_cons b x xs = if_and (eqb x b) (all_are b xs)

pub all_append : (b : ℕ) (s t : List ℕ) → all_are b (s ++ t) ≡ all_are b s && all_are b t
unfolding all_are
all_append b [] t = refl
all_append b (x ∷ s) t =
    if_and (eqb x b) (all_are b (s ++ t))
    ∙ ap (λ (u : Bool). eqb x b && u) (all_append b s t)
    ∙ sym (and_assoc (eqb x b) (all_are b s) (all_are b t))
    ∙ ap (λ (u : Bool). u && all_are b t) (sym (if_and (eqb x b) (all_are b s)))

-- the bytes from a place on: the n that stand there, and those behind them
pub all_split : (b n : ℕ) (s : List ℕ) (i : ℕ) → all_are b (drop i s) ≡ all_are b (take n (drop i s)) && all_are b (drop (i + n) s)
all_split b n s i =
    ap (all_are b) (sym (take-append-drop n (drop i s)))
    ∙ all_append b (take n (drop i s)) (drop n (drop i s))
    ∙ ap (λ (t : List ℕ). all_are b (take n (drop i s)) && all_are b t) (drop-drop n i s)

-- the byte at a place is another one
pub all_other_head : (b n : ℕ) (s : List ℕ) (i : ℕ) → 0 < n → i < length s → (get_or s i 0 ≡ b → ⊥)
    → all_are b (take n (drop i s)) ≡ false
all_other_head b zero s i h l e = absurd (omega arith)
all_other_head b (suc n) s i h l e =
    ap (λ (t : List ℕ). all_are b (take (suc n) t)) (drop-cons s i 0 l)
    ∙ all_cons b (get_or s i 0) (take n (drop (suc i) s))
    ∙ ap (λ (u : Bool). u && all_are b (take n (drop (suc i) s))) (ne_eqb (get_or s i 0) b e)

-- a loop is at place i of s, and `all` says whether all before i is b
pub record Looked (b : ℕ) (s : List ℕ) (all : Bool) (i : ℕ) : Type 0 where
  pub within : i ≤ length s
  pub left : all && all_are b (drop i s) ≡ all_are b s

pub looked_none : (b : ℕ) (s : List ℕ) → Looked b s true 0
looked_none b s = record { within = omega arith; left = refl }

pub looked_more : (b : ℕ) (s : List ℕ) (all : Bool) (i : ℕ) → Looked b s all i → i < length s
    → Looked b s (all && eqb (get_or s i 0) b) (i + 1)
looked_more b s all i c h =
    let step : all_are b (drop i s) ≡ eqb (get_or s i 0) b && all_are b (drop (i + 1) s)
    = ap (all_are b) (drop-cons s i 0 h) ∙ all_cons b (get_or s i 0) (drop (suc i) s) ∙ ap (λ (k : ℕ). eqb (get_or s i 0) b && all_are b (drop k s)) (sym (add-one i)) in
    record { within = omega arith; left = and_assoc all _ _ ∙ ap (λ (u : Bool). all && u) (sym step) ∙ c.left }

pub looked_all : (b : ℕ) (s : List ℕ) (all : Bool) (i : ℕ) → Looked b s all i → length s ≤ i → all ≡ all_are b s
looked_all b s all i c h = sym (and-true all) ∙ ap (λ (u : Bool). all && u) (sym (all_end b s i h)) ∙ c.left

-- a chunk of n bytes was looked at by a call that answered p
pub chunk_more : (b n : ℕ) (s : List ℕ) (i : ℕ) (p : Bool) → Looked b s true i → n ≤ length s - i
    → p ≡ all_are b (take (i + n - i) (drop i s)) → not p ≡ false
    → Looked b s true (i + n)
chunk_more b n s i p c h e t =
    let k : i + n - i ≡ n = omega arith in
    let q : all_are b (take n (drop i s)) ≡ true = ap (λ (j : ℕ). all_are b (take j (drop i s))) (sym k) ∙ sym e ∙ not-false p t in
    record {
      within = omega arith;
      left = ap (λ (u : Bool). u && all_are b (drop (i + n) s)) (sym q) ∙ sym (all_split b n s i)
          ∙ c.left;
    }

pub chunk_other : (b n : ℕ) (s : List ℕ) (i : ℕ) (p : Bool) → Looked b s true i → p ≡ all_are b (take (i + n - i) (drop i s))
    → not p ≡ true → false ≡ all_are b s
chunk_other b n s i p c e f =
    let k : i + n - i ≡ n = omega arith in
    let q : all_are b (take n (drop i s)) ≡ false = ap (λ (j : ℕ). all_are b (take j (drop i s))) (sym k) ∙ sym e ∙ not-true p f in
    ap (λ (u : Bool). u && all_are b (drop (i + n) s)) (sym q) ∙ sym (all_split b n s i) ∙ c.left

pub chunk_last : (b : ℕ) (s : List ℕ) (i : ℕ) (p : Bool) → Looked b s true i → p ≡ all_are b (take (length s - i) (drop i s))
    → p ≡ all_are b s
unfolding part
chunk_last b s i p c e = e ∙ ap (all_are b) (part_to_end i s) ∙ c.left

-- the first byte alone
pub first_none : (b : ℕ) (s : List ℕ) → length s ≡ 0 → true ≡ all_are b s
first_none b s h = sym (all_end b s 0 (omega arith))

pub first_other : (b : ℕ) (s : List ℕ) → (length s ≡ 0 → ⊥) → (get_or s 0 0 ≡ b → ⊥) → false ≡ all_are b s
first_other b s h e = sym (all_other b s 0 (omega arith) e)

pub ruleset looking = (looked_none, looked_more, looked_all, chunk_more, chunk_other, chunk_last, first_none, first_other, rules)

-- what is left from a place on

pub padding_none : (b : ℕ) (s : List ℕ) (at : ℕ) → length s ≤ at → true ≡ all_are b (drop at s)
padding_none b s at h = sym (all_end b s at h)

pub padding_rest : (b : ℕ) (s : List ℕ) (at : ℕ) (p : Bool) → p ≡ all_are b (take (length s - at) (drop at s))
    → p ≡ all_are b (drop at s)
unfolding part
padding_rest b s at p e = e ∙ ap (all_are b) (part_to_end at s)

pub ruleset paddings = (padding_none, padding_rest, rules)
