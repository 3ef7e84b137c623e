-- Laws of what a block holds: its four kinds of bytes add up to its length. Assumes nothing.
use Rattle.std.specs.Prelude.{Option, Some, None}
use mathlib.Core.Path.{◌≡◌, refl, sym, ap, ◌∙◌, subst}
use mathlib.Core.Bool.{Bool, true, false, false≢true}
use mathlib.Core.List.{List, [], ◌∷◌}
use Prim.Native.Nat.{ℕ, zero, suc, ◌+◌, ◌-◌, ◌*◌, ◌≤◌}
use native.Mathlib.Nat.{add-mul, one-mul}
use native.Mathlib.Omega.{arith}
use borrow.Author.Rules.{rules}
use borrow.Author.Tests.{eq-eqb, ne_eqb}
use mir.Val.{Fits}
use mir.Syntax.{w64}
use lib.Dec.{eqb}
use lib.ListN.{length, drop, length-drop}
use Rattle.base.proofs.Ifs.{if_true, if_false, if_case}
use Rattle.base.specs.Part.{part, all_are}
use Rattle.base.specs.Sum.{sum}
use Rattle.base.proofs.Parts.{length_part}
use Rattle.block.specs.Unit.{unit_of, word_of}
use Rattle.block.specs.Cut.{Segment, segment_of, onto, cut_one, cut_f, cut, some_units, is_cut}
use Rattle.block.specs.Code.Loops.{held_up_to}
use Rattle.block.specs.Held.{ends_with, records_ending, segment_bytes, empty, held_by, held_in, total, Reached}
use Rattle.block.specs.declared.Unit.{Unit}
use Rattle.block.specs.declared.Held.{Held}
use Rattle.block.proofs.Units.{unit_stands}
use Rattle.block.proofs.Wholes.{unit_word}
use Rattle.block.proofs.Blocks.{IfCut}

-- ---- the records that end with a unit

-- the first segment of a record ends none
pub ends_begun : (i : ℕ) → i ≡ 1 → ends_with i ≡ 0
unfolding ends_with
ends_begun i e = if_true _ _ _ (eq-eqb i 1 e)

-- nor does one in its middle
pub ends_still : (i : ℕ) → (i ≡ 1 → ⊥) → i ≡ 2 → ends_with i ≡ 0
unfolding ends_with
ends_still i a e = if_false _ _ _ (ne_eqb i 1 a) ∙ if_true _ _ _ (eq-eqb i 2 e)

-- any other unit ends a record
pub ends_one : (i : ℕ) → (i ≡ 1 → ⊥) → (i ≡ 2 → ⊥) → ends_with i ≡ 1
unfolding ends_with
ends_one i a b = if_false _ _ _ (ne_eqb i 1 a) ∙ if_false _ _ _ (ne_eqb i 2 b)

-- by the digit that is the indicator
pub digit_begun : (d : ℕ) → d ≡ 49 → 0 ≡ ends_with (d - 48)
digit_begun d h = sym (ends_begun (d - 48) (omega arith))

pub digit_still : (d : ℕ) → (d ≡ 49 → ⊥) → d ≡ 50 → 0 ≡ ends_with (d - 48)
digit_still d g h = sym (ends_still (d - 48) (λ e. omega arith) (omega arith))

pub digit_one : (d : ℕ) → (d ≡ 49 → ⊥) → (d ≡ 50 → ⊥) → 1 ≡ ends_with (d - 48)
digit_one d g h = sym (ends_one (d - 48) (λ e. g (omega arith)) (λ e. h (omega arith)))

pub ruleset endings = (digit_begun, digit_still, digit_one, rules)

pub ends_most : (i : ℕ) → ends_with i ≤ 1
unfolding ends_with
ends_most i =
    if_case (λ (n : ℕ). n ≤ 1) (eqb i 1) 0 _ (λ _. omega arith)
    (λ _. if_case (λ (n : ℕ). n ≤ 1) (eqb i 2) 0 1 (λ _. omega arith) (λ _. omega arith))

-- ---- the units of a block lie in it

-- units with control words of w bytes, in l bytes
record Sized (w l : ℕ) (xs : List Segment) : Type 0 where
  ending : records_ending xs ≤ length xs
  some : length xs ≤ length xs * w + segment_bytes xs
  within : length xs * w + segment_bytes xs ≤ l

pub suc_times : (u w : ℕ) → (u + 1) * w ≡ u * w + w
suc_times u w = add-mul u 1 w ∙ ap (λ (k : ℕ). u * w + k) (one-mul w)

sized_onto : (w n l i : ℕ) (bs : List ℕ) (c : Option (List Segment)) → length bs ≡ n → 1 ≤ w + n → w + n ≤ l
    → IfCut (Sized w (l - (w + n))) c
    → IfCut (Sized w l) (onto (segment_of i bs) c)
unfolding onto records_ending segment_bytes sum
sized_onto w n l i bs None e a b h = refl
sized_onto w n l i bs (Some xs) e a b h =
    let more = suc_times (length xs) w in
    record {
      ending = omega (arith, ends_most i, h.ending);
      some = omega (arith, h.some, more);
      within = omega (arith, h.within, more);
    }

sized_one : (f r : ℕ) (s : List ℕ) (u : Option Unit) (g : List ℕ → Option (List Segment)) → unit_of f r s ≡ u
    → ((t : List ℕ) → IfCut (Sized (word_of f) (length t)) (g t)) → IfCut (Sized (word_of f) (length s)) (cut_one u s g)
unfolding cut_one records_ending segment_bytes sum
sized_one f r s (Some u) g e h =
    let c = unit_stands f r s u.indicator u.word u.len e in
    let p = unit_word f r s u.indicator u.word u.len e in
    let rest : length (drop (u.word + u.len) s) ≡ length s - (word_of f + u.len) = omega (arith, length-drop (u.word + u.len) s, p) in
    sized_onto (word_of f) u.len (length s) u.indicator (part u.word u.len s) (g (drop (u.word + u.len) s)) (length_part u.word u.len s c.within)
    (omega (arith, c.some, p)) (omega (arith, c.within, p))
    (subst (λ (l : ℕ). IfCut (Sized (word_of f) l) (g (drop (u.word + u.len) s))) rest (h (drop (u.word + u.len) s)))
sized_one f r s None g e h =
    if_case (IfCut (Sized (word_of f) (length s))) (all_are 94 s) (Some []) None
    (λ _. record { ending = omega arith; some = omega arith; within = omega arith }) (λ _. refl)

sized_fuel : (k f r : ℕ) (s : List ℕ) → IfCut (Sized (word_of f) (length s)) (cut_f k f r s)
unfolding cut_f
sized_fuel zero f r s = refl
sized_fuel (suc k) f r s = sized_one f r s (unit_of f r s) (λ t. cut_f k f r t) refl (λ t. sized_fuel k f r t)

cut_sized : (f r : ℕ) (s : List ℕ) → IfCut (Sized (word_of f) (length s)) (cut f r s)
unfolding cut
cut_sized f r s = sized_fuel (suc (length s)) f r s

-- behind the offset bytes
sized_behind : (f r o : ℕ) (s : List ℕ) → IfCut (Sized (word_of f) (length s - o)) (cut f r (drop o s))
sized_behind f r o s =
    subst (λ (l : ℕ). IfCut (Sized (word_of f) l) (cut f r (drop o s))) (length-drop o s) (cut_sized f r (drop o s))

adds_by : (w o l : ℕ) (c : Option (List Segment)) → IfCut (Sized w (l - o)) c → is_cut (some_units c) ≡ true
    → total (held_by w o l (some_units c)) ≡ l
unfolding some_units is_cut held_by
adds_by w o l None h t = absurd (false≢true t)
adds_by w o l (Some []) h t = absurd (false≢true t)
adds_by w o l (Some (x ∷ xs)) h t = omega (arith, h.some, h.within)

-- The record, control word, padding and offset bytes of a block that can be cut add up to its length.
pub held_adds : (f r o : ℕ) (s : List ℕ) → is_cut (some_units (cut f r (drop o s))) ≡ true → total (held_in f r o s) ≡ length s
unfolding held_in
held_adds f r o s h = adds_by (word_of f) o (length s) (cut f r (drop o s)) (sized_behind f r o s) h

-- what is counted of some bytes is no more than they are
pub record Fitting (h : Held) (l : ℕ) : Type 0 where
  pub records : h.records ≤ l
  pub bytes : total h ≤ l

fits_by : (w o l : ℕ) (c : Option (List Segment)) → IfCut (Sized w (l - o)) c → Fitting (held_by w o l (some_units c)) l
unfolding some_units held_by
fits_by w o l None h = record { records = omega arith; bytes = omega arith }
fits_by w o l (Some []) h = record { records = omega arith; bytes = omega arith }
fits_by w o l (Some (x ∷ xs)) h =
    record { records = omega (arith, h.ending, h.some, h.within); bytes = omega (arith, h.some, h.within) }

-- What is counted of a block, be it one that can be cut or not, is no more than its bytes.
pub held_fits : (f r o : ℕ) (s : List ℕ) → Fitting (held_in f r o s) (length s)
unfolding held_in
held_fits f r o s = fits_by (word_of f) o (length s) (cut f r (drop o s)) (sized_behind f r o s)

-- ---- what a block holds whose units end at a place

pub up_none : (s : List ℕ) (o at w u n : ℕ) (h : Held) → h ≡ empty → u ≡ 0 → h ≡ held_up_to s o at w u n
unfolding held_up_to
up_none s o at w u n h e z = e ∙ sym (if_true _ _ _ (eq-eqb u 0 z))

pub up_other : (s : List ℕ) (o at w u n : ℕ) (h : Held) (p : Bool) → h ≡ empty → (u ≡ 0 → ⊥) → p ≡ all_are 94 (drop at s)
    → p ≡ false
    → h ≡ held_up_to s o at w u n
unfolding held_up_to
up_other s o at w u n h p e z q t = e ∙ sym (if_false _ _ _ (ne_eqb u 0 z) ∙ if_false _ _ _ (sym q ∙ t))

pub up_some : (s : List ℕ) (o at w u n : ℕ) (p : Bool) → Reached s o at w u → (u ≡ 0 → ⊥) → p ≡ all_are 94 (drop at s) → p ≡ true
    → ◌≡◌ {A = Held} (record { records = n; bytes = at - o - u * w; words = u * w; padding = length s - at; offset = o })
    (held_up_to s o at w u n)
unfolding held_up_to
up_some s o at w u n p c z q t =
    let rest : length s - at ≡ length s - (o + u * w + (at - o - u * w)) = omega (arith, c.words) in
    (λ i. record { records = n; bytes = at - o - u * w; words = u * w; padding = rest i; offset = o })
    ∙ sym (if_false _ _ _ (ne_eqb u 0 z) ∙ if_true _ _ _ (sym q ∙ t))

pub up_words : (s : List ℕ) (o at w u : ℕ) → Reached s o at w u → Fits w64 at → Fits w64 (u * w)
up_words s o at w u c f = omega (arith, c.words, f)

pub up_offset : (s : List ℕ) (o at w u : ℕ) → Reached s o at w u → o ≤ at
up_offset s o at w u c = omega (arith, c.words)

pub up_bytes : (s : List ℕ) (o at w u : ℕ) → Reached s o at w u → u * w ≤ at - o
up_bytes s o at w u c = omega (arith, c.words)

pub up_rest : (s : List ℕ) (o at w u : ℕ) → Reached s o at w u → (u ≡ 0 → ⊥) → at ≤ length s
up_rest s o at w u c z = c.within z

pub ruleset reaching = (up_none, up_other, up_some, up_words, up_offset, up_bytes, up_rest, rules)
