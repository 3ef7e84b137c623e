-- Laws of the loops that count what a block holds. Assumes nothing.
use Rattle.std.specs.Prelude.{Option, Some, None}
use mathlib.Core.Path.{◌≡◌, refl, sym, ap, ◌∙◌}
use mathlib.Core.Bool.{Bool, true, false}
use mathlib.Core.List.{List, []}
use Prim.Native.Nat.{ℕ, suc, ◌+◌, ◌-◌, ◌*◌, ◌≤◌, ◌<◌}
use native.Mathlib.Omega.{arith}
use borrow.Author.Rules.{rules}
use borrow.Author.Tests.{ne_eqb}
use mir.Val.{Fits}
use mir.Syntax.{w64}
use lib.Dec.{eqb}
use lib.ListN.{length, drop, get_or, length-drop}
use lib.Seq.{drop-drop}
use Rattle.base.specs.If.{if_b}
use Rattle.base.proofs.Ifs.{if_true, if_false}
use Rattle.base.specs.Part.{part, all_are}
use Rattle.base.specs.Sum.{sum}
use Rattle.base.proofs.Parts.{length_part}
use Rattle.block.specs.Unit.{fixed, variable, segment, unit_of, length_of, word_of, one_unit}
use Rattle.block.specs.Cut.{Segment, segment_of, onto, cut, some_units}
use Rattle.block.specs.Code.Loops.{due_at, held_up_to}
use Rattle.block.specs.Held.{ends_with, records_ending, segment_bytes, empty, holding, held_by, held_in, Reached}
use Rattle.block.specs.declared.Unit.{Unit}
use Rattle.block.specs.declared.Held.{Held}
use Rattle.block.proofs.Units.{unit_stands}
use Rattle.block.proofs.Cuts.{cut_unit, cut_end}
use Rattle.block.proofs.Lengths.{other_unit, segment_of_lem, segment_least, segment_inside, unit_segment}
use Rattle.block.proofs.Wholes.{unit_word, word_fixed, word_variable, word_segmented}
use Rattle.block.proofs.Loops.{due_onto, some_padding, length_fits, length_less, segment_fits, segment_less, as_fixed, as_variable, as_segment}
use Rattle.block.proofs.Helds.{ends_one, ends_most, suc_times}

-- ---- the loops over the units: what was counted, and what the units that are left hold, make the whole

-- u units in which n records end, with b bytes of records, and others behind them
held_after : ℕ → ℕ → ℕ → ℕ → ℕ → ℕ → Option (List Segment) → Held
held_after w o l u n b None = empty
held_after w o l u n b (Some xs) = holding w o l (u + length xs) (n + records_ending xs) (b + segment_bytes xs)

pub record Tallying (f r : ℕ) (s : List ℕ) (o at w u n : ℕ) : Type 0 where
  pub room : length s < 18446744073709551616
  pub word : w ≡ word_of f
  pub ending : n ≤ u
  pub some : o + u ≤ at
  pub reached : Reached s o at w u
  left : held_after w o (length s) u n (at - o - u * w) (due_at (eqb u 0) (cut f r (drop at s))) ≡ held_in f r o s

after_none : (w o l : ℕ) (c : Option (List Segment)) → held_after w o l 0 0 0 c ≡ held_by w o l c
unfolding held_after held_by
after_none w o l None = refl
after_none w o l (Some xs) =
    let u : 0 + length xs ≡ length xs = omega arith in
    let n : 0 + records_ending xs ≡ records_ending xs = omega arith in
    let b : 0 + segment_bytes xs ≡ segment_bytes xs = omega arith in
    λ i. holding w o l (u i) (n i) (b i)

pub tally_none : (f r : ℕ) (s : List ℕ) (o w : ℕ) → length s < 18446744073709551616 → w ≡ word_of f → Tallying f r s o o w 0 0
unfolding held_in due_at
tally_none f r s o w h e =
    let none' : o - o - 0 * w ≡ 0 = omega arith in
    record {
      room = h;
      word = e;
      ending = omega arith;
      some = omega arith;
      reached = record { words = omega arith; within = λ z. absurd (z refl) };
      left =
          ap (λ (b : ℕ). held_after w o (length s) 0 0 b
          (if_b (eqb 0 0) (some_units (cut f r (drop o s))) (cut f r (drop o s)))) none'
          ∙ ap (held_after w o (length s) 0 0 0) (if_true _ _ _ refl) ∙ after_none w o (length s) (some_units (cut f r (drop o s)))
          ∙ ap (λ (k : ℕ). held_by k o (length s) (some_units (cut f r (drop o s)))) e;
    }

-- a unit more
after_more : (w o l u n b i : ℕ) (bs : List ℕ) (c : Option (List Segment))
    → held_after w o l (u + 1) (n + ends_with i) (b + length bs) c ≡ held_after w o l u n b (onto (segment_of i bs) c)
unfolding held_after onto records_ending segment_bytes sum
after_more w o l u n b i bs None = refl
after_more w o l u n b i bs (Some xs) =
    let p : u + 1 + length xs ≡ u + suc (length xs) = omega arith in
    let q : n + ends_with i + records_ending xs ≡ n + (ends_with i + records_ending xs) = omega arith in
    let t : b + length bs + segment_bytes xs ≡ b + (length bs + segment_bytes xs) = omega arith in
    λ j. holding w o l (p j) (q j) (t j)

tally_unit : (f r : ℕ) (s : List ℕ) (o at w u n i c m k e : ℕ) → Tallying f r s o at w u n → unit_of f r (drop at s) ≡ one_unit i c m
    → k ≡ c + m → e ≡ ends_with i
    → Tallying f r s o (at + k) w (u + 1) (n + e)
tally_unit f r s o at w u n i c m k e t h p q =
    let stands = unit_stands f r (drop at s) i c m h in
    let word : c ≡ w = unit_word f r (drop at s) i c m h ∙ sym t.word in
    let l = length-drop at s in
    let times = suc_times u w in
    let long : length (part c m (drop at s)) ≡ m = length_part c m (drop at s) stands.within in
    let bytes : at + k - o - (u + 1) * w ≡ at - o - u * w + length (part c m (drop at s)) = omega (arith, times, long, word, p, t.reached.words) in
    let rest : cut f r (drop at s) ≡ onto (segment_of i (part c m (drop at s))) (cut f r (drop (at + k) s))
    = cut_unit f r (drop at s) i c m h
    ∙ ap (λ (y : List ℕ). onto (segment_of i (part c m (drop at s))) (cut f r y)) (drop-drop (c + m) at s ∙ ap (λ (j : ℕ). drop (at + j) s) (sym p)) in
    record {
      room = t.room;
      word = t.word;
      ending = omega (arith, t.ending, ends_most i, q);
      some = omega (arith, t.some, stands.some, p);
      reached =
          record {
            words = omega (arith, times, word, p, t.reached.words);
            within = λ _. omega
                (arith, stands.within, stands.some, l, p);
          };
      left =
          ap (held_after w o (length s) (u + 1) (n + e) (at + k - o - (u + 1) * w)) (due_later_unit u (cut f r (drop (at + k) s)))
          ∙ (λ j. held_after w o (length s) (u + 1) (n + q j) (bytes j) (cut f r (drop (at + k) s)))
          ∙ after_more w o (length s) u n (at - o - u * w) i (part c m (drop at s)) (cut f r (drop (at + k) s))
          ∙ ap (held_after w o (length s) u n (at - o - u * w))
          (sym (ap (due_at (eqb u 0)) rest ∙ due_onto (eqb u 0) (segment_of i (part c m (drop at s))) (cut f r (drop (at + k) s))))
          ∙ t.left;
    }
  where
    due_later_unit : (v : ℕ) (y : Option (List Segment)) → due_at (eqb (v + 1) 0) y ≡ y
    due_later_unit v y = unfold due_at in if_false _ _ _ (ne_eqb (v + 1) 0 (λ z. omega arith))

-- no unit more
tally_over : (f r : ℕ) (s : List ℕ) (o at w u n : ℕ) (h : Held) → Tallying f r s o at w u n → unit_of f r (drop at s) ≡ None
    → h ≡ held_up_to s o at w u n
    → h ≡ held_in f r o s
unfolding held_up_to due_at
tally_over f r s o at w u n h t e q =
    q
    ∙ by_tests (eqb u 0) (all_are 94 (drop at s))
    ∙ ap (held_after w o (length s) u n (at - o - u * w))
    (sym (ap (λ (y : Option (List Segment)). if_b (eqb u 0) (some_units y) y) (cut_end f r (drop at s) e)
    ∙ ap (λ (y : Option (List Segment)). if_b (eqb u 0) y (if_b (all_are 94 (drop at s)) (Some []) None))
    (some_padding (all_are 94 (drop at s)))))
    ∙ t.left
  where
    b : ℕ
    b = at - o - u * w

    by_tests : (x y : Bool)
        → if_b x empty (if_b y (holding w o (length s) u n b) empty)
        ≡ held_after w o (length s) u n b (if_b x None (if_b y (Some []) None))
    by_tests true y = unfold if_b held_after in refl
    by_tests false true = unfold if_b held_after records_ending segment_bytes sum in
        let i : u ≡ u + 0 = omega arith in
        let j : n ≡ n + 0 = omega arith in
        let k : b ≡ b + 0 = omega arith in
        λ a. holding w o (length s) (i a) (j a) (k a)
    by_tests false false = unfold if_b held_after in refl

-- the unit that k bytes are
record Stood (f r : ℕ) (s : List ℕ) (k : ℕ) : Type 0 where
  i : ℕ
  c : ℕ
  m : ℕ
  is : unit_of f r s ≡ one_unit i c m
  long : k ≡ c + m

stood : (f r : ℕ) (s : List ℕ) (k : ℕ) (u : Option Unit) → unit_of f r s ≡ u → k ≡ length_of u → (k ≡ 0 → ⊥) → Stood f r s k
unfolding length_of
stood f r s k (Some u) e h z = record { i = u.indicator; c = u.word; m = u.len; is = e; long = h }
stood f r s k None e h z = absurd (z h)

none_stood : (f r : ℕ) (s : List ℕ) (k : ℕ) (u : Option Unit) → unit_of f r s ≡ u → k ≡ length_of u → k ≡ 0 → unit_of f r s ≡ None
unfolding length_of
none_stood f r s k (Some u) e h z = let some = (unit_stands f r s u.indicator u.word u.len e).some in absurd (omega (arith, some))
none_stood f r s k None e h z = e

pub tally_end : (f r : ℕ) (s : List ℕ) (o at w u n k : ℕ) (h : Held) → Tallying f r s o at w u n
    → k ≡ length_of (unit_of f r (drop at s)) → k ≡ 0
    → h ≡ held_up_to s o at w u n → h ≡ held_in f r o s
tally_end f r s o at w u n k h t e z q =
    tally_over f r s o at w u n h t (none_stood f r (drop at s) k (unit_of f r (drop at s)) refl e z) q

-- in a format other than S a record ends with each unit
tally_whole : (f r : ℕ) (s : List ℕ) (o at w u k : ℕ) → (f ≡ 83 → ⊥) → Tallying f r s o at w u u
    → k ≡ length_of (unit_of f r (drop at s)) → (k ≡ 0 → ⊥)
    → Tallying f r s o (at + k) w (u + 1) (u + 1)
tally_whole f r s o at w u k g t e z =
    let x = stood f r (drop at s) k (unit_of f r (drop at s)) refl e z in
    let here = x.is in
    let zeroth : x.i ≡ 0 = (unit_stands f r (drop at s) x.i x.c x.m here).whole g in
    let one : 1 ≡ ends_with x.i = sym (ends_one x.i (λ y. omega (arith, zeroth)) (λ y. omega (arith, zeroth))) in
    tally_unit f r s o at w u u x.i x.c x.m k 1 t here x.long one

pub tally_fixed : (r : ℕ) (s : List ℕ) (o at w u k : ℕ) → Tallying 70 r s o at w u u → k ≡ length_of (fixed r (drop at s))
    → (k ≡ 0 → ⊥)
    → Tallying 70 r s o (at + k) w (u + 1) (u + 1)
tally_fixed r s o at w u k t e z = tally_whole 70 r s o at w u k (λ g. omega arith) t (as_fixed r (drop at s) k e) z

pub tally_variable : (r : ℕ) (s : List ℕ) (o at w u k : ℕ) → Tallying 68 r s o at w u u → k ≡ length_of (variable r (drop at s))
    → (k ≡ 0 → ⊥)
    → Tallying 68 r s o (at + k) w (u + 1) (u + 1)
tally_variable r s o at w u k t e z = tally_whole 68 r s o at w u k (λ g. omega arith) t (as_variable r (drop at s) k e) z

-- in S where its indicator says so
pub tally_segment : (r : ℕ) (s : List ℕ) (o at w u n k e : ℕ) → Tallying 83 r s o at w u n → k ≡ length_of (segment (drop at s))
    → (k ≡ 0 → ⊥)
    → e ≡ ends_with (get_or s at 0 - 48) → Tallying 83 r s o (at + k) w (u + 1) (n + e)
tally_segment r s o at w u n k e t h z q =
    let sum : k ≡ 5 + (k - 5) = omega (arith, segment_least s at k h z) in
    tally_unit 83 r s o at w u n (get_or s at 0 - 48) 5 (k - 5) k e t
    (unit_segment 83 r (drop at s) refl ∙ sym (segment_of_lem s at k h z)) sum q

-- the loops begin, with the control word of their format
pub none_fixed : (r : ℕ) (s : List ℕ) (o : ℕ) → length s < 18446744073709551616 → Tallying 70 r s o o 0 0 0
none_fixed r s o h = tally_none 70 r s o 0 h (sym (word_fixed 70 refl))

pub none_variable : (r : ℕ) (s : List ℕ) (o : ℕ) → length s < 18446744073709551616 → Tallying 68 r s o o 4 0 0
none_variable r s o h = tally_none 68 r s o 4 h (sym (word_variable 68 refl))

pub none_segment : (r : ℕ) (s : List ℕ) (o : ℕ) → length s < 18446744073709551616 → Tallying 83 r s o o 5 0 0
none_segment r s o h = tally_none 83 r s o 5 h (sym (word_segmented 83 refl))

-- the counts fit: a unit has a byte
pub units_fit : (f r : ℕ) (s : List ℕ) (o at w u n k : ℕ) → Tallying f r s o at w u n → k ≡ length_of (unit_of f r (drop at s))
    → (k ≡ 0 → ⊥) → Fits w64 (u + 1)
units_fit f r s o at w u n k t e z =
    let x = stood f r (drop at s) k (unit_of f r (drop at s)) refl e z in
    let here = unit_stands f r (drop at s) x.i x.c x.m x.is in
    omega (arith, t.some, t.room, here.some, here.within, length-drop at s)

pub units_segment : (r : ℕ) (s : List ℕ) (o at w u n k : ℕ) → Tallying 83 r s o at w u n → k ≡ length_of (segment (drop at s))
    → (k ≡ 0 → ⊥) → Fits w64 (u + 1)
units_segment r s o at w u n k t e z = units_fit 83 r s o at w u n k t (as_segment r (drop at s) k e) z

pub ends_fit : (r : ℕ) (s : List ℕ) (o at w u n k e : ℕ) → Tallying 83 r s o at w u n → k ≡ length_of (segment (drop at s))
    → (k ≡ 0 → ⊥)
    → e ≡ ends_with (get_or s at 0 - 48) → Fits w64 (n + e)
ends_fit r s o at w u n k e t h z q = omega (arith, units_segment r s o at w u n k t h z, t.ending, ends_most (get_or s at 0 - 48))

pub ruleset tallies = (
  none_fixed,
  none_variable,
  none_segment,
  tally_fixed,
  tally_variable,
  tally_segment,
  tally_end,
  units_fit,
  units_segment,
  ends_fit,
  segment_inside,
  length_fits,
  length_less,
  segment_fits,
  segment_less,
  as_fixed,
  as_variable,
  as_segment,
  rules,
)

-- ---- any format

pub held_format : (f g r o : ℕ) (s : List ℕ) (h : Held) → f ≡ g → h ≡ held_in g r o s → h ≡ held_in f r o s
held_format f g r o s h e q = q ∙ ap (λ (k : ℕ). held_in k r o s) (sym e)

pub held_other : (f r o : ℕ) (s : List ℕ) (h : Held) → (f ≡ 70 → ⊥) → (f ≡ 68 → ⊥) → (f ≡ 83 → ⊥) → h ≡ empty → h ≡ held_in f r o s
unfolding held_in held_by
held_other f r o s h a b c e =
    e
    ∙ sym (ap (λ (y : Option (List Segment)). held_by (word_of f) o (length s) (some_units y))
    (cut_end f r (drop o s) (sym (other_unit f r (drop o s) a b c)))
    ∙ ap (held_by (word_of f) o (length s)) (some_padding (all_are 94 (drop o s))))

pub ruleset held_by_format = (held_format, held_other, rules)
