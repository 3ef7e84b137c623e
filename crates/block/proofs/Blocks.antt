-- Whole records are in turn where nothing is open; and with that, the answer on a block of each format. Assumes nothing.
use Rattle.std.specs.Prelude.{Option, Some, None}
use mathlib.Core.Path.{◌≡◌, refl, sym, ap, ◌∙◌}
use mathlib.Core.Bool.{Bool, true, false, false≢true}
use mathlib.Core.List.{List, [], ◌∷◌}
use Prim.Native.Nat.{ℕ, zero, suc, ◌+◌, ◌≤◌, ◌<◌}
use native.Mathlib.Omega.{arith}
use borrow.Author.Rules.{rules}
use native.Mathlib.Nat.{le_of_lt}
use borrow.Author.Tests.{leb-false, leb-true, le-leb, lt-leb, eq-eqb, ne_eqb}
use lib.Dec.{leb, eqb}
use lib.ListN.{length, drop, drop_of_length-le}
use Rattle.base.specs.If.{if_b}
use Rattle.base.proofs.Ifs.{if_true, if_false, if_case}
use Rattle.base.specs.Part.{part, all_are}
use Rattle.base.proofs.Parts.{length_part}
use Rattle.block.specs.Unit.{unit_of}
use Rattle.block.specs.Cut.{Segment, segment_of, onto, cut_one, cut_f, cut, some_units, is_cut, units}
use Rattle.block.specs.Turn.{outcome, open_after, turns_from, turned, block_outcome}
use Rattle.block.specs.declared.Unit.{Unit}
use Rattle.block.specs.declared.Outcome.{Outcome}
use Rattle.block.proofs.Units.{unit_stands}
use Rattle.block.proofs.Cuts.{cut_end}
use Rattle.block.proofs.Lengths.{other_unit}
use Rattle.block.proofs.Loops.{some_padding, cut_nothing, some_none, some_more, some_last, as_variable, length_fits}
use Rattle.block.proofs.Turns.{turn_new, turn_late, turning_begun, turning_second, turning_last, turning_empty, second_room, place_fits, word_fits, so_outcome}

-- ---- the units of F and D are whole records of at most R bytes

pub data Wholes (r : ℕ) : List Segment → Type 0 where
  no_more : Wholes r []
  whole : {x : Segment} {xs : List Segment} → x.indicator ≡ 0 → length x.bytes ≤ r → Wholes r xs → Wholes r (x ∷ xs)

-- what is said of the units is said where there are any
abbrev pub IfCut : (List Segment → Type 0) → Option (List Segment) → Type 0
IfCut P None = ◌≡◌ {A = Option (List Segment)} None None
IfCut P (Some xs) = P xs

onto_wholes : (r : ℕ) (x : Segment) (c : Option (List Segment)) → x.indicator ≡ 0 → length x.bytes ≤ r → IfCut (Wholes r) c
    → IfCut (Wholes r) (onto x c)
unfolding onto
onto_wholes r x None i n h = refl
onto_wholes r x (Some xs) i n h = whole i n h

one_whole : (f r : ℕ) (s : List ℕ) (u : Option Unit) (g : List ℕ → Option (List Segment)) → (f ≡ 83 → ⊥) → unit_of f r s ≡ u
    → ((t : List ℕ) → IfCut (Wholes r) (g t)) → IfCut (Wholes r) (cut_one u s g)
unfolding cut_one
one_whole f r s (Some u) g z e h =
    let c = unit_stands f r s u.indicator u.word u.len e in
    let m = c.short z in
    let l = length_part u.word u.len s c.within in
    onto_wholes r (segment_of u.indicator (part u.word u.len s)) (g (drop (u.word + u.len) s)) (c.whole z) (omega arith) (h (drop (u.word + u.len) s))
one_whole f r s None g z e h = if_case (IfCut (Wholes r)) (all_are 94 s) (Some []) None (λ t. no_more) (λ t. refl)

fuel_wholes : (k f r : ℕ) (s : List ℕ) → (f ≡ 83 → ⊥) → IfCut (Wholes r) (cut_f k f r s)
unfolding cut_f
fuel_wholes zero f r s z = refl
fuel_wholes (suc k) f r s z = one_whole f r s (unit_of f r s) (λ t. cut_f k f r t) z refl (λ t. fuel_wholes k f r t z)

pub cut_wholes : (f r : ℕ) (s : List ℕ) → (f ≡ 83 → ⊥) → IfCut (Wholes r) (cut f r s)
unfolding cut
cut_wholes f r s z = fuel_wholes (suc (length s)) f r s z

-- ---- their turns

open_whole : (o i n : ℕ) → i ≡ 0 → open_after o i n ≡ 0
unfolding open_after
open_whole o i n e = if_false _ _ _ (ne_eqb i 1 (λ h. omega arith)) ∙ if_false _ _ _ (ne_eqb i 2 (λ h. omega arith))

pub turns_whole : (r : ℕ) (head : Bool) (xs : List Segment) → Wholes r xs → turns_from r 0 head xs ≡ outcome 0 0
unfolding turns_from
turns_whole r head [] no_more = refl
turns_whole r head (x ∷ xs) (whole i n h) =
    if_true _ _ _ (sym (turn_new r 0 head x.indicator (length x.bytes) (omega arith) refl) ∙ le-leb (length x.bytes) r n)
    ∙ ap (λ (o : ℕ). turns_from r o false xs) (open_whole 0 x.indicator (length x.bytes) i)
    ∙ turns_whole r false xs h

turns_late : (r o : ℕ) (head : Bool) (x : Segment) (xs : List Segment) → Wholes r (x ∷ xs) → (o ≡ 0 → ⊥)
    → turns_from r o head (x ∷ xs) ≡ outcome 8 0
unfolding turns_from
turns_late r o head x xs (whole i n h) z =
    if_false _ _ _ (sym (turn_late r o head x.indicator (length x.bytes) (omega arith) z))

-- the answer on a block of whole records, with q open
abbrev whole_answer : Bool → ℕ → Outcome
whole_answer p q = if_b p (if_b (eqb q 0) (outcome 0 0) (outcome 8 0)) (outcome 7 0)

turns_answer : (r q : ℕ) (x : Segment) (xs : List Segment) → Wholes r (x ∷ xs)
    → turns_from r q true (x ∷ xs) ≡ if_b (eqb q 0) (outcome 0 0) (outcome 8 0)
turns_answer r zero x xs h = turns_whole r true (x ∷ xs) h ∙ sym (if_true _ _ _ (eq-eqb 0 0 refl))
turns_answer r (suc q) x xs h =
    let z : suc q ≡ 0 → ⊥ = λ e. omega arith in
    turns_late r (suc q) true x xs h z ∙ sym (if_false _ _ _ (ne_eqb (suc q) 0 z))

turned_whole : (r q : ℕ) (c : Option (List Segment)) → IfCut (Wholes r) c
    → turned r q true (some_units c) ≡ whole_answer (is_cut (some_units c)) q
unfolding turned some_units is_cut
turned_whole r q None h = sym (if_false _ _ _ refl)
turned_whole r q (Some []) h = sym (if_false _ _ _ refl)
turned_whole r q (Some (x ∷ xs)) h = turns_answer r q x xs h ∙ sym (if_true _ _ _ refl)

-- ---- the block

none_in : (f r : ℕ) → some_units (cut f r []) ≡ None
unfolding some_units
none_in f r = ap some_units (cut_nothing f r)

-- a block of at most b bytes; of one under o bytes nothing is left
units_fit : (f b r o : ℕ) (s : List ℕ) → length s ≤ b → units f b r o s ≡ some_units (cut f r (drop o s))
unfolding units
units_fit f b r o s h =
    if_true _ _ _ (le-leb (length s) b h)
    ∙ if_case (λ (c : Option (List Segment)). c ≡ some_units (cut f r (drop o s))) (leb o (length s)) _ None (λ t. refl)
    (λ t. sym (ap (λ (l : List ℕ). some_units (cut f r l)) (drop_of_length-le s (le_of_lt (leb-false o (length s) t))) ∙ none_in f r))

block_fits : (f b r o q : ℕ) (s : List ℕ) → length s ≤ b
    → block_outcome f b r o q s ≡ turned r q true (some_units (cut f r (drop o s)))
unfolding block_outcome
block_fits f b r o q s h = ap (turned r q true) (units_fit f b r o s h)

pub block_long : (f b r o q : ℕ) (s : List ℕ) → b < length s → outcome 7 0 ≡ block_outcome f b r o q s
unfolding block_outcome units turned
block_long f b r o q s h = sym (ap (turned r q true) (if_false _ _ _ (lt-leb (length s) b h)))

-- formats by name, so that the code's test on the format serves
block_whole : (f g b r o q : ℕ) (s : List ℕ) (p : Bool) (x : Outcome) → f ≡ g → (g ≡ 83 → ⊥) → length s ≤ b
    → p ≡ is_cut (some_units (cut g r (drop o s)))
    → x ≡ whole_answer p q → x ≡ block_outcome f b r o q s
block_whole f g b r o q s p x e z h m k =
    k ∙ ap (λ (y : Bool). whole_answer y q) m ∙ sym (turned_whole r q (cut g r (drop o s)) (cut_wholes g r (drop o s) z))
    ∙ sym (ap (λ (y : ℕ). block_outcome y b r o q s) e ∙ block_fits g b r o q s h)

pub block_fixed : (f b r o q : ℕ) (s : List ℕ) (p : Bool) (x : Outcome) → f ≡ 70 → length s ≤ b
    → p ≡ is_cut (some_units (cut 70 r (drop o s)))
    → x ≡ if_b p (if_b (eqb q 0) (outcome 0 0) (outcome 8 0)) (outcome 7 0) → x ≡ block_outcome f b r o q s
block_fixed f b r o q s p x e h m k = block_whole f 70 b r o q s p x e (λ z. omega arith) h m k

pub block_variable : (f b r o q : ℕ) (s : List ℕ) (p : Bool) (x : Outcome) → f ≡ 68 → length s ≤ b
    → p ≡ is_cut (some_units (cut 68 r (drop o s)))
    → x ≡ if_b p (if_b (eqb q 0) (outcome 0 0) (outcome 8 0)) (outcome 7 0) → x ≡ block_outcome f b r o q s
block_variable f b r o q s p x e h m k = block_whole f 68 b r o q s p x e (λ z. omega arith) h m k

pub block_segments : (b r o q : ℕ) (s : List ℕ) (x : Outcome) → length s ≤ b
    → x ≡ turned r q true (some_units (cut 83 r (drop o s))) → x ≡ block_outcome 83 b r o q s
block_segments b r o q s x h k = k ∙ sym (block_fits 83 b r o q s h)

turned_none : (r q : ℕ) → turned r q true None ≡ outcome 7 0
unfolding turned
turned_none r q = refl

pub block_other : (f b r o q : ℕ) (s : List ℕ) → (f ≡ 70 → ⊥) → (f ≡ 68 → ⊥) → (f ≡ 83 → ⊥) → length s ≤ b
    → outcome 7 0 ≡ block_outcome f b r o q s
block_other f b r o q s x y z h =
    sym (block_fits f b r o q s h
    ∙ ap (turned r q true)
    (ap some_units (cut_end f r (drop o s) (sym (other_unit f r (drop o s) x y z))) ∙ some_padding (all_are 94 (drop o s)))
    ∙ turned_none r q)

-- ---- whether a block can be cut, without its turns

pub cuts_long : (f b r o : ℕ) (s : List ℕ) → b < length s → false ≡ is_cut (units f b r o s)
unfolding units is_cut
cuts_long f b r o s h = sym (ap is_cut (if_false _ _ _ (lt-leb (length s) b h)))

pub cuts_fit : (f b r o : ℕ) (s : List ℕ) (p : Bool) → length s ≤ b → p ≡ is_cut (some_units (cut f r (drop o s)))
    → p ≡ is_cut (units f b r o s)
cuts_fit f b r o s p h e = e ∙ sym (ap is_cut (units_fit f b r o s h))

pub ruleset variables = (cuts_long, cuts_fit, some_none, some_more, some_last, as_variable, length_fits, rules)

-- a D block that can be cut is in turn where nothing is pending
pub variable_passes : (f b r o q : ℕ) (s : List ℕ) (p : Bool) → f ≡ 68 → q ≡ 0 → p ≡ is_cut (units 68 b r o s) → p ≡ true
    → outcome 0 0 ≡ block_outcome f b r o q s
unfolding units is_cut
variable_passes f b r o q s p e z m t =
    let short : length s ≤ b
    = leb-true (length s) b (if_case (λ (c : Option (List Segment)). is_cut c ≡ true → leb (length s) b ≡ true) (leb (length s) b) _ None (λ h _. h) (λ _ k. absurd (false≢true k)) (sym m ∙ t)) in
    block_variable f b r o q s true (outcome 0 0) e short (sym t ∙ m ∙ ap is_cut (units_fit 68 b r o s short))
    (sym (if_true _ _ _ refl ∙ if_true _ _ _ (eq-eqb q 0 z)))

-- ---- a block of segments

-- of a format that is S, the answer is that of S
pub segments_named : (f b r o q : ℕ) (s : List ℕ) (x : Outcome) → f ≡ 83 → x ≡ block_outcome 83 b r o q s
    → x ≡ block_outcome f b r o q s
segments_named f b r o q s x e h = h ∙ ap (λ (g : ℕ). block_outcome g b r o q s) (sym e)

pub ruleset segmented =
    (block_long, block_segments, turning_begun, turning_second, turning_last, turning_empty, second_room, place_fits, word_fits, so_outcome, rules)

pub ruleset blocks = (block_long, block_fixed, block_variable, segments_named, block_other, so_outcome, rules)
