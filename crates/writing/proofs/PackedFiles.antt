-- All blocks of a file hold its records again. Assumes nothing.
use Rattle.std.specs.Prelude.{Option, Some, None}
use mathlib.Core.Path.{◌≡◌, refl, sym, ap, ap₂, ◌∙◌, subst}
use mathlib.Core.Bool.{Bool, true, false, false≢true}
use mathlib.Core.List.{List, [], ◌∷◌, ◌++◌}
use Prim.Native.Nat.{ℕ, zero, suc, ◌+◌, ◌≤◌, ◌<◌}
use native.Mathlib.Omega.{arith}
use borrow.Author.Tests.{eq-eqb, ne_eqb, leb-true, le-leb}
use lib.Dec.{eqb}
use lib.ListN.{length, take, take-append-drop}
use lib.Seq.{take_all}
use Rattle.base.specs.If.{if_b}
use Rattle.base.proofs.Ifs.{if_true, if_false, and_true}
use Rattle.image.specs.Item.{block}
use Rattle.image.specs.Code.Items.{is_item}
use Rattle.label.specs.Field.{suits}
use Rattle.block.specs.Cut.{Segment, segment_of, cut, some_units, units}
use Rattle.block.specs.Turn.{outcome, turns_from}
use Rattle.volume.specs.Meaning.{on_first, joined}
use Rattle.reading.specs.Legal.{legal_record, legal_records}
use Rattle.writing.specs.Pack.{Left, finished, going, start_of, fill, after, weights, weight, blocks_f, blocks_left, blocks_of}
use Rattle.block.specs.Room.{enters, taken, indicator_of}
use Rattle.writing.specs.Code.Room.{RoomEach, RoomEachLeft}
use Rattle.writing.proofs.Packing.{by_test, segment_enters, whole_enters, segment_in, segments_from, UnitSaid, Ways, by_ways, after_lighter}
use Rattle.block.proofs.Wholes.{word_fixed, word_variable}
use Rattle.writing.proofs.Units.{Format, is_f, is_d, is_s, UnitReady, fresh, begun, legal_f, legal_d}
use Rattle.writing.proofs.Packed.{Open, cut_nothing, Filled, Fills, legal_next, fills}

-- ---- the records again

-- the records that are left
unfoldable pub remaining : Left → List (List ℕ)
remaining finished = []
remaining (going t x xs) = x ∷ xs

-- a segment that ends its record, and one that does not
joined_end : (t k n : ℕ) (bs : List ℕ) (more : List Segment) → k ≡ n
    → joined (segment_of (indicator_of t k n) bs ∷ more) ≡ bs ∷ joined more
unfolding indicator_of joined if_b
joined_end t k n bs more e =
    let i : indicator_of t k n ≡ if_b (eqb t 0) 0 3 = if_true _ _ _ (eq-eqb k n e) in
    ap (λ (j : ℕ). joined (segment_of j bs ∷ more)) i
    ∙ by_test (eqb t 0) (λ z. ap (λ (j : ℕ). joined (segment_of j bs ∷ more)) (if_true _ _ _ z))
    (λ z. ap (λ (j : ℕ). joined (segment_of j bs ∷ more)) (if_false _ _ _ z))

joined_on : (t k n : ℕ) (bs : List ℕ) (more : List Segment) → (k ≡ n → ⊥)
    → joined (segment_of (indicator_of t k n) bs ∷ more) ≡ on_first bs (joined more)
unfolding indicator_of joined if_b
joined_on t k n bs more d =
    let i : indicator_of t k n ≡ if_b (eqb t 0) 1 2 = if_false _ _ _ (ne_eqb k n d) in
    ap (λ (j : ℕ). joined (segment_of j bs ∷ more)) i
    ∙ by_test (eqb t 0) (λ z. ap (λ (j : ℕ). joined (segment_of j bs ∷ more)) (if_true _ _ _ z))
    (λ z. ap (λ (j : ℕ). joined (segment_of j bs ∷ more)) (if_false _ _ _ z))

abbrev Joins : UnitSaid
Joins u t x xs c l g = (more : List Segment) → joined more ≡ remaining l → joined (g ++ more) ≡ x ∷ xs

joins : (f b : ℕ) → Ways f b Joins
unfolding segment_in remaining on_first
joins f b =
    record {
      full = λ u t x xs e more h. h;
      broken = λ u t x xs e d more h.
          joined_on t (taken f b u (length x)) (length x) _ more d
          ∙ ap (on_first (take (taken f b u (length x)) x)) h
          ∙ ap (λ (y : List ℕ). y ∷ xs) (take-append-drop (taken f b u (length x)) x);
      last = λ u t x e k more h.
          joined_end t (taken f b u (length x)) (length x) _ more k ∙ ap₂ ◌∷◌ (whole f b u x k) h;
      more = λ u t x y ys c l g e k again more h.
          joined_end t (taken f b u (length x)) (length x) _ (g ++ more) k ∙ ap₂ ◌∷◌ (whole f b u x k) (again more h);
    }
  where
    whole : (f b u : ℕ) (x : List ℕ) → taken f b u (length x) ≡ length x → take (taken f b u (length x)) x ≡ x
    whole f b u x k = let long : length x ≤ taken f b u (length x) = omega arith in take_all (taken f b u (length x)) x long

-- a block that a unit enters has a unit
abbrev SomeUnits : ℕ → ℕ → UnitSaid
SomeUnits f b u t x xs c l g = enters f b u (length x) ≡ true → some_units (Some g) ≡ Some g

somes : (f b : ℕ) → Ways f b (SomeUnits f b)
unfolding some_units
somes f b =
    record {
      full = λ u t x xs e h. absurd (false≢true (sym e ∙ h));
      broken = λ u t x xs e d h. refl;
      last = λ u t x e k h. refl;
      more = λ u t x y ys c l g e k again h. refl;
    }

-- ---- all blocks

-- the lengths that a file's HDR2 gives suit each other
pub record Suited (f b r : ℕ) : Type 0 where
  pub format : Format f
  pub lengths : suits f b r 0 ≡ true
  pub most : b ≤ 99999

suited_s : (f b r : ℕ) → f ≡ 83 → suits f b r 0 ≡ true → 6 ≤ b
unfolding suits
suited_s f b r e h = let k : 0 + 6 ≤ b = leb-true _ _ (sym (if_true _ _ _ (eq-eqb f 83 e)) ∙ h) in omega arith

suited_whole : (f b r : ℕ) → eqb f 83 ≡ false → suits f b r 0 ≡ true → r ≤ b
unfolding suits
suited_whole f b r e h = let k : r + 0 ≤ b = leb-true _ _ (sym (if_false _ _ _ e) ∙ h) in omega arith

legal_enters : (f b r : ℕ) (x : List ℕ) → Format f → suits f b r 0 ≡ true → legal_record f r x ≡ true
    → enters f b 0 (length x) ≡ true
legal_enters f b r x (is_f e) s h =
    let other : f ≡ 83 → ⊥ = λ q. omega arith in
    let same : length x ≡ r = (legal_f f r x e h).0 in
    let room : r ≤ b = suited_whole f b r (ne_eqb f 83 other) s in
    whole_enters f b (length x) (ne_eqb f 83 other) (omega (arith, word_fixed f e))
legal_enters f b r x (is_d e) s h =
    let other : f ≡ 83 → ⊥ = λ q. omega arith in
    let most : length x + 4 ≤ r = (legal_d f r x e h).0 in
    let room : r ≤ b = suited_whole f b r (ne_eqb f 83 other) s in
    whole_enters f b (length x) (ne_eqb f 83 other) (omega (arith, word_variable f e))
legal_enters f b r x (is_s e) s h = segment_enters f b (length x) e (suited_s f b r e s)

ready_enters : (f b r t o : ℕ) (head : Bool) (x : List ℕ) → Suited f b r → UnitReady f r t o head x
    → enters f b 0 (length x) ≡ true
ready_enters f b r t o head x s (fresh _ _ h) = legal_enters f b r x s.format s.lengths h
ready_enters f b r t o head x s (begun _ e _ _ _) = segment_enters f b (length x) e (suited_s f b r e s.lengths)

-- legal records have room
pub legal_room : (f b r : ℕ) (xs : List (List ℕ)) → Suited f b r → legal_records f r xs ≡ true → RoomEach f b xs
legal_room f b r [] s h = tt
legal_room f b r (x ∷ xs) s h =
    legal_next f r x xs h (λ here rest. (legal_enters f b r x s.format s.lengths here, legal_room f b r xs s rest))

-- a block as it is read: its segments, which leave p open behind o
pub record Block (f b r o p : ℕ) (c : List ℕ) (g : List Segment) : Type 0 where
  pub cuts : units f b r 0 c ≡ Some g
  pub turns : turns_from r o true g ≡ outcome 0 p
  pub item : is_item (block c) ≡ true

-- the segments of each block
unfoldable pub held_f : ℕ → ℕ → ℕ → Left → List (List Segment)
held_f zero f b l = []
held_f (suc k) f b finished = []
held_f (suc k) f b (going t x xs) = segments_from f b 0 t x xs ∷ held_f k f b (after f b 0 t x xs)

unfoldable pub held : ℕ → ℕ → List (List ℕ) → List (List Segment)
held f b xs = held_f (weight (start_of xs)) f b (start_of xs)

-- blocks that are read as these segments, from o open to nothing open
abbrev pub Blocks : ℕ → ℕ → ℕ → ℕ → List (List ℕ) → List (List Segment) → Type 0
Blocks f b r o [] [] = o ≡ 0
Blocks f b r o [] (g ∷ gs) = ⊥
Blocks f b r o (c ∷ cs) [] = ⊥
Blocks f b r o (c ∷ cs) (g ∷ gs) = (p : ℕ) × Block f b r o p c g × Blocks f b r p cs gs

abbrev Absent : Option (List Segment) → Type 0
Absent None = Unit {0}
Absent (Some g) = ⊥

unequal : (g : List Segment) → None ≡ Some g → ⊥
unequal g e = subst Absent e tt

first_block : (f b r t o : ℕ) (x : List ℕ) (xs : List (List ℕ)) → Suited f b r → UnitReady f r t o true x
    → legal_records f r xs ≡ true
    → (p : ℕ) × Block f b r o p (fill f b 0 t x xs) (segments_from f b 0 t x xs) × Open f r p (after f b 0 t x xs)
unfolding units is_item
first_block f b r t o x xs s ready legal =
    let c : List ℕ = fill f b 0 t x xs in
    let g : List Segment = segments_from f b 0 t x xs in
    let a : Filled f b r 0 o true c (after f b 0 t x xs) g = by_ways f b (Fills f b r) (fills f b r s.format) 0 t x xs o true ready legal (omega arith) in
    let one : some_units (Some g) ≡ Some g = by_ways f b (SomeUnits f b) (somes f b) 0 t x xs (ready_enters f b r t o true x s ready) in
    let within : 0 + length c ≤ b = a.within in
    let most : b ≤ 99999 = s.most in (
      a.opens,
      record {
        cuts =
            if_true _ _ _ (le-leb (length c) b (omega arith)) ∙ if_true _ _ _ (le-leb 0 (length c) (omega arith))
            ∙ ap some_units a.cuts ∙ one;
        turns = a.turns;
        item = and_true _ _ (le-leb 1 (length c) (some_bytes f r c g a.cuts one)) (le-leb (length c) 99999 (omega arith));
      },
      a.left,
    )
  where
    some_bytes : (f r : ℕ) (c : List ℕ) (g : List Segment) → cut f r c ≡ Some g → some_units (Some g) ≡ Some g → 1 ≤ length c
    some_bytes f r [] g e q = absurd (unequal g (nothing ∙ ap some_units (sym (cut_nothing f r) ∙ e) ∙ q))
      where
        nothing : None ≡ some_units (Some [])
        nothing = unfold some_units in refl
    some_bytes f r (y ∷ c) g e q = omega arith

open_room : (f b r o : ℕ) (l : Left) → Suited f b r → Open f r o l → RoomEachLeft f b l
open_room f b r o finished s h = tt
open_room f b r o (going t x xs) s h = (ready_enters f b r t o true x s h.0, legal_room f b r xs s h.1)

blocks_read : (k f b r o : ℕ) (l : Left) → Suited f b r → Open f r o l → weight l ≤ k
    → Blocks f b r o (blocks_f k f b l) (held_f k f b l)
unfolding blocks_f held_f weight weights
blocks_read zero f b r o finished s h m = h
blocks_read zero f b r o (going t x xs) s h m = absurd (omega arith)
blocks_read (suc k) f b r o finished s h m = h
blocks_read (suc k) f b r o (going t x xs) s h m =
    let (p, q, left) = first_block f b r t o x xs s h.0 h.1 in
    let less : weight (after f b 0 t x xs) < weights (x ∷ xs) = after_lighter f b t x xs (open_room f b r o (going t x xs) s h) in
    (p, q, blocks_read k f b r p (after f b 0 t x xs) s left (omega arith))

-- the segments of all blocks
unfoldable pub flat : List (List Segment) → List Segment
flat [] = []
flat (g ∷ gs) = g ++ flat gs

records_back : (k f b r o : ℕ) (l : Left) → Suited f b r → Open f r o l → weight l ≤ k
    → joined (flat (held_f k f b l)) ≡ remaining l
unfolding held_f flat weight weights remaining joined
records_back zero f b r o finished s h m = refl
records_back zero f b r o (going t x xs) s h m = absurd (omega arith)
records_back (suc k) f b r o finished s h m = refl
records_back (suc k) f b r o (going t x xs) s h m =
    let (p, q, left) = first_block f b r t o x xs s h.0 h.1 in
    let less : weight (after f b 0 t x xs) < weights (x ∷ xs) = after_lighter f b t x xs (open_room f b r o (going t x xs) s h) in
    by_ways f b Joins (joins f b) 0 t x xs (flat (held_f k f b (after f b 0 t x xs)))
    (records_back k f b r p (after f b 0 t x xs) s left (omega arith))

-- ---- a file

open_start : (f r : ℕ) (xs : List (List ℕ)) → legal_records f r xs ≡ true → Open f r 0 (start_of xs)
unfolding start_of
open_start f r [] h = refl
open_start f r (x ∷ xs) h = legal_next f r x xs h (λ here rest. (fresh refl refl here, rest))

-- the blocks of a legal file are read as its segments, with nothing open behind the last
pub file_blocks : (f b r : ℕ) (xs : List (List ℕ)) → Suited f b r → legal_records f r xs ≡ true
    → Blocks f b r 0 (blocks_of f b xs) (held f b xs)
unfolding blocks_of blocks_left held
file_blocks f b r xs s h = blocks_read (weight (start_of xs)) f b r 0 (start_of xs) s (open_start f r xs h) (omega arith)

-- its segments join to its records
pub file_records : (f b r : ℕ) (xs : List (List ℕ)) → Suited f b r → legal_records f r xs ≡ true → joined (flat (held f b xs)) ≡ xs
unfolding held
file_records f b r xs s h =
    records_back (weight (start_of xs)) f b r 0 (start_of xs) s (open_start f r xs h) (omega arith) ∙ all xs
  where
    all : (ys : List (List ℕ)) → remaining (start_of ys) ≡ ys
    all [] = unfold remaining start_of in refl
    all (y ∷ ys) = unfold remaining start_of in refl
