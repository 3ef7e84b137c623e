-- One block that was packed: its units, and their turns. Assumes nothing.
use Rattle.std.specs.Prelude.{Option, Some, None}
use mathlib.Core.Path.{◌≡◌, refl, sym, ap, ◌∙◌, subst}
use mathlib.Core.Bool.{Bool, true, false}
use mathlib.Core.List.{List, [], ◌∷◌, ◌++◌, append-nil}
use Prim.Native.Nat.{ℕ, ◌+◌, ◌-◌, ◌≤◌}
use native.Mathlib.Omega.{arith}
use borrow.Author.Tests.{eq-eqb, ne_eqb, le-leb}
use lib.ListN.{length, take, drop, length-append, length-drop}
use Rattle.base.specs.If.{if_b}
use Rattle.base.proofs.Ifs.{if_true, if_false}
use Rattle.base.specs.Part.{all_are}
use Rattle.block.specs.Unit.{pad, unit_of}
use Rattle.block.specs.Cut.{Segment, onto, cut}
use Rattle.block.specs.Turn.{outcome, is_turn, open_after, turns_from}
use Rattle.block.specs.declared.Unit.{Unit}
use Rattle.block.proofs.Units.{unit_stands}
use Rattle.block.proofs.Cuts.{cut_end}
use Rattle.reading.specs.Legal.{legal_record, legal_records}
use Rattle.writing.specs.Pack.{Left, finished, going, unit_in}
use Rattle.block.specs.Room.{enters, taken, indicator_of}
use Rattle.writing.proofs.Packing.{Entered, entered, segment_in, UnitSaid, Ways}
use Rattle.writing.proofs.Units.{Format, is_f, is_d, is_s, UnitReady, fresh, begun, both, legal_f, legal_d, legal_s, length_taken, length_unit, cut_back}

-- ---- turns

-- a segment in its turn
turn : (f b r u t o p : ℕ) (head : Bool) (x : List ℕ) (g : List Segment) → enters f b u (length x) ≡ true
    → is_turn r o head (indicator_of t (taken f b u (length x)) (length x)) (taken f b u (length x)) ≡ true
    → open_after o (indicator_of t (taken f b u (length x)) (length x)) (taken f b u (length x)) ≡ p
    → turns_from r o head (segment_in f b u t x ∷ g) ≡ turns_from r p false g
unfolding turns_from segment_in
turn f b r u t o p head x g e h q =
    let i : ℕ = indicator_of t (taken f b u (length x)) (length x) in
    let long : length (take (taken f b u (length x)) x) ≡ taken f b u (length x) = length_taken f b u x e in
    if_true _ _ _ (ap (is_turn r o head i) long ∙ h) ∙ ap (λ (m : ℕ). turns_from r m false g) (ap (open_after o i) long ∙ q)

-- a record that ends here: whole, or the last segment of one
pub legal_most : (f r : ℕ) (x : List ℕ) → Format f → legal_record f r x ≡ true → length x ≤ r
legal_most f r x (is_f e) h = let l : length x ≡ r = (legal_f f r x e h).0 in omega arith
legal_most f r x (is_d e) h = let l : length x + 4 ≤ r = (legal_d f r x e h).0 in omega arith
legal_most f r x (is_s e) h = legal_s f r x e h

record Turned (r o p : ℕ) (head : Bool) (i n : ℕ) : Type 0 where
  may : is_turn r o head i n ≡ true
  behind : open_after o i n ≡ p

turned_0 : (r o n : ℕ) (head : Bool) → o ≡ 0 → n ≤ r → Turned r o 0 head 0 n
unfolding is_turn open_after if_b
turned_0 r o n head z h = record { may = if_true _ _ _ (eq-eqb o 0 z) ∙ le-leb n r h; behind = refl }

turned_1 : (r o n : ℕ) (head : Bool) → o ≡ 0 → n ≤ r → Turned r o (n + 1) head 1 n
unfolding is_turn open_after if_b
turned_1 r o n head z h = record { may = if_true _ _ _ (eq-eqb o 0 z) ∙ le-leb n r h; behind = refl }

turned_2 : (r o n : ℕ) (head : Bool) → head ≡ true → 1 ≤ o → o - 1 + n ≤ r → Turned r o (o + n) head 2 n
unfolding is_turn open_after if_b
turned_2 r o n head e h m =
    let some : o ≡ 0 → ⊥ = λ q. omega arith in
    record { may = if_true _ _ _ e ∙ if_false _ _ _ (ne_eqb o 0 some) ∙ le-leb (o - 1 + n) r m; behind = refl }

turned_3 : (r o n : ℕ) (head : Bool) → head ≡ true → 1 ≤ o → o - 1 + n ≤ r → Turned r o 0 head 3 n
unfolding is_turn open_after if_b
turned_3 r o n head e h m =
    let some : o ≡ 0 → ⊥ = λ q. omega arith in
    record { may = if_true _ _ _ e ∙ if_false _ _ _ (ne_eqb o 0 some) ∙ le-leb (o - 1 + n) r m; behind = refl }

-- the four indicators
indicator_0 : (t k n : ℕ) → t ≡ 0 → k ≡ n → 0 ≡ indicator_of t k n
unfolding indicator_of
indicator_0 t k n e h = sym (if_true _ _ _ (eq-eqb k n h) ∙ if_true _ _ _ (eq-eqb t 0 e))

indicator_1 : (t k n : ℕ) → t ≡ 0 → (k ≡ n → ⊥) → 1 ≡ indicator_of t k n
unfolding indicator_of
indicator_1 t k n e h = sym (if_false _ _ _ (ne_eqb k n h) ∙ if_true _ _ _ (eq-eqb t 0 e))

indicator_2 : (t k n : ℕ) → t ≡ 1 → (k ≡ n → ⊥) → 2 ≡ indicator_of t k n
unfolding indicator_of
indicator_2 t k n e h = let one : t ≡ 0 → ⊥ = λ q. omega arith in sym (if_false _ _ _ (ne_eqb k n h) ∙ if_false _ _ _ (ne_eqb t 0 one))

indicator_3 : (t k n : ℕ) → t ≡ 1 → k ≡ n → 3 ≡ indicator_of t k n
unfolding indicator_of
indicator_3 t k n e h = let one : t ≡ 0 → ⊥ = λ q. omega arith in sym (if_true _ _ _ (eq-eqb k n h) ∙ if_false _ _ _ (ne_eqb t 0 one))

-- a record that ends in this block
ends_here : (f r t o k : ℕ) (head : Bool) (x : List ℕ) → Format f → UnitReady f r t o head x → k ≡ length x
    → Turned r o 0 head (indicator_of t k (length x)) k
ends_here f r t o k head x form (fresh z q h) e =
    let most : length x ≤ r = legal_most f r x form h in
    subst (λ (i : ℕ). Turned r o 0 head i k) (indicator_0 t k (length x) z e) (turned_0 r o k head q (omega arith))
ends_here f r t o k head x form (begun z _ s m q) e =
    subst (λ (i : ℕ). Turned r o 0 head i k) (indicator_3 t k (length x) z e) (turned_3 r o k head q s (omega arith))

-- ---- one block

-- what is left, with o open
abbrev pub Open : ℕ → ℕ → ℕ → Left → Type 0
Open f r o finished = o ≡ 0
Open f r o (going t x xs) = UnitReady f r t o true x × (legal_records f r xs ≡ true)

-- a record that goes on in the next block
goes_on : (f r t o k : ℕ) (head : Bool) (x : List ℕ) → Format f → UnitReady f r t o head x → f ≡ 83 → k ≤ length x
    → (k ≡ length x → ⊥)
    → (p : ℕ) × Turned r o p head (indicator_of t k (length x)) k × UnitReady f r 1 p true (drop k x)
goes_on f r t o k head x form (fresh z q h) e m d =
    let most : length x ≤ r = legal_most f r x form h in
    let rest : k + 1 - 1 + length (drop k x) ≤ r = simp length-drop (omega arith) in (
      k + 1,
      subst (λ (i : ℕ). Turned r o (k + 1) head i k) (indicator_1 t k (length x) z d) (turned_1 r o k head q (omega arith)),
      begun refl e (omega arith) rest refl,
    )
goes_on f r t o k head x form (begun z _ s n q) e m d =
    let rest : o + k - 1 + length (drop k x) ≤ r = simp length-drop (omega arith) in (
      o + k,
      subst (λ (i : ℕ). Turned r o (o + k) head i k) (indicator_2 t k (length x) z d) (turned_2 r o k head q s (omega arith)),
      begun refl e (omega arith) rest refl,
    )

pub cut_nothing : (f r : ℕ) → cut f r [] ≡ Some []
cut_nothing f r = cut_end f r [] (no_unit (unit_of f r []) refl) ∙ all
  where
    all : if_b {A = Option (List Segment)} (all_are pad []) (Some []) None ≡ Some []
    all = unfold all_are if_b in refl

    no_unit : (v : Option Unit) → unit_of f r [] ≡ v → unit_of f r [] ≡ None
    no_unit (Some u) e = let c = unit_stands f r [] u.indicator u.word u.len e in absurd (omega arith)
    no_unit None e = e

ready_first : (f r t o : ℕ) (head : Bool) (x : List ℕ) → UnitReady f r t o head x → UnitReady f r t o true x
ready_first f r t o head x (fresh z q h) = fresh z q h
ready_first f r t o head x (begun z e s m q) = begun z e s m refl

-- what the open block still gets is cut to its segments, is within the block length, and stands in its turns
pub record Filled (f b r u o : ℕ) (head : Bool) (c : List ℕ) (l : Left) (g : List Segment) : Type 0 where
  pub cuts : cut f r c ≡ Some g
  pub within : u + length c ≤ b
  pub opens : ℕ
  pub turns : turns_from r o head g ≡ outcome 0 opens
  pub left : Open f r opens l

abbrev pub Fills : ℕ → ℕ → ℕ → UnitSaid
Fills f b r u t x xs c l g =
    (o : ℕ) (head : Bool) → UnitReady f r t o head x → legal_records f r xs ≡ true → u ≤ b → Filled f b r u o head c l g

-- the one segment of a unit that closes the block
cut_one_lem : (f b r u t o : ℕ) (head : Bool) (x : List ℕ) → Format f → UnitReady f r t o head x → enters f b u (length x) ≡ true
    → cut f r (unit_in f b u t x) ≡ Some (segment_in f b u t x ∷ [])
unfolding onto
cut_one_lem f b r u t o head x form ready e =
    ap (cut f r) (sym (append-nil (unit_in f b u t x)))
    ∙ cut_back f b r u t o head x [] form ready e
    ∙ ap (onto (segment_in f b u t x)) (cut_nothing f r)

pub unit_within : (f b u t : ℕ) (x : List ℕ) → enters f b u (length x) ≡ true → u + length (unit_in f b u t x) ≤ b
unit_within f b u t x e = let h = (entered f b u (length x) e).within in omega (arith, length_unit f b u t x e)

fill_full : (f b r u t : ℕ) (x : List ℕ) (xs : List (List ℕ)) → Fills f b r u t x xs [] (going t x xs) []
unfolding turns_from
fill_full f b r u t x xs o head ready legal h =
    record { cuts = cut_nothing f r; within = omega arith; opens = o; turns = refl; left = (ready_first f r t o head x ready, legal) }

fill_broken : (f b r u t : ℕ) (x : List ℕ) (xs : List (List ℕ)) → Format f → enters f b u (length x) ≡ true
    → (taken f b u (length x) ≡ length x → ⊥)
    → Fills f b r u t x xs (unit_in f b u t x) (going 1 (drop (taken f b u (length x)) x) xs) (segment_in f b u t x ∷ [])
unfolding turns_from
fill_broken f b r u t x xs form e d o head ready legal h =
    let n : Entered f b u (length x) = entered f b u (length x) e in
    let (p, q, s) = goes_on f r t o (taken f b u (length x)) head x form ready (n.segmented d) n.most d in
    record {
      cuts = cut_one_lem f b r u t o head x form ready e;
      within = unit_within f b u t x e;
      opens = p;
      turns = turn f b r u t o p head x [] e q.may q.behind;
      left = (s, legal);
    }

fill_last : (f b r u t : ℕ) (x : List ℕ) → Format f → enters f b u (length x) ≡ true → taken f b u (length x) ≡ length x
    → Fills f b r u t x [] (unit_in f b u t x) finished (segment_in f b u t x ∷ [])
unfolding turns_from
fill_last f b r u t x form e k o head ready legal h =
    let q : Turned r o 0 head _ _ = ends_here f r t o (taken f b u (length x)) head x form ready k in
    record {
      cuts = cut_one_lem f b r u t o head x form ready e;
      within = unit_within f b u t x e;
      opens = 0;
      turns = turn f b r u t o 0 head x [] e q.may q.behind;
      left = refl;
    }

pub legal_next : {A : Type 0} (f r : ℕ) (y : List ℕ) (ys : List (List ℕ)) → legal_records f r (y ∷ ys) ≡ true
    → (legal_record f r y ≡ true → legal_records f r ys ≡ true → A) → A
unfolding legal_records
legal_next f r y ys h k = both (legal_record f r y) (legal_records f r ys) k h

fill_more : (f b r u t : ℕ) (x y : List ℕ) (ys : List (List ℕ)) (c : List ℕ) (l : Left) (g : List Segment) → Format f
    → enters f b u (length x) ≡ true → taken f b u (length x) ≡ length x
    → Fills f b r (u + length (unit_in f b u t x)) 0 y ys c l g
    → Fills f b r u t x (y ∷ ys) (unit_in f b u t x ++ c) l (segment_in f b u t x ∷ g)
unfolding onto
fill_more f b r u t x y ys c l g form e k again o head ready legal h =
    legal_next f r y ys legal
    (λ here rest.
    let q : Turned r o 0 head _ _ = ends_here f r t o (taken f b u (length x)) head x form ready k in
    let a : Filled f b r (u + length (unit_in f b u t x)) 0 false c l g = again 0 false (fresh refl refl here) rest (unit_within f b u t x e) in
    let long : u + length (unit_in f b u t x) + length c ≤ b = a.within in
    record {
      cuts = cut_back f b r u t o head x c form ready e ∙ ap (onto (segment_in f b u t x)) a.cuts;
      within = simp length-append (omega arith);
      opens = a.opens;
      turns = turn f b r u t o 0 head x g e q.may q.behind ∙ a.turns;
      left = a.left;
    })

pub fills : (f b r : ℕ) → Format f → Ways f b (Fills f b r)
fills f b r form =
    record {
      full = λ u t x xs e. fill_full f b r u t x xs;
      broken = λ u t x xs e k. fill_broken f b r u t x xs form e k;
      last = λ u t x e k. fill_last f b r u t x form e k;
      more = λ u t x y ys c l g e k again. fill_more f b r u t x y ys c l g form e k again;
    }
