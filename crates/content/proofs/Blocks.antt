-- The records of a whole block, with a record open or not: what is handed out behind it, carried backwards to its first byte.
-- Assumes nothing.
use Rattle.std.specs.Prelude.{Option, Some, None}
use mathlib.Core.Path.{◌≡◌, refl, sym, ap, ap₂, ◌∙◌, subst}
use mathlib.Core.Bool.{Bool, true, false}
use mathlib.Core.List.{List, [], ◌∷◌, ◌++◌}
use Prim.Native.Nat.{ℕ, zero, suc, ◌+◌, ◌-◌, ◌≤◌}
use native.Mathlib.Omega.{arith}
use borrow.Author.Tests.{le-leb, eq-eqb, ne_eqb, eqb-true, eqb-false}
use lib.Dec.{leb, eqb}
use lib.ListN.{length, take, drop}
use lib.Seq.{drop-drop}
use Rattle.base.proofs.Ifs.{if_true, if_false, if_case}
use Rattle.base.specs.Part.{part, all_are}
use Rattle.base.proofs.Parts.{length_part, drop_take}
use Rattle.image.specs.Item.{decode}
use Rattle.order.specs.declared.Phase.TheVariants.{Data}
use Rattle.block.specs.Unit.{unit_of, pad, one_unit}
use Rattle.block.specs.Cut.{Segment, segment_of, cut, units}
use Rattle.block.specs.Turn.{outcome, is_turn, open_after, turns_from, turned, block_outcome}
use Rattle.block.specs.declared.Unit.{Unit}
use Rattle.block.specs.declared.Outcome.{Outcome}
use Rattle.block.proofs.Units.{unit_stands}
use Rattle.volume.specs.Meaning.{on_first, joined}
use Rattle.volume.specs.Step.{segments_of}
use Rattle.reading.proofs.Assembled.{InTurn, starts, follows, in_turn}
use Rattle.content.specs.Section.{data_from, extent}
use Rattle.content.specs.Walk.{moved, left_of, taken, unit_here, opened, unit_in, Rest, ends, before, rest_by, rest_at, Record, begun_by, taken_at}
use Rattle.content.specs.Walked.{handed, Walks}
use Rattle.content.specs.declared.Walk.{Walk}
use Rattle.content.specs.declared.unit.Taken.{Taken}
use Rattle.content.proofs.Units.{unit_at, inside_is}
use Rattle.content.proofs.Measures.{Readable}
use Rattle.content.proofs.Cutting.{CutOne, CutEnd, cut_one_lem, cut_over, turns_shut, joined_whole, joined_two, open_whole, open_two, units_of, units_empty}
use Rattle.content.proofs.Onward.{Gives, RestIs, Hands, walks_by, gives_by, behind, good_behind, left_behind, next_of, opened_lengths, next_behind, record_one, record_next, unit_bytes, unit_long, rest_next, Handing, rest_walks}

-- ---- a whole block, with a record open or not

-- the rest of a record ends with this segment
ends_hands : (s : List ℕ) (v : Walk) (i c n j o : ℕ) (xs ys : List Segment) → Readable s v
    → unit_of v.format v.record_length (left_of s v) ≡ one_unit i c n → i ≡ 3
    → j + n ≤ v.record_length → Handing s (behind v c n) 0 false xs (next_of s v) ys → o ≡ 0
    → (turns_from v.record_length o false xs).number ≡ 0
    → Hands s v.record_length (turns_from v.record_length o false xs).pending (next_of s v) (joined ys)
    → Hands s v.record_length (suc j) (taken_at i (v.at + c) n (behind v c n)) (joined (segment_of i (part c n (left_of s v)) ∷ (xs ++ ys)))
unfolding rest_by
ends_hands s v i c n j o xs ys g e z m again w h k =
    subst (RestIs s (rest_by s (v.record_length - j) (taken_at i (v.at + c) n (behind v c n)) (λ a b. rest_at s a b)))
    (sym (joined_whole (segment_of i (part c n (left_of s v))) (xs ++ ys) (λ y. omega arith) (λ y. omega arith))) (
      behind v c n,
      if_true _ _ _ (le-leb n (v.record_length - j) (omega arith)) ∙ if_true _ _ _ (eq-eqb i 3 z)
          ∙ ap (λ (bs : List ℕ). ends bs (behind v c n)) (unit_bytes s v i c n e),
      again (subst (λ (a : ℕ). (turns_from v.record_length a false xs).number ≡ 0) w h)
          (subst (λ (a : ℕ). Hands s v.record_length (turns_from v.record_length a false xs).pending (next_of s v) (joined ys)) w k),
    )

before_ends : (bs cs : List ℕ) (x : Rest) (u : Walk) → x ≡ ends cs u → before bs x ≡ ends (bs ++ cs) u
unfolding before
before_ends bs cs x u e = ap (before bs) e

-- it goes on in the next block
on_hands : (s : List ℕ) (v : Walk) (i c n j : ℕ) (rs : List (List ℕ)) → Readable s v
    → unit_of v.format v.record_length (left_of s v) ≡ one_unit i c n → i ≡ 2
    → j + n ≤ v.record_length → CutEnd v.format v.record_length (drop (c + n) (left_of s v))
    → Hands s v.record_length (suc (j + n)) (next_of s v) rs
    → Hands s v.record_length (suc j) (taken_at i (v.at + c) n (behind v c n)) (on_first (part c n (left_of s v)) rs)
unfolding rest_by on_first
on_hands s v i c n j [] g e z m k h = absurd h
on_hands s v i c n j (r ∷ rs) g e z m k (u, q, h) =
    let less : v.record_length - j - n ≡ v.record_length - (j + n) = omega arith in (
      u,
      if_true _ _ _ (le-leb n (v.record_length - j) (omega arith)) ∙ if_false _ _ _ (ne_eqb i 3 (λ y. omega arith))
          ∙ if_true _ _ _ (eq-eqb i 2 z)
          ∙ ap₂ (λ (bs : List ℕ) (a : ℕ). before bs (rest_at s a (behind v c n))) (unit_bytes s v i c n e) less
          ∙ before_ends (part c n (left_of s v)) r (rest_at s (v.record_length - (j + n)) (behind v c n)) u
          (rest_next s v i c n (v.record_length - (j + n)) e k ∙ q),
      h,
    )

after_two : (s : List ℕ) (v : Walk) (i c n j o : ℕ) (xs ys : List Segment) → Readable s v
    → unit_of v.format v.record_length (left_of s v) ≡ one_unit i c n → i ≡ 2
    → j + n ≤ v.record_length → cut v.format v.record_length (drop (c + n) (left_of s v)) ≡ Some xs → o ≡ suc (j + n)
    → (turns_from v.record_length o false xs).number ≡ 0
    → Hands s v.record_length (turns_from v.record_length o false xs).pending (next_of s v) (joined ys)
    → Hands s v.record_length (suc j) (taken_at i (v.at + c) n (behind v c n)) (joined (segment_of i (part c n (left_of s v)) ∷ (xs ++ ys)))
after_two s v i c n j o xs ys g e z m rest w h k =
    let shut = turns_shut v.record_length (j + n) xs (subst (λ (a : ℕ). (turns_from v.record_length a false xs).number ≡ 0) w h) in
    let over : CutEnd v.format v.record_length (drop (c + n) (left_of s v)) = cut_over _ _ _ (rest ∙ ap Some shut.0) in
    subst (Hands s v.record_length (suc j) (taken_at i (v.at + c) n (behind v c n)))
    (sym (joined_two (segment_of i (part c n (left_of s v))) (xs ++ ys) (λ y. omega arith) z
    ∙ ap (λ (l : List Segment). on_first (part c n (left_of s v)) (joined (l ++ ys))) shut.0))
    (on_hands s v i c n j (joined ys) g e z m over
    (subst (λ (a : ℕ). Hands s v.record_length a (next_of s v) (joined ys))
    (ap (λ (a : ℕ). (turns_from v.record_length a false xs).pending) w ∙ shut.1) k))

-- the first segment of a block, with a record open
first_hands : (s : List ℕ) (v : Walk) (i c n j : ℕ) (xs ys : List Segment) → Readable s v
    → unit_of v.format v.record_length (left_of s v) ≡ one_unit i c n
    → cut v.format v.record_length (drop (c + n) (left_of s v)) ≡ Some xs
    → Handing s (behind v c n) 0 false xs (next_of s v) ys
    → (turns_from v.record_length (suc j) true (segment_of i (part c n (left_of s v)) ∷ xs)).number ≡ 0
    → Hands s v.record_length (turns_from v.record_length (suc j) true (segment_of i (part c n (left_of s v)) ∷ xs)).pending (next_of s v)
    (joined ys)
    → Hands s v.record_length (suc j) (taken_at i (v.at + c) n (behind v c n)) (joined (segment_of i (part c n (left_of s v)) ∷ (xs ++ ys)))
unfolding turns_from outcome
first_hands s v i c n j xs ys g e rest again =
    if_case P (is_turn v.record_length (suc j) true i (length bytes)) (turns_from v.record_length (open_after (suc j) i (length bytes)) false xs)
    (outcome 8 0)
    (λ t. by_turn (in_turn v.record_length (suc j) true i (length bytes) t)) (λ _ q. absurd (eqb-false 8 0 refl q))
  where
    bytes : List ℕ
    bytes = part c n (left_of s v)

    long : length bytes ≡ n
    long = unit_long s v i c n e

    most : i ≤ 3
    most = (unit_stands v.format v.record_length (left_of s v) i c n e).indicator

    P : Outcome → Type 0
    P o = o.number ≡ 0 → Hands s v.record_length o.pending (next_of s v) (joined ys)
        → Hands s v.record_length (suc j) (taken_at i (v.at + c) n (behind v c n)) (joined (segment_of i bytes ∷ (xs ++ ys)))

    by_two : (b : Bool) → eqb i 2 ≡ b → 2 ≤ i → suc j - 1 + length bytes ≤ v.record_length
        → P (turns_from v.record_length (open_after (suc j) i (length bytes)) false xs)
    by_two true a p m =
        let two : i ≡ 2 = eqb-true i 2 a in
        let sum : suc (j + length bytes) ≡ suc (j + n) = omega (arith, long) in
        after_two s v i c n j (open_after (suc j) i (length bytes)) xs ys g e two (omega (arith, long)) rest
        (open_two j i (length bytes) (λ y. omega arith) two ∙ sum)
    by_two false a p m =
        let other : i ≡ 2 → ⊥ = eqb-false i 2 a in
        ends_hands s v i c n j (open_after (suc j) i (length bytes)) xs ys g e (omega (arith, most)) (omega (arith, long)) again
        (open_whole (suc j) i (length bytes) (λ y. omega arith) other)

    by_turn : InTurn v.record_length (suc j) i (length bytes)
        → P (turns_from v.record_length (open_after (suc j) i (length bytes)) false xs)
    by_turn (starts p q m) = absurd (omega arith)
    by_turn (follows p q m) = by_two (eqb i 2) refl p m

-- the units of a block from its first on, with q open
units_hands : (s : List ℕ) (v : Walk) (q : ℕ) (x : Segment) (xs ys : List Segment) → Readable s v
    → cut v.format v.record_length (left_of s v) ≡ Some (x ∷ xs)
    → (turns_from v.record_length q true (x ∷ xs)).number ≡ 0
    → Hands s v.record_length (turns_from v.record_length q true (x ∷ xs)).pending (next_of s v) (joined ys)
    → Hands s v.record_length q (unit_here s v) (joined ((x ∷ xs) ++ ys))
unfolding unit_here taken
units_hands s v q x xs ys g h = by_open q
  where
    k : CutOne v.format v.record_length (left_of s v) x xs
    k = cut_one_lem v.format v.record_length (left_of s v) x xs h

    t : Option Taken
    t = taken_at k.i (v.at + k.c) k.n (behind v k.c k.n)

    here : taken v (unit_of v.format v.record_length (left_of s v)) ≡ t
    here = ap (taken v) k.unit

    again : Handing s (behind v k.c k.n) 0 false xs (next_of s v) ys
    again =
        subst (λ (a : Option Taken). Handing s (behind v k.c k.n) 0 false xs a ys)
        (next_behind s v k.c k.n (unit_at s v k.i k.c k.n k.unit).left)
        (rest_walks s xs (behind v k.c k.n) false ys (good_behind s v k.i k.c k.n g k.unit)
        (ap (cut v.format v.record_length) (left_behind s v k.c k.n) ∙ k.rest))

    by_open : (o : ℕ) → (turns_from v.record_length o true (x ∷ xs)).number ≡ 0
        → Hands s v.record_length (turns_from v.record_length o true (x ∷ xs)).pending (next_of s v) (joined ys)
        → Hands s v.record_length o (taken v (unit_of v.format v.record_length (left_of s v))) (joined ((x ∷ xs) ++ ys))
    by_open zero a b =
        subst (λ (y : Record). Gives s (handed s y) (joined ((x ∷ xs) ++ ys)))
        (record_one s v k.i k.c k.n g k.unit ∙ ap (begun_by s v.record_length) (sym here))
        (gives_by s v (joined ((x ∷ xs) ++ ys)) (rest_walks s (x ∷ xs) v true ys g h a b))
    by_open (suc j) a b =
        subst (λ (y : Option Taken). Hands s v.record_length (suc j) y (joined ((x ∷ xs) ++ ys))) (sym here)
        (subst (λ (y : Segment).
        (turns_from v.record_length (suc j) true (y ∷ xs)).number ≡ 0
        → Hands s v.record_length (turns_from v.record_length (suc j) true (y ∷ xs)).pending (next_of s v) (joined ys)
        → Hands s v.record_length (suc j) t (joined (y ∷ (xs ++ ys)))) k.is
        (first_hands s v k.i k.c k.n j xs ys g k.unit k.rest again) a b)

-- ---- the block at a place of the image

-- what is handed out before a block of n bytes at place `start`, from what is handed out behind it
pub block_hands : (s : List ℕ) (w : Walk) (b start n q : ℕ) (ys : List Segment) → (w.record_length ≡ 0 → ⊥)
    → start + n ≤ length s
    → (block_outcome w.format b w.record_length w.offset q (part start n s)).number ≡ 0
    → Hands s w.record_length (block_outcome w.format b w.record_length w.offset q (part start n s)).pending
    (unit_in s (opened w (data_from Data (start + n) (decode (drop (start + n) s))))) (joined ys)
    → Hands s w.record_length q (unit_in s (opened w (extent start n)))
    (joined (segments_of (units w.format b w.record_length w.offset (part start n s)) ++ ys))
unfolding block_outcome turned segments_of unit_in opened outcome
block_hands s w b start n q ys some' inside = by_units (units w.format b w.record_length w.offset (part start n s)) refl
  where
    l : List ℕ
    l = part start n s

    long : length l ≡ n
    long = length_part start n s inside

    by_units : (c : Option (List Segment)) → units w.format b w.record_length w.offset l ≡ c
        → (turned w.record_length q true c).number ≡ 0
        → Hands s w.record_length (turned w.record_length q true c).pending
        (unit_in s (opened w (data_from Data (start + n) (decode (drop (start + n) s))))) (joined ys)
        → Hands s w.record_length q (unit_in s (opened w (extent start n))) (joined (segments_of c ++ ys))
    by_units None e h k = absurd (eqb-false 7 0 refl h)
    by_units (Some []) e h k = absurd (units_empty w.format b w.record_length w.offset l e)
    by_units (Some (x ∷ xs)) e h k =
        let u = units_of w.format b w.record_length w.offset l x xs e in
        let fits : w.offset ≤ n = omega (arith, u.long, long) in
        let v : Walk = moved w (start + w.offset) (n - w.offset) in
        let place : start + w.offset + (n - w.offset) ≡ start + n = omega arith in
        let left : left_of s v ≡ drop w.offset l = left_of_lem fits in
        let good : Readable s v = record { some = some'; inside = inside_is s v (omega (arith, place)) } in
        let next : unit_in s (opened w (data_from Data (start + n) (decode (drop (start + n) s)))) ≡ next_of s v
        = ap (λ (m : ℕ). unit_in s (opened w (data_from Data m (decode (drop m s))))) (sym place)
        ∙ ap (unit_in s) (opened_lengths w v (data_from Data (v.at + v.left) (decode (drop (v.at + v.left) s))) refl refl refl) in
        subst (λ (p : Option Walk). Hands s w.record_length q (unit_in s p) (joined ((x ∷ xs) ++ ys)))
        (sym (if_true (leb w.offset n) (Some v) None (le-leb w.offset n fits)))
        (units_hands s v q x xs ys good (ap (cut w.format w.record_length) left ∙ u.cuts) h
        (subst (λ (t : Option Taken). Hands s w.record_length (turns_from w.record_length q true (x ∷ xs)).pending t (joined ys)) next k))
      where
        left_of_lem : w.offset ≤ n → left_of s (moved w (start + w.offset) (n - w.offset)) ≡ drop w.offset l
        left_of_lem h = unfold left_of part in sym (drop_take w.offset n (drop start s) ∙ ap (take (n - w.offset)) (drop-drop w.offset start s))

-- ---- a walk between two blocks

no_unit : (f r : ℕ) (l : List ℕ) → length l ≡ 0 → unit_of f r l ≡ None
no_unit f r l z = by_unit (unit_of f r l) refl
  where
    by_unit : (u : Option Unit) → unit_of f r l ≡ u → unit_of f r l ≡ None
    by_unit (Some u) e = let k = unit_stands f r l u.indicator u.word u.len e in absurd (omega (arith, k.some, k.within))
    by_unit None e = e

nothing_left : (s : List ℕ) (v : Walk) → v.left ≡ 0 → left_of s v ≡ []
unfolding left_of part
nothing_left s v z = ap (λ (n : ℕ). take n (drop v.at s)) z

pub next_walks : (s : List ℕ) (v : Walk) (rs : List (List ℕ)) → (v.record_length ≡ 0 → ⊥) → v.left ≡ 0 → v.at ≤ length s
    → Hands s v.record_length 0 (unit_in s (opened v (data_from Data v.at (decode (drop v.at s))))) rs → Walks s v rs
unfolding all_are
next_walks s v rs some' z h k =
    let g : Readable s v = record { some = some'; inside = inside_is s v (omega arith) } in
    let none' : left_of s v ≡ [] = nothing_left s v z in
    let place : v.at ≡ v.at + v.left = omega arith in
    walks_by s v rs
    (subst (λ (x : Record). Gives s (handed s x) rs)
    (ap (λ (m : ℕ). begun_by s v.record_length (unit_in s (opened v (data_from Data m (decode (drop m s)))))) place
    ∙ sym (record_next s v g (no_unit v.format v.record_length (left_of s v) (ap length none')) (ap (all_are pad) none'))) k)
