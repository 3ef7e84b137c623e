-- Laws of turns, of the loop over segments, and of the answer on a block. Assumes nothing.
use Rattle.std.specs.Prelude.{Option, Some, None}
use mathlib.Core.Path.{◌≡◌, refl, sym, ap, ◌∙◌}
use mathlib.Core.Bool.{Bool, true, false, not, false≢true}
use mathlib.Core.List.{List, []}
use Prim.Native.Nat.{ℕ, ◌+◌, ◌-◌, ◌≤◌, ◌<◌}
use native.Mathlib.Omega.{arith}
use borrow.Author.Rules.{rules}
use borrow.Author.Tests.{le-leb, lt-leb, leb-true, leb-false, eq-eqb, ne_eqb, eqb-true, not-true, not-false}
use mir.Val.{Fits}
use mir.Syntax.{w64}
use lib.Dec.{leb, eqb}
use lib.ListN.{length, drop, length-drop, drop_of_length-le}
use lib.Seq.{drop-drop}
use Rattle.base.specs.If.{if_b}
use Rattle.base.proofs.Ifs.{if_true, if_false, if_case, if_same}
use Rattle.base.specs.Part.{part, all_are}
use Rattle.base.proofs.Parts.{length_part}
use Rattle.block.specs.Unit.{segment, unit_of}
use Rattle.block.specs.Cut.{Segment, segment_of, onto, cut, some_units, is_cut}
use Rattle.block.specs.Code.Loops.{due_at, Turning}
use Rattle.block.specs.Turn.{outcome, is_turn, open_after, turns_from, turned}
use Rattle.block.specs.declared.Unit.{Unit}
use Rattle.block.specs.declared.Outcome.{Outcome}
use Rattle.block.proofs.Units.{unit_stands}
use Rattle.block.proofs.Cuts.{cut_unit, cut_end}
use Rattle.block.proofs.Lengths.{unit_segment}
use Rattle.block.proofs.Loops.{due_onto, due_later, due_first, cut_onto, some_padding, cut_nothing, cutting_first}

-- ---- one turn

leb_shift : (a n r : ℕ) → n ≤ r → leb a (r - n) ≡ leb (a + n) r
leb_shift a n r h =
    if_case (λ (x : Bool). leb a (r - n) ≡ leb (a + n) r) (leb (a + n) r) true false
    (λ t. let k = leb-true (a + n) r t in le-leb a (r - n) (omega arith) ∙ sym t)
    (λ f. let k = leb-false (a + n) r f in lt-leb a (r - n) (omega arith) ∙ sym f)

pub turn_late : (r o : ℕ) (head : Bool) (i n : ℕ) → i ≤ 1 → (o ≡ 0 → ⊥) → false ≡ is_turn r o head i n
unfolding is_turn
turn_late r o head i n h z = sym (if_true _ _ _ (le-leb i 1 h) ∙ if_false _ _ _ (ne_eqb o 0 z))

pub turn_new : (r o : ℕ) (head : Bool) (i n : ℕ) → i ≤ 1 → o ≡ 0 → leb n r ≡ is_turn r o head i n
unfolding is_turn
turn_new r o head i n h z = sym (if_true _ _ _ (le-leb i 1 h) ∙ if_true _ _ _ (eq-eqb o 0 z))

pub turn_inside : (r o : ℕ) (head : Bool) (i n : ℕ) → 1 < i → not head ≡ true → false ≡ is_turn r o head i n
unfolding is_turn
turn_inside r o head i n h t = sym (if_false _ _ _ (lt-leb i 1 h) ∙ if_false _ _ _ (not-true head t))

pub turn_nothing : (r o : ℕ) (head : Bool) (i n : ℕ) → 1 < i → o ≡ 0 → false ≡ is_turn r o head i n
unfolding is_turn
turn_nothing r o head i n h z =
    sym (if_false _ _ _ (lt-leb i 1 h) ∙ ap (λ (x : Bool). if_b head x false) (if_true _ _ _ (eq-eqb o 0 z)) ∙ if_same head false)

-- what goes on at the head of a block
turn_goes_on : (r o : ℕ) (head : Bool) (i n : ℕ) → 1 < i → not head ≡ false → (o ≡ 0 → ⊥)
    → leb (o - 1 + n) r ≡ is_turn r o head i n
unfolding is_turn
turn_goes_on r o head i n h t z =
    sym (if_false _ _ _ (lt-leb i 1 h) ∙ if_true _ _ _ (not-false head t) ∙ if_false _ _ _ (ne_eqb o 0 z))

pub turn_over : (r o : ℕ) (head : Bool) (i n : ℕ) → 1 < i → not head ≡ false → (o ≡ 0 → ⊥) → r < n → false ≡ is_turn r o head i n
turn_over r o head i n h t z k = sym (lt-leb (o - 1 + n) r (omega arith)) ∙ turn_goes_on r o head i n h t z

pub turn_on : (r o : ℕ) (head : Bool) (i n : ℕ) → 1 < i → not head ≡ false → (o ≡ 0 → ⊥) → n ≤ r
    → leb (o - 1) (r - n) ≡ is_turn r o head i n
turn_on r o head i n h t z k = leb_shift (o - 1) n r k ∙ turn_goes_on r o head i n h t z

pub ruleset turns = (turn_late, turn_new, turn_inside, turn_nothing, turn_over, turn_on, rules)

-- where a segment stands in its turn, the open record with it is at most R
turn_fits : (r o : ℕ) (head : Bool) (i n : ℕ) → is_turn r o head i n ≡ true → o + n ≤ r + 1
unfolding is_turn
turn_fits r o head i n =
    if_case (λ (x : Bool). x ≡ true → o + n ≤ r + 1) (leb i 1) _ _
    (λ a. if_case (λ (x : Bool). x ≡ true → o + n ≤ r + 1) (eqb o 0) _ false
    (λ b q. let z = eqb-true o 0 b in let k = leb-true n r q in omega arith) (λ b q. absurd (false≢true q)))
    (λ a. if_case (λ (x : Bool). x ≡ true → o + n ≤ r + 1) head _ false
    (λ b. if_case (λ (x : Bool). x ≡ true → o + n ≤ r + 1) (eqb o 0) false _
    (λ d q. absurd (false≢true q)) (λ d q. let k = leb-true (o - 1 + n) r q in omega arith))
    (λ b q. absurd (false≢true q)))

-- what is open goes by R, which has 32 bits
pub turn_room : (r o : ℕ) (head : Bool) (i n : ℕ) (p : Bool) → r < 4294967296 → p ≡ is_turn r o head i n → not p ≡ false
    → o + n ≤ 4294967296
turn_room r o head i n p h e y = let k = turn_fits r o head i n (sym e ∙ not-false p y) in omega arith

-- ---- one unit more in front

-- behind a unit out of turn: number 8, or 7 where what is left cannot be cut
abbrev out_of_turn : Bool → Outcome
out_of_turn p = if_b p (outcome 8 0) (outcome 7 0)

turned_onto : (r o : ℕ) (head : Bool) (x : Segment) (c : Option (List Segment))
    → turned r o head (onto x c)
    ≡ if_b (is_turn r o head x.indicator (length x.bytes)) (turned r (open_after o x.indicator (length x.bytes)) false c)
    (out_of_turn (is_cut c))
unfolding turned onto is_cut turns_from
turned_onto r o head x None =
    sym (ap (λ (y : Outcome). if_b (is_turn r o head x.indicator (length x.bytes)) (outcome 7 0) y) (if_false _ _ _ refl)
    ∙ if_same _ _)
turned_onto r o head x (Some xs) =
    ap (λ (y : Outcome). if_b (is_turn r o head x.indicator (length x.bytes))
    (turns_from r (open_after o x.indicator (length x.bytes)) false xs) y)
    (sym (if_true _ _ _ refl))

-- ---- the loop over segments

-- the segment at a place
record Here (r : ℕ) (s : List ℕ) (at : ℕ) (g : Unit) : Type 0 where
  some : 1 ≤ g.word + g.len
  within : at + g.word + g.len ≤ length s
  bytes : length (part g.word g.len (drop at s)) ≡ g.len
  cuts : cut 83 r (drop at s) ≡ onto (segment_of g.indicator (part g.word g.len (drop at s))) (cut 83 r (drop (at + g.word + g.len) s))

here : (r : ℕ) (s : List ℕ) (at : ℕ) (g : Unit) (u : Option Unit) → u ≡ segment (drop at s) → u ≡ Some g → Here r s at g
here r s at g u e q =
    let k : unit_of 83 r (drop at s) ≡ Some g = unit_segment 83 r (drop at s) refl ∙ sym e ∙ q in
    let c = unit_stands 83 r (drop at s) g.indicator g.word g.len k in
    let l = length-drop at s in
    let sum : at + (g.word + g.len) ≡ at + g.word + g.len = omega arith in
    record {
      some = c.some;
      within = omega arith;
      bytes = length_part g.word g.len (drop at s) c.within;
      cuts = cut_unit 83 r (drop at s) g.indicator g.word g.len k
          ∙ ap (λ (t : List ℕ). onto (segment_of g.indicator (part g.word g.len (drop at s))) (cut 83 r t))
          (drop-drop (g.word + g.len) at s ∙ ap (λ (j : ℕ). drop j s) sum);
    }

pub place_fits : (s : List ℕ) (at : ℕ) (g : Unit) (u : Option Unit) → length s < 18446744073709551616 → u ≡ segment (drop at s) → u ≡ Some g
    → Fits w64 (at + g.word + g.len)
place_fits s at g u l e q = let h = here 0 s at g u e q in omega arith

pub word_fits : (s : List ℕ) (at : ℕ) (g : Unit) (u : Option Unit) → length s < 18446744073709551616 → u ≡ segment (drop at s) → u ≡ Some g
    → Fits w64 (at + g.word)
word_fits s at g u l e q = let h = here 0 s at g u e q in omega arith

pub unit_less : (s : List ℕ) (at : ℕ) (g : Unit) (u : Option Unit) → u ≡ segment (drop at s) → u ≡ Some g
    → length s - (at + g.word + g.len) < length s - at
unit_less s at g u e q = let h = here 0 s at g u e q in omega arith

turning_first : (r : ℕ) (s : List ℕ) (q from : ℕ)
    → turned r q (eqb from from) (due_at (eqb from from) (cut 83 r (drop from s)))
    ≡ turned r q true (some_units (cut 83 r (drop from s)))
turning_first r s q from =
    ap (λ (h : Bool). turned r q h (due_at (eqb from from) (cut 83 r (drop from s)))) (eq-eqb from from refl)
    ∙ ap (turned r q true) (due_first from from (cut 83 r (drop from s)) refl)

-- the segment is tested, and what follows it goes on or decides between 7 and 8
turned_here : (r : ℕ) (s : List ℕ) (o : ℕ) (head : Bool) (at : ℕ) (g : Unit) → Here r s at g
    → turned r o head (due_at head (cut 83 r (drop at s)))
    ≡ if_b (is_turn r o head g.indicator g.len) (turned r (open_after o g.indicator g.len) false (cut 83 r (drop (at + g.word + g.len) s)))
    (out_of_turn (is_cut (cut 83 r (drop (at + g.word + g.len) s))))
turned_here r s o head at g h =
    ap (λ (c : Option (List Segment)). turned r o head (due_at head c)) h.cuts
    ∙ ap (turned r o head) (due_onto head (segment_of g.indicator (part g.word g.len (drop at s))) (cut 83 r (drop (at + g.word + g.len) s)))
    ∙ turned_onto r o head (segment_of g.indicator (part g.word g.len (drop at s))) (cut 83 r (drop (at + g.word + g.len) s))
    ∙ ap (λ (k : ℕ). if_b (is_turn r o head g.indicator k) (turned r (open_after o g.indicator k) false (cut 83 r (drop (at + g.word + g.len) s)))
    (out_of_turn (is_cut (cut 83 r (drop (at + g.word + g.len) s))))) h.bytes

cut_here : (r : ℕ) (s : List ℕ) (head : Bool) (at : ℕ) (g : Unit) → Here r s at g
    → is_cut (due_at head (cut 83 r (drop at s))) ≡ is_cut (cut 83 r (drop (at + g.word + g.len) s))
cut_here r s head at g h =
    ap (λ (c : Option (List Segment)). is_cut (due_at head c)) h.cuts
    ∙ ap is_cut (due_onto head (segment_of g.indicator (part g.word g.len (drop at s))) (cut 83 r (drop (at + g.word + g.len) s)))
    ∙ cut_onto (segment_of g.indicator (part g.word g.len (drop at s))) (cut 83 r (drop (at + g.word + g.len) s))

pub turning_more : (r : ℕ) (s : List ℕ) (q from o at : ℕ) (g : Unit) (u : Option Unit) (p : Bool) (o' : ℕ) → Turning r s q from o at
    → u ≡ segment (drop at s) → u ≡ Some g → p ≡ is_turn r o (eqb at from) g.indicator g.len → not p ≡ false → o' ≡ open_after o g.indicator g.len
    → Turning r s q from o' (at + g.word + g.len)
turning_more r s q from o at g u p o' c e k t y m =
    let h = here r s at g u e k in
    let a = c.past in
    let b = h.some in
    let far : at + g.word + g.len ≡ from → ⊥ = λ x. omega arith in
    record {
      room = c.room;
      past = omega arith;
      cuts =
          ap is_cut (due_later (at + g.word + g.len) from (cut 83 r (drop (at + g.word + g.len) s)) far)
          ∙ sym (cut_here r s (eqb at from) at g h) ∙ c.cuts;
      left =
          ap (λ (x : Bool). turned r o' x (due_at (eqb (at + g.word + g.len) from) (cut 83 r (drop (at + g.word + g.len) s))))
          (ne_eqb (at + g.word + g.len) from far)
          ∙ ap (turned r o' false) (due_later (at + g.word + g.len) from (cut 83 r (drop (at + g.word + g.len) s)) far)
          ∙ ap (λ (j : ℕ). turned r j false (cut 83 r (drop (at + g.word + g.len) s))) m
          ∙ sym (turned_here r s o (eqb at from) at g h ∙ if_true _ _ _ (sym t ∙ not-false p y))
          ∙ c.left;
    }

turning_wrong : (r : ℕ) (s : List ℕ) (q from o at : ℕ) (g : Unit) (u : Option Unit) (p z : Bool) → Turning r s q from o at
    → u ≡ segment (drop at s) → u ≡ Some g → p ≡ is_turn r o (eqb at from) g.indicator g.len → not p ≡ true
    → z ≡ is_cut (some_units (cut 83 r (drop from s)))
    → out_of_turn z ≡ turned r q true (some_units (cut 83 r (drop from s)))
turning_wrong r s q from o at g u p z c e k t y m =
    let h = here r s at g u e k in
    ap out_of_turn (m ∙ sym c.cuts ∙ cut_here r s (eqb at from) at g h)
    ∙ sym (turned_here r s o (eqb at from) at g h ∙ if_false _ _ _ (sym t ∙ not-true p y))
    ∙ c.left

pub turning_8 : (r : ℕ) (s : List ℕ) (q from o at : ℕ) (g : Unit) (u : Option Unit) (p z : Bool) → Turning r s q from o at
    → u ≡ segment (drop at s) → u ≡ Some g → p ≡ is_turn r o (eqb at from) g.indicator g.len → not p ≡ true
    → z ≡ is_cut (some_units (cut 83 r (drop from s))) → z ≡ true
    → outcome 8 0 ≡ turned r q true (some_units (cut 83 r (drop from s)))
turning_8 r s q from o at g u p z c e k t y m h =
    sym (if_true _ _ _ h) ∙ turning_wrong r s q from o at g u p z c e k t y m

pub turning_7 : (r : ℕ) (s : List ℕ) (q from o at : ℕ) (g : Unit) (u : Option Unit) (p z : Bool) → Turning r s q from o at
    → u ≡ segment (drop at s) → u ≡ Some g → p ≡ is_turn r o (eqb at from) g.indicator g.len → not p ≡ true
    → z ≡ is_cut (some_units (cut 83 r (drop from s))) → z ≡ false
    → outcome 7 0 ≡ turned r q true (some_units (cut 83 r (drop from s)))
turning_7 r s q from o at g u p z c e k t y m h =
    sym (if_false _ _ _ h) ∙ turning_wrong r s q from o at g u p z c e k t y m

-- no segment stands there
over : (r : ℕ) (s : List ℕ) (at : ℕ) (u : Option Unit) → u ≡ segment (drop at s) → u ≡ None
    → cut 83 r (drop at s) ≡ if_b (all_are 94 (drop at s)) (Some []) None
over r s at u e k = cut_end 83 r (drop at s) (unit_segment 83 r (drop at s) refl ∙ sym e ∙ k)

turned_none : (r o : ℕ) (head : Bool) → turned r o head None ≡ outcome 7 0
unfolding turned
turned_none r o head = refl

turned_done : (r o : ℕ) (head : Bool) → turned r o head (Some []) ≡ outcome 0 o
unfolding turned turns_from
turned_done r o head = refl

pub turning_none : (r : ℕ) (s : List ℕ) (q from o at : ℕ) (u : Option Unit) → Turning r s q from o at → u ≡ segment (drop at s)
    → u ≡ None → at ≡ from
    → outcome 7 0 ≡ turned r q true (some_units (cut 83 r (drop from s)))
turning_none r s q from o at u c e k h =
    sym (ap (turned r o (eqb at from))
    (due_first at from (cut 83 r (drop at s)) h ∙ ap some_units (over r s at u e k) ∙ some_padding (all_are 94 (drop at s)))
    ∙ turned_none r o (eqb at from))
    ∙ c.left

-- what is left is padding, or is not
turning_left : (r : ℕ) (s : List ℕ) (q from o at : ℕ) (u : Option Unit) (p : Bool) → Turning r s q from o at → u ≡ segment (drop at s)
    → u ≡ None → (at ≡ from → ⊥)
    → p ≡ all_are 94 (drop at s)
    → turned r o (eqb at from) (if_b p (Some []) None) ≡ turned r q true (some_units (cut 83 r (drop from s)))
turning_left r s q from o at u p c e k h a =
    ap (λ (b : Bool). turned r o (eqb at from) (if_b b (Some []) None)) a
    ∙ sym (ap (turned r o (eqb at from)) (due_later at from (cut 83 r (drop at s)) h ∙ over r s at u e k))
    ∙ c.left

pub turning_over : (r : ℕ) (s : List ℕ) (q from o at : ℕ) (u : Option Unit) (p : Bool) → Turning r s q from o at
    → u ≡ segment (drop at s) → u ≡ None → (at ≡ from → ⊥)
    → p ≡ all_are 94 (drop at s) → p ≡ true → outcome 0 o ≡ turned r q true (some_units (cut 83 r (drop from s)))
turning_over r s q from o at u p c e k h a t =
    sym (ap (turned r o (eqb at from)) (if_true _ _ _ t) ∙ turned_done r o (eqb at from))
    ∙ turning_left r s q from o at u p c e k h a

pub turning_stuck : (r : ℕ) (s : List ℕ) (q from o at : ℕ) (u : Option Unit) (p : Bool) → Turning r s q from o at
    → u ≡ segment (drop at s) → u ≡ None → (at ≡ from → ⊥)
    → p ≡ all_are 94 (drop at s) → p ≡ false → outcome 7 0 ≡ turned r q true (some_units (cut 83 r (drop from s)))
turning_stuck r s q from o at u p c e k h a t =
    sym (ap (turned r o (eqb at from)) (if_false _ _ _ t) ∙ turned_none r o (eqb at from))
    ∙ turning_left r s q from o at u p c e k h a

-- begun at a place with q open, the walk is there
pub turning_begun : (r : ℕ) (s : List ℕ) (q from : ℕ) → length s < 18446744073709551616 → Turning r s q from q from
turning_begun r s q from l =
    record { room = l; past = omega arith; cuts = cutting_first 83 r s from; left = turning_first r s q from }

-- behind a first segment that stands in its turn
pub turning_second : (r : ℕ) (s : List ℕ) (q from : ℕ) (g : Unit) (u : Option Unit) (p : Bool) (o : ℕ) → length s < 18446744073709551616
    → u ≡ segment (drop from s) → u ≡ Some g → p ≡ is_turn r q true g.indicator g.len → p ≡ true → o ≡ open_after q g.indicator g.len
    → Turning r s q from o (from + g.word + g.len)
turning_second r s q from g u p o l e k t y m =
    turning_more r s q from q from g u p o (turning_begun r s q from l) e k
    (t ∙ ap (λ (h : Bool). is_turn r q h g.indicator g.len) (sym (eq-eqb from from refl))) (ap not y) m

pub second_room : (r o i n : ℕ) (p : Bool) → r < 4294967296 → p ≡ is_turn r o true i n → p ≡ true → o + n ≤ 4294967296
second_room r o i n p h e y = turn_room r o true i n p h e (ap not y)

-- nothing is left
pub turning_last : (r : ℕ) (s : List ℕ) (q from o : ℕ) (g : Unit) (u : Option Unit) → Turning r s q from o (from + g.word + g.len)
    → u ≡ segment (drop from s) → u ≡ Some g
    → length s ≤ from + g.word + g.len → outcome 0 o ≡ turned r q true (some_units (cut 83 r (drop from s)))
turning_last r s q from o g u c e k h =
    let long = (here r s from g u e k).some in
    let at : ℕ = from + g.word + g.len in
    let far : at ≡ from → ⊥ = λ x. omega arith in
    let none_left : cut 83 r (drop at s) ≡ Some [] = ap (cut 83 r) (drop_of_length-le s h) ∙ cut_nothing 83 r in
    sym (ap (turned r o (eqb at from)) (due_later at from (cut 83 r (drop at s)) far ∙ none_left) ∙ turned_done r o (eqb at from))
    ∙ c.left

-- no segment stands first
pub turning_empty : (r : ℕ) (s : List ℕ) (q from : ℕ) (u : Option Unit) → length s < 18446744073709551616 → u ≡ segment (drop from s)
    → u ≡ None
    → outcome 7 0 ≡ turned r q true (some_units (cut 83 r (drop from s)))
turning_empty r s q from u l e k = turning_none r s q from q from u (turning_begun r s q from l) e k refl

-- an answer that a call gave
pub so_outcome : (x y z : Outcome) → x ≡ y → y ≡ z → x ≡ z
so_outcome x y z e h = e ∙ h

pub ruleset turnings =
    (turning_more, turning_8, turning_7, turning_none, turning_over, turning_stuck, turn_room, place_fits, word_fits, unit_less, so_outcome, rules)
