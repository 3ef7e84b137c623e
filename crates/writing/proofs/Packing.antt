-- The packing of a file: the numbers of a unit, one induction over the records of a block for whatever is said of it, and the
-- equation of `blocks_left` without the number that it counts down. Assumes nothing.
use mathlib.Core.Path.{◌≡◌, refl, sym, ap, ◌∙◌, subst}
use mathlib.Core.Bool.{Bool, true, false}
use mathlib.Core.List.{List, [], ◌∷◌, ◌++◌}
use Prim.Native.Nat.{ℕ, zero, suc, ◌+◌, ◌-◌, ◌≤◌, ◌<◌, min}
use native.Mathlib.Omega.{arith}
use borrow.Author.Tests.{eqb-true, eqb-false, eq-eqb, leb-true, le-leb}
use lib.Dec.{eqb, leb}
use lib.ListN.{length, take, drop, length-drop}
use Rattle.base.specs.If.{if_b}
use Rattle.base.proofs.Ifs.{if_true, if_false}
use Rattle.block.specs.Cut.{Segment, segment_of}
use Rattle.block.specs.Unit.{word_of}
use Rattle.block.proofs.Wholes.{word_segmented}
use Rattle.writing.specs.Pack.{Left, finished, going, unit_in, fill, after, weights, weight, blocks_f, blocks_left}
use Rattle.block.specs.Room.{enters, taken, indicator_of}
use Rattle.writing.specs.Code.Room.{RoomEach, RoomEachLeft}

-- a proof by the two values of a test
pub by_test {ℓ} : {A : Type ℓ} (t : Bool) → (t ≡ true → A) → (t ≡ false → A) → A
by_test true f g = f refl
by_test false f g = g refl

-- ---- the numbers of a unit

enters_s : (f b u n : ℕ) → f ≡ 83 → enters f b u n ≡ leb (u + 5 + min 1 n) b
unfolding enters
enters_s f b u n e = if_true _ _ _ (eq-eqb f 83 e)

pub enters_whole : (f b u n : ℕ) → eqb f 83 ≡ false → enters f b u n ≡ leb (u + word_of f + n) b
unfolding enters
enters_whole f b u n e = if_false _ _ _ e

taken_s : (f b u n : ℕ) → f ≡ 83 → taken f b u n ≡ min n (min (b - u - 5) 9994)
unfolding taken
taken_s f b u n e = if_true _ _ _ (eq-eqb f 83 e)

pub taken_whole : (f b u n : ℕ) → eqb f 83 ≡ false → taken f b u n ≡ n
unfolding taken
taken_whole f b u n e = if_false _ _ _ e

-- a unit that enters a block with u bytes used, of a record of which n bytes remain
pub record Entered (f b u n : ℕ) : Type 0 where
  pub within : u + (word_of f + taken f b u n) ≤ b
  pub most : taken f b u n ≤ n
  pub some : (taken f b u n ≡ n → ⊥) → 1 ≤ taken f b u n
  pub segmented : (taken f b u n ≡ n → ⊥) → f ≡ 83
  pub room : (taken f b u n ≡ n → ⊥) → 6 ≤ b
  pub short : f ≡ 83 → taken f b u n ≤ 9994

segment_within : (b u n k w : ℕ) → w ≡ 5 → k ≡ min n (min (b - u - 5) 9994) → u + 5 + min 1 n ≤ b → u + (w + k) ≤ b
segment_within b u n k w a e h = omega arith

segment_some : (b u n k : ℕ) → k ≡ min n (min (b - u - 5) 9994) → u + 5 + min 1 n ≤ b → (k ≡ n → ⊥) → 1 ≤ k
segment_some b u n k e h d = omega arith

segment_room : (b u n k : ℕ) → k ≡ min n (min (b - u - 5) 9994) → u + 5 + min 1 n ≤ b → (k ≡ n → ⊥) → 6 ≤ b
segment_room b u n k e h d = omega arith

-- what it means that a record enters a block
pub entered : (f b u n : ℕ) → enters f b u n ≡ true → Entered f b u n
entered f b u n h = by_test (eqb f 83) segmented whole
  where
    segmented : eqb f 83 ≡ true → Entered f b u n
    segmented s =
        let e : f ≡ 83 = eqb-true f 83 s in
        let w : word_of f ≡ 5 = word_segmented f e in
        let k : taken f b u n ≡ min n (min (b - u - 5) 9994) = taken_s f b u n e in
        let i : u + 5 + min 1 n ≤ b = leb-true _ _ (sym (enters_s f b u n e) ∙ h) in
        record {
          within = segment_within b u n _ _ w k i;
          most = omega arith;
          some = segment_some b u n _ k i;
          segmented = λ _. e;
          room = segment_room b u n _ k i;
          short = λ _. omega arith;
        }

    whole : eqb f 83 ≡ false → Entered f b u n
    whole s =
        let k : taken f b u n ≡ n = taken_whole f b u n s in
        let i : u + word_of f + n ≤ b = leb-true _ _ (sym (enters_whole f b u n s) ∙ h) in
        record {
          within = omega arith;
          most = omega arith;
          some = λ d. absurd (d k);
          segmented = λ d. absurd (d k);
          room = λ d. absurd (d k);
          short = λ e. absurd (eqb-false f 83 s e);
        }

-- with six bytes or more every segment enters an empty block
pub segment_enters : (f b n : ℕ) → f ≡ 83 → 6 ≤ b → enters f b 0 n ≡ true
segment_enters f b n e h = enters_s f b 0 n e ∙ le-leb (0 + 5 + min 1 n) b (omega arith)

pub whole_enters : (f b n : ℕ) → eqb f 83 ≡ false → word_of f + n ≤ b → enters f b 0 n ≡ true
whole_enters f b n e h = enters_whole f b 0 n e ∙ le-leb (0 + word_of f + n) b (omega arith)

-- ---- the records of a block

-- the segment that x, or what remains of it, puts into a block with u bytes used
unfoldable pub segment_in : ℕ → ℕ → ℕ → ℕ → List ℕ → Segment
segment_in f b u t x = segment_of (indicator_of t (taken f b u (length x)) (length x)) (take (taken f b u (length x)) x)

-- the segments that the open block, with u bytes used, still gets
unfoldable pub segments_from : ℕ → ℕ → ℕ → ℕ → List ℕ → List (List ℕ) → List Segment
segments_from f b u t x [] = if_b (enters f b u (length x)) (segment_in f b u t x ∷ []) []
segments_from f b u t x (y ∷ ys) =
    if_b (enters f b u (length x))
    (if_b (eqb (taken f b u (length x)) (length x)) (segment_in f b u t x ∷ segments_from f b (u + length (unit_in f b u t x)) 0 y ys)
    (segment_in f b u t x ∷ []))
    []

-- what is said of the bytes that the open block still gets, of what is left behind it, and of its segments
abbrev pub UnitSaid : Type 1
UnitSaid = ℕ → ℕ → List ℕ → List (List ℕ) → List ℕ → Left → List Segment → Type 0

-- the four ways: the record does not enter; its segment closes the block; it was the last; the next record follows
pub record Ways (f b : ℕ) (P : UnitSaid) : Type 0 where
  pub full : (u t : ℕ) (x : List ℕ) (xs : List (List ℕ)) → enters f b u (length x) ≡ false → P u t x xs [] (going t x xs) []
  pub broken : (u t : ℕ) (x : List ℕ) (xs : List (List ℕ)) → enters f b u (length x) ≡ true
      → (taken f b u (length x) ≡ length x → ⊥)
      → P u t x xs (unit_in f b u t x) (going 1 (drop (taken f b u (length x)) x) xs) (segment_in f b u t x ∷ [])
  pub last : (u t : ℕ) (x : List ℕ) → enters f b u (length x) ≡ true → taken f b u (length x) ≡ length x
      → P u t x [] (unit_in f b u t x) finished (segment_in f b u t x ∷ [])
  pub more : (u t : ℕ) (x y : List ℕ) (ys : List (List ℕ)) (c : List ℕ) (l : Left) (g : List Segment)
      → enters f b u (length x) ≡ true → taken f b u (length x) ≡ length x
      → P (u + length (unit_in f b u t x)) 0 y ys c l g → P u t x (y ∷ ys) (unit_in f b u t x ++ c) l (segment_in f b u t x ∷ g)

-- three equations carry what is said over
over : (P : UnitSaid) (u t : ℕ) (x : List ℕ) (xs : List (List ℕ)) {c d : List ℕ} {l m : Left} {g h : List Segment}
    → c ≡ d → l ≡ m → g ≡ h → P u t x xs d m h → P u t x xs c l g
over P u t x xs {c} {d} {l} {m} {g} {h} p q r z =
    subst (λ (e : List ℕ). P u t x xs e l g) (sym p)
    (subst (λ (e : Left). P u t x xs d e g) (sym q) (subst (P u t x xs d m) (sym r) z))

pub by_ways : (f b : ℕ) (P : UnitSaid) → Ways f b P → (u t : ℕ) (x : List ℕ) (xs : List (List ℕ))
    → P u t x xs (fill f b u t x xs) (after f b u t x xs) (segments_from f b u t x xs)
unfolding fill after segments_from
by_ways f b P w u t x [] =
    by_test (enters f b u (length x))
    (λ e. by_test (eqb (taken f b u (length x)) (length x))
    (λ k. over P u t x [] (if_true _ _ _ e) (if_true _ _ _ e ∙ if_true _ _ _ k) (if_true _ _ _ e)
    (w.last u t x e (eqb-true _ _ k)))
    (λ k. over P u t x [] (if_true _ _ _ e) (if_true _ _ _ e ∙ if_false _ _ _ k) (if_true _ _ _ e)
    (w.broken u t x [] e (eqb-false _ _ k))))
    (λ e. over P u t x [] (if_false _ _ _ e) (if_false _ _ _ e) (if_false _ _ _ e) (w.full u t x [] e))
by_ways f b P w u t x (y ∷ ys) =
    by_test (enters f b u (length x))
    (λ e. by_test (eqb (taken f b u (length x)) (length x))
    (λ k. over P u t x (y ∷ ys) (if_true _ _ _ e ∙ if_true _ _ _ k) (if_true _ _ _ e ∙ if_true _ _ _ k)
    (if_true _ _ _ e ∙ if_true _ _ _ k)
    (w.more u t x y ys _ _ _ e (eqb-true _ _ k) (by_ways f b P w (u + length (unit_in f b u t x)) 0 y ys)))
    (λ k. over P u t x (y ∷ ys) (if_true _ _ _ e ∙ if_false _ _ _ k) (if_true _ _ _ e ∙ if_false _ _ _ k)
    (if_true _ _ _ e ∙ if_false _ _ _ k)
    (w.broken u t x (y ∷ ys) e (eqb-false _ _ k))))
    (λ e. over P u t x (y ∷ ys) (if_false _ _ _ e) (if_false _ _ _ e) (if_false _ _ _ e) (w.full u t x (y ∷ ys) e))

-- ---- the weight falls

-- less is left behind a block that a unit enters, and it has room again
abbrev Lighter : ℕ → ℕ → UnitSaid
Lighter f b u t x xs c l g =
    (weight l ≤ weights (x ∷ xs)) × (enters f b u (length x) ≡ true → weight l < weights (x ∷ xs))
    × (RoomEach f b (x ∷ xs) → RoomEachLeft f b l)

lighter : (f b : ℕ) → Ways f b (Lighter f b)
unfolding weight weights
lighter f b =
    record {
      full = λ u t x xs e. (omega arith, (λ h. absurd (mathlib.Core.Bool.false≢true (sym e ∙ h))), (λ r. r));
      broken = λ u t x xs e k.
          let n : Entered f b u (length x) = entered f b u (length x) e in
          let some : 1 ≤ taken f b u (length x) = n.some k in
          let most : taken f b u (length x) ≤ length x = n.most in
          let less : length (drop (taken f b u (length x)) x) < length x = simp length-drop (omega arith) in
          (omega arith, (λ _. omega arith), (λ r. (segment_enters f b _ (n.segmented k) (n.room k), r.1)));
      last = λ u t x e k. (omega arith, (λ _. omega arith), (λ r. tt));
      more = λ u t x y ys c l g e k (w, s, r). (omega arith, (λ _. omega arith), (λ q. r q.1));
    }

pub after_lighter : (f b t : ℕ) (x : List ℕ) (xs : List (List ℕ)) → RoomEach f b (x ∷ xs)
    → weight (after f b 0 t x xs) < weights (x ∷ xs)
after_lighter f b t x xs r = (by_ways f b (Lighter f b) (lighter f b) 0 t x xs).1 r.0

pub after_room : (f b t : ℕ) (x : List ℕ) (xs : List (List ℕ)) → RoomEach f b (x ∷ xs) → RoomEachLeft f b (after f b 0 t x xs)
after_room f b t x xs = (by_ways f b (Lighter f b) (lighter f b) 0 t x xs).2

-- ---- the equations of `blocks_left`

-- any number that is large enough gives the same blocks
enough : (k j f b : ℕ) (l : Left) → RoomEachLeft f b l → weight l ≤ k → weight l ≤ j → blocks_f k f b l ≡ blocks_f j f b l
unfolding blocks_f weight weights
enough zero zero f b l r h m = refl
enough zero (suc j) f b finished r h m = refl
enough zero (suc j) f b (going t x xs) r h m = absurd (omega arith)
enough (suc k) zero f b finished r h m = refl
enough (suc k) zero f b (going t x xs) r h m = absurd (omega arith)
enough (suc k) (suc j) f b finished r h m = refl
enough (suc k) (suc j) f b (going t x xs) r h m =
    let less : weight (after f b 0 t x xs) < weights (x ∷ xs) = after_lighter f b t x xs r in
    ap (λ (l : List (List ℕ)). fill f b 0 t x xs ∷ l)
    (enough k j f b (after f b 0 t x xs) (after_room f b t x xs r) (omega arith) (omega arith))

-- the blocks of what is left: one that is filled, and those behind it
pub blocks_going : (f b t : ℕ) (x : List ℕ) (xs : List (List ℕ)) → RoomEach f b (x ∷ xs)
    → blocks_left f b (going t x xs) ≡ fill f b 0 t x xs ∷ blocks_left f b (after f b 0 t x xs)
unfolding blocks_left blocks_f weight weights
blocks_going f b t x xs r =
    let less : weight (after f b 0 t x xs) < weights (x ∷ xs) = after_lighter f b t x xs r in
    let one : suc (length x) + weights xs ≡ suc (length x + weights xs) = omega arith in
    ap (λ (k : ℕ). blocks_f k f b (going t x xs)) one
    ∙ ap (λ (l : List (List ℕ)). fill f b 0 t x xs ∷ l)
    (enough (length x + weights xs) (weight (after f b 0 t x xs)) f b (after f b 0 t x xs) (after_room f b t x xs r) (omega arith)
    (omega arith))
