-- The records from a place inside a block on, with none open: what is handed out behind the block is carried backwards over its
-- segments. Assumes nothing.
use Rattle.std.specs.Prelude.{Some, Option, None}
use mathlib.Core.Path.{◌≡◌, refl, sym, ap, ◌∙◌, subst}
use mathlib.Core.Bool.{Bool, true, false}
use mathlib.Core.List.{List, [], ◌∷◌, ◌++◌}
use Prim.Native.Nat.{ℕ, zero, suc, ◌+◌, ◌-◌, ◌≤◌}
use native.Mathlib.Omega.{arith}
use borrow.Author.Tests.{le-leb, eq-eqb, ne_eqb, eqb-true, eqb-false}
use lib.Dec.{leb, eqb}
use lib.ListN.{length, take, drop}
use lib.Seq.{drop-drop}
use Rattle.base.specs.If.{if_b}
use Rattle.base.proofs.Ifs.{if_true, if_false, if_case}
use Rattle.base.specs.Part.{part, all_are}
use Rattle.base.proofs.Parts.{length_part, part_part, drop_take}
use Rattle.image.specs.Item.{decode}
use Rattle.order.specs.declared.Phase.TheVariants.{Data}
use Rattle.block.specs.Unit.{unit_of, pad, one_unit}
use Rattle.block.specs.Cut.{Segment, segment_of, cut}
use Rattle.block.specs.Turn.{outcome, is_turn, open_after, turns_from}
use Rattle.block.specs.declared.Unit.{Unit}
use Rattle.block.specs.declared.Outcome.{Outcome}
use Rattle.block.proofs.Units.{unit_stands}
use Rattle.volume.specs.Meaning.{on_first, joined}
use Rattle.reading.proofs.Assembled.{InTurn, starts, follows, in_turn}
use Rattle.content.specs.Section.{data_from}
use Rattle.content.specs.Walk.{moved, left_of, taken, unit_here, opened, block_next, unit_in, unit_next, or_next, unit_from, Rest, ends, fails, rest_by, rest_at, Record, split_by, begun_by, record_at, taken_at}
use Rattle.content.specs.Code.Heads.{Inside}
use Rattle.content.specs.Walked.{handed, Walks}
use Rattle.content.specs.declared.Walk.{Walk}
use Rattle.content.specs.declared.section.Extent.{Extent}
use Rattle.content.specs.declared.unit.Taken.{Taken}
use Rattle.content.proofs.Units.{unit_at, inside_true, inside_is}
use Rattle.content.proofs.Rests.{rest_at_lem}
use Rattle.content.proofs.Measures.{Readable, record_begun}
use Rattle.content.proofs.Cutting.{CutEnd, cut_one_lem, cut_over, turns_shut, joined_whole, joined_one, open_whole, open_one}

-- ---- what is handed out from a unit on

-- a record and those behind it, or none
abbrev pub Gives : List ℕ → Rest → List (List ℕ) → Type 0
Gives s x [] = x ≡ fails
Gives s x (r ∷ rs) = (v : Walk) × (x ≡ ends r v) × Walks s v rs

-- the rest of a record and those behind it
abbrev pub RestIs : List ℕ → Rest → List (List ℕ) → Type 0
RestIs s x [] = ⊥
RestIs s x (r ∷ rs) = (v : Walk) × (x ≡ ends r v) × Walks s v rs

-- with the unit t next, in a file of record length r, and q open: 0, or one more than the bytes of the open record
abbrev pub Hands : List ℕ → ℕ → ℕ → Option Taken → List (List ℕ) → Type 0
Hands s r zero t rs = Gives s (handed s (begun_by s r t)) rs
Hands s r (suc k) t rs = RestIs s (rest_by s (r - k) t (λ m v. rest_at s m v)) rs

pub walks_by : (s : List ℕ) (w : Walk) (rs : List (List ℕ)) → Gives s (handed s (record_at s w)) rs → Walks s w rs
walks_by s w [] h = h
walks_by s w (r ∷ rs) h = h

pub gives_by : (s : List ℕ) (w : Walk) (rs : List (List ℕ)) → Walks s w rs → Gives s (handed s (record_at s w)) rs
gives_by s w [] h = h
gives_by s w (r ∷ rs) h = h

-- ---- the walk behind a unit of its block

abbrev pub behind : Walk → ℕ → ℕ → Walk
behind v c n = moved v (v.at + c + n) (v.left - (c + n))

good_in : (s : List ℕ) (w : Walk) → Readable s w → Inside s w
good_in s w g = inside_true s w true (sym g.inside) refl

pub good_behind : (s : List ℕ) (v : Walk) (i c n : ℕ) → Readable s v
    → unit_of v.format v.record_length (left_of s v) ≡ one_unit i c n
    → Readable s (behind v c n)
good_behind s v i c n g e =
    let k = unit_at s v i c n e in
    let a = k.left in
    let b = k.within in
    let in' = good_in s v g in
    record { some = g.some; inside = inside_is s (behind v c n) (omega arith) }

pub left_behind : (s : List ℕ) (v : Walk) (c n : ℕ) → left_of s (behind v c n) ≡ drop (c + n) (left_of s v)
unfolding left_of part
left_behind s v c n =
    let sum : v.at + (c + n) ≡ v.at + c + n = omega arith in
    sym (drop_take (c + n) v.left (drop v.at s)
    ∙ ap (take (v.left - (c + n))) (drop-drop (c + n) v.at s ∙ ap (λ (k : ℕ). drop k s) sum))

-- the first unit behind the block
abbrev pub next_of : List ℕ → Walk → Option Taken
next_of s v = unit_in s (opened v (data_from Data (v.at + v.left) (decode (drop (v.at + v.left) s))))

pub opened_lengths : (v w : Walk) (e : Option Extent) → v.format ≡ w.format → v.record_length ≡ w.record_length
    → v.offset ≡ w.offset
    → opened v e ≡ opened w e
unfolding opened
opened_lengths v w (Some u) f r o =
    λ i. if_b (leb (o i) u.len) (Some (record { format = f i; record_length = r i; offset = o i; at = u.start + o i; left = u.len - o i })) None
opened_lengths v w None f r o = refl

pub next_behind : (s : List ℕ) (v : Walk) (c n : ℕ) → c + n ≤ v.left → next_of s (behind v c n) ≡ next_of s v
next_behind s v c n h =
    let sum : v.at + c + n + (v.left - (c + n)) ≡ v.at + v.left = omega arith in
    ap (λ (m : ℕ). unit_in s (opened (behind v c n) (data_from Data m (decode (drop m s))))) sum
    ∙ ap (unit_in s) (opened_lengths (behind v c n) v
    (data_from Data (v.at + v.left) (decode (drop (v.at + v.left) s))) refl refl refl)

next_padding : (s : List ℕ) (v : Walk) → all_are pad (left_of s v) ≡ true → unit_next s v ≡ next_of s v
unfolding unit_next block_next
next_padding s v h = ap (unit_in s) (if_true _ _ _ h)

-- the record at a place where a unit stands, and where none does
pub record_one : (s : List ℕ) (v : Walk) (i c n : ℕ) → Readable s v
    → unit_of v.format v.record_length (left_of s v) ≡ one_unit i c n
    → record_at s v ≡ begun_by s v.record_length (taken_at i (v.at + c) n (behind v c n))
unfolding unit_from unit_here or_next taken
record_one s v i c n g e =
    record_begun s v (unit_from s v) g refl
    ∙ ap (λ (u : Option Unit). begun_by s v.record_length (or_next (taken v u) (unit_next s v))) e

pub record_next : (s : List ℕ) (v : Walk) → Readable s v → unit_of v.format v.record_length (left_of s v) ≡ None
    → all_are pad (left_of s v) ≡ true
    → record_at s v ≡ begun_by s v.record_length (next_of s v)
unfolding unit_from unit_here or_next taken
record_next s v g e h =
    record_begun s v (unit_from s v) g refl
    ∙ ap (λ (u : Option Unit). begun_by s v.record_length (or_next (taken v u) (unit_next s v))) e
    ∙ ap (begun_by s v.record_length) (next_padding s v h)

-- ---- records from a place inside a block on, with none open

-- the bytes of a unit, in the image and in what is left of the block
pub unit_bytes : (s : List ℕ) (v : Walk) (i c n : ℕ) → unit_of v.format v.record_length (left_of s v) ≡ one_unit i c n
    → part (v.at + c) n s ≡ part c n (left_of s v)
unfolding left_of
unit_bytes s v i c n e = sym (part_part v.at c n v.left s (unit_at s v i c n e).left)

pub unit_long : (s : List ℕ) (v : Walk) (i c n : ℕ) → unit_of v.format v.record_length (left_of s v) ≡ one_unit i c n
    → length (part c n (left_of s v)) ≡ n
unit_long s v i c n e = length_part c n (left_of s v) (unit_stands v.format v.record_length (left_of s v) i c n e).within

-- a whole record, and those behind it
whole_walks : (s : List ℕ) (v : Walk) (i c n : ℕ) (rs : List (List ℕ)) → Readable s v
    → unit_of v.format v.record_length (left_of s v) ≡ one_unit i c n → i ≡ 0 → n ≤ v.record_length
    → Walks s (behind v c n) rs → Walks s v (part c n (left_of s v) ∷ rs)
unfolding begun_by handed
whole_walks s v i c n rs g e z m h = (
  behind v c n,
  ap (handed s) (record_one s v i c n g e ∙ if_true _ _ _ (le-leb n v.record_length m) ∙ if_true _ _ _ (eq-eqb i 0 z))
      ∙ ap (λ (bs : List ℕ). ends bs (behind v c n)) (unit_bytes s v i c n e),
  h,
)

handed_split : (s bs cs : List ℕ) (x : Rest) (v : Walk) → x ≡ ends cs v → handed s (split_by bs x) ≡ ends (bs ++ cs) v
unfolding handed split_by
handed_split s bs cs x v e = ap (λ (y : Rest). handed s (split_by bs y)) e

-- behind a segment that leaves a record open, the next unit is that of the next block
pub rest_next : (s : List ℕ) (v : Walk) (i c n room : ℕ) → unit_of v.format v.record_length (left_of s v) ≡ one_unit i c n
    → CutEnd v.format v.record_length (drop (c + n) (left_of s v))
    → rest_at s room (behind v c n) ≡ rest_by s room (next_of s v) (λ m u. rest_at s m u)
rest_next s v i c n room e k =
    rest_at_lem s room (behind v c n)
    ∙ ap (λ (t : Option Taken). rest_by s room t (λ m u. rest_at s m u))
    (next_padding s (behind v c n) (ap (all_are pad) (left_behind s v c n) ∙ k.padding)
    ∙ next_behind s v c n (unit_at s v i c n e).left)

-- a record that begins, and goes on in the next block
split_walks : (s : List ℕ) (v : Walk) (i c n : ℕ) (rs : List (List ℕ)) → Readable s v
    → unit_of v.format v.record_length (left_of s v) ≡ one_unit i c n → i ≡ 1 → n ≤ v.record_length
    → CutEnd v.format v.record_length (drop (c + n) (left_of s v)) → Hands s v.record_length (suc n) (next_of s v) rs
    → Walks s v (on_first (part c n (left_of s v)) rs)
unfolding begun_by on_first
split_walks s v i c n [] g e z m k h = absurd h
split_walks s v i c n (r ∷ rs) g e z m k (u, q, h) = (
  u,
  ap (handed s)
      (record_one s v i c n g e ∙ if_true _ _ _ (le-leb n v.record_length m) ∙ if_false _ _ _ (ne_eqb i 0 (λ y. omega arith))
      ∙ if_true _ _ _ (eq-eqb i 1 z)
      ∙ ap (λ (bs : List ℕ). split_by bs (rest_at s (v.record_length - n) (behind v c n))) (unit_bytes s v i c n e))
      ∙ handed_split s (part c n (left_of s v)) r (rest_at s (v.record_length - n) (behind v c n)) u
      (rest_next s v i c n (v.record_length - n) e k ∙ q),
  h,
)

-- what is handed out from the segments xs on, of which the first stands where v does, with none open and t next behind the block
abbrev pub Handing : List ℕ → Walk → ℕ → Bool → List Segment → Option Taken → List Segment → Type 0
Handing s v o head xs t ys =
    (turns_from v.record_length o head xs).number ≡ 0 → Hands s v.record_length (turns_from v.record_length o head xs).pending t (joined ys)
    → Walks s v (joined (xs ++ ys))

-- behind a whole record
after_whole : (s : List ℕ) (v : Walk) (i c n o : ℕ) (xs ys : List Segment) → Readable s v
    → unit_of v.format v.record_length (left_of s v) ≡ one_unit i c n → i ≡ 0 → n ≤ v.record_length
    → Handing s (behind v c n) 0 false xs (next_of s v) ys → o ≡ 0 → (turns_from v.record_length o false xs).number ≡ 0
    → Hands s v.record_length (turns_from v.record_length o false xs).pending (next_of s v) (joined ys)
    → Walks s v (joined (segment_of i (part c n (left_of s v)) ∷ (xs ++ ys)))
after_whole s v i c n o xs ys g e z m again w h k =
    subst (Walks s v) (sym (joined_whole (segment_of i (part c n (left_of s v))) (xs ++ ys) (λ y. omega arith) (λ y. omega arith)))
    (whole_walks s v i c n (joined (xs ++ ys)) g e z m
    (again (subst (λ (j : ℕ). (turns_from v.record_length j false xs).number ≡ 0) w h)
    (subst (λ (j : ℕ). Hands s v.record_length (turns_from v.record_length j false xs).pending (next_of s v) (joined ys)) w k)))

-- behind a segment that begins a record
after_one : (s : List ℕ) (v : Walk) (i c n o : ℕ) (xs ys : List Segment) → Readable s v
    → unit_of v.format v.record_length (left_of s v) ≡ one_unit i c n → i ≡ 1 → n ≤ v.record_length
    → cut v.format v.record_length (drop (c + n) (left_of s v)) ≡ Some xs → o ≡ suc n
    → (turns_from v.record_length o false xs).number ≡ 0
    → Hands s v.record_length (turns_from v.record_length o false xs).pending (next_of s v) (joined ys)
    → Walks s v (joined (segment_of i (part c n (left_of s v)) ∷ (xs ++ ys)))
after_one s v i c n o xs ys g e z m rest w h k =
    let shut = turns_shut v.record_length n xs (subst (λ (j : ℕ). (turns_from v.record_length j false xs).number ≡ 0) w h) in
    let over : CutEnd v.format v.record_length (drop (c + n) (left_of s v)) = cut_over _ _ _ (rest ∙ ap Some shut.0) in
    subst (Walks s v)
    (sym (joined_one (segment_of i (part c n (left_of s v))) (xs ++ ys) z
    ∙ ap (λ (l : List Segment). on_first (part c n (left_of s v)) (joined (l ++ ys))) shut.0))
    (split_walks s v i c n (joined ys) g e z m over
    (subst (λ (j : ℕ). Hands s v.record_length j (next_of s v) (joined ys))
    (ap (λ (j : ℕ). (turns_from v.record_length j false xs).pending) w ∙ shut.1) k))

-- a segment before others, with none open
segment_walks : (s : List ℕ) (v : Walk) (i c n : ℕ) (head : Bool) (xs ys : List Segment) → Readable s v
    → unit_of v.format v.record_length (left_of s v) ≡ one_unit i c n
    → cut v.format v.record_length (drop (c + n) (left_of s v)) ≡ Some xs
    → Handing s (behind v c n) 0 false xs (next_of s v) ys
    → Handing s v 0 head (segment_of i (part c n (left_of s v)) ∷ xs) (next_of s v) ys
unfolding turns_from outcome
segment_walks s v i c n head xs ys g e rest again =
    if_case P (is_turn v.record_length 0 head i (length bytes)) (turns_from v.record_length (open_after 0 i (length bytes)) false xs)
    (outcome 8 0)
    (λ t. by_turn (in_turn v.record_length 0 head i (length bytes) t)) (λ _ q. absurd (eqb-false 8 0 refl q))
  where
    bytes : List ℕ
    bytes = part c n (left_of s v)

    long : length bytes ≡ n
    long = unit_long s v i c n e

    P : Outcome → Type 0
    P o =
        o.number ≡ 0 → Hands s v.record_length o.pending (next_of s v) (joined ys)
        → Walks s v (joined (segment_of i bytes ∷ (xs ++ ys)))

    by_one : (b : Bool) → eqb i 1 ≡ b → i ≤ 1 → length bytes ≤ v.record_length
        → P (turns_from v.record_length (open_after 0 i (length bytes)) false xs)
    by_one true a p m =
        after_one s v i c n (open_after 0 i (length bytes)) xs ys g e (eqb-true i 1 a) (omega (arith, long)) rest
        (open_one 0 i (length bytes) (eqb-true i 1 a) ∙ ap suc long)
    by_one false a p m =
        let other : i ≡ 1 → ⊥ = eqb-false i 1 a in
        after_whole s v i c n (open_after 0 i (length bytes)) xs ys g e (omega arith) (omega (arith, long)) again
        (open_whole 0 i (length bytes) other (λ y. omega arith))

    by_turn : InTurn v.record_length 0 i (length bytes)
        → P (turns_from v.record_length (open_after 0 i (length bytes)) false xs)
    by_turn (starts p q m) = by_one (eqb i 1) refl p m
    by_turn (follows p q m) = absurd (omega arith)

-- all that is left of a block
pub rest_walks : (s : List ℕ) (xs : List Segment) (v : Walk) (head : Bool) (ys : List Segment) → Readable s v
    → cut v.format v.record_length (left_of s v) ≡ Some xs
    → Handing s v 0 head xs (next_of s v) ys
unfolding turns_from outcome
rest_walks s [] v head ys g h = λ _ k.
    let c = cut_over v.format v.record_length (left_of s v) h in
    walks_by s v (joined ys)
    (subst (λ (x : Record). Gives s (handed s x) (joined ys)) (sym (record_next s v g c.unit c.padding)) k)
rest_walks s (x ∷ xs) v head ys g h =
    let k = cut_one_lem v.format v.record_length (left_of s v) x xs h in
    let here = k.unit in
    let rest = k.rest in
    subst (λ (y : Segment). Handing s v 0 head (y ∷ xs) (next_of s v) ys) k.is
    (segment_walks s v k.i k.c k.n head xs ys g here rest
    (subst (λ (t : Option Taken). Handing s (behind v k.c k.n) 0 false xs t ys)
    (next_behind s v k.c k.n (unit_at s v k.i k.c k.n here).left)
    (rest_walks s xs (behind v k.c k.n) false ys (good_behind s v k.i k.c k.n g here)
    (ap (cut v.format v.record_length) (left_behind s v k.c k.n) ∙ rest))))
