-- What the blocks of an accepted file hold is what its records come to. Assumes nothing.
use Rattle.std.specs.Prelude.{Option, Some, None}
use mathlib.Core.Path.{◌≡◌, refl, sym, ap, ◌∙◌, subst}
use mathlib.Core.Bool.{Bool, true, false}
use mathlib.Core.List.{List, [], ◌∷◌, ◌++◌, map}
use Prim.Native.Nat.{ℕ, zero, suc, ◌+◌, ◌-◌}
use native.Mathlib.Omega.{arith}
use borrow.Author.Tests.{eqb-true, eqb-false}
use lib.Dec.{eqb}
use lib.ListN.{length, drop, length-append}
use Rattle.base.proofs.Ifs.{if_case}
use Rattle.base.specs.Part.{part}
use Rattle.base.specs.Sum.{sum}
use Rattle.image.specs.Item.{decode}
use Rattle.order.specs.declared.Phase.TheVariants.{Data}
use Rattle.block.specs.Unit.{word_of}
use Rattle.block.specs.Cut.{Segment, cut, some_units, units}
use Rattle.block.specs.Turn.{outcome, is_turn, open_after, turns_from, turned, block_outcome}
use Rattle.block.specs.Held.{ends_with, records_ending, segment_bytes, held_in, held_by as held_of}
use Rattle.block.specs.declared.Held.{Held}
use Rattle.block.specs.declared.Outcome.{Outcome}
use Rattle.block.proofs.Helds.{ends_begun, ends_still, ends_one}
use Rattle.volume.specs.Meaning.{on_first, joined}
use Rattle.volume.specs.Step.{segments_of}
use Rattle.reading.proofs.Assembled.{InTurn, starts, follows, in_turn}
use Rattle.content.specs.Section.{data_from, extent}
use Rattle.content.specs.Held.{held_by, held_from}
use Rattle.content.specs.declared.Walk.{Walk}
use Rattle.content.specs.declared.holding.FileHeld.{FileHeld}
use Rattle.content.specs.declared.section.Extent.{Extent}
use Rattle.content.specs.declared.unit.Taken.{Taken}
use Rattle.content.proofs.Cutting.{turns_shut, joined_whole, joined_one, joined_two, open_one, open_two, units_of, units_empty}
use Rattle.content.proofs.Onward.{Hands}
use Rattle.content.proofs.Helds.{held_at}

-- ---- the records that segments in turn are joined to, counted

length_first : (bs : List ℕ) (rs : List (List ℕ)) → (rs ≡ [] → ⊥) → length (on_first bs rs) ≡ length rs
unfolding on_first
length_first bs [] h = absurd (h refl)
length_first bs (r ∷ rs) h = refl

sum_first : (bs : List ℕ) (rs : List (List ℕ)) → sum (map length (on_first bs rs)) ≡ length bs + sum (map length rs)
unfolding on_first sum
sum_first bs [] = refl
sum_first bs (r ∷ rs) = omega (arith, length-append bs r)

joined_bytes : (xs ys : List Segment) → sum (map length (joined (xs ++ ys))) ≡ segment_bytes xs + sum (map length (joined ys))
unfolding joined segment_bytes sum
joined_bytes [] ys = omega arith
joined_bytes (x ∷ xs) ys =
    let again = joined_bytes xs ys in
    let first : sum (map length (on_first x.bytes (joined (xs ++ ys)))) ≡ length x.bytes + segment_bytes xs + sum (map length (joined ys))
    = omega (arith, again, sum_first x.bytes (joined (xs ++ ys))) in
    if_case P (eqb x.indicator 1) (on_first x.bytes (joined (xs ++ ys))) _ (λ _. first)
    (λ _. if_case P (eqb x.indicator 2) (on_first x.bytes (joined (xs ++ ys))) (x.bytes ∷ joined (xs ++ ys)) (λ _. first)
    (λ _. omega (arith, again)))
  where
    P : List (List ℕ) → Type 0
    P rs = sum (map length rs) ≡ length x.bytes + segment_bytes xs + sum (map length (joined ys))

-- a record that is open behind some segments goes on in those that follow
abbrev Goes : ℕ → List Segment → Type 0
Goes q ys = (q ≡ 0 → ⊥) → joined ys ≡ [] → ⊥

-- a segment that leaves its record open is the last of its block
last_open : (r k : ℕ) (x : Segment) (xs ys : List Segment) → (turns_from r (suc k) false xs).number ≡ 0
    → Goes (turns_from r (suc k) false xs).pending ys
    → joined (x ∷ (xs ++ ys)) ≡ on_first x.bytes (joined (xs ++ ys)) → ends_with x.indicator ≡ 0
    → length (joined (x ∷ (xs ++ ys))) ≡ records_ending (x ∷ xs) + length (joined ys)
unfolding records_ending sum
last_open r k x xs ys h g e z =
    let (none', pending) = turns_shut r k xs h in
    let rest : joined (xs ++ ys) ≡ joined ys = ap (λ (zs : List Segment). joined (zs ++ ys)) none' in
    let long : length (on_first x.bytes (joined ys)) ≡ length (joined ys)
    = length_first x.bytes (joined ys) (g (λ n. omega (arith, pending))) in
    let ending : sum (map (λ (y : Segment). ends_with y.indicator) xs) ≡ 0 = ap (λ (zs : List Segment). sum (map (λ (y : Segment). ends_with y.indicator) zs)) none' in
    ap length e ∙ ap (λ (rs : List (List ℕ)). length (on_first x.bytes rs)) rest ∙ long ∙ omega (arith, ending, z)

joined_number : (r : ℕ) (xs ys : List Segment) (q : ℕ) (head : Bool) → (turns_from r q head xs).number ≡ 0
    → Goes (turns_from r q head xs).pending ys
    → length (joined (xs ++ ys)) ≡ records_ending xs + length (joined ys)
unfolding turns_from outcome records_ending sum
joined_number r [] ys q head = λ h g. omega arith
joined_number r (x ∷ xs) ys q head =
    if_case P (is_turn r q head x.indicator (length x.bytes))
    (turns_from r (open_after q x.indicator (length x.bytes)) false xs) (outcome 8 0)
    (λ t. by_one (eqb x.indicator 1) refl (eqb x.indicator 2) refl (in_turn r q head x.indicator (length x.bytes) t)
    (λ h g. joined_number r xs ys (open_after q x.indicator (length x.bytes)) false h g))
    (λ _ z. absurd (eqb-false 8 0 refl z))
  where
    i : ℕ
    i = x.indicator

    n : ℕ
    n = length x.bytes

    P : Outcome → Type 0
    P o =
        o.number ≡ 0 → Goes o.pending ys
        → length (joined (x ∷ (xs ++ ys)))
        ≡ ends_with x.indicator + sum (map (λ (y : Segment). ends_with y.indicator) xs) + length (joined ys)

    open_by : (k : ℕ) → open_after q i n ≡ suc k → joined (x ∷ (xs ++ ys)) ≡ on_first x.bytes (joined (xs ++ ys))
        → ends_with i ≡ 0
        → P (turns_from r (open_after q i n) false xs)
    open_by k e j z = subst (λ (o : ℕ). P (turns_from r o false xs)) (sym e) (λ h g. unfold records_ending sum in last_open r k x xs ys h g j z)

    by_one : (a : Bool) → eqb i 1 ≡ a → (b : Bool) → eqb i 2 ≡ b → InTurn r q i n
        → ((turns_from r (open_after q i n) false xs).number ≡ 0 → Goes (turns_from r (open_after q i n) false xs).pending ys
        → length (joined (xs ++ ys)) ≡ sum (map (λ (y : Segment). ends_with y.indicator) xs) + length (joined ys))
        → P (turns_from r (open_after q i n) false xs)
    by_one true a b d t again = let one = eqb-true i 1 a in open_by n (open_one q i n one) (joined_one x (xs ++ ys) one) (ends_begun i one)
    by_one false a true d (starts p o m) again = let two = eqb-true i 2 d in absurd (omega (arith, two))
    by_one false a true d (follows p o m) again =
        let other = eqb-false i 1 a in
        let two = eqb-true i 2 d in
        let some' : q ≡ suc (q - 1) = omega arith in
        open_by (q - 1 + n) (ap (λ (k : ℕ). open_after k i n) some' ∙ open_two (q - 1) i n other two)
        (joined_two x (xs ++ ys) other two) (ends_still i other two)
    by_one false a false d t again = λ h g.
        let one = eqb-false i 1 a in
        let two = eqb-false i 2 d in
        ap length (joined_whole x (xs ++ ys) one two)
        ∙ omega (arith, again h g, ends_one i one two)

-- ---- the blocks of an accepted file: what they hold is what its records come to

pub record Sums (h : Held) (rs : List (List ℕ)) : Type 0 where
  pub number : h.records ≡ length rs
  pub bytes : h.bytes ≡ sum (map length rs)

-- what is held from the next data block on
abbrev pub next_held : List ℕ → Walk → Option Extent → Held
next_held s w x = (held_by s w.format w.record_length w.offset 0 x (λ i. held_from s w.format w.record_length w.offset i)).held

pub held_next : (s : List ℕ) (w : Walk) (at : ℕ)
    → (held_from s w.format w.record_length w.offset at).held ≡ next_held s w (data_from Data at (decode (drop at s)))
held_next s w at =
    ap (λ (x : FileHeld). x.held) (held_at s w.format w.record_length w.offset at)
    ∙ anywhere (data_from Data at (decode (drop at s)))
  where
    anywhere : (x : Option Extent)
        → (held_by s w.format w.record_length w.offset at x (λ i. held_from s w.format w.record_length w.offset i)).held
        ≡ next_held s w x
    anywhere (Some u) = unfold held_by in refl
    anywhere None = unfold held_by in refl

hands_goes : (s : List ℕ) (r q : ℕ) (t : Option Taken) (ys : List Segment) → Hands s r q t (joined ys) → Goes q ys
hands_goes s r zero t ys h z e = z refl
hands_goes s r (suc k) t ys h z e = subst (Hands s r (suc k) t) e h

held_units : (f r o : ℕ) (l : List ℕ) (x : Segment) (xs : List Segment) → cut f r (drop o l) ≡ Some (x ∷ xs)
    → ((held_in f r o l).records ≡ records_ending (x ∷ xs)) × ((held_in f r o l).bytes ≡ segment_bytes (x ∷ xs))
unfolding held_in held_of some_units
held_units f r o l x xs e =
    let here : held_in f r o l ≡ held_of (word_of f) o (length l) (Some (x ∷ xs)) = ap (λ (c : Option (List Segment)). held_of (word_of f) o (length l) (some_units c)) e in
    (ap (λ (h : Held). h.records) here, ap (λ (h : Held). h.bytes) here)

-- a block, and those behind it
pub block_sums : (s : List ℕ) (w : Walk) (b start n q : ℕ) (ys : List Segment) (t : Option Taken)
    → (block_outcome w.format b w.record_length w.offset q (part start n s)).number ≡ 0
    → Hands s w.record_length (block_outcome w.format b w.record_length w.offset q (part start n s)).pending t (joined ys)
    → Sums (next_held s w (data_from Data (start + n) (decode (drop (start + n) s)))) (joined ys)
    → Sums (next_held s w (extent start n)) (joined (segments_of (units w.format b w.record_length w.offset (part start n s)) ++ ys))
unfolding block_outcome turned segments_of outcome held_by
block_sums s w b start n q ys t = by_units (units w.format b w.record_length w.offset (part start n s)) refl
  where
    l : List ℕ
    l = part start n s

    by_units : (c : Option (List Segment)) → units w.format b w.record_length w.offset l ≡ c
        → (turned w.record_length q true c).number ≡ 0
        → Hands s w.record_length (turned w.record_length q true c).pending t (joined ys)
        → Sums (next_held s w (data_from Data (start + n) (decode (drop (start + n) s)))) (joined ys)
        → Sums (next_held s w (extent start n)) (joined (segments_of c ++ ys))
    by_units None e h k c = absurd (eqb-false 7 0 refl h)
    by_units (Some []) e h k c = absurd (units_empty w.format b w.record_length w.offset l e)
    by_units (Some (x ∷ xs)) e h k c =
        let u = units_of w.format b w.record_length w.offset l x xs e in
        let here = held_units w.format w.record_length w.offset l x xs u.cuts in
        let rest = held_next s w (start + n) in
        let number = joined_number w.record_length (x ∷ xs) ys q true h (hands_goes s w.record_length (turns_from w.record_length q true (x ∷ xs)).pending t ys k) in
        record {
          number = omega (arith, here.0, c.number, ap (λ (y : Held). y.records) rest, number);
          bytes = omega (arith, here.1, c.bytes, ap (λ (y : Held). y.bytes) rest, joined_bytes (x ∷ xs) ys);
        }
