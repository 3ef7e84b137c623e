-- The records that the segments of accepted blocks make are legal ones. Assumes nothing.
-- A segment is fair where what its format asks of it holds: every unit that a block is cut into is. What is owed behind a
-- segment, with a record open or not, is carried backwards over the segments.
use Rattle.std.specs.Prelude.{Option, Some, None}
use mathlib.Core.Path.{◌≡◌, refl, sym, ap, ◌∙◌, subst}
use mathlib.Core.Bool.{Bool, true, false, not, false≢true}
use mathlib.Core.List.{List, [], ◌∷◌, ◌++◌}
use Prim.Native.Nat.{ℕ, zero, suc, ◌+◌, ◌*◌, ◌-◌, ◌^◌, ◌≤◌, ◌<◌}
use native.Mathlib.Nat.{pow-le-pow_right}
use native.Mathlib.Numerals.{add-one}
use native.Mathlib.Omega.{arith}
use borrow.Author.Tests.{eq-eqb, le-leb, leb-true, leb-false, eqb-true, eqb-false}
use lib.Dec.{leb, eqb}
use lib.ListN.{length, take, drop, get_or, length-append, length-take}
use lib.Seq.{length-take-le}
use Rattle.base.specs.If.{if_b}
use Rattle.base.proofs.Ifs.{if_true, if_false, if_case}
use Rattle.base.specs.Part.{part, all_are}
use Rattle.base.specs.Digits.{is_digit, all_digits, value}
use Rattle.base.proofs.Parts.{length_part}
use Rattle.charset.specs.Number.{number_in}
use Rattle.charset.proofs.Digits.{digit_high}
use Rattle.charset.proofs.Numbers.{power_more}
use Rattle.block.specs.Unit.{pad, fixed, measured, variable, segment, unit_of, one_unit}
use Rattle.block.specs.Cut.{Segment, segment_of, onto, cut_one, cut_f, cut, some_units, units}
use Rattle.block.specs.Turn.{outcome, is_turn, open_after, turns_from, turned}
use Rattle.block.specs.declared.Unit.{Unit}
use Rattle.block.specs.declared.Outcome.{Outcome}
use Rattle.block.proofs.Units.{IfAny}
use Rattle.volume.specs.Meaning.{on_first, joined}
use Rattle.volume.specs.Step.{segments_of}
use Rattle.reading.specs.Legal.{legal_record, legal_records}

-- ---- a legal record, format by format

legal_f : (r : ℕ) (x : List ℕ) → length x ≡ r → all_are 94 x ≡ false → legal_record 70 r x ≡ true
unfolding legal_record
legal_f r x h p = if_true _ _ _ refl ∙ (if_true _ _ _ (eq-eqb (length x) r h) ∙ ap not p)

legal_d : (r : ℕ) (x : List ℕ) → length x + 4 ≤ r → length x + 4 ≤ 9999 → legal_record 68 r x ≡ true
unfolding legal_record
legal_d r x h p =
    if_false _ _ _ refl ∙ (if_true _ _ _ refl ∙ (if_true _ _ _ (le-leb (length x + 4) r h) ∙ le-leb (length x + 4) 9999 p))

legal_s : (r : ℕ) (x : List ℕ) → length x ≤ r → legal_record 83 r x ≡ true
unfolding legal_record
legal_s r x h = if_false _ _ _ refl ∙ (if_false _ _ _ refl ∙ le-leb (length x) r h)

-- ---- the number of a control word

value_below : (s : List ℕ) (n i : ℕ) → all_digits s ≡ true → n < 10 ^ i → value n s < 10 ^ (i + length s)
unfolding all_digits value
value_below [] n i h k = let e : i + 0 ≡ i = omega arith in rw e k
value_below (x ∷ s) n i h k =
    if_case (λ (b : Bool). b ≡ true → value (n * 10 + (x - 48)) s < 10 ^ (i + suc (length s))) (is_digit x) (all_digits s) false
    (λ d q.
    let high : x ≤ 57 = digit_high x d in
    let e : i + suc (length s) ≡ i + 1 + length s = omega arith in
    rw e (value_below s (n * 10 + (x - 48)) (i + 1) q (power_more n (x - 48) i k (omega arith))))
    (λ _ q. absurd (false≢true q)) h

-- four digits say at most 9,999
four_digits : (s : List ℕ) (n : ℕ) → length s ≤ 4 → number_in s ≡ Some n → n ≤ 9999
unfolding number_in
four_digits s n h =
    if_case (λ (m : Option ℕ). m ≡ Some n → n ≤ 9999) (leb (length s) 9) (if_b (all_digits s) (Some (value 0 s)) None) None
    (λ _. if_case (λ (m : Option ℕ). m ≡ Some n → n ≤ 9999) (all_digits s) (Some (value 0 s)) None
    (λ d e.
    let same : value 0 s ≡ n = cc in
    let one : 0 < 10 ^ 0 = omega arith in
    let below : value 0 s < 10 ^ (0 + length s) = value_below s 0 0 d one in
    let ten : 0 < 10 = omega arith in
    let most : 10 ^ (0 + length s) ≤ 10 ^ 4 = pow-le-pow_right ten {j = 4} (omega arith) in
    omega arith) (λ _. wrong))
    (λ _. wrong)
  where
    wrong : None ≡ Some n → n ≤ 9999
    wrong e = let z : ◌≡◌ {A = ℕ} 0 1 = cc in omega arith

-- ---- fair segments

pub record Fair (f r : ℕ) (x : Segment) : Type 0 where
  -- only in S does a segment go on
  pub whole : (f ≡ 83 → ⊥) → x.indicator ≡ 0
  -- a whole record is legal, where it is at most R bytes
  pub sized : length x.bytes ≤ r → x.indicator ≡ 0 → legal_record f r x.bytes ≡ true

abbrev pub EachFair : ℕ → ℕ → List Segment → Type 0
EachFair f r [] = Prim.Unit {0}
EachFair f r (x ∷ xs) = Fair f r x × EachFair f r xs

abbrev pub Fairs : ℕ → ℕ → Option (List Segment) → Type 0
Fairs f r None = Prim.Unit {0}
Fairs f r (Some xs) = EachFair f r xs

-- the segment of a unit with indicator i at the head of s
abbrev FairUnit : ℕ → ℕ → List ℕ → ℕ → ℕ → ℕ → Type 0
FairUnit f r s i w n = Fair f r (segment_of i (part w n s))

fixed_fair : (r : ℕ) (s : List ℕ) → IfAny (FairUnit 70 r s) (fixed r s)
unfolding fixed part
fixed_fair r s =
    if_case (IfAny (FairUnit 70 r s)) (eqb r 0) None _ (λ _. refl)
    (λ _. if_case (IfAny (FairUnit 70 r s)) (leb r (length s)) _ None
    (λ b. if_case (IfAny (FairUnit 70 r s)) (all_are 94 (take r s)) None (one_unit 0 0 r) (λ _. refl)
    (λ c. record { whole = λ _. refl; sized = λ _ _. legal_f r (take r s) (length-take-le r s (leb-true r (length s) b)) c }))
    (λ _. refl))

measured_any : (P : ℕ → ℕ → ℕ → Type 0) (i w m l : ℕ) (x : Option ℕ)
    → ((k : ℕ) → x ≡ Some k → w ≤ k → k ≤ m → k ≤ l → P i w (k - w)) → IfAny P (measured i w m l x)
unfolding measured
measured_any P i w m l None g = refl
measured_any P i w m l (Some k) g =
    if_case (IfAny P) (leb w k) _ None
    (λ a. if_case (IfAny P) (leb k m) _ None
    (λ b. if_case (IfAny P) (leb k l) _ None (λ c. g k refl (leb-true w k a) (leb-true k m b) (leb-true k l c)) (λ _. refl))
    (λ _. refl))
    (λ _. refl)

length_front : (s : List ℕ) → length (part 0 4 s) ≤ 4
unfolding part
length_front s = simp length-take (omega arith)

variable_fair : (r : ℕ) (s : List ℕ) → IfAny (FairUnit 68 r s) (variable r s)
unfolding variable
variable_fair r s =
    measured_any (FairUnit 68 r s) 0 4 r (length s) (number_in (part 0 4 s))
    (λ k e a b c.
    let few : k ≤ 9999 = four_digits (part 0 4 s) k (length_front s) e in
    let size : length (part 4 (k - 4) s) ≡ k - 4 = length_part 4 (k - 4) s (omega arith) in
    record { whole = λ _. refl; sized = λ _ _. legal_d r (part 4 (k - 4) s) (omega arith) (omega arith) })

segment_fair : (r : ℕ) (s : List ℕ) → IfAny (FairUnit 83 r s) (segment s)
unfolding segment
segment_fair r s =
    if_case (IfAny (FairUnit 83 r s)) (leb 48 (get_or s 0 0)) _ None
    (λ _. if_case (IfAny (FairUnit 83 r s)) (leb (get_or s 0 0) 51) _ None
    (λ _. measured_any (FairUnit 83 r s) (get_or s 0 0 - 48) 5 9999 (length s) (number_in (part 1 4 s))
    (λ k _ _ _ _. record { whole = λ h. absurd (h refl); sized = λ h _. legal_s r (part 5 (k - 5) s) h }))
    (λ _. refl))
    (λ _. refl)

unit_fair : (f r : ℕ) (s : List ℕ) → IfAny (FairUnit f r s) (unit_of f r s)
unfolding unit_of
unit_fair f r s =
    if_case (IfAny (FairUnit f r s)) (eqb f 70) _ _
    (λ a. subst (λ (g : ℕ). IfAny (FairUnit g r s) (fixed r s)) (sym (eqb-true f 70 a)) (fixed_fair r s))
    (λ _. if_case (IfAny (FairUnit f r s)) (eqb f 68) _ _
    (λ b. subst (λ (g : ℕ). IfAny (FairUnit g r s) (variable r s)) (sym (eqb-true f 68 b)) (variable_fair r s))
    (λ _. if_case (IfAny (FairUnit f r s)) (eqb f 83) _ None
    (λ c. subst (λ (g : ℕ). IfAny (FairUnit g r s) (segment s)) (sym (eqb-true f 83 c)) (segment_fair r s))
    (λ _. refl)))

-- ---- the segments of a block are fair

onto_fair : (f r : ℕ) (x : Segment) (o : Option (List Segment)) → Fair f r x → Fairs f r o → Fairs f r (onto x o)
unfolding onto
onto_fair f r x None h k = tt
onto_fair f r x (Some xs) h k = (h, k)

one_fair : (f r : ℕ) (u : Option Unit) (s : List ℕ) (rest : List ℕ → Option (List Segment)) → IfAny (FairUnit f r s) u
    → ((t : List ℕ) → Fairs f r (rest t)) → Fairs f r (cut_one u s rest)
unfolding cut_one
one_fair f r (Some u) s rest h k = onto_fair f r (segment_of u.indicator (part u.word u.len s)) (rest (drop (u.word + u.len) s)) h (k (drop (u.word + u.len) s))
one_fair f r None s rest h k = if_case (Fairs f r) (all_are pad s) (Some []) None (λ _. tt) (λ _. tt)

cut_fair : (k f r : ℕ) (s : List ℕ) → Fairs f r (cut_f k f r s)
unfolding cut_f
cut_fair zero f r s = tt
cut_fair (suc k) f r s = one_fair f r (unit_of f r s) s (λ t. cut_f k f r t) (unit_fair f r s) (λ t. cut_fair k f r t)

some_fair : (f r : ℕ) (o : Option (List Segment)) → Fairs f r o → Fairs f r (some_units o)
unfolding some_units
some_fair f r None h = tt
some_fair f r (Some []) h = tt
some_fair f r (Some (x ∷ xs)) h = h

pub units_fair : (f b r o : ℕ) (s : List ℕ) → Fairs f r (units f b r o s)
unfolding units cut
units_fair f b r o s =
    if_case (Fairs f r) (leb (length s) b) _ None
    (λ _. if_case (Fairs f r) (leb o (length s)) _ None (λ _. some_fair f r _ (cut_fair (suc (length (drop o s))) f r (drop o s)))
    (λ _. tt))
    (λ _. tt)

-- ---- what is owed: the records from here on are legal, the first of them with what is open before it

abbrev pub Owed : ℕ → ℕ → ℕ → List (List ℕ) → Type 0
Owed f r zero rs = legal_records f r rs ≡ true
Owed f r (suc n) [] = ⊥
Owed f r (suc n) (y ∷ ys) = (n + length y ≤ r) × (legal_records f r ys ≡ true)

-- a segment that is in its turn: which of them it may be, and that it fits
pub data InTurn (r o i n : ℕ) : Type 0 where
  starts : i ≤ 1 → o ≡ 0 → n ≤ r → InTurn r o i n
  follows : 2 ≤ i → 1 ≤ o → o - 1 + n ≤ r → InTurn r o i n

-- a segment that passes the test of turns is in its turn
pub in_turn : (r o : ℕ) (head : Bool) (i n : ℕ) → is_turn r o head i n ≡ true → InTurn r o i n
unfolding is_turn
in_turn r o head i n =
    if_case (λ (t : Bool). t ≡ true → InTurn r o i n) (leb i 1) _ _
    (λ a. if_case (λ (t : Bool). t ≡ true → InTurn r o i n) (eqb o 0) _ false
    (λ b c. starts (leb-true i 1 a) (eqb-true o 0 b) (leb-true n r c)) (λ _ c. never c))
    (λ a. if_case (λ (t : Bool). t ≡ true → InTurn r o i n) head _ false
    (λ _. if_case (λ (t : Bool). t ≡ true → InTurn r o i n) (eqb o 0) false _ (λ _ c. never c)
    (λ b c. let far : 1 < i = leb-false i 1 a in let some-open : o ≡ 0 → ⊥ = eqb-false o 0 b in follows (omega arith) (omega arith) (leb-true (o - 1 + n) r c)))
    (λ _ c. never c))
  where
    never : false ≡ true → InTurn r o i n
    never c = absurd (false≢true c)

record_more : (f r : ℕ) (x : List ℕ) (rs : List (List ℕ)) → legal_record f r x ≡ true → legal_records f r rs ≡ true
    → legal_records f r (x ∷ rs) ≡ true
unfolding legal_records
record_more f r x rs h k = if_true _ _ _ h ∙ k

-- a 1 before what is owed
begun : (r : ℕ) (bs : List ℕ) (rs : List (List ℕ)) → Owed 83 r (suc (length bs)) rs → legal_records 83 r (on_first bs rs) ≡ true
unfolding on_first
begun r bs [] h = absurd h
begun r bs (y ∷ ys) (h, k) = record_more 83 r (bs ++ y) ys (legal_s r (bs ++ y) (simp length-append h)) k

-- a 2 before what is owed
gone_on : (f r o : ℕ) (bs : List ℕ) (rs : List (List ℕ)) → 1 ≤ o → Owed f r (o + length bs) rs → Owed f r o (on_first bs rs)
unfolding on_first
gone_on f r zero bs rs p h = absurd (omega arith)
gone_on f r (suc k) bs rs p h =
    let e : suc k + length bs ≡ suc (k + length bs) = omega arith in
    by_rest rs (subst (λ (n : ℕ). Owed f r n rs) e h)
  where
    by_rest : (qs : List (List ℕ)) → Owed f r (suc (k + length bs)) qs → Owed f r (suc k) (on_first bs qs)
    by_rest [] q = absurd q
    by_rest (y ∷ ys) (q, t) = (simp length-append (omega arith), t)

-- a 3 before what is owed
ended_by : (f r o : ℕ) (bs : List ℕ) (rs : List (List ℕ)) → 1 ≤ o → o - 1 + length bs ≤ r → legal_records f r rs ≡ true
    → Owed f r o (bs ∷ rs)
ended_by f r zero bs rs p q h = absurd (omega arith)
ended_by f r (suc k) bs rs p q h = (omega arith, h)

-- only in S does a segment go on
is_s_lem : (f i : ℕ) → ((f ≡ 83 → ⊥) → i ≡ 0) → (i ≡ 0 → ⊥) → f ≡ 83
is_s_lem f i whole other = by_format (eqb f 83) refl
  where
    by_format : (t : Bool) → eqb f 83 ≡ t → f ≡ 83
    by_format true e = eqb-true f 83 e
    by_format false e = absurd (other (whole (eqb-false f 83 e)))

by_indicator : (f r o : ℕ) (x : Segment) (rs : List (List ℕ)) → Fair f r x → (a b : Bool) → eqb x.indicator 1 ≡ a
    → eqb x.indicator 2 ≡ b
    → InTurn r o x.indicator (length x.bytes)
    → Owed f r (if_b a (length x.bytes + 1) (if_b b (o + length x.bytes) 0)) rs
    → Owed f r o (if_b a (on_first x.bytes rs) (if_b b (on_first x.bytes rs) (x.bytes ∷ rs)))
unfolding if_b
by_indicator f r o x rs fair true b c d (starts p q m) h =
    let one : x.indicator ≡ 1 = eqb-true x.indicator 1 c in
    let s : f ≡ 83 = is_s_lem f x.indicator fair.whole (λ z. omega arith) in
    let owed : Owed 83 r (suc (length x.bytes)) rs
    = subst (λ (g : ℕ). Owed g r (suc (length x.bytes)) rs) s (subst (λ (k : ℕ). Owed f r k rs) (add-one (length x.bytes)) h) in
    subst (λ (k : ℕ). Owed f r k (on_first x.bytes rs)) (sym q)
    (subst (λ (g : ℕ). legal_records g r (on_first x.bytes rs) ≡ true) (sym s) (begun r x.bytes rs owed))
by_indicator f r o x rs fair true b c d (follows p q m) h = let one : x.indicator ≡ 1 = eqb-true x.indicator 1 c in absurd (omega arith)
by_indicator f r o x rs fair false true c d (starts p q m) h = let two : x.indicator ≡ 2 = eqb-true x.indicator 2 d in absurd (omega arith)
by_indicator f r o x rs fair false true c d (follows p q m) h = gone_on f r o x.bytes rs q h
by_indicator f r o x rs fair false false c d (starts p q m) h =
    let other : x.indicator ≡ 1 → ⊥ = eqb-false x.indicator 1 c in
    subst (λ (k : ℕ). Owed f r k (x.bytes ∷ rs)) (sym q) (record_more f r x.bytes rs (fair.sized m (omega arith)) h)
by_indicator f r o x rs fair false false c d (follows p q m) h = ended_by f r o x.bytes rs q m h

-- one segment in turn before what is owed behind it
turn_owed : (f r o : ℕ) (head : Bool) (x : Segment) (xs : List Segment) → Fair f r x
    → is_turn r o head x.indicator (length x.bytes) ≡ true
    → Owed f r (open_after o x.indicator (length x.bytes)) (joined xs) → Owed f r o (joined (x ∷ xs))
unfolding open_after joined
turn_owed f r o head x xs fair t =
    by_indicator f r o x (joined xs) fair (eqb x.indicator 1) (eqb x.indicator 2) refl refl (in_turn r o head x.indicator (length x.bytes) t)

turns_owed : (f r o : ℕ) (head : Bool) (xs ys : List Segment) → EachFair f r xs → (turns_from r o head xs).number ≡ 0
    → Owed f r (turns_from r o head xs).pending (joined ys) → Owed f r o (joined (xs ++ ys))
unfolding turns_from outcome
turns_owed f r o head [] ys fair = λ e h. h
turns_owed f r o head (x ∷ xs) ys (fair, fairs) =
    if_case (λ (c : Outcome). c.number ≡ 0 → Owed f r c.pending (joined ys) → Owed f r o (joined (x ∷ (xs ++ ys))))
    (is_turn r o head x.indicator (length x.bytes)) (turns_from r (open_after o x.indicator (length x.bytes)) false xs)
    (outcome 8 0)
    (λ t e h. turn_owed f r o head x (xs ++ ys) fair t
    (turns_owed f r (open_after o x.indicator (length x.bytes)) false xs ys fairs e h))
    (λ _ e _. absurd (eqb-false 8 0 refl e))

-- what is owed before a block, from what is owed behind it
pub block_owed : (f r q : ℕ) (o : Option (List Segment)) (ys : List Segment) → Fairs f r o → (turned r q true o).number ≡ 0
    → Owed f r (turned r q true o).pending (joined ys) → Owed f r q (joined (segments_of o ++ ys))
unfolding turned segments_of outcome
block_owed f r q None ys fair e h = absurd (eqb-false 7 0 refl e)
block_owed f r q (Some xs) ys fair e h = turns_owed f r q true xs ys fair e h
