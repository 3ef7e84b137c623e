-- Laws of records in a row: each turn of the loop is a step, and the first that is none ends it. Assumes nothing.
use Rattle.std.proofs.lemmas.Option.{same_Some}
use Rattle.content.specs.declared.Found.TheVariants.{Joined}
use Rattle.content.specs.declared.measuring.Measured.{Measured}
use Rattle.std.specs.Prelude.{Option, Some, None, Ok, Err}
use mathlib.Core.Path.{◌≡◌, refl, sym, ap, ap₂, ◌∙◌}
use mathlib.Core.Bool.{true}
use mathlib.Core.List.{List, ◌∷◌}
use Prim.Native.Nat.{ℕ, zero, suc, ◌+◌, ◌-◌, ◌≤◌, ◌<◌, min}
use native.Mathlib.Omega.{arith}
use mir.Val.{Fits}
use mir.Syntax.{w64}
use borrow.Author.Rules.{rules}
use borrow.Author.Tests.{leb-true, eqb-true, eqb-false}
use lib.Dec.{leb, eqb}
use lib.ListN.{length, set, length-set}
use Rattle.base.proofs.Ifs.{if_case}
use Rattle.base.specs.Part.{put_at}
use Rattle.base.proofs.Parts.{put_none}
use Rattle.base.proofs.Put.{put_first}
use Rattle.block.specs.Unit.{word_of}
use Rattle.content.specs.Walk.{moved, is_inside, unit_from, Rest, ends, fails, Record, whole, split, nothing, split_by, begun_by, record_at, step_by, step_at, taken_at, Step}
use Rattle.content.specs.Code.Heads.{Inside, whole_at, begun_in, whole_by}
use Rattle.content.specs.Whole.{at_block, stands_at}
use Rattle.content.specs.Measure.{measured_by}
use Rattle.content.specs.Row.{StepRow, stays, ahead, steps_by, steps_at, row_of}
use Rattle.content.specs.declared.Walk.{Walk}
use Rattle.content.specs.declared.row.Row.{Row}
use Rattle.content.specs.declared.unit.Taken.{Taken}
use Rattle.content.specs.declared.measuring.Measured.TheVariants.{Whole, Split}
use Rattle.content.proofs.Units.{inside_true}
use Rattle.content.proofs.Rests.{from_behind}
use Rattle.content.proofs.Wholes.{leads, record_whole, word_least, whole_left, whole_start, whole_end}
use Rattle.content.proofs.Segments.{begins}
use Rattle.content.proofs.Stepping.{asked_begun}

-- ---- where a whole record stands, and where none does

-- the unit that is the record
record Single (s : List ℕ) (w : Walk) (start n : ℕ) (u : Walk) : Type 0 where
  some : w.record_length ≡ 0 → ⊥
  inside : Inside s w
  unit : unit_from s w ≡ taken_at 0 start n u
  short : n ≤ w.record_length

nothing_whole : (start n : ℕ) (u : Walk) → nothing ≡ whole start n u → ⊥
nothing_whole start n u e = let z : ◌≡◌ {A = ℕ} 0 1 = cc in omega arith

split_whole : (bs : List ℕ) (x : Rest) (start n : ℕ) (u : Walk) → split_by bs x ≡ whole start n u → ⊥
unfolding split_by
split_whole bs (ends cs v) start n u e = let z : ◌≡◌ {A = ℕ} 0 1 = cc in omega arith
split_whole bs fails start n u e = nothing_whole start n u e

single : (s : List ℕ) (w : Walk) (start n : ℕ) (u : Walk) → record_at s w ≡ whole start n u → Single s w start n u
unfolding record_at begun_by
single s w start n u =
    if_case P (eqb w.record_length 0) nothing _ (λ _ q. absurd (nothing_whole start n u q))
    (λ a. if_case P (is_inside s w) (begun_by s w.record_length (unit_from s w)) nothing
    (λ b. by_unit (eqb-false w.record_length 0 a) (inside_true s w true (sym b) refl) (unit_from s w) refl)
    (λ _ q. absurd (nothing_whole start n u q)))
  where
    P : Record → Type 0
    P x = x ≡ whole start n u → Single s w start n u

    by_unit : (w.record_length ≡ 0 → ⊥) → Inside s w → (t : Option Taken) → unit_from s w ≡ t → P (begun_by s w.record_length t)
    by_unit some inside (Some t) e =
        if_case P (leb t.len w.record_length) _ nothing
        (λ c. if_case P (eqb t.indicator 0) (whole t.start t.len t.behind) _
        (λ d q. let z : t.indicator ≡ 0 = eqb-true t.indicator 0 d in
        let x : t.start ≡ start = cc in
        let y : t.len ≡ n = cc in
        let h : t.behind ≡ u = cc in
        let l = leb-true t.len w.record_length c in
        record {
          some = some;
          inside = inside;
          unit = e ∙ ap₂ (λ (j m : ℕ). taken_at j m t.len t.behind) z x ∙ ap₂ (λ (m : ℕ) (v : Walk). taken_at 0 start m v) y h;
          short = omega arith;
        })
        (λ _. if_case P (eqb t.indicator 1) _ nothing (λ _ q. absurd (split_whole _ _ start n u q))
        (λ _ q. absurd (nothing_whole start n u q))))
        (λ _ q. absurd (nothing_whole start n u q))
    by_unit some inside None e = λ q. absurd (nothing_whole start n u q)

abbrev NoWhole : List ℕ → Walk → Type 0
NoWhole s w = (start n : ℕ) (u : Walk) → record_at s w ≡ whole start n u → ⊥

by_none : (x : Record) → ((start n : ℕ) (u : Walk) → x ≡ whole start n u → ⊥) → None ≡ whole_by x
unfolding whole_by
by_none (whole a n u) h = absurd (h a n u refl)
by_none (split bs u) h = refl
by_none nothing h = refl

one_same : (i a b j c d : ℕ) (x y : Walk) → taken_at i a b x ≡ taken_at j c d y → i ≡ j
one_same i a b j c d x y t = ap (λ (u : Taken). u.indicator) (same_Some (record { indicator = i; start = a; len = b; behind = x }) (record { indicator = j; start = c; len = d; behind = y }) t)

-- a record begins there that has several segments, if it ends
pub begun_no_whole : (s : List ℕ) (w v : Walk) (k : ℕ) → v ≡ at_block s w
    → k ≡ begun_in s (stands_at v.format v.record_length v.at v.left) → (k ≡ 0 → ⊥)
    → None ≡ whole_by (record_at s w)
begun_no_whole s w v k e m z =
    by_none (record_at s w)
    (λ start n u q. let b = begins s v k (asked_begun s v k m z) in
    let one = single s w start n u q in
    let same = one_same _ _ _ _ _ _ _ _ (sym ((leads s w v e).unit _ _ _ _ b.segment.unit) ∙ one.unit) in
    omega (arith, same, b.digit))

pub measured_none : (s : List ℕ) (w : Walk) (m : Option Measured) → m ≡ measured_by (record_at s w) → m ≡ None
    → None ≡ whole_by (record_at s w)
unfolding measured_by
measured_none s w m e q =
    by_none (record_at s w) (λ start n u p. let same : None ≡ Some (Whole start n u) = sym q ∙ e ∙ ap measured_by p in let z : ◌≡◌ {A = ℕ} 0 1 = cc in omega arith)

pub measured_split : (s : List ℕ) (w : Walk) (m : Option Measured) (k : ℕ) (v : Walk) → m ≡ measured_by (record_at s w) → m ≡ Some (Split k v)
    → None ≡ whole_by (record_at s w)
unfolding measured_by
measured_split s w m k v e q =
    by_none (record_at s w) (λ start n u p. let same : Some (Split k v) ≡ Some (Whole start n u) = sym q ∙ e ∙ ap measured_by p in let z : ◌≡◌ {A = ℕ} 0 1 = cc in omega arith)

measured_is : (start n : ℕ) (u : Walk) (x : Record) → measured_by x ≡ Some (Whole start n u) → x ≡ whole start n u
unfolding measured_by
measured_is start n u (whole a k v) e = cc
measured_is start n u (split bs v) e = let z : ◌≡◌ {A = ℕ} 0 1 = cc in absurd (omega arith)
measured_is start n u nothing e = let z : ◌≡◌ {A = ℕ} 0 1 = cc in absurd (omega arith)

pub measured_one : (s : List ℕ) (w : Walk) (m : Option Measured) (start n : ℕ) (u : Walk) → m ≡ measured_by (record_at s w)
    → m ≡ Some (Whole start n u)
    → taken_at 0 start n u ≡ whole_by (record_at s w)
unfolding whole_by
measured_one s w m start n u e q = sym (ap whole_by (measured_is start n u (record_at s w) (sym e ∙ q)))

pub ruleset wholes_from = (begun_no_whole, measured_none, measured_split, measured_one, rules)

-- ---- the steps, one by one

one_more : (s : List ℕ) (room i : ℕ) (w : Walk) (start n : ℕ) (u : Walk) → record_at s w ≡ whole start n u → i < room
    → steps_at s (room - i) w ≡ ahead start n (steps_at s (room - (i + 1)) u)
unfolding steps_at steps_by step_at step_by
one_more s room i w start n u e h =
    let k : room - i ≡ suc (room - (i + 1)) = omega arith in
    ap (λ (m : ℕ). steps_at s m w) k ∙ ap (λ (x : Record). steps_by w (step_by 0 x) (λ v. steps_at s (room - (i + 1)) v)) e

none_more : (s : List ℕ) (k : ℕ) (w : Walk) → NoWhole s w → steps_at s k w ≡ stays w
unfolding steps_at steps_by step_at step_by
none_more s zero w h = refl
none_more s (suc k) w h = by_record (record_at s w) h
  where
    by_record : (x : Record) → ((start n : ℕ) (u : Walk) → x ≡ whole start n u → ⊥)
        → steps_by w (step_by 0 x) (λ v. steps_at s k v) ≡ stays w
    by_record (whole a n u) g = absurd (g a n u refl)
    by_record (split bs u) g =
        if_case (λ (y : Step). steps_by w y (λ v. steps_at s k v) ≡ stays w) (leb (length bs) 0) (Ok (Joined (length bs), u)) (Err 10)
        (λ _. refl) (λ _. refl)
    by_record nothing g = refl

-- ---- the loop: with i records in the lists, those from w on put behind them make the whole

pub record Rowing (s old olds : List ℕ) (from : Walk) (places lengths : List ℕ) (w : Walk) (i : ℕ) : Type 0 where
  pub most : i ≤ min (length old) (length olds)
  pub file : w.format ≡ from.format
  pub long_places : length places ≡ length old
  pub long_lengths : length lengths ≡ length olds
  pub same_places : put_at places i (steps_at s (min (length old) (length olds) - i) w).places
      ≡ put_at old 0 (steps_at s (min (length old) (length olds)) from).places
  pub same_lengths : put_at lengths i (steps_at s (min (length old) (length olds) - i) w).lengths
      ≡ put_at olds 0 (steps_at s (min (length old) (length olds)) from).lengths
  pub same_count : i + length (steps_at s (min (length old) (length olds) - i) w).places
      ≡ length (steps_at s (min (length old) (length olds)) from).places
  pub same_walk : (steps_at s (min (length old) (length olds) - i) w).walk ≡ (steps_at s (min (length old) (length olds)) from).walk

pub rowing_none : (s old olds : List ℕ) (from : Walk) → Rowing s old olds from old olds from 0
rowing_none s old olds from =
    let room : ℕ = min (length old) (length olds) in
    let e : room - 0 ≡ room = omega arith in
    let z : 0 + length (steps_at s (room - 0) from).places ≡ length (steps_at s (room - 0) from).places = omega arith in
    record {
      most = omega arith;
      file = refl;
      long_places = refl;
      long_lengths = refl;
      same_places = ap (λ (k : ℕ). put_at old 0 (steps_at s k from).places) e;
      same_lengths = ap (λ (k : ℕ). put_at olds 0 (steps_at s k from).lengths) e;
      same_count = z ∙ ap (λ (k : ℕ). length (steps_at s k from).places) e;
      same_walk = ap (λ (k : ℕ). (steps_at s k from).walk) e;
    }

rowing_more : (s old olds : List ℕ) (from : Walk) (places lengths : List ℕ) (w : Walk) (i start n : ℕ) (u : Walk)
    → Rowing s old olds from places lengths w i
    → i < length places → i < length lengths → record_at s w ≡ whole start n u
    → Rowing s old olds from (set places i start) (set lengths i n) u (i + 1)
rowing_more s old olds from places lengths w i start n u c h k e =
    let room : ℕ = min (length old) (length olds) in
    let a = c.long_places in
    let b = c.long_lengths in
    let less : i < room = omega arith in
    let more : steps_at s (room - i) w ≡ ahead start n (steps_at s (room - (i + 1)) u) = one_more s room i w start n u e less in
    let x : StepRow = steps_at s (room - (i + 1)) u in
    let one = single s w start n u e in
    let sum : i + 1 + length x.places ≡ i + length (start ∷ x.places) = omega arith in
    record {
      most = omega arith;
      file = (from_behind s w 0 start n u one.inside one.unit).format ∙ c.file;
      long_places = length-set places i start ∙ a;
      long_lengths = length-set lengths i n ∙ b;
      same_places =
          sym (put_first places i start x.places h) ∙ ap (λ (y : StepRow). put_at places i y.places) (sym more)
          ∙ c.same_places;
      same_lengths =
          sym (put_first lengths i n x.lengths k) ∙ ap (λ (y : StepRow). put_at lengths i y.lengths) (sym more)
          ∙ c.same_lengths;
      same_count = sum ∙ ap (λ (y : StepRow). i + length y.places) (sym more) ∙ c.same_count;
      same_walk = ap (λ (y : StepRow). y.walk) (sym more) ∙ c.same_walk;
    }

-- the control word is that of the file's format
word_here : (s old olds : List ℕ) (from : Walk) (places lengths : List ℕ) (w : Walk) (i : ℕ) (v : Walk) (c : ℕ)
    → Rowing s old olds from places lengths w i
    → v ≡ at_block s w → c ≡ word_of from.format → c ≡ word_of v.format
word_here s old olds from places lengths w i v c r e p = p ∙ ap word_of (sym ((leads s w v e).format ∙ r.file))

pub rowing_whole : (s old olds : List ℕ) (from : Walk) (places lengths : List ℕ) (w : Walk) (i : ℕ) (v u : Walk) (k c : ℕ)
    → Rowing s old olds from places lengths w i
    → i < length places → i < length lengths → v ≡ at_block s w → k ≡ whole_at s v → (k ≡ 0 → ⊥) → c ≡ word_of from.format
    → u ≡ moved v (v.at + k) (v.left - k)
    → Rowing s old olds from (set places i (v.at + c)) (set lengths i (k - c)) u (i + 1)
rowing_whole s old olds from places lengths w i v u k c r h j e m z p q =
    let word = word_here s old olds from places lengths w i v c r e p in
    rowing_more s old olds from places lengths w i (v.at + c) (k - c) u r h j
    (record_whole s w v k e m z ∙ ap (λ (x : ℕ). whole (v.at + x) (k - x) (moved v (v.at + k) (v.left - k))) (sym word)
    ∙ ap (whole (v.at + c) (k - c)) (sym q))

by_whole : (one : Taken) (x : Record) → whole_by x ≡ Some one → x ≡ whole one.start one.len one.behind
unfolding whole_by
by_whole one (whole a k v) e =
    let q = same_Some (record { indicator = 0; start = a; len = k; behind = v }) one e in
    ap (λ (t : Taken). whole t.start t.len t.behind) q
by_whole one (split bs v) e = let z : ◌≡◌ {A = ℕ} 0 1 = cc in absurd (omega arith)
by_whole one nothing e = let z : ◌≡◌ {A = ℕ} 0 1 = cc in absurd (omega arith)

pub rowing_taken : (s old olds : List ℕ) (from : Walk) (places lengths : List ℕ) (w : Walk) (i : ℕ) (one : Taken)
    (t : Option Taken)
    → Rowing s old olds from places lengths w i → i < length places → i < length lengths → t ≡ whole_by (record_at s w)
    → t ≡ Some one
    → Rowing s old olds from (set places i one.start) (set lengths i one.len) one.behind (i + 1)
rowing_taken s old olds from places lengths w i one t c h k e q =
    rowing_more s old olds from places lengths w i one.start one.len one.behind c h k (by_whole one (record_at s w) (sym e ∙ q))

-- ---- where it ends

pub full_places : (s old olds : List ℕ) (from : Walk) (places lengths : List ℕ) (w : Walk) (i : ℕ)
    → Rowing s old olds from places lengths w i → length places ≤ i
    → steps_at s (min (length old) (length olds) - i) w ≡ stays w
unfolding steps_at
full_places s old olds from places lengths w i c h =
    let a = c.long_places in
    let e : min (length old) (length olds) - i ≡ 0 = omega arith in
    ap (λ (k : ℕ). steps_at s k w) e

pub full_lengths : (s old olds : List ℕ) (from : Walk) (places lengths : List ℕ) (w : Walk) (i : ℕ)
    → Rowing s old olds from places lengths w i → length lengths ≤ i
    → steps_at s (min (length old) (length olds) - i) w ≡ stays w
unfolding steps_at
full_lengths s old olds from places lengths w i c h =
    let a = c.long_lengths in
    let e : min (length old) (length olds) - i ≡ 0 = omega arith in
    ap (λ (k : ℕ). steps_at s k w) e

pub at_none : (s : List ℕ) (room : ℕ) (w : Walk) (t : Option Taken) → t ≡ whole_by (record_at s w) → t ≡ None
    → steps_at s room w ≡ stays w
unfolding whole_by
at_none s room w t e q =
    none_more s room w (λ start n u p. let same : None ≡ taken_at 0 start n u = sym q ∙ e ∙ ap whole_by p in let z : ◌≡◌ {A = ℕ} 0 1 = cc in omega arith)

pub row_done : (s old olds : List ℕ) (from : Walk) (places lengths : List ℕ) (w : Walk) (i : ℕ) (r : Row)
    → Rowing s old olds from places lengths w i
    → steps_at s (min (length old) (length olds) - i) w ≡ stays w → r ≡ record { count = i; walk = w }
    → r ≡ row_of (steps_at s (min (length old) (length olds)) from)
unfolding row_of
row_done s old olds from places lengths w i r c e q =
    let z : i ≡ i + 0 = omega arith in
    let count : i ≡ length (steps_at s (min (length old) (length olds)) from).places = z ∙ ap (λ (y : StepRow). i + length y.places) (sym e) ∙ c.same_count in
    let walk : w ≡ (steps_at s (min (length old) (length olds)) from).walk = ap (λ (y : StepRow). y.walk) (sym e) ∙ c.same_walk in
    q ∙ (λ j. record { count = count j; walk = walk j })

pub places_done : (s old olds : List ℕ) (from : Walk) (places lengths : List ℕ) (w : Walk) (i : ℕ)
    → Rowing s old olds from places lengths w i
    → steps_at s (min (length old) (length olds) - i) w ≡ stays w
    → places ≡ put_at old 0 (steps_at s (min (length old) (length olds)) from).places
places_done s old olds from places lengths w i c e =
    sym (put_none places i) ∙ ap (λ (y : StepRow). put_at places i y.places) (sym e) ∙ c.same_places

pub lengths_done : (s old olds : List ℕ) (from : Walk) (places lengths : List ℕ) (w : Walk) (i : ℕ)
    → Rowing s old olds from places lengths w i
    → steps_at s (min (length old) (length olds) - i) w ≡ stays w
    → lengths ≡ put_at olds 0 (steps_at s (min (length old) (length olds)) from).lengths
lengths_done s old olds from places lengths w i c e =
    sym (put_none lengths i) ∙ ap (λ (y : StepRow). put_at lengths i y.lengths) (sym e) ∙ c.same_lengths

-- ---- what the code computes has its place

pub row_start : (s old olds : List ℕ) (from : Walk) (places lengths : List ℕ) (w : Walk) (i : ℕ) (v : Walk) (k c : ℕ)
    → Rowing s old olds from places lengths w i
    → v ≡ at_block s w → k ≡ whole_at s v → (k ≡ 0 → ⊥) → c ≡ word_of from.format → length s < 18446744073709551616
    → Fits w64 (v.at + c)
row_start s old olds from places lengths w i v k c r e m z p h =
    whole_start s v k c m z (word_here s old olds from places lengths w i v c r e p) h

pub row_word : (s old olds : List ℕ) (from : Walk) (places lengths : List ℕ) (w : Walk) (i : ℕ) (v : Walk) (k c : ℕ)
    → Rowing s old olds from places lengths w i
    → v ≡ at_block s w → k ≡ whole_at s v → (k ≡ 0 → ⊥) → c ≡ word_of from.format → c ≤ k
row_word s old olds from places lengths w i v k c r e m z p =
    word_least s v k c m z (word_here s old olds from places lengths w i v c r e p)

pub row_fits : (s old olds : List ℕ) (from : Walk) (places lengths : List ℕ) (w : Walk) (i : ℕ)
    → Rowing s old olds from places lengths w i → i < length places
    → length old < 18446744073709551616 → Fits w64 (i + 1)
row_fits s old olds from places lengths w i c h k = let e = c.long_places in omega arith

pub long_places_lem : (s old olds : List ℕ) (from : Walk) (places lengths : List ℕ) (w : Walk) (i : ℕ)
    → Rowing s old olds from places lengths w i → length places ≡ length old
long_places_lem s old olds from places lengths w i c = c.long_places

pub long_lengths_lem : (s old olds : List ℕ) (from : Walk) (places lengths : List ℕ) (w : Walk) (i : ℕ)
    → Rowing s old olds from places lengths w i → length lengths ≡ length olds
long_lengths_lem s old olds from places lengths w i c = c.long_lengths

pub row_less : (places : List ℕ) (i x : ℕ) → i < length places → length (set places i x) - (i + 1) < length places - i
row_less places i x h = let e = length-set places i x in omega arith

pub ruleset rows = (
  rowing_none,
  rowing_whole,
  rowing_taken,
  full_places,
  full_lengths,
  at_none,
  row_done,
  places_done,
  lengths_done,
  row_start,
  row_word,
  whole_left,
  whole_end,
  long_places_lem,
  long_lengths_lem,
  row_fits,
  row_less,
  rules,
)
