-- Demand 2: the files and records of an accepted set, as they are handed out; and that a refused set hands out nothing. Assumes
-- nothing.
use Rattle.content.specs.declared.Found.TheVariants.{InImage, Joined}
use Rattle.base.specs.declared.Verdict.{Verdict}
use Rattle.std.specs.Prelude.{Option, Some, None, Result, Ok, Err}
use mathlib.Core.Path.{◌≡◌, refl, sym, ap, ◌∙◌, subst}
use mathlib.Core.Bool.{Bool, true, false}
use mathlib.Core.List.{List, [], ◌∷◌, ◌++◌}
use Prim.Native.Nat.{ℕ, zero, suc, ◌+◌, ◌-◌, ◌≤◌, ◌<◌, min}
use native.Mathlib.Omega.{arith}
use native.Mathlib.Numerals.{add-one}
use native.Mathlib.Decide.{dec_lt}
use borrow.Author.Tests.{eq-eqb, ne_eqb, eqb-false}
use lib.Dec.{leb, eqb}
use lib.ListN.{length}
use Rattle.base.specs.If.{if_b}
use Rattle.base.proofs.Ifs.{if_true, if_false, if_case}
use Rattle.base.specs.Part.{part, put_at}
use Rattle.base.specs.Answer.{verdict}
use Rattle.base.proofs.Parts.{length_part}
use Rattle.output.specs.Output.{fitted, refused_with}
use Rattle.volume.specs.Run.{image_verdict}
use Rattle.volume.specs.Accepted.{Accepted}
use Rattle.volume.specs.Meaning.{File, fields_from, content}
use Rattle.volume.proofs.Accepted.{accepted_iff}
use Rattle.content.specs.Walk.{ends, fails, Record, whole, split, nothing as no_record_here, record_at, step_by, join_by, step_at, join_at, Step}
use Rattle.content.specs.Row.{StepRow as Row, steps_by, steps_at}
use Rattle.content.specs.File.{first_file, file_numbered, begun_by, begun_at}
use Rattle.content.specs.Found.{passed_by, passed, found_by, found_in, left_in, found_from, left_from, found_at, left_at}
use Rattle.content.specs.Measure.{measured_by}
use Rattle.content.specs.Walked.{handed, Walks, FileIs}
use Rattle.content.specs.Records.{facts_of}
use Rattle.content.specs.Numbers.{record_of, beginning_of, stepped_of}
use Rattle.content.specs.declared.Walk.{Walk}
use Rattle.content.specs.declared.FileAt.{FileAt}
use Rattle.content.proofs.Files.{numbered_first, numbered_next}
use Rattle.content.proofs.Records.{walks_records}
use Rattle.content.proofs.Numbered.{whole_within}
use Rattle.content.proofs.Walked.{walk_records, walk_none}
use Rattle.listing.specs.Text.{text_of, listing_of, refusal_line}
use Rattle.writing.specs.Rewrite.{rewrite}
use Rattle.demands.specs.Operations.{Handing, listing, ours}
use Rattle.demands.specs.Terms.{OutOf, no_record, Handed, one, several, located_in, Steps, row_on, row_by, FileGiven}

-- ---- the record at a walk's place

-- where it is, and the joining buffer behind it
abbrev handing_at : List ℕ → Walk → List ℕ → Handing
handing_at s w old = record { at = record_of (found_by (step_at s (length old) w)); left = join_at s old w }

located_by_lem : (w : Walk) (x : Step) → located_in (stepped_of w x) ≡ record_of (found_by x)
unfolding located_in stepped_of record_of found_by
located_by_lem w (Ok (InImage start n, v)) = refl
located_by_lem w (Ok (Joined n, v)) = refl
located_by_lem w (Err k) = refl

-- the same answers, handed out the same way
handed_same : (s r : List ℕ) (x : Record) (f g : List ℕ → Handing) → ((old : List ℕ) → f old ≡ g old) → Handed s r g x
    → Handed s r f x
handed_same s r x f g e (one start v stood is at) = one start v stood is (λ old. e old ∙ at old)
handed_same s r x f g e (several v stood at) = several v stood (λ old. e old ∙ at old)

record_stands : (s : List ℕ) (w : Walk) (r : List ℕ) (v : Walk) (x : Record) → record_at s w ≡ x → handed s x ≡ ends r v
    → Handed s r (λ old. record { at = record_of (found_by (step_by (length old) x)); left = join_by old x }) x
unfolding handed step_by join_by found_by if_b
record_stands s w r v (whole start n u) e h =
    let is : part start n s ≡ r = cc in
    let within : start + n ≤ length s = whole_within s w start n u (measured_by (record_at s w)) refl (ap measured_by e ∙ (unfold measured_by in refl)) in
    let long : n ≡ length r = sym (length_part start n s within) ∙ ap length is in
    one start u (ap (λ (m : ℕ). whole start m u) long) (ap (λ (m : ℕ). part start m s) (sym long) ∙ is)
    (λ old. ap (λ (m : ℕ). handing_of start m old) long)
  where
    handing_of : ℕ → ℕ → List ℕ → Handing
    handing_of start m old = record { at = record_of (found_by (Ok (InImage start m, w))); left = old }
record_stands s w r v (split bs u) e h =
    let is : bs ≡ r = cc in
    several u (ap (λ (l : List ℕ). split l u) is)
    (λ old. by_room old (leb (length bs) (length old)) ∙ ap (λ (l : List ℕ). joining l old) is)
  where
    joining : List ℕ → List ℕ → Handing
    joining l old =
        if_b (leb (length l) (length old)) (record { at = record_of (found_by (Ok (Joined (length l), w))); left = put_at old 0 l })
        (no_record (verdict 10 0 0) old)

    by_room : (old : List ℕ) (t : Bool)
        → ◌≡◌ {A = Handing} (record {
          at = record_of (found_by (if_b t (Ok (Joined (length bs), u)) (Err 10)));
          left = if_b t
              (put_at old 0 bs) old;
        })
        (if_b t (record { at = record_of (found_by (Ok (Joined (length bs), w))); left = put_at old 0 bs }) (no_record (verdict 10 0 0) old))
    by_room old true = refl
    by_room old false = refl
record_stands s w r v no_record_here e h = let z : ◌≡◌ {A = ℕ} 0 1 = cc in absurd (omega arith)

-- a walk's record is handed out by a step, and the walk moved on
stands : (s : List ℕ) (w : Walk) (r : List ℕ) (v : Walk) → handed s (record_at s w) ≡ ends r v
    → Handed s r (handing_at s w) (record_at s w)
unfolding step_at join_at
stands s w r v h = record_stands s w r v (record_at s w) refl h

moved_on : (s old : List ℕ) (w : Walk) (r : List ℕ) (v : Walk) (x : Record) → handed s x ≡ ends r v
    → (stepped_of w (step_by (length old) x)).number ≡ 0
    → (stepped_of w (step_by (length old) x)).walk ≡ v
unfolding handed step_by stepped_of if_b
moved_on s old w r v (whole start n u) h z = cc
moved_on s old w r v (split bs u) h z = by_room (leb (length bs) (length old)) z
  where
    by_room : (t : Bool) → (stepped_of w (if_b t (Ok (Joined (length bs), u)) (Err 10))).number ≡ 0
        → (stepped_of w (if_b t (Ok (Joined (length bs), u)) (Err 10))).walk ≡ v
    by_room true q = cc
    by_room false q = absurd (omega arith)
moved_on s old w r v no_record_here h z = let q : ◌≡◌ {A = ℕ} 0 1 = cc in absurd (omega arith)

-- behind the last record a step is 13
none_stands : (s old : List ℕ) (x : Record) → handed s x ≡ fails → (step_by (length old) x ≡ Err 13) × (join_by old x ≡ old)
unfolding handed step_by join_by
none_stands s old (whole start n u) e = let z : ◌≡◌ {A = ℕ} 0 1 = cc in absurd (omega arith)
none_stands s old (split bs u) e = let z : ◌≡◌ {A = ℕ} 0 1 = cc in absurd (omega arith)
none_stands s old no_record_here e = (refl, refl)

steps_walk : (s : List ℕ) (w : Walk) (rs : List (List ℕ)) → Walks s w rs → Steps ours s w rs
unfolding step_at join_at
steps_walk s w [] h = λ old. let x = none_stands s old (record_at s w) h in λ i. record { answer = stepped_of w (x.0 i); left = x.1 i }
steps_walk s w (r ∷ rs) (v, e, rest) = (
  v,
  handed_same s r (record_at s w) _ (handing_at s w)
      (λ old i. record { at = located_by_lem w (step_at s (length old) w) i; left = join_at s old w }) (stands s w r v e),
  λ old z. moved_on s old w r v (record_at s w) e z,
  steps_walk s v rs rest,
)

-- ---- steps at once

-- a step without a buffer to join in, by the record at the walk's place
row_on_lem : (w : Walk) (x : Record) (f : Walk → Row) → row_on w (stepped_of w (step_by 0 x)) f ≡ steps_by w (step_by 0 x) f
unfolding row_on stepped_of step_by steps_by if_b
row_on_lem w (whole start n v) f = refl
row_on_lem w (split bs v) f = by_room (leb (length bs) 0)
  where
    by_room : (t : Bool) → row_on w (stepped_of w (if_b t (Ok (Joined (length bs), v)) (Err 10))) f
        ≡ steps_by w (if_b t (Ok (Joined (length bs), v)) (Err 10)) f
    by_room true = refl
    by_room false = refl
row_on_lem w no_record_here f = refl

row_by_lem : (s : List ℕ) (room : ℕ) (w : Walk) → row_by ours s room w ≡ steps_at s room w
unfolding row_by steps_at step_at
row_by_lem s zero w = refl
row_by_lem s (suc room) w =
    ap (row_on w (stepped_of w (step_by 0 (record_at s w)))) (λ i v. row_by_lem s room v i)
    ∙ row_on_lem w (record_at s w) (λ v. steps_at s room v)

pub steps_listed : (s : List ℕ) (w : Walk) (places lengths : List ℕ)
    → ours.steps s w places lengths ≡ listing places lengths (row_by ours s (min (length places) (length lengths)) w)
steps_listed s w places lengths = ap (listing places lengths) (sym (row_by_lem s (min (length places) (length lengths)) w))

-- ---- a record by its number

passed_by_lem : (s r : List ℕ) (v : Walk) (x : Record) (f : Walk → Option Walk) → handed s x ≡ ends r v → passed_by x f ≡ f v
unfolding handed passed_by
passed_by_lem s r v (whole start n u) f e = let a : u ≡ v = cc in ap f a
passed_by_lem s r v (split bs u) f e = let a : u ≡ v = cc in ap f a
passed_by_lem s r v no_record_here f e = let z : ◌≡◌ {A = ℕ} 0 1 = cc in absurd (omega arith)

passed_over : (s : List ℕ) (x : Record) (f : Walk → Option Walk) → handed s x ≡ fails → passed_by x f ≡ None
unfolding handed passed_by
passed_over s (whole start n u) f e = let z : ◌≡◌ {A = ℕ} 0 1 = cc in absurd (omega arith)
passed_over s (split bs u) f e = let z : ◌≡◌ {A = ℕ} 0 1 = cc in absurd (omega arith)
passed_over s no_record_here f e = refl

-- behind some of the records a walk hands out the others
passed_walks : (s : List ℕ) (w : Walk) (rs ts : List (List ℕ)) → Walks s w (rs ++ ts)
    → (v : Walk) × (passed s (length rs) w ≡ Some v) × Walks s v ts
unfolding passed
passed_walks s w [] ts h = (w, refl, h)
passed_walks s w (r ∷ rs) ts (u, e, h) =
    let (v, q, k) = passed_walks s u rs ts h in
    (v, passed_by_lem s r u (record_at s w) (λ y. passed s (length rs) y) e ∙ q, k)

-- what stands where a walk led
abbrev handing_in : List ℕ → Option Walk → List ℕ → Handing
handing_in s p old = record { at = record_of (found_in s (length old) p); left = left_in s old p }

-- behind all of them, or more, there is none
past_last : (s old : List ℕ) (w : Walk) (rs : List (List ℕ)) (k : ℕ) → Walks s w rs → length rs ≤ k
    → handing_in s (passed s k w) old ≡ no_record (verdict 13 0 0) old
unfolding passed found_in left_in found_by step_at join_at
past_last s old w [] zero h l = let x = none_stands s old (record_at s w) h in λ i. record { at = record_of (found_by (x.0 i)); left = x.1 i }
past_last s old w (r ∷ rs) zero h l = absurd (omega arith)
past_last s old w [] (suc k) h l = ap (λ (p : Option Walk). handing_in s p old) (passed_over s (record_at s w) (λ y. passed s k y) h)
past_last s old w (r ∷ rs) (suc k) (u, e, h) l =
    ap (λ (p : Option Walk). handing_in s p old) (passed_by_lem s r u (record_at s w) (λ y. passed s k y) e)
    ∙ past_last s old u rs k h (omega arith)

-- record k of what was begun
abbrev handing_from : List ℕ → ℕ → List ℕ → Result FileAt Verdict → Handing
handing_from s k old b = record { at = record_of (found_from s k (length old) b); left = left_from s k old b }

-- record k of a file that was begun stands where a walk over the records before it leads
found_behind : (s : List ℕ) (n k : ℕ) (old : List ℕ) (f : FileAt) → begun_at s n ≡ Ok f → (k ≡ 0 → ⊥)
    → ours.find s n k old ≡ handing_in s (passed s (k - 1) f.walk) old
unfolding found_at left_at found_from left_from
found_behind s n k old f e z =
    let at = if_false (eqb k 0) (Err (verdict 13 0 0)) (found_in s (length old) (passed s (k - 1) f.walk)) (ne_eqb k 0 z) in
    let left = if_false (eqb k 0) old (left_in s old (passed s (k - 1) f.walk)) (ne_eqb k 0 z) in
    ap (handing_from s k old) e ∙ λ i. record { at = record_of (at i); left = left i }

found_zero : (s : List ℕ) (n : ℕ) (old : List ℕ) (f : FileAt) → begun_at s n ≡ Ok f
    → ours.find s n 0 old ≡ no_record (verdict 13 0 0) old
unfolding found_at left_at found_from left_from if_b
found_zero s n old f e = ap (handing_from s 0 old) e

-- a number past the last
past : (n k : ℕ) → OutOf n (suc k) → n ≤ k
past n k out = by_last (dec_lt k n)
  where
    by_last : Dec (k < n) → n ≤ k
    by_last (yes l) = absurd (out k l (add-one k))
    by_last (no g) = omega arith

-- ---- the files of an accepted set

pub file_given : (s : List ℕ) (ds : List File) (d : File) (es : List File) → Accepted s → (content s).files ≡ ds ++ (d ∷ es)
    → FileGiven ours s (length ds + 1) d
unfolding beginning_of
file_given s ds d es a e =
    let (f, begun, is) = walk_records s ds d es ((accepted_iff s).1 a) e in
    record {
      begun = ap (λ (b : Result FileAt Verdict). (beginning_of b).verdict) begun;
      fields =
          is.fields ∙ ap (λ (b : Result FileAt Verdict). fields_from (part (beginning_of b).hdr1 80 s) (part (beginning_of b).hdr2 80 s))
          (sym begun);
      walked =
          subst (λ (b : Result FileAt Verdict). Steps ours s (beginning_of b).walk d.records) (sym begun)
          (steps_walk s f.walk d.records is.walks);
      asked = asked f begun is;
      counted =
          ap (λ (b : Result FileAt Verdict). ours.facts s (beginning_of b).walk) begun
          ∙ ap facts_of (walks_records s f.walk d.records is.walks);
      none = none f begun is;
    }
  where
    n : ℕ
    n = length ds + 1

    asked : (f : FileAt) → begun_at s n ≡ Ok f → FileIs s f d → (rs : List (List ℕ)) (r : List ℕ) (ts : List (List ℕ))
        → d.records ≡ rs ++ (r ∷ ts)
        → (w : Walk) × (passed s (length rs) (ours.begin s n).walk ≡ Some w)
        × Handed s r (λ old. ours.find s n (length rs + 1) old) (record_at s w)
    asked f begun is rs r ts q =
        let (v, there, (u, stood, _)) = passed_walks s f.walk rs (r ∷ ts) (subst (Walks s f.walk) q is.walks) in
        let k : length rs + 1 - 1 ≡ length rs = omega arith in
        let place : passed s (length rs + 1 - 1) f.walk ≡ Some v = ap (λ (j : ℕ). passed s j f.walk) k ∙ there in (
          v,
          ap (λ (b : Result FileAt Verdict). passed s (length rs) (beginning_of b).walk) begun ∙ there,
          handed_same s r (record_at s v) _ (handing_at s v)
              (λ old. found_behind s n (length rs + 1) old f begun (λ z. omega arith) ∙ ap (λ (p : Option Walk). handing_in s p old) place ∙ (unfold found_in left_in in refl))
              (stands s v r u stood),
        )

    none : (f : FileAt) → begun_at s n ≡ Ok f → FileIs s f d → (k : ℕ) → OutOf (length d.records) k → (old : List ℕ)
        → ours.find s n k old ≡ no_record (verdict 13 0 0) old
    none f begun is zero out old = found_zero s n old f begun
    none f begun is (suc k) out old =
        let j : suc k - 1 ≡ k = omega arith in
        found_behind s n (suc k) old f begun (λ z. omega arith)
        ∙ ap (λ (m : ℕ). handing_in s (passed s m f.walk) old) j
        ∙ past_last s old f.walk d.records k is.walks (past (length d.records) k out)

-- a file number that is 0 or past the last
pub no_file : (s : List ℕ) (n : ℕ) → Accepted s → OutOf (length (content s).files) n
    → (ours.begin s n ≡ beginning_of (Err (verdict 13 0 0)))
    × ((r : ℕ) (old : List ℕ) → ours.find s n r old ≡ no_record (verdict 13 0 0) old)
unfolding found_at left_at found_from left_from
no_file s n a out =
    let none : begun_at s n ≡ Err (verdict 13 0 0) = walk_none s n ((accepted_iff s).1 a) out in
    (ap beginning_of none, λ r old. ap (handing_from s r old) none)

-- ---- from file to file

first_begun_by : (s : List ℕ) → Accepted s → begun_by (first_file s) ≡ begun_at s 1
unfolding begun_at
first_begun_by s a =
    ap begun_by (sym (numbered_first s)) ∙ sym (if_true _ _ _ (eq-eqb (image_verdict s).number 0 ((accepted_iff s).1 a)))

pub first_begun : (s : List ℕ) → Accepted s → ours.first s ≡ ours.begin s 1
first_begun s a = ap beginning_of (first_begun_by s a)

pub further_begun : (s : List ℕ) (n : ℕ) → (ours.begin s n).verdict.number ≡ 0
    → ours.further s (ours.begin s n).hdr1 (ours.begin s n).hdr2 ≡ ours.begin s (n + 1)
unfolding begun_at beginning_of
further_begun s n =
    if_case (λ (b : Result FileAt Verdict). Goal b) (eqb (image_verdict s).number 0) _ _ (λ e. by_file e (file_numbered s n) refl)
    (λ e z. absurd (eqb-false (image_verdict s).number 0 e z))
  where
    Goal : Result FileAt Verdict → Type 0
    Goal b =
        (beginning_of b).verdict.number ≡ 0
        → ours.further s (beginning_of b).hdr1 (beginning_of b).hdr2 ≡ ours.begin s (n + 1)

    next_begun : eqb (image_verdict s).number 0 ≡ true → begun_at s (n + 1) ≡ begun_by (file_numbered s (n + 1))
    next_begun e = if_true (eqb (image_verdict s).number 0) _ _ e

    by_file : eqb (image_verdict s).number 0 ≡ true → (x : Option FileAt) → file_numbered s n ≡ x → Goal (begun_by x)
    by_file e (Some f) q = unfold begun_by beginning_of in λ _.
        ap (λ (y : Option FileAt). beginning_of (begun_by y)) (numbered_next s n f q) ∙ ap beginning_of (sym (next_begun e))
    by_file e None q = unfold begun_by beginning_of verdict in λ z. absurd (omega arith)

-- its listing
pub set_listed : (s out : List ℕ) → Accepted s → ours.list s out ≡ fitted (listing_of (content s)) out
unfolding text_of
set_listed s out a = ap (λ (l : List ℕ). fitted l out) (if_true _ _ _ (eq-eqb (image_verdict s).number 0 ((accepted_iff s).1 a)))

-- ---- a refused set

module _ (s : List ℕ) (out : Accepted s → ⊥) where
  z : (image_verdict s).number ≡ 0 → ⊥
  z e = out ((accepted_iff s).0 e)

  not_begun : (n : ℕ) → begun_at s n ≡ Err (image_verdict s)
  unfolding begun_at
  not_begun n = if_false _ _ _ (ne_eqb (image_verdict s).number 0 z)

  pub none_begun : (n : ℕ) → ours.begin s n ≡ beginning_of (Err (image_verdict s))
  none_begun n = ap beginning_of (not_begun n)

  pub none_found : (n r : ℕ) (old : List ℕ) → ours.find s n r old ≡ no_record (image_verdict s) old
  unfolding found_at left_at found_from left_from
  none_found n r old = ap (handing_from s r old) (not_begun n)

  pub none_listed : (page : List ℕ) → ours.list s page ≡ fitted (refusal_line (image_verdict s)) page
  unfolding text_of
  none_listed page = ap (λ (l : List ℕ). fitted l page) (if_false _ _ _ (ne_eqb (image_verdict s).number 0 z))

  pub none_rewritten : (quota : ℕ) (names o : List ℕ)
      → rewrite s quota names o ≡ record { verdict = image_verdict s; len = 0; out = o }
  unfolding rewrite refused_with
  none_rewritten quota names o = if_false _ _ _ (ne_eqb (image_verdict s).number 0 z)
