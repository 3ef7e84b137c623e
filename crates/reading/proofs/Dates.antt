-- Dates are compared between a trailer and its header alone, and those of later sections are no part of the meaning: two accepted
-- sets which are the same without them have one meaning. Assumes nothing.
use Rattle.std.specs.Prelude.{Some}
use mathlib.Core.Path.{◌≡◌, refl, sym, ap, ap₂, ◌∙◌, subst}
use mathlib.Core.Bool.{Bool, true, false, false≢true, ◌&&◌}
use mathlib.Core.List.{List, [], ◌∷◌, ◌++◌}
use Prim.Native.Nat.{ℕ, suc, ◌+◌, ◌-◌, ◌≤◌}
use native.Mathlib.Omega.{arith}
use borrow.Author.Tests.{eqb-true, leb-true}
use lib.Dec.{eqb, leb}
use lib.ListN.{length, drop, get_or, replicate}
use Rattle.base.specs.If.{if_b}
use Rattle.base.proofs.Ifs.{if_true, if_false, if_case, and_left, and_right, and_first, and_second, or_false}
use Rattle.base.specs.Part.{part, same}
use Rattle.base.specs.Answer.{or_else}
use Rattle.base.proofs.Bytes.{same_true}
use Rattle.base.proofs.Parts.{part_drop, part_part, length_put, take_put, drop_put}
use Rattle.image.specs.Item.{Item, block, mark, reel_end, broken}
use Rattle.image.specs.Framing.{items}
use Rattle.order.specs.Kind.{other, hdr, data_block, is_kind}
use Rattle.order.specs.Due.{due_after}
use Rattle.order.specs.declared.Kind.{Kind}
use Rattle.order.specs.declared.Phase.{Phase}
use Rattle.charset.specs.Number.{number_in}
use Rattle.label.specs.Field.{set_of, section_of, sequence_of}
use Rattle.label.specs.Judged.{first_bad, agree_at, unequal_in}
use Rattle.label.specs.Name.{named as named_kind, kind_of}
use Rattle.label.specs.Table.{hdr1, per_section, per_file, created_row, expires_row}
use Rattle.label.proofs.Every.{Hold, all_hold_lem}
use Rattle.volume.specs.State.{State, start}
use Rattle.volume.specs.Fault.{crossed, new_file_place, later_place, file_fault, hdr1_fault, trailer1_fault}
use Rattle.volume.specs.Step.{Event, begins, resumes, holds, Next, kind_in, bytes_in, is_due, state_after, volumes_after, files_after, continues_after, hdr1_after, hdr2_after, count_after, pending_after, segments_in, events_of}
use Rattle.volume.specs.Run.{runs, image_verdict}
use Rattle.volume.specs.Meaning.{Collected, meaning_of, handed_out, content}
use Rattle.volume.specs.Accepted.{Faultless, All, MayEnd, state_behind}
use Rattle.volume.specs.Dates.{is_dated, undated, undated_in, undated_behind, undated_from, SameDates}
use Rattle.volume.proofs.Accepted.{faultless_go, accepted_iff}
use Rattle.volume.proofs.Events.{handed_more, OneMeaning, meaning_behind, meaning_continued}
use Rattle.reading.proofs.Entries.{byte_part}
use Rattle.reading.proofs.Stages.{crossed_none, lower_first}
use Rattle.reading.proofs.Steps.{events_quiet}
use Rattle.order.proofs.Moves.{Stage, before, named, within, file_over, reel_over, Quiet, Move, stays, next_reel, header1, next_file, header2, datum, eof1, eov1, finish}
use Rattle.order.proofs.Phases.{stage, Numbered, Goes, due_goes}

-- ---- a label without its dates

undated_front : (l : List ℕ) → length l ≡ 80 → part 0 41 (undated l) ≡ part 0 41 l
unfolding undated part
undated_front l h = take_put l 41 (replicate 12 32) (omega arith)

undated_back : (l : List ℕ) → length l ≡ 80 → drop 53 (undated l) ≡ drop 53 l
unfolding undated
undated_back l h = drop_put l 41 (replicate 12 32) (omega arith)

undated_long : (l : List ℕ) → length l ≡ 80 → length (undated l) ≡ length l
unfolding undated
undated_long l h = length_put l 41 (replicate 12 32) (omega arith)

-- a part before the dates is one of the front
front_part : (l m : List ℕ) → part 0 41 l ≡ part 0 41 m → (a w : ℕ) → a + w ≤ 41 → part a w l ≡ part a w m
front_part l m e a w h = sym (of l) ∙ ap (part a w) e ∙ of m
  where
    of : (x : List ℕ) → part a w (part 0 41 x) ≡ part a w x
    of x = let z : 0 + a ≡ a = omega arith in part_part 0 a w 41 x h ∙ ap (λ (n : ℕ). part n w x) z

-- and one behind them is one of the back
back_part : (l m : List ℕ) → drop 53 l ≡ drop 53 m → (a w : ℕ) → 53 ≤ a → part a w l ≡ part a w m
back_part l m e a w h = sym (of l) ∙ ap (part (a - 53) w) e ∙ of m
  where
    of : (x : List ℕ) → part (a - 53) w (drop 53 x) ≡ part a w x
    of x = let z : 53 + (a - 53) ≡ a = omega arith in part_drop 53 (a - 53) w x ∙ ap (λ (n : ℕ). part n w x) z

-- the kind is read from the front
named_front : (l m : List ℕ) → part 0 41 l ≡ part 0 41 m → named_kind l ≡ named_kind m
unfolding named_kind
named_front l m e =
    let four : part 0 4 l ≡ part 0 4 m = front_part l m e 0 4 (omega arith) in
    let three : part 0 3 l ≡ part 0 3 m = front_part l m e 0 3 (omega arith) in
    let fourth : get_or l 3 0 ≡ get_or m 3 0
    = byte_part 3 l ∙ ap (λ (x : List ℕ). get_or x 0 0) (front_part l m e 3 1 (omega arith)) ∙ sym (byte_part 3 m) in
    cc

kind_undated : (l : List ℕ) → is_dated (kind_of l) ≡ true → kind_of (undated l) ≡ kind_of l
unfolding kind_of is_dated is_kind
kind_undated l =
    if_case (λ (k : Kind). is_dated k ≡ true → kind_of (undated l) ≡ k) (eqb (length l) 80) (named_kind l) other
    (λ e _. let h : length l ≡ 80 = eqb-true (length l) 80 e in
    if_true _ _ _ (ap (λ (n : ℕ). eqb n 80) (undated_long l h) ∙ e) ∙ named_front (undated l) l (undated_front l h))
    (λ _ d. absurd (false≢true d))

-- ---- where dates are compared

-- the w bytes at a place have none of the dates
abbrev beside : ℕ → ℕ → Bool
beside at w = if_b (leb (at + w) 41) true (leb 53 at)

-- that holds of all fields of a table that are one throughout a file
unfoldable undated_rows : ℕ → List ℕ → Bool
undated_rows at [] = true
undated_rows at (w ∷ []) = true
undated_rows at (w ∷ r ∷ []) = true
undated_rows at (w ∷ r ∷ s ∷ rows) = if_b (leb per_file s) (beside at w) true && undated_rows (at + w) rows

row_same : (t outside x y : Bool) → (outside ≡ true → x ≡ y) → if_b t outside true ≡ true → if_b t x true ≡ if_b t y true
unfolding if_b
row_same true outside x y e h = e h
row_same false outside x y e h = refl

module _ (l m : List ℕ) (long-l : length l ≡ 80) (long-m : length m ≡ 80) (e : undated l ≡ undated m) where
  before_dates : (a w : ℕ) → a + w ≤ 41 → part a w l ≡ part a w m
  before_dates = front_part l m (sym (undated_front l long-l) ∙ ap (part 0 41) e ∙ undated_front m long-m)

  behind_dates : (a w : ℕ) → 53 ≤ a → part a w l ≡ part a w m
  behind_dates = back_part l m (sym (undated_back l long-l) ∙ ap (drop 53) e ∙ undated_back m long-m)

  beside_dates : (a w : ℕ) → beside a w ≡ true → part a w l ≡ part a w m
  beside_dates a w =
      if_case (λ (t : Bool). t ≡ true → part a w l ≡ part a w m) (leb (a + w) 41) true (leb 53 a)
      (λ h _. before_dates a w (leb-true (a + w) 41 h)) (λ _ h. behind_dates a w (leb-true 53 a h))

  unequal_same : (f : List ℕ) (at : ℕ) (rows : List ℕ) → undated_rows at rows ≡ true
      → first_bad (agree_at per_file f l) at rows ≡ first_bad (agree_at per_file f m) at rows
  unfolding undated_rows first_bad agree_at
  unequal_same f at [] h = refl
  unequal_same f at (w ∷ []) h = refl
  unequal_same f at (w ∷ r ∷ []) h = refl
  unequal_same f at (w ∷ r ∷ s ∷ rows) h =
      let row : Bool = if_b (leb per_file s) (beside at w) true in
      let rest : Bool = undated_rows (at + w) rows in
      ap₂ (λ (t : Bool) (n : ℕ). if_b t n (at + 1))
      (row_same (leb per_file s) (beside at w) _ _ (λ o. ap (same (part at w f)) (beside_dates at w o)) (and_first row rest h))
      (unequal_same f (at + w) rows (and_second row rest h))

  set_same : set_of l ≡ set_of m
  unfolding set_of
  set_same = before_dates 21 6 (omega arith)

  section_same : section_of l ≡ section_of m
  unfolding section_of
  section_same = ap number_in (before_dates 27 4 (omega arith))

  sequence_same : sequence_of l ≡ sequence_of m
  unfolding sequence_of
  sequence_same = ap number_in (before_dates 31 4 (omega arith))

  later_same : (f : List ℕ) → later_place f l ≡ later_place f m
  unfolding later_place undated_rows if_b
  later_same f =
      let fields : unequal_in per_file f l hdr1 ≡ unequal_in per_file f m hdr1 = unequal_same f 0 hdr1 refl in
      let section : section_of l ≡ section_of m = section_same in
      cc

  new_same : (files : ℕ) (f : List ℕ) → new_file_place files f l ≡ new_file_place files f m
  unfolding new_file_place
  new_same files f =
      let set : set_of l ≡ set_of m = set_same in
      let section : section_of l ≡ section_of m = section_same in
      let sequence : sequence_of l ≡ sequence_of m = sequence_same in
      cc

  -- against what was read before it, HDR1 is the same with other dates
  pub header_same : (continues : Bool) (files : ℕ) (first : List ℕ)
      → hdr1_fault continues files first l ≡ hdr1_fault continues files first m
  unfolding hdr1_fault
  header_same continues files first =
      ap₂ (λ (a b : ℕ). if_b continues (crossed a) (or_else (crossed b) (file_fault files))) (later_same first) (new_same files first)

-- a trailer without fault has the dates of the HDR1 that it is compared with
pub trailer_dates : (first l : List ℕ) (count : ℕ) → (trailer1_fault first count l).number ≡ 0 → SameDates first l
unfolding trailer1_fault agree_at if_b
trailer_dates first l count h =
    let rows : Hold (agree_at per_section first l) hdr1
    = all_hold_lem (agree_at per_section first l) hdr1 (lower_first (unequal_in per_section first l hdr1) _ (crossed_none _ h)) in
    record {
      creation = same_true (part 41 6 first) (part 41 6 l) (rows created_row refl);
      expiration = same_true (part 47 6 first) (part 47 6 l) (rows expires_row refl);
    }

-- ---- two items that are the same without their dates

dated_in : (p : Phase) (l : List ℕ) → is_dated (kind_in p (block l)) ≡ true → kind_in p (block (undated l)) ≡ kind_in p (block l)
unfolding kind_in
dated_in p l =
    if_case (λ (k : Kind). is_dated k ≡ true → kind_in p (block (undated l)) ≡ k) (is_due (due_after p data_block)) data_block
    (kind_of l)
    (λ e _. if_true _ _ _ e) (λ e d. if_false _ _ _ e ∙ kind_undated l d)

kind_in_lem : (g : Bool) (p : Phase) (x : Item) → kind_in p (undated_in g p x) ≡ kind_in p x
unfolding undated_in
kind_in_lem g p (block l) =
    if_case (λ (y : Item). kind_in p y ≡ kind_in p (block l)) (g && is_dated (kind_in p (block l))) (block (undated l)) (block l)
    (λ e. dated_in p l (and_second g (is_dated (kind_in p (block l))) e)) (λ _. refl)
kind_in_lem g p mark = refl
kind_in_lem g p reel_end = refl
kind_in_lem g p broken = refl

plain : (g : Bool) (p : Phase) (x : Item) → g && is_dated (kind_in p x) ≡ false → undated_in g p x ≡ x
unfolding undated_in
plain g p (block l) h = if_false _ _ _ h
plain g p mark h = refl
plain g p reel_end h = refl
plain g p broken h = refl

module _ (g : Bool) (p : Phase) (x y : Item) (e : undated_in g p x ≡ undated_in g p y) where
  same_kind : kind_in p x ≡ kind_in p y
  same_kind = sym (kind_in_lem g p x) ∙ ap (kind_in p) e ∙ kind_in_lem g p y

  -- they are the same, but for labels with the dates of a later section
  same_bytes : g && is_dated (kind_in p x) ≡ false → bytes_in x ≡ bytes_in y
  same_bytes h = ap bytes_in (sym (plain g p x h) ∙ e ∙ plain g p y (ap (λ (k : Kind). g && is_dated k) (sym same_kind) ∙ h))

-- ---- two readings that differ in the last HDR1 alone

abbrev with_first : State → List ℕ → State
with_first s f =
    record {
      phase = s.phase;
      volumes = s.volumes;
      files = s.files;
      continues = s.continues;
      hdr1 = f;
      hdr2 = s.hdr2;
      count = s.count;
      pending = s.pending;
    }

-- it is the same HDR1 where a new file's is yet to be handed out, with its HDR2
abbrev Begun : Stage → Bool → List ℕ → List ℕ → Type 0
Begun a g f h = a ≡ named → g ≡ false → f ≡ h

-- what has one meaning has it with these events before it too
abbrev OneBehind : List Event → List Event → Type 0
OneBehind gs hs = (es fs : List Event) → OneMeaning es fs → OneMeaning (gs ++ es) (hs ++ fs)

-- an item of kind k, with bytes l for the one and m for the other, leaves it so, and the meaning of both is one
record Alike (s : State) (f : List ℕ) (p : Phase) (k : Kind) (b : Stage) (l m : List ℕ) : Type 0 where
  pub events : OneBehind (events_of s k l) (events_of (with_first s f) k m)
  pub state : state_after (with_first s f) p k m ≡ with_first (state_after s p k l) (hdr1_after (with_first s f) k m)
  pub begun : Begun b (continues_after s k) (hdr1_after s k l) (hdr1_after (with_first s f) k m)

abbrev is_named : Stage → Bool
is_named before = false
is_named named = true
is_named within = false
is_named file_over = false
is_named reel_over = false

not_named : (a : Stage) → is_named a ≡ false → a ≡ named → ⊥
not_named a h e = false≢true (sym h ∙ ap is_named e)

quiet_undated : (k : Kind) → Quiet k → is_dated k ≡ false
unfolding is_dated
quiet_undated k c = or_false _ _ c.hdr1 (or_false _ _ c.reel_end c.file_end)

-- with equal bytes the two states differ in the last HDR1 alone
same_state : (s : State) (f : List ℕ) (p : Phase) (k : Kind) (l m : List ℕ) → l ≡ m
    → state_after (with_first s f) p k m ≡ with_first (state_after s p k l) (hdr1_after (with_first s f) k m)
unfolding state_after volumes_after files_after continues_after hdr2_after count_after pending_after
same_state s f p k l m e = ap (λ (x : List ℕ). with_first (state_after s p k x) (hdr1_after (with_first s f) k m)) (sym e)

-- nothing is handed out by either
none_behind : (gs hs : List Event) → gs ≡ [] → hs ≡ [] → OneBehind gs hs
none_behind gs hs p q es fs h =
    subst (λ (xs : List Event). OneMeaning (xs ++ es) (hs ++ fs)) (sym p)
    (subst (λ (xs : List Event). OneMeaning es (xs ++ fs)) (sym q) h)

-- one event is handed out by both
one_behind : (x y : Event) → x ≡ y → OneBehind (x ∷ []) (y ∷ [])
one_behind x y e es fs h = subst (λ (z : Event). OneMeaning (x ∷ es) (z ∷ fs)) e (meaning_behind x es fs h)

-- a section: a file begins with the same HDR1, or goes on, with any
section_behind : (g : Bool) (f h l m : List ℕ) → (g ≡ false → f ≡ h) → l ≡ m
    → OneBehind (if_b g (resumes f l) (begins f l) ∷ []) (if_b g (resumes h m) (begins h m) ∷ [])
unfolding if_b
section_behind true f h l m e q = meaning_continued f l h m
section_behind false f h l m e q = one_behind _ _ (ap₂ begins (e refl) q)

alike : (s : State) (f : List ℕ) (p : Phase) (l m : List ℕ) {k : Kind} {a b : Stage} → Move k a b
    → Begun a s.continues s.hdr1 f
    → (s.continues ≡ false → l ≡ m) → (is_dated k ≡ false → l ≡ m) → Alike s f p k b l m
unfolding state_after volumes_after files_after continues_after hdr1_after hdr2_after count_after pending_after segments_in events_of is_dated is_kind if_b
alike s f p l m {k} (stays {a = a} c) h new e =
    record {
      events = none_behind _ _ (events_quiet s k l c) (events_quiet (with_first s f) k m c);
      state = same_state s f p k l m (e (quiet_undated k c));
      begun =
          λ n g. if_false _ _ _ c.hdr1 ∙ h n (sym (if_false _ _ _ c.reel_end ∙ if_false _ _ _ c.file_end) ∙ g)
          ∙ sym (if_false _ _ _ c.hdr1);
    }
alike s f p l m {k} (next_reel c) h new e =
    record {
      events = none_behind _ _ (events_quiet s k l c) (events_quiet (with_first s f) k m c);
      state = same_state s f p k l m (e (quiet_undated k c));
      begun = λ n. absurd (not_named before refl n);
    }
alike s f p l m header1 h new e = record { events = λ es fs h. h; state = refl; begun = λ _ g. new g }
alike s f p l m next_file h new e = record { events = λ es fs h. h; state = refl; begun = λ _ g. new g }
alike s f p l m header2 h new e =
    record {
      events = section_behind s.continues s.hdr1 f l m (h refl) (e refl);
      state = same_state s f p (hdr 2) l m (e refl);
      begun = λ n. absurd (not_named within refl n);
    }
alike s f p l m datum h new e =
    record {
      events = one_behind _ _ (ap (λ (x : List ℕ). holds x (segments_in s x)) (e refl));
      state = same_state s f p data_block l m (e refl);
      begun = λ n. absurd (not_named within refl n);
    }
alike s f p l m eof1 h new e = record { events = λ es fs h. h; state = refl; begun = λ n. absurd (not_named file_over refl n) }
alike s f p l m eov1 h new e = record { events = λ es fs h. h; state = refl; begun = λ n. absurd (not_named reel_over refl n) }
alike s f p l m finish h new e = record { events = λ es fs h. h; state = refl; begun = λ n. absurd (not_named file_over refl n) }

-- ---- whole readings

due_same : (p q : Phase) → Some p ≡ Some q → p ≡ q
due_same p q e = cc

first_item : (x y : Item) (xs ys : List Item) → x ∷ xs ≡ y ∷ ys → x ≡ y
first_item x y xs ys e = cc

rest_items : (x y : Item) (xs ys : List Item) → x ∷ xs ≡ y ∷ ys → xs ≡ ys
rest_items x y xs ys e = cc

some_items : (x : Item) (xs : List Item) → [] ≡ x ∷ xs → ⊥
some_items x xs e = let h : 0 ≡ suc (length xs) = ap length e in omega arith

-- an item without fault goes on
undated_go : (s : State) (x : Item) (xs : List Item) (p : Phase) → Faultless s x p
    → undated_from s (x ∷ xs) ≡ undated_in s.continues s.phase x ∷ undated_from (state_behind s x p) xs
unfolding undated_from undated_behind
undated_go s x xs p h =
    ap (λ (r : Next). undated_in s.continues s.phase x ∷ undated_behind r (λ t. undated_from t xs)) (faultless_go s x p h)

same_runs : (xs ys : List Item) (s : State) (f : List ℕ) → Numbered s.phase
    → Begun (stage s.phase) s.continues s.hdr1 f
    → undated_from s xs ≡ undated_from (with_first s f) ys → All MayEnd s xs → All MayEnd (with_first s f) ys
    → OneMeaning (handed_out (runs s xs)) (handed_out (runs (with_first s f) ys))
unfolding undated_from runs state_after
same_runs [] [] s f n b e u v = record { collected = refl; set = refl }
same_runs [] (y ∷ ys) s f n b e u v = absurd (some_items _ _ e)
same_runs (x ∷ xs) [] s f n b e u v = absurd (some_items _ _ (sym e))
same_runs (x ∷ xs) (y ∷ ys) s f n b e (p, u, us) (q, v, vs) =
    let k : Kind = kind_in s.phase x in
    let both : undated_in s.continues s.phase x ∷ undated_from (state_behind s x p) xs ≡ undated_in s.continues s.phase y ∷ undated_from (state_behind t y q) ys
    = sym (undated_go s x xs p u) ∙ e ∙ undated_go t y ys q v in
    let item : undated_in s.continues s.phase x ≡ undated_in s.continues s.phase y = first_item _ _ _ _ both in
    let kind : k ≡ kind_in s.phase y = same_kind s.continues s.phase x y item in
    let phase : p ≡ q = due_same p q (sym u.due ∙ ap (due_after s.phase) kind ∙ v.due) in
    let moved : Goes s.phase k p = due_goes s.phase k p n u.due in
    let a : Alike s f p k (stage p) (bytes_in x) (bytes_in y)
    = alike s f p (bytes_in x) (bytes_in y) moved.move b
    (λ g. same_bytes s.continues s.phase x y item (and_left s.continues (is_dated k) g))
    (λ d. same_bytes s.continues s.phase x y item (and_right s.continues (is_dated k) d)) in
    let m : List ℕ = bytes_in y in
    let state : state_behind t y q ≡ with_first (state_behind s x p) (hdr1_after t k m) = sym (ap₂ (λ (r : Phase) (j : Kind). state_after t r j m) phase kind) ∙ a.state in
    let rest : OneMeaning (handed_out (runs (state_behind s x p) xs)) (handed_out (runs (with_first (state_behind s x p) (hdr1_after t k m)) ys))
    = same_runs xs ys (state_behind s x p) (hdr1_after t k m) moved.numbered a.begun
    (rest_items _ _ _ _ both ∙ ap (λ (r : State). undated_from r ys) state) us (subst (λ (r : State). All MayEnd r ys) state vs) in
    let here : OneMeaning (events_of s k (bytes_in x) ++ handed_out (runs (state_behind s x p) xs)) (events_of t k m ++ handed_out (runs (state_behind t y q) ys))
    = a.events _ _ (subst (λ (r : State). OneMeaning (handed_out (runs (state_behind s x p) xs)) (handed_out (runs r ys))) (sym state) rest) in
    subst (λ (es : List Event). OneMeaning es (handed_out (runs t (y ∷ ys)))) (sym (handed_more s x xs p u us))
    (subst (OneMeaning (events_of s k (bytes_in x) ++ handed_out (runs (state_behind s x p) xs)))
    (ap (λ (j : Kind). events_of t j m ++ handed_out (runs (state_behind t y q) ys)) kind ∙ sym (handed_more t y ys q v vs)) here)
  where
    t : State
    t = with_first s f

-- ---- the meaning

-- two accepted sets that are the same without the dates of their later sections have one meaning
pub later_dates : (a b : List ℕ) → (image_verdict a).number ≡ 0 → (image_verdict b).number ≡ 0
    → undated_from start (items a) ≡ undated_from start (items b)
    → content a ≡ content b
unfolding content meaning_of start
later_dates a b h k e =
    let one : OneMeaning (handed_out (runs start (items a))) (handed_out (runs start (items b)))
    = same_runs (items a) (items b) start [] refl (λ n. absurd (not_named before refl n)) e ((accepted_iff a).0 h).followed ((accepted_iff b).0 k).followed in
    ap₂ (λ (set : List ℕ) (c : Collected). record { set = set; files = c.files }) one.set one.collected
