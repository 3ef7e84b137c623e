-- A quota is the same room for every reel: the answers on a flat sheet and on an image. Assumes nothing.
use mathlib.Core.Path.{◌≡◌, refl, sym, ap, ◌∙◌, subst}
use mathlib.Core.Bool.{Bool, true, false}
use mathlib.Core.List.{List, [], ◌∷◌}
use Prim.Native.Nat.{ℕ, zero, suc, ◌+◌, ◌-◌, ◌*◌, ◌/◌, ◌≤◌, ◌<◌}
use native.Mathlib.Omega.{arith}
use borrow.Author.Rules.{rules}
use borrow.Author.Tests.{eq-eqb, ne_eqb, eqb-true, leb-true}
use lib.Dec.{eqb, leb}
use lib.ListN.{length, take, drop, get_or, replicate, length-drop, length-take, get_or-replicate}
use Rattle.base.proofs.Ifs.{if_true, if_false}
use Rattle.base.specs.Part.{put_at}
use Rattle.base.specs.declared.Verdict.{Verdict}
use Rattle.volume.specs.Run.{image_verdict}
use Rattle.reading.specs.Legal.{fresh_names, legal_names, legal_quota}
use Rattle.sheet.specs.Flat.{Flat, in_parts, sheet_number, sheet_of, reels_number}
use Rattle.sheet.specs.Code.Flatten.{all_long}
use Rattle.sheet.proofs.Cutting.{parts_none, parts_some}
use Rattle.sheet.proofs.Flattened.{names_long}
use Rattle.output.specs.declared.Written.{Written as Answer}
use Rattle.output.proofs.Writing.{answers_refused}
use Rattle.output.specs.Output.{Written, Result, refused_with, placed, refusal_of, Answers, AnswersAt}
use Rattle.writing.specs.Lay.{Reel, reels_of, Laid, lay_on, lay}
use Rattle.writing.specs.Write.{flat, stored_laid, write_sheet, write}
use Rattle.writing.specs.Rewrite.{sheet_from, rewrite}
use Rattle.writing.proofs.Units.{both}
use Rattle.writer.specs.declared.set.Place.{Place}
use Rattle.writer.specs.Code.Pass.{reels_from, reels_at}
use Rattle.writer.specs.Code.Sets.{Origin, origin_of, Task, task, task_with, meaning_at, CanWrite, set_laid, sheet_at, CanOrder}
use Rattle.writer.proofs.LabelParts.{set_in_lem, names_in_lem}
use Rattle.writer.proofs.FromSheet.{sheet_ordered, sheet_answers}

-- ---- reels that all have the same room

take_replicate : (n m x : ℕ) → n ≤ m → take n (replicate m x) ≡ replicate n x
take_replicate zero m x h = refl
take_replicate (suc n) zero x h = absurd (omega arith)
take_replicate (suc n) (suc m) x h = ap (λ (xs : List ℕ). x ∷ xs) (take_replicate n m x (omega arith))

length_same : (n x : ℕ) → length (replicate n x) ≡ n
length_same zero x = refl
length_same (suc n) x = ap suc (length_same n x)

reels_same : (n x : ℕ) (ns : List (List ℕ)) → length ns ≡ n → reels_from (replicate n x) ns ≡ reels_of x ns
unfolding reels_from reels_of
reels_same zero x [] h = refl
reels_same zero x (m ∷ ns) h = absurd (omega arith)
reels_same (suc n) x [] h = absurd (omega arith)
reels_same (suc n) x (m ∷ ns) h = ap (λ (rs : List Reel). record { name = m; room = x } ∷ rs) (reels_same n x ns (omega arith))

-- names of six bytes each are the bytes of so many names
whole_names : (k : ℕ) (s : List ℕ) → length s ≤ k → all_long 6 (in_parts 6 s) ≡ true → length s ≡ 6 * length (in_parts 6 s)
unfolding all_long
whole_names zero [] l h = sym (ap (λ (ps : List (List ℕ)). 6 * length ps) (parts_none 6))
whole_names zero (x ∷ s) l h = absurd (omega arith)
whole_names (suc k) [] l h = sym (ap (λ (ps : List (List ℕ)). 6 * length ps) (parts_none 6))
whole_names (suc k) (x ∷ s) l h =
    let some : 0 < length (x ∷ s) = omega arith in
    let parts : in_parts 6 (x ∷ s) ≡ take 6 (x ∷ s) ∷ in_parts 6 (drop 6 (x ∷ s)) = parts_some 6 (x ∷ s) (omega arith) some in
    let d : length (drop 6 (x ∷ s)) ≡ length (x ∷ s) - 6 = length-drop 6 (x ∷ s) in
    both (eqb (length (take 6 (x ∷ s))) 6) (all_long 6 (in_parts 6 (drop 6 (x ∷ s))))
    (λ six rest.
    let six' : length (take 6 (x ∷ s)) ≡ 6 = eqb-true _ _ six in
    let others : length (drop 6 (x ∷ s)) ≡ 6 * length (in_parts 6 (drop 6 (x ∷ s))) = whole_names k (drop 6 (x ∷ s)) (omega arith) rest in
    let count : length (in_parts 6 (x ∷ s)) ≡ suc (length (in_parts 6 (drop 6 (x ∷ s)))) = ap length parts in
    omega (arith, length-take 6 (x ∷ s)))
    (ap (all_long 6) (sym parts) ∙ h)

module _ (from : Origin) (set lengths bytes : List ℕ) (g : Place) (quota : ℕ) (names : List ℕ)
    (y : CanOrder from set lengths bytes g quota names) where
  abbrev count : ℕ
  count = length (in_parts 6 names)

  named : {A : Type 0} → (1 ≤ count → count ≤ 16 → length names ≡ 6 * count → A) → A
  unfolding legal_names
  named k =
      both (leb 1 count) _
      (λ one r.
      both (leb count 16) (fresh_names [] (in_parts 6 names))
      (λ few fresh. k (leb-true _ _ one) (leb-true _ _ few)
      (whole_names (length names) names (omega arith) (names_long [] (in_parts 6 names) fresh))) r) y.named

  some_names : 1 ≤ count
  some_names = named (λ one few whole. one)

  few_names : count ≤ 16
  few_names = named (λ one few whole. few)

  whole : length names ≡ 6 * count
  whole = named (λ one few whole. whole)

  bounds : {A : Type 0} → (1 ≤ quota → quota ≤ 999999 → A) → A
  unfolding legal_quota
  bounds k = both (leb 1 quota) _ (λ a b. k (leb-true _ _ a) (leb-true _ _ b)) y.room

  module _ (n : ℕ) (e : n ≡ length names / 6) where
    n_is : n ≡ count
    n_is = omega (arith, whole)

    rooms_within : n ≤ 16
    rooms_within = omega (arith, n_is, few_names)

    module _ (rooms : List ℕ) (r : rooms ≡ take n (replicate 16 quota)) where
      rooms_are : rooms ≡ replicate count quota
      rooms_are = r ∙ take_replicate n 16 quota rooms_within ∙ ap (λ (k : ℕ). replicate k quota) n_is

      rooms_long : length rooms ≡ count
      rooms_long = ap length rooms_are ∙ length_same count quota

      room_is : (i : ℕ) → i < length rooms → get_or rooms i 0 ≡ quota
      room_is i h = ap (λ (s : List ℕ). get_or s i 0) rooms_are ∙ get_or-replicate count i quota 0 (omega (arith, rooms_long))

      quota_writable : CanWrite (task from set lengths bytes rooms names) g
      quota_writable =
          record {
            placed = y.placed;
            first = y.first;
            on = y.on;
            some = y.some;
            reels =
                record {
                  whole = omega (arith, whole, rooms_long);
                  few = omega (arith, rooms_long, few_names);
                  least = λ i h. bounds (λ a b. omega (arith, room_is i h));
                  most = λ i h. bounds (λ a b. omega (arith, room_is i h));
                };
            one = omega (arith, rooms_long, some_names);
          }

      laid_is : set_laid (task from set lengths bytes rooms names) g ≡ lay (sheet_at from set lengths bytes g quota names)
      unfolding set_laid lay sheet_at meaning_at reels_at
      laid_is =
          ap (lay_on (meaning_at (task from set lengths bytes rooms names) g))
          (ap (λ (qs : List ℕ). reels_from qs (in_parts 6 names)) rooms_are ∙ reels_same count quota (in_parts 6 names) refl)

      quota_answers : (o : List ℕ) (a : Answer) (q : List ℕ)
          → Answers (stored_laid (set_laid (task from set lengths bytes rooms names) g) o) a q
          → Answers (write_sheet (sheet_at from set lengths bytes g quota names) o) a q
      unfolding write_sheet
      quota_answers o a q m = subst (λ (l : Laid). Answers (stored_laid l o) a q) laid_is m

-- the same, as the code holds it
module _ (image : Bool) (files counts set lengths bytes : List ℕ) (g : Place) (quota : ℕ) (names : List ℕ)
    (y : CanOrder (origin_of image files counts) set lengths bytes g quota names) where
  abbrev from : Origin
  from = origin_of image files counts

  pub set_room : 47 + length set ≤ 149
  set_room = omega (arith, y.six)

  few_bytes : length names ≤ 96
  few_bytes = omega (arith, whole from set lengths bytes g quota names y, few_names from set lengths bytes g quota names y)

  pub names_room : 53 + length names ≤ 149
  names_room = omega (arith, few_bytes)

  module _ (n : ℕ) (e : n ≡ length names / 6) where
    pub quota_within : n ≤ 16
    quota_within = rooms_within from set lengths bytes g quota names y n e

    module _ (rooms titled labels : List ℕ) (r : rooms ≡ take n (replicate 16 quota))
        (t : titled ≡ put_at (replicate 149 0) 47 set) (l : labels ≡ put_at titled 53 names) where
      names_whole : length names ≡ 6 * length rooms
      names_whole =
          omega (arith, whole from set lengths bytes g quota names y, rooms_long from set lengths bytes g quota names y n e rooms r)

      task_is : task_with image files counts lengths bytes labels rooms ≡ task from set lengths bytes rooms names
      task_is =
          λ i.
          task from (set_in_lem set names titled labels y.six few_bytes t l i) lengths bytes rooms (names_in_lem set names titled labels y.six few_bytes t l (length rooms) names_whole i)

      pub parts_writable : CanWrite (task_with image files counts lengths bytes labels rooms) g
      parts_writable =
          subst (λ (s : Task). CanWrite s g) (sym task_is) (quota_writable from set lengths bytes g quota names y n e rooms r)

      pub parts_answers : (o : List ℕ) (a : Answer) (q : List ℕ)
          → Answers (stored_laid (set_laid (task_with image files counts lengths bytes labels rooms) g) o) a q
          → Answers (write_sheet (sheet_at from set lengths bytes g quota names) o) a q
      parts_answers o a q m =
          quota_answers from set lengths bytes g quota names y n e rooms r o a q
          (subst (λ (s : Task). Answers (stored_laid (set_laid s g) o) a q) task_is m)

pub ruleset quotas = (set_room, names_room, quota_within, parts_writable, parts_answers, rules)

-- ---- a flat sheet

pub write_refused : (x : Flat) (out : List ℕ) (n : ℕ) (a : Answer) → n ≡ sheet_number x → (n ≡ 0 → ⊥) → a ≡ refusal_of n
    → Answers (write x out) a out
unfolding write
write_refused x out n a e d h =
    let other : sheet_number x ≡ 0 → ⊥ = λ z. d (e ∙ z) in
    subst (λ (b : Answer). Answers (write x out) b out) (sym (h ∙ ap refusal_of e))
    (subst (λ (w : Written). Answers w (refusal_of (sheet_number x)) out) (sym (if_false _ _ _ (ne_eqb (sheet_number x) 0 other)))
    (answers_refused (sheet_number x) out))

write_right : (x : Flat) (out : List ℕ) (n : ℕ) (a : Answer) (p : List ℕ) → n ≡ sheet_number x → n ≡ 0
    → Answers (write_sheet (sheet_of x) out) a p → Answers (write x out) a p
unfolding write
write_right x out n a p e z m =
    subst (λ (w : Written). Answers w a p) (sym (if_true _ _ _ (eq-eqb (sheet_number x) 0 (sym e ∙ z)))) m

-- where the files of a sheet begin
abbrev first : Place
first =
    record { nth = 0; first = 0; byte = 0; file = record { hdr1 = 0; hdr2 = 0; walk = record { format = 0; record_length = 0; offset = 0; at = 0; left = 0 } }; on = true }

module _ (set files counts lengths bytes : List ℕ) (quota : ℕ) (names : List ℕ) (n : ℕ)
    (e : n ≡ sheet_number (flat set files counts lengths bytes quota names)) (z : n ≡ 0)
  where
    pub write_ordered : CanOrder (origin_of false files counts) set lengths bytes first quota names
    write_ordered = sheet_ordered set files counts lengths bytes quota names (sym e ∙ z)

    pub write_legal : (out : List ℕ) (a : Answer) (p : List ℕ)
        → Answers (write_sheet (sheet_at (origin_of false files counts) set lengths bytes first quota names) out) a p
        → Answers (write (flat set files counts lengths bytes quota names) out) a p
    write_legal out a p m =
        write_right (flat set files counts lengths bytes quota names) out n a p e z
        (sheet_answers set files counts lengths bytes quota names (sym e ∙ z) out a p m)

pub ruleset writes = (write_refused, write_ordered, write_legal, rules)

-- ---- an image

module _ (s : List ℕ) (quota : ℕ) (names out : List ℕ) (v : Verdict) (e : v ≡ image_verdict s) where
  pub verdict_zero : v.number ≡ 0 → (image_verdict s).number ≡ 0
  verdict_zero z = ap (λ (w : Verdict). w.number) (sym e) ∙ z

  pub rewrite_refused : (a : Answer) → (v.number ≡ 0 → ⊥) → a ≡ record { verdict = v; len = 0 }
      → AnswersAt (rewrite s quota names out) a out
  unfolding rewrite refused_with
  rewrite_refused a d h =
      let other : (image_verdict s).number ≡ 0 → ⊥ = λ z. d (ap (λ (w : Verdict). w.number) e ∙ z) in
      subst (λ (w : Result). AnswersAt w a out) (sym (if_false _ _ _ (ne_eqb _ 0 other)))
      (record { said = ap (λ (r : Answer). r.verdict) h ∙ e; len = ap (λ (r : Answer). r.len) h; out = refl })

  module _ (z : v.number ≡ 0) (n : ℕ) (r : n ≡ reels_number quota names) where
    accepted : (image_verdict s).number ≡ 0
    accepted = verdict_zero z

    pub rewrite_illegal : (a : Answer) → (n ≡ 0 → ⊥) → a ≡ refusal_of n → AnswersAt (rewrite s quota names out) a out
    unfolding rewrite refused_with refusal_of
    rewrite_illegal a d h =
        let other : reels_number quota names ≡ 0 → ⊥ = λ y. d (r ∙ y) in
        subst (λ (b : Answer). AnswersAt (rewrite s quota names out) b out) (sym (h ∙ ap refusal_of r))
        (subst (λ (w : Result). AnswersAt w (refusal_of (reels_number quota names)) out)
        (sym (if_true _ _ _ (eq-eqb _ 0 accepted) ∙ if_false _ _ _ (ne_eqb _ 0 other)))
        (record { said = refl; len = refl; out = refl }))

    pub rewrite_right : (a : Answer) (p : List ℕ) → n ≡ 0 → Answers (write_sheet (sheet_from s quota names) out) a p
        → AnswersAt (rewrite s quota names out) a p
    unfolding rewrite placed
    rewrite_right a p y m =
        subst (λ (w : Result). AnswersAt w a p)
        (sym (if_true _ _ _ (eq-eqb _ 0 accepted) ∙ if_true _ _ _ (eq-eqb _ 0 (sym r ∙ y))))
        (record { said = m.said; len = m.len; out = m.out })

    pub reels_zero : n ≡ 0 → reels_number quota names ≡ 0
    reels_zero y = sym r ∙ y

pub ruleset rewrites = (rewrite_refused, rewrite_illegal, rewrite_right, reels_zero, verdict_zero, rules)
