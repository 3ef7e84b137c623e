-- Number 0 is given exactly to accepted sets, and a refusal names the first wrong item. Assumes nothing.
use Rattle.std.specs.Prelude.{Option, Some, None}
use mathlib.Core.Path.{◌≡◌, refl, sym, ap, ◌∙◌, subst}
use mathlib.Core.Logic.{◌↔◌}
use mathlib.Core.List.{List, [], ◌∷◌}
use Prim.Native.Nat.{ℕ, ◌+◌}
use native.Mathlib.Omega.{arith}
use borrow.Author.Tests.{eqb-true, eqb-false, eq-eqb}
use lib.Dec.{eqb}
use Rattle.base.proofs.Ifs.{if_true, if_false, if_case}
use Rattle.base.specs.Answer.{verdict}
use Rattle.base.specs.declared.Verdict.{Verdict}
use Rattle.base.specs.declared.Fault.{Fault}
use Rattle.image.specs.Item.{Item}
use Rattle.image.specs.Framing.{framing, items}
use Rattle.order.specs.Kind.{end_of_image}
use Rattle.order.specs.Due.{due_after}
use Rattle.order.specs.declared.Phase.{Phase}
use Rattle.volume.specs.State.{State, start}
use Rattle.volume.specs.Fault.{item_fault}
use Rattle.volume.specs.Step.{Event, Next, go, no, step, judged, ordered, events_of, kind_in, bytes_in, is_due}
use Rattle.volume.specs.Run.{Run, ended, stopped, further, next, runs, answer_of, image_verdict}
use Rattle.volume.specs.Accepted.{Faultless, All, MayEnd, Accepted, FirstWrong, state_behind}

-- ---- one item

-- an item without fault goes on
pub faultless_go : (s : State) (x : Item) (p : Phase) → Faultless s x p
    → step s x ≡ go (state_behind s x p) (events_of s (kind_in s.phase x) (bytes_in x))
unfolding step ordered judged
faultless_go s x p h =
    ap (ordered s (kind_in s.phase x) (bytes_in x)) h.due
    ∙ if_true _ _ _ (eq-eqb (item_fault s (kind_in s.phase x) (bytes_in x)).number 0 h.sound)

-- and reading goes on behind it
pub faultless_runs : (s : State) (x : Item) (xs : List Item) (p : Phase) → Faultless s x p
    → runs s (x ∷ xs) ≡ further (events_of s (kind_in s.phase x) (bytes_in x)) (runs (state_behind s x p) xs)
unfolding runs next
faultless_runs s x xs p h = ap (λ (r : Next). next r (λ t. runs t xs)) (faultless_go s x p h)

-- what holds where an item is without fault, and where it is refused with a number that is not 0, holds of its step
pub by_step {ℓ} : (P : Next → Type ℓ) (s : State) (x : Item)
    → ((p : Phase) → Faultless s x p → P (go (state_behind s x p) (events_of s (kind_in s.phase x) (bytes_in x))))
    → ((k b : ℕ) → (k ≡ 0 → ⊥) → step s x ≡ no k b → P (no k b)) → P (step s x)
unfolding step ordered judged
by_step P s x good bad = due (due_after s.phase (kind_in s.phase x)) refl
  where
    l : List ℕ
    l = bytes_in x

    f : Fault
    f = item_fault s (kind_in s.phase x) l

    due : (d : Option Phase) → due_after s.phase (kind_in s.phase x) ≡ d → P (ordered s (kind_in s.phase x) l d)
    due (Some p) e =
        if_case P (eqb f.number 0) (go (state_behind s x p) (events_of s (kind_in s.phase x) l)) (no f.number f.byte)
        (λ h. good p (record { due = e; sound = eqb-true f.number 0 h }))
        (λ h. bad f.number f.byte (eqb-false f.number 0 h) (ap (ordered s (kind_in s.phase x) l) e ∙ if_false _ _ _ h))
    due None e = bad 3 0 (λ q. eqb-false 3 0 refl q) (ap (ordered s (kind_in s.phase x) l) e)

-- ---- all items

-- number 0 from item n on
unfoldable pub Ends : Run → Type 0
Ends (ended es) = Unit {0}
Ends (stopped k i b) = ⊥

ends_further : (es : List Event) (r : Run) → Ends (further es r) → Ends r
unfolding Ends further
ends_further es (ended fs) h = tt
ends_further es (stopped k i b) h = h

further_ends : (es : List Event) (r : Run) → Ends r → Ends (further es r)
unfolding Ends further
further_ends es (ended fs) h = tt
further_ends es (stopped k i b) h = h

-- where no item has a fault, reading comes to its end
pub all_ends : (s : State) (xs : List Item) → All MayEnd s xs → Ends (runs s xs)
unfolding runs next Ends
all_ends s [] h = subst Ends (sym (if_true (is_due (due_after s.phase end_of_image)) (ended []) (stopped 3 0 0) h)) tt
all_ends s (x ∷ xs) (p, h, q) =
    subst (λ (r : Next). Ends (next r (λ t. runs t xs))) (sym (faultless_go s x p h))
    (further_ends (events_of s (kind_in s.phase x) (bytes_in x)) _ (all_ends (state_behind s x p) xs q))

pub ends_all : (s : State) (xs : List Item) → Ends (runs s xs) → All MayEnd s xs
unfolding runs next Ends
ends_all s [] h =
    if_case (λ (r : Run). Ends r → MayEnd s) (is_due (due_after s.phase end_of_image)) (ended []) (stopped 3 0 0) (λ e _. e)
    (λ _ q. absurd q) h
ends_all s (x ∷ xs) h =
    by_step (λ (r : Next). Ends (next r (λ t. runs t xs)) → All MayEnd s (x ∷ xs)) s x
    (λ p f q. (p, f, ends_all (state_behind s x p) xs (ends_further _ _ q))) (λ k b _ _ q. absurd q) h

-- ---- the first wrong item

Told : State → List Item → Run → Type 0
Told s xs (ended es) = Unit {0}
Told s xs (stopped k i b) = (k ≡ 0 → ⊥) × FirstWrong s xs k i b

told_further : (s : State) (x : Item) (xs : List Item) (p : Phase) → Faultless s x p → (es : List Event) (r : Run)
    → Told (state_behind s x p) xs r → Told s (x ∷ xs) (further es r)
unfolding Told further
told_further s x xs p f es (ended fs) h = tt
told_further s x xs p f es (stopped k i b) h =
    (h.0, record { within = omega (arith, h.1.within); refused = (p, f, h.1.refused) })

told : (s : State) (xs : List Item) → Told s xs (runs s xs)
unfolding runs next Told
told s [] =
    if_case (Told s []) (is_due (due_after s.phase end_of_image)) (ended []) (stopped 3 0 0) (λ _. tt)
    (λ e. ((λ q. eqb-false 3 0 refl q), record { within = omega arith; refused = (refl, refl, e) }))
told s (x ∷ xs) =
    by_step (λ (r : Next). Told s (x ∷ xs) (next r (λ t. runs t xs))) s x
    (λ p f. told_further s x xs p f _ _ (told (state_behind s x p) xs)) (λ k b h e. (h, record { within = omega arith; refused = e }))

-- ---- the verdict

-- number 0 is given exactly where reading ends
pub zero_ends : (s : State) (xs : List Item) → (answer_of 0 (runs s xs)).number ≡ 0 → Ends (runs s xs)
unfolding Told Ends answer_of verdict
zero_ends s xs = by_run (runs s xs) (told s xs)
  where
    by_run : (r : Run) → Told s xs r → (answer_of 0 r).number ≡ 0 → Ends r
    by_run (ended es) t e = tt
    by_run (stopped k i b) t e = absurd (t.0 e)

ends_zero : (r : Run) → Ends r → answer_of 0 r ≡ verdict 0 0 0
unfolding Ends answer_of
ends_zero (ended es) h = refl
ends_zero (stopped k i b) h = absurd h

-- an accepted set is done, without a place
pub accepted_done : (s : List ℕ) → Accepted s → image_verdict s ≡ verdict 0 0 0
unfolding image_verdict
accepted_done s a =
    if_true _ _ _ (eq-eqb (framing s).number 0 a.framed)
    ∙ ends_zero (runs start (items s)) (all_ends start (items s) a.followed)

-- number 0 is given exactly to accepted sets
pub accepted_iff : (s : List ℕ) → (image_verdict s).number ≡ 0 ↔ Accepted s
unfolding image_verdict
accepted_iff s = (to, from)
  where
    to : (image_verdict s).number ≡ 0 → Accepted s
    to =
        if_case (λ (v : Verdict). v.number ≡ 0 → Accepted s) (eqb (framing s).number 0) (answer_of 0 (runs start (items s)))
        (framing s)
        (λ e h. record {
          framed = eqb-true (framing s).number 0 e;
          followed = ends_all start (items s)
              (zero_ends start (items s) h);
        })
        (λ e h. absurd (eqb-false (framing s).number 0 e h))

    zero : (verdict 0 0 0).number ≡ 0
    zero = unfold verdict in refl

    from : Accepted s → (image_verdict s).number ≡ 0
    from a = ap (λ (v : Verdict). v.number) (accepted_done s a) ∙ zero

-- and a verdict of 0 without a place to no other
pub done_accepted : (s : List ℕ) → image_verdict s ≡ verdict 0 0 0 → Accepted s
unfolding verdict
done_accepted s e = (accepted_iff s).0 (ap (λ (v : Verdict). v.number) e)

-- where the framing is good, a refusal names the first wrong item, with the number and the byte that its step gives
pub refused_first : (s : List ℕ) (k i b : ℕ) → (framing s).number ≡ 0 → (k ≡ 0 → ⊥) → image_verdict s ≡ verdict k i b
    → FirstWrong start (items s) k i b
unfolding image_verdict answer_of verdict Told
refused_first s k i b f z e =
    by_run (runs start (items s)) (told start (items s)) (sym (if_true _ _ _ (eq-eqb (framing s).number 0 f)) ∙ e)
  where
    by_run : (r : Run) → Told start (items s) r → answer_of 0 r ≡ verdict k i b → FirstWrong start (items s) k i b
    by_run (ended es) t q = absurd (z (sym (ap (λ (v : Verdict). v.number) q)))
    by_run (stopped n j c) t q =
        let en : n ≡ k = ap (λ (v : Verdict). v.number) q in
        let ej : 0 + j ≡ i = ap (λ (v : Verdict). v.item) q in
        let ei : j ≡ i = omega arith in
        let ec : c ≡ b = ap (λ (v : Verdict). v.byte) q in
        subst (λ (m : ℕ). FirstWrong start (items s) m i b) en
        (subst (λ (m : ℕ). FirstWrong start (items s) n m b) ei (subst (λ (m : ℕ). FirstWrong start (items s) n j m) ec t.1))
