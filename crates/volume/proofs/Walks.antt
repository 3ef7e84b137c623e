-- Laws of the walk's turns. Assumes nothing.
use Rattle.std.specs.Prelude.{Option, Some, None}
use mathlib.Core.Path.{◌≡◌, refl, sym, ap, ◌∙◌, subst}
use mathlib.Core.Bool.{Bool, true, false, not, false≢true}
use mathlib.Core.List.{List, [], ◌∷◌, ◌++◌}
use Prim.Native.Nat.{ℕ, ◌+◌, ◌-◌, ◌≤◌, ◌<◌}
use native.Mathlib.Omega.{arith}
use borrow.Author.Rules.{rules}
use borrow.Author.Tests.{ne_eqb, eq-eqb, eqb-false}
use lib.Dec.{eqb}
use lib.ListN.{length, take, drop, length-append}
use Rattle.image.specs.Framing.{most_reels, framing_from}
use Rattle.image.specs.declared.Frame.{Frame}
use Rattle.image.proofs.Frames.{framing_from_lem}
use Rattle.base.specs.If.{if_b}
use Rattle.base.proofs.Ifs.{if_true, if_false, if_case}
use Rattle.base.specs.Part.{part}
use Rattle.base.specs.Answer.{fault, verdict}
use Rattle.base.specs.declared.Verdict.{Verdict}
use Rattle.base.specs.declared.Fault.{Fault}
use Rattle.image.specs.Item.{Item, decode}
use Rattle.image.proofs.Items.{decode_past}
use Rattle.order.specs.Kind.{vol, end_of_image, is_kind}
use Rattle.order.specs.Due.{due_after}
use Rattle.order.specs.declared.Kind.{Kind}
use Rattle.order.specs.declared.Phase.{Phase}
use Rattle.base.proofs.Parts.{part_within}
use Rattle.volume.specs.declared.Reading.{Reading}
use Rattle.volume.specs.declared.walk.Spot.{Spot}
use Rattle.volume.specs.declared.walk.Turn.{Turn}
use Rattle.volume.specs.State.{State}
use Rattle.volume.specs.Fault.{item_fault}
use Rattle.volume.specs.Step.{Event, go, no, is_due, ordered, judged, state_after, events_of}
use Rattle.volume.specs.Code.Told.{is_inside, ended_in, closed_in, framed_in, framed_or, told_next, told_from}
use Rattle.volume.specs.Code.Place.{contents}
use Rattle.volume.specs.Code.Walk.{told_at, told_step, told_by, told_due, told_end, told_after, places_after, frame, framed_at, framed_else, last_turn, on_turn, BlockHere, FrameHere, Bounded, Small, DidRead, DidGoOn, DidTurn}
use Rattle.volume.proofs.Faults.{length_names}
use Rattle.volume.proofs.Afters.{room_for_name}

-- ---- counts

pub small : (s : List ℕ) (x : Spot) (n : ℕ) → BlockHere s x n → Small x.state
small s x n h =
    let b : Bounded s x.at x.item x.state = h.bounded in
    record {
      files = omega (arith, b.short, b.within, b.items, b.files);
      blocks = omega
          (arith, b.short, b.within, b.items, b.blocks);
    }

-- ---- the framing from a spot on

pub is_due_lem : (p q : Phase) (k : Kind) (d : Option Phase) → d ≡ due_after p k → d ≡ Some q → true ≡ is_due (due_after p k)
unfolding is_due
is_due_lem p q k d e h = sym (ap is_due (sym e ∙ h))

pub is_undue : (p : Phase) (k : Kind) (d : Option Phase) → d ≡ due_after p k → d ≡ None → false ≡ is_due (due_after p k)
unfolding is_due
is_undue p k d e h = sym (ap is_due (sym e ∙ h))

pub outside_reel : (p : Phase) (b : Bool) → b ≡ is_due (due_after p (vol 1)) → b ≡ true → false ≡ is_inside p
unfolding is_inside
outside_reel p b e h = sym (if_true _ _ _ (sym e ∙ h))

pub inside_reel : (p : Phase) (b c : Bool) → b ≡ is_due (due_after p (vol 1)) → b ≡ false → c ≡ is_due (due_after p end_of_image)
    → not c ≡ is_inside p
unfolding is_inside
inside_reel p b c e h f = ap not f ∙ sym (if_false _ _ _ (sym e ∙ h))

frame_equal : (at item a b : ℕ) (c d : Bool) → a ≡ b → c ≡ d → frame at item a c ≡ frame at item b d
frame_equal at item a b c d p q = λ i. frame at item (p i) (q i)

-- no reel has begun, the last one goes on, or all have ended
pub frame_none : (at item : ℕ) (p : Phase) (m : ℕ) → m ≡ 0 → frame at item 0 false ≡ frame at item (ended_in p m) (closed_in p m)
unfolding ended_in closed_in
frame_none at item p m z = let e : eqb m 0 ≡ true = eq-eqb m 0 z in frame_equal at item _ _ _ _ (sym (if_true _ _ _ e)) (sym (if_true _ _ _ e))

pub frame_inside : (at item : ℕ) (p : Phase) (m : ℕ) (w : Bool) → (m ≡ 0 → ⊥) → w ≡ is_inside p → w ≡ true
    → frame at item (m - 1) false ≡ frame at item (ended_in p m) (closed_in p m)
unfolding ended_in closed_in
frame_inside at item p m w z e h =
    let n : eqb m 0 ≡ false = ne_eqb m 0 z in
    let t : is_inside p ≡ true = sym e ∙ h in
    frame_equal at item _ _ _ _ (sym (if_false _ _ _ n ∙ if_true _ _ _ t)) (sym (if_false _ _ _ n ∙ ap not t))

pub frame_outside : (at item : ℕ) (p : Phase) (m : ℕ) (w : Bool) → (m ≡ 0 → ⊥) → w ≡ is_inside p → w ≡ false
    → frame at item m true ≡ frame at item (ended_in p m) (closed_in p m)
unfolding ended_in closed_in
frame_outside at item p m w z e h =
    let n : eqb m 0 ≡ false = ne_eqb m 0 z in
    let t : is_inside p ≡ false = sym e ∙ h in
    frame_equal at item _ _ _ _ (sym (if_false _ _ _ n ∙ if_false _ _ _ t)) (sym (if_false _ _ _ n ∙ ap not t))

ended_most : (p : Phase) (m : ℕ) → ended_in p m ≤ m
unfolding ended_in
ended_most p m =
    if_case (λ (r : ℕ). r ≤ m) (eqb m 0) _ _ (λ _. omega arith)
    (λ _. if_case (λ (r : ℕ). r ≤ m) (is_inside p) _ _ (λ _. omega arith) (λ _. omega arith))

-- the framing from a place on
framed_here : (s : List ℕ) (at item : ℕ) (p : Phase) (m : ℕ) (y : Frame) (f : Verdict) → FrameHere s at item m
    → y ≡ frame at item (ended_in p m) (closed_in p m)
    → f ≡ framing_from s y.at y.item y.reels y.closed → f ≡ framed_at s at item p m
framed_here s at item p m y f b e q =
    q ∙ ap (λ (z : Frame). framing_from s z.at z.item z.reels z.closed) e
    ∙ framing_from_lem s at item (ended_in p m) (closed_in p m) b.short (omega (arith, b.short, b.within, b.items))
    (omega (arith, ended_most p m, b.few))

pub framed_good : (s : List ℕ) (at item : ℕ) (p : Phase) (m : ℕ) (y : Frame) (f v : Verdict) → FrameHere s at item m
    → y ≡ frame at item (ended_in p m) (closed_in p m)
    → f ≡ framing_from s y.at y.item y.reels y.closed → f.number ≡ 0 → v ≡ framed_else s at item p m v
framed_good s at item p m y f v b e q z =
    sym (if_true _ _ _ (eq-eqb _ 0 (ap (λ (g : Verdict). g.number) (sym (framed_here s at item p m y f b e q)) ∙ z)))

pub framed_bad : (s : List ℕ) (at item : ℕ) (p : Phase) (m : ℕ) (y : Frame) (f v : Verdict) → FrameHere s at item m
    → y ≡ frame at item (ended_in p m) (closed_in p m)
    → f ≡ framing_from s y.at y.item y.reels y.closed → (f.number ≡ 0 → ⊥) → f ≡ framed_else s at item p m v
framed_bad s at item p m y f v b e q z =
    let here : f ≡ framed_at s at item p m = framed_here s at item p m y f b e q in
    here ∙ sym (if_false _ _ _ (ne_eqb _ 0 (λ n. z (ap (λ (g : Verdict). g.number) here ∙ n))))

pub ruleset frames =
    (is_due_lem, is_undue, outside_reel, inside_reel, frame_none, frame_inside, frame_outside, framed_good, framed_bad, rules)

-- ---- the end of the walk

pub end_good : (s volumes : List ℕ) (x : Spot) (f : Fault) → f.number ≡ 0 → verdict 0 0 0 ≡ told_end s volumes x f
unfolding told_end
end_good s volumes x f z = sym (if_true _ _ _ (eq-eqb _ 0 z))

pub end_bad : (s volumes : List ℕ) (x : Spot) (f : Fault) (r : Verdict) → (f.number ≡ 0 → ⊥)
    → r ≡ framed_else s x.at x.item x.state.phase (length volumes) (verdict f.number x.item f.byte)
    → r ≡ told_end s volumes x f
unfolding told_end
end_bad s volumes x f r z e = e ∙ sym (if_false _ _ _ (ne_eqb _ 0 z))

-- ---- turns that stop

-- a turn that ends with a number
pub owes_last : (s volumes : List ℕ) (x : Spot) (v : Verdict) (number byte : ℕ) (r : Turn)
    → Bounded s x.at x.item x.state
    → r ≡ last_turn x number byte
    → v ≡ told_end s volumes x (fault number byte) → DidTurn s volumes x.at v r
unfolding told_after places_after if_b fault
owes_last s volumes x v number byte r b e q =
    subst (DidTurn s volumes x.at v) (sym e)
    (record { same = sym q; onward = λ h. absurd (false≢true h); bounded = b; few = λ h. h })

-- the verdict of a refusal
told_refused : (s volumes : List ℕ) (x : Spot) (number byte : ℕ) → (number ≡ 0 → ⊥)
    → framed_or x.item (contents s volumes x.state) (decode (drop x.at s)) (verdict number x.item byte)
    ≡ told_end s volumes x (fault number byte)
unfolding told_end framed_or framed_in contents fault
told_refused s volumes x number byte z =
    ap (λ (m : ℕ). framed_else s x.at x.item x.state.phase m (verdict number x.item byte)) (length_names s volumes)
    ∙ sym (if_false _ _ _ (ne_eqb number 0 z))

-- the verdict by a refused item
told_stop : (s volumes : List ℕ) (x : Spot) (behind k b : ℕ) → (k ≡ 0 → ⊥)
    → told_step s volumes x behind (no k b) ≡ told_end s volumes x (fault k b)
unfolding told_step told_next
told_stop s volumes x behind k b z = told_refused s volumes x k b z

not_three : ◌≡◌ {A = ℕ} 3 0 → ⊥
not_three = eqb-false 3 0 refl

-- an item that is not due
pub undue_told : (s volumes : List ℕ) (x : Spot) (k : Kind) (l : List ℕ) (behind : ℕ) (d : Option Phase) → d ≡ due_after x.state.phase k
    → d ≡ None
    → told_by s volumes x k l behind ≡ told_end s volumes x (fault 3 0)
unfolding told_by ordered
undue_told s volumes x k l behind d e w =
    ap (λ (y : Option Phase). told_step s volumes x behind (ordered (contents s volumes x.state) k l y)) (sym e ∙ w)
    ∙ told_stop s volumes x behind 3 0 not_three

pub owes_undue : (s volumes : List ℕ) (x : Spot) (k : Kind) (l : List ℕ) (n behind : ℕ) (d : Option Phase) (r : Turn) → BlockHere s x n
    → d ≡ due_after x.state.phase k → d ≡ None
    → r ≡ last_turn x 3 0 → DidTurn s volumes x.at (told_by s volumes x k l behind) r
owes_undue s volumes x k l n behind d r h e w q =
    owes_last s volumes x _ 3 0 r h.bounded q (undue_told s volumes x k l behind d e w)

-- an item with a fault
pub owes_fault : (s volumes : List ℕ) (x : Spot) (p : Phase) (k : Kind) (n : ℕ) (f : Fault) (r : Turn) → BlockHere s x n
    → f ≡ item_fault (contents s volumes x.state) k (take (x.at + 3 + n - (x.at + 3)) (drop (x.at + 3) s))
    → (f.number ≡ 0 → ⊥) → r ≡ last_turn x f.number f.byte
    → DidTurn s volumes x.at (told_due s volumes x p k (part (x.at + 3) n s) (x.at + 3 + n)) r
unfolding told_due judged
owes_fault s volumes x p k n f r h e z q =
    let t : State = contents s volumes x.state in
    let l : List ℕ = part (x.at + 3) n s in
    let same : item_fault t k l ≡ f = ap (item_fault t k) (sym (part_within (x.at + 3) n s)) ∙ sym e in
    owes_last s volumes x _ f.number f.byte r h.bounded q
    (ap (λ (y : Fault). told_step s volumes x (x.at + 3 + n) (judged t p k l y)) same
    ∙ ap (told_step s volumes x (x.at + 3 + n)) (if_false _ _ _ (ne_eqb f.number 0 z))
    ∙ told_stop s volumes x (x.at + 3 + n) f.number f.byte z)

-- ---- turns that go on

pub told_on : (s volumes : List ℕ) (x : Spot) (behind : ℕ) (t : State) (es : List Event)
    → told_step s volumes x behind (go t es) ≡ told_from (x.item + 1) t (decode (drop behind s))
unfolding told_step told_next
told_on s volumes x behind t es = refl

pub onward_made : (s : List ℕ) (x : Spot) (p : Phase) (k : Kind) (n : ℕ) (t : Reading) (b : Bool) (r : Turn)
    → DidRead s x.state p k (x.at + 3) n t → b ≡ is_kind k (vol 1)
    → r ≡ on_turn (x.at + 3 + n) (x.item + 1) t b (x.at + 3 + 4) → DidGoOn s x p k n r
onward_made s x p k n t b r h e q =
    subst (DidGoOn s x p k n) (sym q) (record { on = refl; at = refl; item = refl; named = e; name = refl; behind = h })

-- one more name where there is room for it
length_places : (t : Bool) (volumes : List ℕ) (a m : ℕ) → (t ≡ true → length volumes < m) → length volumes ≤ m
    → length (if_b t (volumes ++ (a ∷ [])) volumes) ≤ m
length_places t volumes a m f h =
    if_case (λ (l : List ℕ). length l ≤ m) t _ _ (λ e. omega (arith, length-append volumes (a ∷ []), f e)) (λ _. h)

pub owes_on : (s volumes : List ℕ) (x : Spot) (p : Phase) (k : Kind) (n : ℕ) (f : Fault) (r : Turn) → BlockHere s x n
    → f ≡ item_fault (contents s volumes x.state) k (take (x.at + 3 + n - (x.at + 3)) (drop (x.at + 3) s))
    → f.number ≡ 0 → DidGoOn s x p k n r
    → DidTurn s volumes x.at (told_due s volumes x p k (part (x.at + 3) n s) (x.at + 3 + n)) r
unfolding told_due judged told_after told_at places_after
owes_on s volumes x p k n f r h e z o =
    let t : State = contents s volumes x.state in
    let l : List ℕ = part (x.at + 3) n s in
    let behind : ℕ = x.at + 3 + n in
    let same : item_fault t k l ≡ f = ap (item_fault t k) (sym (part_within (x.at + 3) n s)) ∙ sym e in
    let sound : (item_fault t k l).number ≡ 0 = ap (λ (y : Fault). y.number) same ∙ z in
    let places : if_b r.named (volumes ++ (r.name ∷ [])) volumes
    ≡ if_b (is_kind k (vol 1)) (volumes ++ ((x.at + 3 + 4) ∷ [])) volumes
    = ap (λ (b : Bool). if_b b (volumes ++ (r.name ∷ [])) volumes) o.named
    ∙ ap (λ (a : ℕ). if_b (is_kind k (vol 1)) (volumes ++ (a ∷ [])) volumes) o.name in
    let b : Bounded s x.at x.item x.state = h.bounded in
    record {
      same =
          if_true _ _ _ o.on
          ∙ ap (λ (m : ℕ). told_from m (contents s (if_b r.named (volumes ++ (r.name ∷ [])) volumes) r.spot.state)
          (decode (drop r.spot.at s))) o.item
          ∙ ap (λ (m : ℕ). told_from (x.item + 1) (contents s (if_b r.named (volumes ++ (r.name ∷ [])) volumes) r.spot.state)
          (decode (drop m s))) o.at
          ∙ ap (λ (ns : List ℕ). told_from (x.item + 1) (contents s ns r.spot.state) (decode (drop behind s))) places
          ∙ ap (λ (u : State). told_from (x.item + 1) u (decode (drop behind s))) (o.behind.same volumes)
          ∙ sym (told_on s volumes x behind (state_after t p k l) (events_of t k l))
          ∙ sym (ap (told_step s volumes x behind) (if_true _ _ _ (eq-eqb f.number 0 z)))
          ∙ ap (λ (y : Fault). told_step s volumes x behind (judged t p k l y)) (sym same);
      onward = λ _. omega (arith, o.at);
      bounded =
          record {
            short = b.short;
            within = omega (arith, o.at, h.within);
            items = omega (arith, o.at, o.item, b.items);
            files = omega (arith, o.item, o.behind.files, b.files);
            blocks = omega (arith, o.item, o.behind.blocks, b.blocks);
          };
      few = λ most. subst (λ (ns : List ℕ). length ns ≤ most_reels) (sym places)
          (length_places (is_kind k (vol 1)) volumes (x.at + 3 + 4) most_reels
          (room_for_name s volumes x.state k l sound) most);
    }

-- an item that is due owes what its judgement owes
pub owes_due : (s volumes : List ℕ) (x : Spot) (p : Phase) (k : Kind) (l : List ℕ) (behind : ℕ) (d : Option Phase) (r : Turn)
    → d ≡ due_after x.state.phase k → d ≡ Some p
    → DidTurn s volumes x.at (told_due s volumes x p k l behind) r → DidTurn s volumes x.at (told_by s volumes x k l behind) r
unfolding told_by told_due ordered
owes_due s volumes x p k l behind d r e q o =
    subst (λ (v : Verdict). DidTurn s volumes x.at v r)
    (sym (ap (λ (y : Option Phase). told_step s volumes x behind (ordered (contents s volumes x.state) k l y)) (sym e ∙ q))) o

-- ---- the end of the image

pub owes_end : (s volumes : List ℕ) (x : Spot) (d : Option Phase) (p : Phase) (r : Turn) → Bounded s x.at x.item x.state
    → length s ≤ x.at
    → d ≡ due_after x.state.phase end_of_image → d ≡ Some p → r ≡ last_turn x 0 0 → DidTurn s volumes x.at (told_at s volumes x) r
unfolding told_at told_from is_due contents told_end fault if_b
owes_end s volumes x d p r b h e q t =
    owes_last s volumes x _ 0 0 r b t
    (ap (told_from x.item (contents s volumes x.state)) (decode_past s x.at h) ∙ if_true _ _ _ (ap is_due (sym e ∙ q)))

pub owes_early : (s volumes : List ℕ) (x : Spot) (d : Option Phase) (r : Turn) → Bounded s x.at x.item x.state → length s ≤ x.at
    → d ≡ due_after x.state.phase end_of_image → d ≡ None → r ≡ last_turn x 3 0
    → DidTurn s volumes x.at (told_at s volumes x) r
unfolding told_at told_from is_due contents
owes_early s volumes x d r b h e q t =
    let t' : State = contents s volumes x.state in
    owes_last s volumes x _ 3 0 r b t
    (ap (told_from x.item t') (decode_past s x.at h) ∙ if_false _ _ _ (ap is_due (sym e ∙ q))
    ∙ ap (λ (xs : List Item). framed_or x.item t' xs (verdict 3 x.item 0)) (sym (decode_past s x.at h))
    ∙ told_refused s volumes x 3 0 not_three)
