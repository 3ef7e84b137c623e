-- The laws behind the functions of the order. Assumes nothing.
use Rattle.std.specs.Prelude.{Option, Some, None}
use mathlib.Core.Path.{◌≡◌, refl, sym, ap, ◌∙◌, subst₂}
use mathlib.Core.Bool.{Bool, true, false, ◌&&◌}
use mathlib.Core.List.{List, [], ◌∷◌}
use Prim.Native.Nat.{ℕ, ◌+◌, ◌<◌, ◌^◌}
use native.Mathlib.Omega.{arith}
use mir.Val.{Fits}
use mir.Syntax.{w32}
use borrow.Author.Rules.{rules}
use borrow.Author.Tests.{eq-eqb, ne_eqb, lt-ltb, le-ltb, ltb-true, eqb-true}
use lib.Dec.{eqb, ltb}
use Rattle.base.specs.If.{if_b}
use Rattle.base.proofs.Ifs.{if_true, if_false, if_case, and_left, and_first, and_second}
use Rattle.order.specs.Kind.{is_kind, vol, hdr, eof, eov, data_block, tape_mark, end_of_reel, end_of_image}
use Rattle.order.specs.Due.{DueItem, turn, dues, choose, due_after, up_to_nine}
use Rattle.order.specs.declared.Kind.{Kind}
use Rattle.order.specs.declared.Phase.{Phase}
use Rattle.order.specs.declared.Phase.TheVariants.{Reel, Volume, FirstHeader, Header, Data, Trailer, FirstEof, Eof, FirstEov, Eov, FileEnd, VolumeEnd, SetClosed, ReelClosed, Over, Accepted}

-- the second half of an `and`, where the first holds, and where it does not
pub and_then : (a b : Bool) → a ≡ true → b ≡ a && b
and_then a b p = sym (ap (λ (t : Bool). t && b) p)

pub and_not : (a b : Bool) → a ≡ false → false ≡ a && b
and_not a b p = sym (and_left a b p)

pub and_so : (a b p : Bool) → a ≡ true → p ≡ b → p ≡ a && b
and_so a b p h q = q ∙ and_then a b h

pub ruleset ands = (and_then, and_so, and_not, eq-eqb, ne_eqb, lt-ltb, le-ltb, rules)

-- one more optional label is due, and is there
pub choose_next : (n : ℕ) (i : Kind) (p : Phase) (ts : List DueItem) (k : Kind) (m : Bool) → m ≡ (ltb n 9 && is_kind k i)
    → m ≡ true
    → Some p ≡ choose (up_to_nine n (turn i p) ts) k
unfolding choose up_to_nine if_b
choose_next n i p ts k m e h =
    go (ltb n 9) (sym e ∙ h)
  where
    go : (b : Bool) → (b && is_kind k i) ≡ true → Some p ≡ choose (if_b b (turn i p ∷ ts) ts) k
    go true q = sym (if_true _ _ _ q)
    go false q = absurd (mathlib.Core.Bool.false≢true q)

-- it is not there, or no more is due: what else is due decides
pub choose_rest : (n : ℕ) (i : Kind) (p : Phase) (ts : List DueItem) (k : Kind) (m : Bool) (r : Option Phase) → m ≡ (ltb n 9 && is_kind k i)
    → m ≡ false
    → r ≡ choose ts k → r ≡ choose (up_to_nine n (turn i p) ts) k
unfolding choose up_to_nine if_b
choose_rest n i p ts k m r e h q =
    q ∙ go (ltb n 9) (sym e ∙ h)
  where
    go : (b : Bool) → (b && is_kind k i) ≡ false → choose ts k ≡ choose (if_b b (turn i p ∷ ts) ts) k
    go true q = sym (if_false _ _ _ q)
    go false q = refl

-- there is room for the number of one more
pub fits_next : (n : ℕ) (b m : Bool) → m ≡ (ltb n 9 && b) → m ≡ true → Fits w32 (n + 1)
fits_next n b m e h = record { fits = small (ltb-true n 9 (left (ltb n 9) b (sym e ∙ h))) }
  where
    left : (x y : Bool) → (x && y) ≡ true → x ≡ true
    left true y p = refl
    left false y p = p

    small : n < 9 → n + 1 < 2 ^ 32
    small p = omega arith

-- ---- what is due where no optional label can follow, as a choice by the kind

pub due_reel : (k : Kind) → due_after Reel k ≡ if_b (is_kind k (vol 1)) (Some (Volume 1)) None
unfolding due_after dues choose
due_reel k = refl

pub due_first_header : (k : Kind) → due_after FirstHeader k ≡ if_b (is_kind k (hdr 2)) (Some (Header 2)) None
unfolding due_after dues choose
due_first_header k = refl

pub due_data : (k : Kind) → due_after Data k ≡ if_b (is_kind k data_block) (Some Data) (if_b (is_kind k tape_mark) (Some Trailer) None)
unfolding due_after dues choose
due_data k = refl

pub due_trailer : (k : Kind)
    → due_after Trailer k ≡ if_b (is_kind k (eof 1)) (Some FirstEof) (if_b (is_kind k (eov 1)) (Some FirstEov) None)
unfolding due_after dues choose
due_trailer k = refl

pub due_first_eof : (k : Kind) → due_after FirstEof k ≡ if_b (is_kind k (eof 2)) (Some (Eof 2)) None
unfolding due_after dues choose
due_first_eof k = refl

pub due_first_eov : (k : Kind) → due_after FirstEov k ≡ if_b (is_kind k (eov 2)) (Some (Eov 2)) None
unfolding due_after dues choose
due_first_eov k = refl

pub due_file_end : (k : Kind)
    → due_after FileEnd k ≡ if_b (is_kind k (hdr 1)) (Some FirstHeader) (if_b (is_kind k tape_mark) (Some SetClosed) None)
unfolding due_after dues choose
due_file_end k = refl

pub due_volume_end : (k : Kind) → due_after VolumeEnd k ≡ if_b (is_kind k tape_mark) (Some ReelClosed) None
unfolding due_after dues choose
due_volume_end k = refl

pub due_set_closed : (k : Kind) → due_after SetClosed k ≡ if_b (is_kind k end_of_reel) (Some Over) None
unfolding due_after dues choose
due_set_closed k = refl

pub due_reel_closed : (k : Kind) → due_after ReelClosed k ≡ if_b (is_kind k end_of_reel) (Some Reel) None
unfolding due_after dues choose
due_reel_closed k = refl

pub due_over : (k : Kind) → due_after Over k ≡ if_b (is_kind k end_of_image) (Some Accepted) None
unfolding due_after dues choose
due_over k = refl

pub due_accepted : (k : Kind) → due_after Accepted k ≡ None
unfolding due_after dues choose
due_accepted k = refl

pub ruleset nexts = (choose_next, choose_rest, fits_next, rules)

-- two kinds that pass the test are one
pub kind_is : (a b : Kind) → is_kind a b ≡ true → a ≡ b
unfolding is_kind
kind_is a b h =
    let f : a.family ≡ b.family = eqb-true a.family b.family (and_first (eqb a.family b.family) (eqb a.number b.number) h) in
    let n : a.number ≡ b.number = eqb-true a.number b.number (and_second (eqb a.family b.family) (eqb a.number b.number) h) in
    λ i. record { family = f i; number = n i }

-- ---- what holds of all that is due

-- a claim on every turn of a list
abbrev pub Each : (Kind → Phase → Type 0) → List DueItem → Type 0
Each P [] = Unit {0}
Each P (t ∷ ts) = P t.item t.phase × Each P ts

-- with a first turn and those of labels up to the ninth
pub nine : (P : Kind → Phase → Type 0) (n : ℕ) (t : DueItem) (ts : List DueItem) → P t.item t.phase → Each P ts
    → Each P (up_to_nine n t ts)
unfolding up_to_nine
nine P n t ts h k = if_case (Each P) (ltb n 9) (t ∷ ts) ts (λ _. (h, k)) (λ _. k)

-- what holds of every turn that is due holds of the one that is taken
pub chosen : (P : Kind → Phase → Type 0) (ts : List DueItem) (k : Kind) (q : Phase) → Each P ts → choose ts k ≡ Some q → P k q
unfolding choose
chosen P [] k q each e = let z : ◌≡◌ {A = ℕ} 0 1 = cc in absurd (omega arith)
chosen P (t ∷ ts) k q (here, later) e =
    if_case (λ (d : Option Phase). d ≡ Some q → P k q) (is_kind k t.item) (Some t.phase) (choose ts k)
    (λ s h. let same : t.phase ≡ q = cc in subst₂ P (sym (kind_is k t.item s)) same here) (λ _ h. chosen P ts k q later h) e

-- what is due behind a phase, said of the phase that p is
pub at_phase : (p q : Phase) (k : Kind) (r s : Option Phase) → r ≡ s → s ≡ due_after q k → p ≡ q → r ≡ due_after p k
at_phase p q k r s h e g = h ∙ e ∙ ap (λ (x : Phase). due_after x k) (sym g)

-- the same with two tests
pub at_two : (p q : Phase) (k : Kind) (t : Bool) (r a m s : Option Phase) → r ≡ if_b t a m → m ≡ s → due_after q k ≡ if_b t a s → p ≡ q
    → r ≡ due_after p k
at_two p q k t r a m s h e d g = h ∙ ap (λ (x : Option Phase). if_b t a x) e ∙ sym d ∙ ap (λ (x : Phase). due_after x k) (sym g)

-- nothing is due behind the end
pub at_end : (p : Phase) (k : Kind) → p ≡ Accepted → None ≡ due_after p k
at_end p k g = sym (due_accepted k) ∙ ap (λ (x : Phase). due_after x k) (sym g)

-- two kinds are due
pub choose_two : (k i j : Kind) (p q : Phase) (r m : Option Phase) → r ≡ if_b (is_kind k i) (Some p) m → m ≡ if_b (is_kind k j) (Some q) None
    → r ≡ choose (turn i p ∷ turn j q ∷ []) k
unfolding choose
choose_two k i j p q r m e f = e ∙ ap (λ (x : Option Phase). if_b (is_kind k i) (Some p) x) f
