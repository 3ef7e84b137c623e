-- Laws of the names that were read, as a loop over their places wants them, and of the volume label's fault. Assumes nothing.
use Rattle.std.specs.Prelude.{Option, Some, None}
use mathlib.Core.Path.{◌≡◌, refl, sym, ap, ◌∙◌}
use mathlib.Core.Bool.{Bool, true, false}
use mathlib.Core.List.{List, [], ◌∷◌}
use Prim.Native.Nat.{ℕ, suc, ◌+◌, ◌≤◌, ◌<◌}
use native.Mathlib.Omega.{arith}
use native.Mathlib.Numerals.{add-one}
use borrow.Author.Rules.{rules}
use borrow.Author.Tests.{le-leb, lt-leb}
use lib.Dec.{leb}
use lib.ListN.{length, drop, get_or, drop_of_length-le}
use lib.Seq.{drop-cons}
use Rattle.base.specs.If.{if_b}
use Rattle.base.proofs.Ifs.{if_true, if_false, so_true, so_false}
use Rattle.base.specs.Part.{part, same}
use Rattle.base.specs.Answer.{fault}
use Rattle.label.specs.Field.{volume_of}
use Rattle.volume.specs.Fault.{names_at, says, value_of, is_among, crossed, volume_fault}

-- ---- a choice, at the branch that the code took

pub is_then : {A : Type 0} (t : Bool) (a b r : A) → t ≡ true → r ≡ a → r ≡ if_b t a b
is_then t a b r h e = e ∙ sym (if_true t a b h)

pub is_else : {A : Type 0} (t : Bool) (a b r : A) → t ≡ false → r ≡ b → r ≡ if_b t a b
is_else t a b r h e = e ∙ sym (if_false t a b h)

-- ---- a field that was read, and what it says

pub said : (b : Bool) (n : ℕ) (x y : Option ℕ) → b ≡ says n x → x ≡ y → b ≡ true → says n y ≡ true
said b n x y e f h = cc

pub unsaid : (b : Bool) (n : ℕ) (x y : Option ℕ) → b ≡ says n x → x ≡ y → b ≡ false → says n y ≡ false
unsaid b n x y e f h = cc

pub value_some : (x : Option ℕ) (n : ℕ) → x ≡ Some n → n ≡ value_of x
unfolding value_of
value_some x n e = sym (ap value_of e)

pub value_none : (x : Option ℕ) → x ≡ None → 0 ≡ value_of x
unfolding value_of
value_none x e = sym (ap value_of e)

pub ruleset fields = (if_true, if_false, so_true, so_false, said, unsaid)

-- ---- the loop of `is_among`: what is left from here is searched as the whole

pub record Searched (s v places : List ℕ) (i : ℕ) : Type 0 where
  pub within : i ≤ length places
  pub left : is_among v (names_at s (drop i places)) ≡ is_among v (names_at s places)

-- the place at i, and those behind it
names_at_lem : (s v places : List ℕ) (i : ℕ) → i < length places
    → is_among v (names_at s (drop i places))
    ≡ if_b (same v (part (get_or places i 0) 6 s)) true (is_among v (names_at s (drop (i + 1) places)))
unfolding is_among names_at
names_at_lem s v places i h = rw (add-one, drop-cons places i 0 h)

pub searched_none : (s v places : List ℕ) → Searched s v places 0
searched_none s v places = record { within = omega arith; left = refl }

pub searched_more : (s v places : List ℕ) (i : ℕ) (b : Bool) → Searched s v places i → i < length places
    → b ≡ same v (part (get_or places i 0) 6 s) → b ≡ false → Searched s v places (i + 1)
searched_more s v places i b c h e f =
    record { within = omega arith; left = sym (names_at_lem s v places i h ∙ if_false _ _ _ (sym e ∙ f)) ∙ c.left }

pub searched_found : (s v places : List ℕ) (i : ℕ) (b : Bool) → Searched s v places i → i < length places
    → b ≡ same v (part (get_or places i 0) 6 s) → b ≡ true → true ≡ is_among v (names_at s places)
searched_found s v places i b c h e f = sym (names_at_lem s v places i h ∙ if_true _ _ _ (sym e ∙ f)) ∙ c.left

pub searched_all : (s v places : List ℕ) (i : ℕ) → Searched s v places i → length places ≤ i
    → false ≡ is_among v (names_at s places)
unfolding is_among names_at
searched_all s v places i c h = sym (ap (λ (l : List ℕ). is_among v (names_at s l)) (drop_of_length-le places h)) ∙ c.left

pub ruleset pieces = (searched_none, searched_more, searched_found, searched_all, rules)

-- ---- the volume label

pub length_names : (s places : List ℕ) → length (names_at s places) ≡ length places
unfolding names_at
length_names s [] = refl
length_names s (a ∷ places) = ap suc (length_names s places)

pub volume_many : (s places l : List ℕ) → 16 ≤ length places → fault 2 0 ≡ volume_fault (names_at s places) l
unfolding volume_fault
volume_many s places l k =
    let e : 16 ≤ length (names_at s places) = rw (length_names) k in
    sym (if_true _ _ _ (le-leb 16 (length (names_at s places)) e))

few_names : (s places : List ℕ) → length places < 16 → leb 16 (length (names_at s places)) ≡ false
few_names s places h =
    let e : length (names_at s places) < 16 = rw (length_names) h in
    lt-leb 16 (length (names_at s places)) e

crossed_five : crossed 5 ≡ fault 6 5
unfolding crossed if_b
crossed_five = refl

crossed_none : crossed 0 ≡ fault 0 0
unfolding crossed if_b
crossed_none = refl

pub volume_again : (s places l v : List ℕ) (b : Bool) → length places < 16 → v ≡ volume_of l
    → b ≡ is_among v (names_at s places) → b ≡ true → fault 6 5 ≡ volume_fault (names_at s places) l
unfolding volume_fault
volume_again s places l v b h e f g =
    let t : is_among (volume_of l) (names_at s places) ≡ true = cc in
    is_else _ _ _ _ (few_names s places h) (sym (ap crossed (if_true _ _ _ t) ∙ crossed_five))

pub volume_new : (s places l v : List ℕ) (b : Bool) → length places < 16 → v ≡ volume_of l
    → b ≡ is_among v (names_at s places) → b ≡ false → fault 0 0 ≡ volume_fault (names_at s places) l
unfolding volume_fault
volume_new s places l v b h e f g =
    let t : is_among (volume_of l) (names_at s places) ≡ false = cc in
    is_else _ _ _ _ (few_names s places h) (sym (ap crossed (if_false _ _ _ t) ∙ crossed_none))

pub ruleset volumes = (volume_many, volume_again, volume_new, rules)
