-- A call's answer at what its arguments are equal to: one law for each function that is called on the answers of calls. Assumes
-- nothing.
use Rattle.std.specs.Prelude.{Option, Some, None}
use mathlib.Core.Path.{◌≡◌, sym, ◌∙◌}
use mathlib.Core.Bool.{Bool, true, false}
use mathlib.Core.List.{List}
use Prim.Native.Nat.{ℕ, ◌+◌}
use lib.Dec.{eqb}
use Rattle.base.specs.If.{if_b}
use Rattle.base.proofs.Ifs.{if_true, if_false}
use Rattle.base.specs.Answer.{fault, or_else}
use Rattle.base.proofs.Bytes.{same_is, same_second}
use Rattle.base.specs.declared.Fault.{Fault}
use Rattle.block.specs.Turn.{block_outcome}
use Rattle.block.specs.declared.Outcome.{Outcome}
use Rattle.label.specs.Judged.{label_fault}
use Rattle.order.specs.declared.Kind.{Kind}
use Rattle.volume.specs.Fault.{names_at, says, value_of, lower, crossed, context_fault, item_fault}
use Rattle.volume.specs.Code.Place.{contents, label_at}
use Rattle.volume.specs.declared.Reading.{Reading}
use Rattle.volume.proofs.Faults.{value_some, value_none}

pub says_value : (n v : ℕ) (x : Option ℕ) → x ≡ Some v → eqb v n ≡ says n x
unfolding says
says_value n v x e = cc

pub says_wrong : (n : ℕ) (x : Option ℕ) → x ≡ None → false ≡ says n x
unfolding says
says_wrong n x e = cc

pub value_is : (n : ℕ) (x y : Option ℕ) → n ≡ value_of x → x ≡ y → n ≡ value_of y
value_is n x y e f = cc

pub crossed_is : (r : Fault) (p q : ℕ) → r ≡ crossed p → p ≡ q → r ≡ crossed q
crossed_is r p q e f = cc

pub lower_is : (r p q a b : ℕ) → r ≡ lower p q → p ≡ a → q ≡ b → r ≡ lower a b
lower_is r p q a b e f g = cc

pub or_else_is : (r p q a b : Fault) → r ≡ or_else p q → p ≡ a → q ≡ b → r ≡ or_else a b
or_else_is r p q a b e f g = cc

pub one_higher : (b : Bool) (n : ℕ) (x y f l : Option ℕ) → b ≡ says (n + 1) y → y ≡ l → n ≡ value_of x → x ≡ f
    → b ≡ says (value_of f + 1) l
one_higher b n x y f l e g h i = cc

pub section_then : (b : Bool) (n : ℕ) (x y f l : Option ℕ) → b ≡ says (n + 1) y → y ≡ l → n ≡ value_of x → x ≡ f → b ≡ true
    → ◌≡◌ {A = ℕ} 0 (if_b (says (value_of f + 1) l) 0 28)
section_then b n x y f l e g h i t = sym (if_true _ _ _ (sym (one_higher b n x y f l e g h i) ∙ t))

pub section_else : (b : Bool) (n : ℕ) (x y f l : Option ℕ) → b ≡ says (n + 1) y → y ≡ l → n ≡ value_of x → x ≡ f → b ≡ false
    → ◌≡◌ {A = ℕ} 28 (if_b (says (value_of f + 1) l) 0 28)
section_else b n x y f l e g h i t = sym (if_false _ _ _ (sym (one_higher b n x y f l e g h i) ∙ t))

pub outcome_is : (r : Outcome) (f b n o g c m p : ℕ) (pending : ℕ) (l : List ℕ) → r ≡ block_outcome f b n o pending l → f ≡ g
    → b ≡ c → n ≡ m
    → o ≡ p → r ≡ block_outcome g c m p pending l
outcome_is r f b n o g c m p pending l e h i j k = cc

pub item_is : (r a b : Fault) (image places first second : List ℕ) (st : Reading) (k : Kind) (l : List ℕ) → r ≡ or_else a b
    → a ≡ label_fault k l
    → b ≡ context_fault (record {
      phase = st.phase;
      volumes = names_at image places;
      files = st.files;
      continues = st.continues;
      hdr1 = first;
      hdr2 = second;
      count = st.count;
      pending = st.pending;
    }) k l
    → first ≡ label_at image st.hdr1 → second ≡ label_at image st.hdr2 → r ≡ item_fault (contents image places st) k l
unfolding item_fault contents
item_is r a b image places first second st k l e f g h i = cc

pub number_is : (o p : Outcome) → o ≡ p → ◌≡◌ {A = Fault} (record { number = o.number; byte = 0 }) (fault p.number 0)
unfolding fault
number_is o p e = λ i. record { number = (e i).number; byte = 0 }

pub ruleset composed =
    (says_value, says_wrong, value_some, value_none, same_second, item_is, number_is, value_is, crossed_is, lower_is, or_else_is, same_is, section_then, section_else, outcome_is)
