-- A call's answer at what its arguments are equal to: one law for each function that is called on the answers of calls. Assumes
-- nothing.
use Rattle.std.specs.Prelude.{Option, Some, None}
use mathlib.Core.Path.{◌≡◌}
use mathlib.Core.Bool.{Bool, true, false}
use mathlib.Core.List.{List}
use Prim.Native.Nat.{ℕ}
use lib.Dec.{leb}
use Rattle.base.specs.Part.{put_at}
use Rattle.base.proofs.Bytes.{same_is, same_first}
use Rattle.base.specs.declared.Fault.{Fault}
use Rattle.charset.specs.Number.{number_in}
use Rattle.order.specs.declared.Kind.{Kind}
use Rattle.label.specs.Field.{is_positive, is_record_length, is_length, suits_both, suits, good}
use Rattle.label.specs.Judged.{field_fault, access_at}
use Rattle.label.specs.Made.{fitted}
use Rattle.label.specs.Name.{required, optional, or_else}

pub number_in_is : (r : Option ℕ) (x y : List ℕ) → r ≡ number_in x → x ≡ y → r ≡ number_in y
number_in_is r x y e f = cc

pub positive_is : (b : Bool) (x y : Option ℕ) → b ≡ is_positive x → x ≡ y → b ≡ is_positive y
positive_is b x y e f = cc

pub positive_value : (n : Option ℕ) (v : ℕ) → n ≡ Some v → leb 1 v ≡ is_positive n
unfolding is_positive
positive_value n v e = cc

pub positive_wrong : (n : Option ℕ) → n ≡ None → false ≡ is_positive n
unfolding is_positive
positive_wrong n e = cc

pub record_value : (t : Bool) (f v : ℕ) (b r o : Option ℕ) → t ≡ is_length f b v o → r ≡ Some v → t ≡ is_record_length f b r o
unfolding is_record_length
record_value t f v b r o e g = cc

pub record_wrong : (f : ℕ) (b r o : Option ℕ) → r ≡ None → false ≡ is_record_length f b r o
unfolding is_record_length
record_wrong f b r o g = cc

pub record_is : (t : Bool) (f g : ℕ) (b r o p q s : Option ℕ) → t ≡ is_record_length f b r o → f ≡ g → b ≡ p → r ≡ q → o ≡ s
    → t ≡ is_record_length g p q s
record_is t f g b r o p q s e h i j k = cc

pub both_wrong : (f r : ℕ) (b o : Option ℕ) → b ≡ None → true ≡ suits_both f b r o
unfolding suits_both
both_wrong f r b o e = cc

pub both_second : (f v r : ℕ) (b o : Option ℕ) → b ≡ Some v → o ≡ None → true ≡ suits_both f b r o
unfolding suits_both
both_second f v r b o e g = cc

pub both_values : (t : Bool) (f v r w : ℕ) (b o : Option ℕ) → t ≡ suits f v r w → b ≡ Some v → o ≡ Some w → t ≡ suits_both f b r o
unfolding suits_both
both_values t f v r w b o e g h = cc

pub good_is : (t : Bool) (rule : ℕ) (l f g : List ℕ) → t ≡ good rule l f → f ≡ g → t ≡ good rule l g
good_is t rule l f g e h = cc

pub named_is : (r a b : Kind) (x y u v : List ℕ) (d e : ℕ) → r ≡ or_else a b → a ≡ required x → x ≡ u → b ≡ optional y d → y ≡ v
    → d ≡ e
    → r ≡ or_else (required u) (optional v e)
named_is r a b x y u v d e h i j k l m = cc

pub fault_is : (r f : Fault) (w v a b : ℕ) (l : List ℕ) → r ≡ field_fault w f → w ≡ v → f ≡ access_at a l → a ≡ b
    → r ≡ field_fault v (access_at b l)
fault_is r f w v a b l e g h i = cc

pub field_is : (r l f g : List ℕ) (at w : ℕ) → r ≡ put_at l at (fitted w f) → f ≡ g → r ≡ put_at l at (fitted w g)
field_is r l f g at w e h = cc

pub ruleset composed = (number_in_is, positive_is, positive_value, positive_wrong, record_value, record_wrong, record_is, both_wrong, both_second, both_values, good_is, same_is, same_first, named_is, fault_is, field_is)
