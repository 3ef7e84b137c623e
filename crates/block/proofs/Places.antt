-- What the code reads at a place: a digit, four of them, and from these the length of the unit that stands there. Assumes
-- nothing.
use Rattle.std.specs.Prelude.{Option, Some, None}
use mathlib.Core.Path.{◌≡◌, refl, sym, ap, ◌∙◌}
use mathlib.Core.Bool.{Bool, true, false, ◌&&◌}
use mathlib.Core.List.{List, [], ◌∷◌}
use Prim.Native.Nat.{ℕ, suc, ◌+◌, ◌*◌, ◌-◌, ◌≤◌, ◌<◌}
use native.Mathlib.Omega.{arith}
use borrow.Author.Rules.{rules}
use borrow.Author.Tests.{le-leb, lt-leb, eq-eqb, ne_eqb, leb-true}
use lib.Dec.{leb}
use lib.ListN.{length, take, drop, get_or, length-drop}
use lib.Seq.{drop-cons, get_or-drop}
use Rattle.base.specs.If.{if_b}
use Rattle.base.proofs.Ifs.{if_true, if_false, if_case, ap_if, and_left, and_first, and_second, so_true}
use Rattle.base.specs.Part.{part, all_are}
use Rattle.base.specs.Digits.{is_digit, all_digits, value}
use Rattle.base.proofs.Parts.{part_drop}
use Rattle.block.proofs.Padding.{all_other_head}
use Rattle.charset.specs.Number.{number_in}
use Rattle.block.specs.Unit.{fixed, measured, variable, segment, length_of, one_unit}
use Rattle.block.specs.declared.Unit.{Unit}
use Rattle.block.proofs.Units.{measured_short}

-- ---- a digit

pub digit_low : (b : ℕ) → b < 48 → false ≡ is_digit b
unfolding is_digit
digit_low b h = sym (and_left (leb 48 b) (leb b 57) (lt-leb 48 b h))

pub digit_rest : (b : ℕ) (p : Bool) → 48 ≤ b → p ≡ leb b 57 → p ≡ is_digit b
unfolding is_digit
digit_rest b p h e = e ∙ sym (ap (λ (t : Bool). t && leb b 57) (le-leb 48 b h))

pub digit_least : (b : ℕ) → is_digit b ≡ true → 48 ≤ b
unfolding is_digit
digit_least b t = leb-true 48 b (and_first (leb 48 b) (leb b 57) t)

pub digit_most : (b : ℕ) → is_digit b ≡ true → b - 48 ≤ 9
unfolding is_digit
digit_most b t = let h = leb-true b 57 (and_second (leb 48 b) (leb b 57) t) in omega arith

pub ruleset digit = (digit_low, digit_rest, digit_least, digit_most, rules)

-- ---- four digits

pub wrong_here : (b : ℕ) (p : Bool) (s : List ℕ) → p ≡ is_digit b → p ≡ false → all_digits (b ∷ s) ≡ false
unfolding all_digits
wrong_here b p s e h = if_false _ _ _ (sym e ∙ h)

pub wrong_later : (b : ℕ) (p : Bool) (s : List ℕ) → p ≡ is_digit b → p ≡ true → all_digits s ≡ false → all_digits (b ∷ s) ≡ false
unfolding all_digits
wrong_later b p s e h w = if_true _ _ _ (sym e ∙ h) ∙ w

pub number_wrong : (s : List ℕ) → all_digits s ≡ false → None ≡ number_in s
unfolding number_in
number_wrong s h = sym (if_case (λ (x : Option ℕ). x ≡ None) (leb (length s) 9) _ None (λ t. if_false _ _ _ h) (λ t. refl))

right_none : all_digits [] ≡ true
unfolding all_digits
right_none = refl

right_here : (b : ℕ) (p : Bool) (s : List ℕ) → p ≡ is_digit b → p ≡ true → all_digits s ≡ true → all_digits (b ∷ s) ≡ true
unfolding all_digits
right_here b p s e h w = if_true _ _ _ (sym e ∙ h) ∙ w

-- the codes of three digits, at their places, are as much too high as is taken off
pub four_least : (a b c t u v w : ℕ) (p q x : Bool) → p ≡ is_digit a → p ≡ true → q ≡ is_digit b → q ≡ true → x ≡ is_digit c
    → x ≡ true
    → t ≡ a → u ≡ b → v ≡ c → 53280 ≤ t * 1000 + u * 100 + (v * 10 + w)
four_least a b c t u v w p q x e₁ h₁ e₂ h₂ e₃ h₃ q₁ q₂ q₃ =
    omega (arith, digit_least a (sym e₁ ∙ h₁), digit_least b (sym e₂ ∙ h₂), digit_least c (sym e₃ ∙ h₃))

pub four_right : (a b c d t u v w : ℕ) (p q x y : Bool)
    → p ≡ is_digit a → p ≡ true → q ≡ is_digit b → q ≡ true → x ≡ is_digit c → x ≡ true → y ≡ is_digit d → y ≡ true
    → t ≡ a → u ≡ b → v ≡ c → w ≡ d - 48
    → Some (t * 1000 + u * 100 + (v * 10 + w) - 53280) ≡ number_in (a ∷ b ∷ c ∷ d ∷ [])
unfolding number_in value
four_right a b c d t u v w p q x y e₁ h₁ e₂ h₂ e₃ h₃ e₄ h₄ q₁ q₂ q₃ q₄ =
    let all : all_digits (a ∷ b ∷ c ∷ d ∷ []) ≡ true = right_here a p _ e₁ h₁ (right_here b q _ e₂ h₂ (right_here c x _ e₃ h₃ (right_here d y [] e₄ h₄ right_none))) in
    let sum : t * 1000 + u * 100 + (v * 10 + w) - 53280 ≡ value 0 (a ∷ b ∷ c ∷ d ∷ [])
    = omega (arith, digit_least a (sym e₁ ∙ h₁), digit_least b (sym e₂ ∙ h₂), digit_least c (sym e₃ ∙ h₃)) in
    ap Some sum ∙ sym (if_true _ _ _ refl ∙ if_true _ _ _ all)

pub ruleset four = (wrong_here, wrong_later, number_wrong, four_least, four_right, so_true, rules)

-- ---- the bytes of a fixed-length record

pub fixed_zero : (r : ℕ) (s : List ℕ) → r ≡ 0 → 0 ≡ length_of (fixed r s)
unfolding fixed length_of
fixed_zero r s h = sym (ap length_of (if_true _ _ _ (eq-eqb r 0 h)))

pub fixed_short : (r : ℕ) (s : List ℕ) (at l : ℕ) → (r ≡ 0 → ⊥) → l ≡ length s - at → l < r → 0 ≡ length_of (fixed r (drop at s))
unfolding fixed length_of
fixed_short r s at l z e h =
    sym (ap length_of (if_false _ _ _ (ne_eqb r 0 z)
    ∙ if_false _ _ _ (lt-leb r (length (drop at s)) (simp length-drop (omega arith)))))

-- where r bytes stand, they are a record unless all are padding
fixed_there : (r : ℕ) (s : List ℕ) (at l : ℕ) → (r ≡ 0 → ⊥) → l ≡ length s - at → r ≤ l
    → length_of (fixed r (drop at s)) ≡ if_b (all_are 94 (take r (drop at s))) 0 r
unfolding fixed length_of
fixed_there r s at l z e h =
    let sum : 0 + r ≡ r = omega arith in
    ap length_of (if_false _ _ _ (ne_eqb r 0 z) ∙ if_true _ _ _ (le-leb r (length (drop at s)) (simp length-drop (omega arith))))
    ∙ ap_if length_of (all_are 94 (take r (drop at s))) None (one_unit 0 0 r)
    ∙ ap (λ (k : ℕ). if_b (all_are 94 (take r (drop at s))) 0 k) sum

pub fixed_other : (r : ℕ) (s : List ℕ) (at l : ℕ) → (r ≡ 0 → ⊥) → l ≡ length s - at → r ≤ l → (get_or s at 0 ≡ 94 → ⊥)
    → r ≡ length_of (fixed r (drop at s))
fixed_other r s at l z e h b =
    sym (fixed_there r s at l z e h ∙ if_false _ _ _ (all_other_head 94 r s at (omega arith) (omega arith) b))

pub fixed_padding : (r : ℕ) (s : List ℕ) (at l : ℕ) (p : Bool) → (r ≡ 0 → ⊥) → l ≡ length s - at → r ≤ l
    → p ≡ all_are 94 (take (at + r - at) (drop at s)) → p ≡ true → 0 ≡ length_of (fixed r (drop at s))
fixed_padding r s at l p z e h q t =
    let k : at + r - at ≡ r = omega arith in
    sym (fixed_there r s at l z e h ∙ if_true _ _ _ (ap (λ (j : ℕ). all_are 94 (take j (drop at s))) (sym k) ∙ sym q ∙ t))

pub fixed_some : (r : ℕ) (s : List ℕ) (at l : ℕ) (p : Bool) → (r ≡ 0 → ⊥) → l ≡ length s - at → r ≤ l
    → p ≡ all_are 94 (take (at + r - at) (drop at s)) → p ≡ false → r ≡ length_of (fixed r (drop at s))
fixed_some r s at l p z e h q t =
    let k : at + r - at ≡ r = omega arith in
    sym (fixed_there r s at l z e h ∙ if_false _ _ _ (ap (λ (j : ℕ). all_are 94 (take j (drop at s))) (sym k) ∙ sym q ∙ t))

pub ruleset fixeds = (fixed_zero, fixed_short, fixed_other, fixed_padding, fixed_some, rules)

-- ---- the bytes that a length field says

pub measured_wrong : (i w m l : ℕ) (x : Option ℕ) → x ≡ None → 0 ≡ length_of (measured i w m l x)
unfolding measured length_of
measured_wrong i w m l x e = sym (ap (λ (y : Option ℕ). length_of (measured i w m l y)) e)

-- a length field that says n
measured_value : (i w m l n : ℕ) (x : Option ℕ) → x ≡ Some n
    → measured i w m l x ≡ if_b (leb w n) (if_b (leb n m) (if_b (leb n l) (one_unit i w (n - w)) None) None) None
unfolding measured
measured_value i w m l n x e = ap (measured i w m l) e

pub measured_low : (i w m l n : ℕ) (x : Option ℕ) → x ≡ Some n → n < w → 0 ≡ length_of (measured i w m l x)
unfolding length_of
measured_low i w m l n x e h = sym (ap length_of (measured_value i w m l n x e ∙ if_false _ _ _ (lt-leb w n h)))

pub measured_high : (i w m l n : ℕ) (x : Option ℕ) → x ≡ Some n → w ≤ n → m < n → 0 ≡ length_of (measured i w m l x)
unfolding length_of
measured_high i w m l n x e h k =
    sym (ap length_of (measured_value i w m l n x e ∙ if_true _ _ _ (le-leb w n h) ∙ if_false _ _ _ (lt-leb n m k)))

pub measured_past : (i w m l n : ℕ) (x : Option ℕ) → x ≡ Some n → w ≤ n → n ≤ m → l < n → 0 ≡ length_of (measured i w m l x)
unfolding length_of
measured_past i w m l n x e h k p =
    sym (ap length_of (measured_value i w m l n x e ∙ if_true _ _ _ (le-leb w n h) ∙ if_true _ _ _ (le-leb n m k)
    ∙ if_false _ _ _ (lt-leb n l p)))

pub measured_some : (i w m l n : ℕ) (x : Option ℕ) → x ≡ Some n → w ≤ n → n ≤ m → n ≤ l → n ≡ length_of (measured i w m l x)
unfolding length_of
measured_some i w m l n x e h k p =
    let sum : n ≡ w + (n - w) = omega arith in
    sum ∙ sym (ap length_of
    (measured_value i w m l n x e ∙ if_true _ _ _ (le-leb w n h) ∙ if_true _ _ _ (le-leb n m k) ∙ if_true _ _ _ (le-leb n l p)))

pub ruleset measureds = (measured_wrong, measured_low, measured_high, measured_past, measured_some, rules)

-- the indicator has no part in the length
measured_alike : (i j w m l : ℕ) (x : Option ℕ) → length_of (measured i w m l x) ≡ length_of (measured j w m l x)
unfolding measured length_of
measured_alike i j w m l None = refl
measured_alike i j w m l (Some n) =
    ap_if length_of (leb w n) _ None
    ∙ ap (λ (k : ℕ). if_b (leb w n) k 0)
    (ap_if length_of (leb n m) _ None
    ∙ ap (λ (k : ℕ). if_b (leb n m) k 0)
    (ap_if length_of (leb n l) (one_unit i w (n - w)) None ∙ sym (ap_if length_of (leb n l) (one_unit j w (n - w)) None))
    ∙ sym (ap_if length_of (leb n m) (if_b (leb n l) (one_unit j w (n - w)) None) None))
    ∙ sym (ap_if length_of (leb w n) (if_b (leb n m) (if_b (leb n l) (one_unit j w (n - w)) None) None) None)

four_bytes : (s : List ℕ) (a b c d : ℕ) → a + 4 ≤ length s → b ≡ suc a → c ≡ suc b → d ≡ suc c
    → get_or s a 0 ∷ get_or s b 0 ∷ get_or s c 0 ∷ get_or s d 0 ∷ [] ≡ part a 4 s
unfolding part
four_bytes s a b c d h p q t =
    sym (ap (take 4)
    (drop-cons s a 0 (omega arith)
    ∙ ap (λ (l : List ℕ). get_or s a 0 ∷ l)
    (ap (λ (j : ℕ). drop j s) (sym p) ∙ drop-cons s b 0 (omega arith)
    ∙ ap (λ (l : List ℕ). get_or s b 0 ∷ l)
    (ap (λ (j : ℕ). drop j s) (sym q) ∙ drop-cons s c 0 (omega arith)
    ∙ ap (λ (l : List ℕ). get_or s c 0 ∷ l) (ap (λ (j : ℕ). drop j s) (sym t) ∙ drop-cons s d 0 (omega arith))))))

-- ---- the bytes of a variable-length record

pub variable_short : (r : ℕ) (s : List ℕ) (at l : ℕ) → l ≡ length s - at → l < 4 → 0 ≡ length_of (variable r (drop at s))
unfolding variable length_of
variable_short r s at l e h =
    sym (ap length_of (measured_short 0 4 r (length (drop at s)) (number_in (part 0 4 (drop at s)))
    (simp length-drop (omega arith))))

pub variable_some : (r : ℕ) (s : List ℕ) (at l : ℕ) (x : Option ℕ) (k : ℕ) → l ≡ length s - at → 4 ≤ l
    → x ≡ number_in (get_or s at 0 ∷ get_or s (at + 1) 0 ∷ get_or s (at + 2) 0 ∷ get_or s (at + 3) 0 ∷ [])
    → k ≡ length_of (measured 0 4 r l x) → k ≡ length_of (variable r (drop at s))
unfolding variable
variable_some r s at l x k e h q m =
    let zero_more : at + 0 ≡ at = omega arith in
    let word : get_or s at 0 ∷ get_or s (at + 1) 0 ∷ get_or s (at + 2) 0 ∷ get_or s (at + 3) 0 ∷ [] ≡ part 0 4 (drop at s)
    = four_bytes s at (at + 1) (at + 2) (at + 3) (omega arith) (omega arith) (omega arith) (omega arith)
    ∙ ap (λ (j : ℕ). part j 4 s) (sym zero_more) ∙ sym (part_drop at 0 4 s) in
    m
    ∙ ap (λ (j : ℕ). length_of (measured 0 4 r j x)) (e ∙ sym (length-drop at s))
    ∙ ap (λ (y : Option ℕ). length_of (measured 0 4 r (length (drop at s)) y)) (q ∙ ap number_in word)

pub variable_wrong : (r : ℕ) (s : List ℕ) (at l : ℕ) → l ≡ length s - at → 4 ≤ l
    → None ≡ number_in (get_or s at 0 ∷ get_or s (at + 1) 0 ∷ get_or s (at + 2) 0 ∷ get_or s (at + 3) 0 ∷ [])
    → 0 ≡ length_of (variable r (drop at s))
variable_wrong r s at l e h q = variable_some r s at l None 0 e h q (measured_wrong 0 4 r l None refl)

pub ruleset variables = (variable_short, variable_wrong, variable_some, rules)

-- ---- the bytes of a segment

-- the first byte behind a place is the byte at the place
pub head_at : (s : List ℕ) (at : ℕ) → get_or (drop at s) 0 0 ≡ get_or s at 0
head_at s at = let zero_more : at + 0 ≡ at = omega arith in get_or-drop at s 0 0 ∙ ap (λ (j : ℕ). get_or s j 0) zero_more

pub segment_short : (s : List ℕ) (at l : ℕ) → l ≡ length s - at → l < 5 → 0 ≡ length_of (segment (drop at s))
unfolding segment length_of
segment_short s at l e h =
    sym (ap length_of (if_case (λ (u : Option Unit). u ≡ None) (leb 48 (get_or (drop at s) 0 0)) _ None
    (λ a. if_case (λ (u : Option Unit). u ≡ None) (leb (get_or (drop at s) 0 0) 51) _ None
    (λ b. measured_short (get_or (drop at s) 0 0 - 48) 5 9999 (length (drop at s)) (number_in (part 1 4 (drop at s)))
    (simp length-drop (omega arith)))
    (λ b. refl))
    (λ a. refl)))

pub segment_low : (s : List ℕ) (at : ℕ) → get_or s at 0 < 48 → 0 ≡ length_of (segment (drop at s))
unfolding segment length_of
segment_low s at h = let e = head_at s at in sym (ap length_of (if_false _ _ _ (lt-leb 48 (get_or (drop at s) 0 0) (omega arith))))

pub segment_high : (s : List ℕ) (at : ℕ) → 51 < get_or s at 0 → 0 ≡ length_of (segment (drop at s))
unfolding segment length_of
segment_high s at h =
    let e = head_at s at in
    sym (ap length_of (if_true _ _ _ (le-leb 48 (get_or (drop at s) 0 0) (omega arith))
    ∙ if_false _ _ _ (lt-leb (get_or (drop at s) 0 0) 51 (omega arith))))

pub segment_some : (s : List ℕ) (at l : ℕ) (x : Option ℕ) (k : ℕ) → l ≡ length s - at → 5 ≤ l → 48 ≤ get_or s at 0 → get_or s at 0 ≤ 51
    → x ≡ number_in (get_or s (at + 1) 0 ∷ get_or s (at + 2) 0 ∷ get_or s (at + 3) 0 ∷ get_or s (at + 4) 0 ∷ [])
    → k ≡ length_of (measured 0 5 9999 l x) → k ≡ length_of (segment (drop at s))
unfolding segment
segment_some s at l x k e h a b q m =
    let first = head_at s at in
    let word : get_or s (at + 1) 0 ∷ get_or s (at + 2) 0 ∷ get_or s (at + 3) 0 ∷ get_or s (at + 4) 0 ∷ [] ≡ part 1 4 (drop at s)
    = four_bytes s (at + 1) (at + 2) (at + 3) (at + 4) (omega arith) (omega arith) (omega arith) (omega arith) ∙ sym (part_drop at 1 4 s) in
    m
    ∙ measured_alike 0 (get_or (drop at s) 0 0 - 48) 5 9999 l x
    ∙ ap (λ (j : ℕ). length_of (measured (get_or (drop at s) 0 0 - 48) 5 9999 j x)) (e ∙ sym (length-drop at s))
    ∙ ap (λ (y : Option ℕ). length_of (measured (get_or (drop at s) 0 0 - 48) 5 9999 (length (drop at s)) y)) (q ∙ ap number_in word)
    ∙ sym (ap length_of (if_true _ _ _ (le-leb 48 (get_or (drop at s) 0 0) (omega arith))
    ∙ if_true _ _ _ (le-leb (get_or (drop at s) 0 0) 51 (omega arith))))

pub segment_wrong : (s : List ℕ) (at l : ℕ) → l ≡ length s - at → 5 ≤ l → 48 ≤ get_or s at 0 → get_or s at 0 ≤ 51
    → None ≡ number_in (get_or s (at + 1) 0 ∷ get_or s (at + 2) 0 ∷ get_or s (at + 3) 0 ∷ get_or s (at + 4) 0 ∷ [])
    → 0 ≡ length_of (segment (drop at s))
segment_wrong s at l e h a b q = segment_some s at l None 0 e h a b q (measured_wrong 0 5 9999 l None refl)

pub ruleset segments = (segment_short, segment_low, segment_high, segment_wrong, segment_some, rules)
