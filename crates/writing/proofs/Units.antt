-- A unit that the writer makes is read back, whatever follows it. Assumes nothing.
use Rattle.std.specs.Prelude.{Some}
use mathlib.Core.Path.{◌≡◌, refl, sym, ap, ◌∙◌}
use mathlib.Core.Bool.{Bool, true, false, not, false≢true}
use mathlib.Core.List.{List, [], ◌∷◌, ◌++◌, append_assoc}
use Prim.Native.Nat.{ℕ, suc, ◌+◌, ◌-◌, ◌≤◌}
use native.Mathlib.Omega.{arith}
use borrow.Author.Tests.{eqb-true, eq-eqb, ne_eqb, leb-true, le-leb, not-true}
use lib.Dec.{eqb, leb}
use lib.ListN.{length, take, drop, length-append}
use lib.Seq.{take_at, drop_at, take_all, length-take-le}
use Rattle.base.specs.If.{if_b}
use Rattle.base.proofs.Ifs.{if_true, if_false, if_case}
use Rattle.base.specs.Part.{part, all_are}
use Rattle.base.specs.Digits.{digits}
use Rattle.base.proofs.Numbers.{length_digits}
use Rattle.charset.specs.Number.{number_in}
use Rattle.charset.proofs.Numbers.{number_digits}
use Rattle.block.specs.Unit.{pad, fixed, measured, variable, segment, unit_of, word_of, one_unit}
use Rattle.block.proofs.Wholes.{word_fixed, word_variable, word_segmented}
use Rattle.block.specs.Cut.{segment_of, onto, cut}
use Rattle.block.proofs.Cuts.{cut_unit}
use Rattle.reading.specs.Legal.{legal_record}
use Rattle.writing.specs.Pack.{control_word, unit_in}
use Rattle.block.specs.Room.{enters, taken, indicator_of}
use Rattle.writing.proofs.Packing.{by_test, Entered, entered, taken_whole, segment_in}

-- ---- a unit of each format, followed by any bytes

fixed_back : (r : ℕ) (x s : List ℕ) → length x ≡ r → all_are pad x ≡ false → fixed r (x ++ s) ≡ one_unit 0 0 r
unfolding fixed
fixed_back r x s h e =
    let long : r ≤ length (x ++ s) = simp length-append (omega arith) in
    if_false _ _ _ (ne_eqb r 0 (some x h e))
    ∙ if_true _ _ _ (le-leb r (length (x ++ s)) long)
    ∙ if_false _ _ _ (ap (all_are pad) (take_at x s r h) ∙ e)
  where
    some : (y : List ℕ) → length y ≡ r → all_are pad y ≡ false → r ≡ 0 → ⊥
    some [] k q z = false≢true (sym q ∙ none)
      where
        none : all_are pad [] ≡ true
        none = unfold all_are in refl
    some (a ∷ y) k q z = omega arith

measured_back : (i w m l n : ℕ) → w ≤ n → n ≤ m → n ≤ l → measured i w m l (Some n) ≡ one_unit i w (n - w)
unfolding measured
measured_back i w m l n a b c = if_true _ _ _ (le-leb w n a) ∙ if_true _ _ _ (le-leb n m b) ∙ if_true _ _ _ (le-leb n l c)

variable_back : (r k : ℕ) (x s : List ℕ) → length x ≡ k → k + 4 ≤ r → k + 4 ≤ 9999
    → variable r (digits 4 (k + 4) ++ x ++ s) ≡ one_unit 0 4 k
unfolding variable part
variable_back r k x s h most small =
    let word : length (digits 4 (k + 4)) ≡ 4 = length_digits 4 (k + 4) in
    let front : take 4 (digits 4 (k + 4) ++ x ++ s) ≡ digits 4 (k + 4)
    = ap (take 4) (append_assoc (digits 4 (k + 4)) x s) ∙ take_at (digits 4 (k + 4)) (x ++ s) 4 word in
    let long : k + 4 ≤ length (digits 4 (k + 4) ++ x ++ s) = simp length-append (omega arith) in
    let back : k + 4 - 4 ≡ k = omega arith in
    ap (λ (l : List ℕ). measured 0 4 r (length (digits 4 (k + 4) ++ x ++ s)) (number_in l)) front
    ∙ ap (measured 0 4 r (length (digits 4 (k + 4) ++ x ++ s))) (number_digits 4 (k + 4) (omega arith) (omega arith))
    ∙ measured_back 0 4 r _ (k + 4) (omega arith) most long
    ∙ ap (one_unit 0 4) back

segment_back : (i k : ℕ) (x s : List ℕ) → i ≤ 3 → length x ≡ k → k ≤ 9994
    → segment ((48 + i) ∷ digits 4 (k + 5) ++ x ++ s) ≡ one_unit i 5 k
unfolding segment part
segment_back i k x s j h small =
    let word : length (digits 4 (k + 5)) ≡ 4 = length_digits 4 (k + 5) in
    let front : take 4 (digits 4 (k + 5) ++ x ++ s) ≡ digits 4 (k + 5)
    = ap (take 4) (append_assoc (digits 4 (k + 5)) x s) ∙ take_at (digits 4 (k + 5)) (x ++ s) 4 word in
    let long : k + 5 ≤ suc (length (digits 4 (k + 5) ++ x ++ s)) = simp length-append (omega arith) in
    let back : k + 5 - 5 ≡ k = omega arith in
    let same : 48 + i - 48 ≡ i = omega arith in
    if_true _ _ _ (le-leb 48 (48 + i) (omega arith))
    ∙ if_true _ _ _ (le-leb (48 + i) 51 (omega arith))
    ∙ ap (λ (l : List ℕ). measured (48 + i - 48) 5 9999 (suc (length (digits 4 (k + 5) ++ x ++ s))) (number_in l)) front
    ∙ ap (measured (48 + i - 48) 5 9999 (suc (length (digits 4 (k + 5) ++ x ++ s))))
    (number_digits 4 (k + 5) (omega arith) (omega arith))
    ∙ measured_back (48 + i - 48) 5 9999 _ (k + 5) (omega arith) (omega arith) long
    ∙ ap (λ (j : ℕ). one_unit j 5 (k + 5 - 5)) same
    ∙ ap (one_unit i 5) back

-- ---- the format and the record

-- one of the three formats
pub data Format (f : ℕ) : Type 0 where
  is_f : f ≡ 70 → Format f
  is_d : f ≡ 68 → Format f
  is_s : f ≡ 83 → Format f

-- what may be written next, with o open: a legal record from its beginning (t 0), or at the head of a block what remains of one
-- (t 1)
pub data UnitReady (f r t o : ℕ) (head : Bool) (x : List ℕ) : Type 0 where
  fresh : t ≡ 0 → o ≡ 0 → legal_record f r x ≡ true → UnitReady f r t o head x
  begun : t ≡ 1 → f ≡ 83 → 1 ≤ o → o - 1 + length x ≤ r → head ≡ true → UnitReady f r t o head x

-- both halves of a choice whose other branch is false
pub both : {A : Type 0} (a b : Bool) → (a ≡ true → b ≡ true → A) → if_b a b false ≡ true → A
both {A} a b k = if_case (λ (t : Bool). t ≡ true → A) a b false (λ p q. k p q) (λ p q. absurd (false≢true q))

-- a record from its beginning: as `legal_record` says, by format
pub legal_f : (f r : ℕ) (x : List ℕ) → f ≡ 70 → legal_record f r x ≡ true → (length x ≡ r) × (all_are pad x ≡ false)
unfolding legal_record
legal_f f r x e h =
    both (eqb (length x) r) (not (all_are pad x)) (λ p q. (eqb-true _ _ p, not-true _ q)) (sym (if_true _ _ _ (eq-eqb f 70 e)) ∙ h)

pub legal_d : (f r : ℕ) (x : List ℕ) → f ≡ 68 → legal_record f r x ≡ true → (length x + 4 ≤ r) × (length x + 4 ≤ 9999)
unfolding legal_record
legal_d f r x e h =
    let other : f ≡ 70 → ⊥ = λ q. omega arith in
    both (leb (length x + 4) r) (leb (length x + 4) 9999) (λ p q. (leb-true _ _ p, leb-true _ _ q))
    (sym (if_false _ _ _ (ne_eqb f 70 other) ∙ if_true _ _ _ (eq-eqb f 68 e)) ∙ h)

pub legal_s : (f r : ℕ) (x : List ℕ) → f ≡ 83 → legal_record f r x ≡ true → length x ≤ r
unfolding legal_record
legal_s f r x e h =
    let other : f ≡ 70 → ⊥ = λ q. omega arith in
    let another : f ≡ 68 → ⊥ = λ q. omega arith in
    leb-true _ _ (sym (if_false _ _ _ (ne_eqb f 70 other) ∙ if_false _ _ _ (ne_eqb f 68 another)) ∙ h)

-- ---- the unit of any format

pub control_f : (f i k : ℕ) → f ≡ 70 → control_word f i k ≡ []
unfolding control_word
control_f f i k e = if_true _ _ _ (eq-eqb f 70 e)

pub control_d : (f i k : ℕ) → f ≡ 68 → control_word f i k ≡ digits 4 (k + 4)
unfolding control_word
control_d f i k e =
    let other : f ≡ 70 → ⊥ = λ q. omega arith in
    if_false _ _ _ (ne_eqb f 70 other) ∙ if_true _ _ _ (eq-eqb f 68 e)

control_s : (f i k : ℕ) → f ≡ 83 → control_word f i k ≡ (48 + i) ∷ digits 4 (k + 5)
unfolding control_word
control_s f i k e =
    let other : f ≡ 70 → ⊥ = λ q. omega arith in
    let another : f ≡ 68 → ⊥ = λ q. omega arith in
    if_false _ _ _ (ne_eqb f 70 other) ∙ if_false _ _ _ (ne_eqb f 68 another)

-- a control word has the bytes that its format asks
pub length_control : (f i k : ℕ) → length (control_word f i k) ≡ word_of f
unfolding control_word word_of
length_control f i k =
    by_test (eqb f 70) (λ p. ap length (if_true _ _ _ p) ∙ sym (if_true _ _ _ p))
    (λ p. by_test (eqb f 68)
    (λ q. ap length (if_false _ _ _ p ∙ if_true _ _ _ q) ∙ length_digits 4 (k + 4) ∙ sym (if_false _ _ _ p ∙ if_true _ _ _ q))
    (λ q. ap length (if_false _ _ _ p ∙ if_false _ _ _ q) ∙ ap suc (length_digits 4 (k + 5))
    ∙ sym (if_false _ _ _ p ∙ if_false _ _ _ q)))

indicator_small : (t k n : ℕ) → indicator_of t k n ≤ 3
unfolding indicator_of
indicator_small t k n =
    if_case (λ (i : ℕ). i ≤ 3) (eqb k n) _ _
    (λ _. if_case (λ (i : ℕ). i ≤ 3) (eqb t 0) 0 3 (λ _. omega arith) (λ _. omega arith))
    (λ _. if_case (λ (i : ℕ). i ≤ 3) (eqb t 0) 1 2 (λ _. omega arith) (λ _. omega arith))

-- a record that is one segment has indicator 0
pub indicator_whole : (t k n : ℕ) → t ≡ 0 → k ≡ n → indicator_of t k n ≡ 0
unfolding indicator_of
indicator_whole t k n e h = if_true _ _ _ (eq-eqb k n h) ∙ if_true _ _ _ (eq-eqb t 0 e)

-- ---- read back

pub length_taken : (f b u : ℕ) (x : List ℕ) → enters f b u (length x) ≡ true
    → length (take (taken f b u (length x)) x) ≡ taken f b u (length x)
length_taken f b u x h = length-take-le _ x (entered f b u (length x) h).most

-- a unit is its control word and what it takes of its record
pub length_unit : (f b u t : ℕ) (x : List ℕ) → enters f b u (length x) ≡ true
    → length (unit_in f b u t x) ≡ word_of f + taken f b u (length x)
unfolding unit_in
length_unit f b u t x h =
    length-append (control_word f _ (taken f b u (length x))) (take (taken f b u (length x)) x)
    ∙ ap (λ (m : ℕ). m + length (take (taken f b u (length x)) x)) (length_control f _ (taken f b u (length x)))
    ∙ ap (λ (m : ℕ). word_of f + m) (length_taken f b u x h)

of : {i j w v k l : ℕ} → i ≡ j → w ≡ v → k ≡ l → one_unit i w k ≡ one_unit j v l
of {i} {j} {w} {v} {k} {l} p q e = ap (λ (a : ℕ). one_unit a w k) p ∙ ap (λ (a : ℕ). one_unit j a k) q ∙ ap (one_unit j v) e

unit_f : (f b r u t : ℕ) (x s : List ℕ) → f ≡ 70 → t ≡ 0 → legal_record f r x ≡ true
    → unit_of f r (unit_in f b u t x ++ s)
    ≡ one_unit (indicator_of t (taken f b u (length x)) (length x)) (word_of f) (taken f b u (length x))
unfolding unit_of unit_in
unit_f f b r u t x s e z h =
    let other : f ≡ 83 → ⊥ = λ q. omega arith in
    let all : taken f b u (length x) ≡ length x = taken_whole f b u (length x) (ne_eqb f 83 other) in
    let long : length x ≤ taken f b u (length x) = omega arith in
    let legal : (length x ≡ r) × (all_are pad x ≡ false) = legal_f f r x e h in
    let whole : control_word f (indicator_of t (taken f b u (length x)) (length x)) (taken f b u (length x)) ++ take (taken f b u (length x)) x ≡ x
    = ap (λ (w : List ℕ). w ++ take (taken f b u (length x)) x) (control_f f _ (taken f b u (length x)) e) ∙ take_all _ x long in
    if_true _ _ _ (eq-eqb f 70 e)
    ∙ ap (λ (y : List ℕ). fixed r (y ++ s)) whole
    ∙ fixed_back r x s legal.0 legal.1
    ∙ of (sym (indicator_whole t _ _ z all)) (sym (word_fixed f e)) (sym (all ∙ legal.0))

unit_d : (f b r u t : ℕ) (x s : List ℕ) → f ≡ 68 → t ≡ 0 → legal_record f r x ≡ true
    → unit_of f r (unit_in f b u t x ++ s)
    ≡ one_unit (indicator_of t (taken f b u (length x)) (length x)) (word_of f) (taken f b u (length x))
unfolding unit_of unit_in
unit_d f b r u t x s e z h =
    let k : ℕ = taken f b u (length x) in
    let another : f ≡ 70 → ⊥ = λ q. omega arith in
    let other : f ≡ 83 → ⊥ = λ q. omega arith in
    let all : taken f b u (length x) ≡ length x = taken_whole f b u (length x) (ne_eqb f 83 other) in
    let legal : (length x + 4 ≤ r) × (length x + 4 ≤ 9999) = legal_d f r x e h in
    let same : length (take k x) ≡ k = length-take-le k x (omega arith) in
    if_false _ _ _ (ne_eqb f 70 another)
    ∙ if_true _ _ _ (eq-eqb f 68 e)
    ∙ ap (λ (w : List ℕ). variable r (w ++ take k x ++ s)) (control_d f _ k e)
    ∙ variable_back r k (take k x) s same (omega arith) (omega arith)
    ∙ of (sym (indicator_whole t k (length x) z all)) (sym (word_variable f e)) refl

unit_s : (f b r u t : ℕ) (x s : List ℕ) → f ≡ 83 → enters f b u (length x) ≡ true
    → unit_of f r (unit_in f b u t x ++ s)
    ≡ one_unit (indicator_of t (taken f b u (length x)) (length x)) (word_of f) (taken f b u (length x))
unfolding unit_of unit_in
unit_s f b r u t x s e h =
    let k : ℕ = taken f b u (length x) in
    let i : ℕ = indicator_of t (taken f b u (length x)) (length x) in
    let n : Entered f b u (length x) = entered f b u (length x) h in
    let another : f ≡ 70 → ⊥ = λ q. omega arith in
    let other : f ≡ 68 → ⊥ = λ q. omega arith in
    if_false _ _ _ (ne_eqb f 70 another)
    ∙ if_false _ _ _ (ne_eqb f 68 other)
    ∙ if_true _ _ _ (eq-eqb f 83 e)
    ∙ ap (λ (w : List ℕ). segment (w ++ take k x ++ s)) (control_s f i k e)
    ∙ segment_back i k (take k x) s (indicator_small t k (length x)) (length_taken f b u x h) (n.short e)
    ∙ of {i = i} refl (sym (word_segmented f e)) refl

unit_back : (f b r u t o : ℕ) (head : Bool) (x s : List ℕ) → Format f → UnitReady f r t o head x → enters f b u (length x) ≡ true
    → unit_of f r (unit_in f b u t x ++ s)
    ≡ one_unit (indicator_of t (taken f b u (length x)) (length x)) (word_of f) (taken f b u (length x))
unit_back f b r u t o head x s (is_f e) (fresh z _ h) _ = unit_f f b r u t x s e z h
unit_back f b r u t o head x s (is_f e) (begun _ q _ _ _) _ = absurd (omega arith)
unit_back f b r u t o head x s (is_d e) (fresh z _ h) _ = unit_d f b r u t x s e z h
unit_back f b r u t o head x s (is_d e) (begun _ q _ _ _) _ = absurd (omega arith)
unit_back f b r u t o head x s (is_s e) (fresh _ _ _) m = unit_s f b r u t x s e m
unit_back f b r u t o head x s (is_s e) (begun _ _ _ _ _) m = unit_s f b r u t x s e m

-- the unit is cut off as its segment, and what follows it is cut on
pub cut_back : (f b r u t o : ℕ) (head : Bool) (x s : List ℕ) → Format f → UnitReady f r t o head x
    → enters f b u (length x) ≡ true
    → cut f r (unit_in f b u t x ++ s) ≡ onto (segment_in f b u t x) (cut f r s)
unfolding segment_in unit_in part
cut_back f b r u t o head x s form ready h =
    let k : ℕ = taken f b u (length x) in
    let i : ℕ = indicator_of t (taken f b u (length x)) (length x) in
    let c : List ℕ = control_word f i k in
    let word : length c ≡ word_of f = length_control f i k in
    let long : length (c ++ take k x) ≡ word_of f + k = length_unit f b u t x h in
    let bytes : part (word_of f) k (c ++ take k x ++ s) ≡ take k x
    = ap (λ (l : List ℕ). take k (drop (word_of f) l)) (append_assoc c (take k x) s)
    ∙ ap (take k) (drop_at c (take k x ++ s) (word_of f) word)
    ∙ take_at (take k x) s k (length_taken f b u x h) in
    cut_unit f r (c ++ take k x ++ s) i (word_of f) k (unit_back f b r u t o head x s form ready h)
    ∙ ap (λ (y : List ℕ). onto (segment_of i y) (cut f r (drop (word_of f + k) (c ++ take k x ++ s)))) bytes
    ∙ ap (λ (y : List ℕ). onto (segment_of i (take k x)) (cut f r y)) (drop_at (c ++ take k x) s (word_of f + k) long)
