-- Items in any container: the equations of reading them one behind the other, and the two round trips. A container says which
-- item stands at the head of some bytes, what is left behind it, and the bytes of an item. Assumes nothing.
use mathlib.Core.Path.{◌≡◌, refl, sym, ap, ◌∙◌}
use mathlib.Core.Bool.{Bool, true, false, false≢true}
use mathlib.Core.List.{List, [], ◌∷◌, ◌++◌, append_assoc, append-nil}
use Prim.Native.Nat.{ℕ, zero, suc, ◌≤◌, ◌<◌}
use native.Mathlib.Omega.{arith}
use lib.ListN.{length}
use Rattle.base.proofs.Ifs.{if_true, if_case}
use Rattle.image.specs.Item.{Item, decode_f, decode_by, encode_by}
use Rattle.image.specs.Code.Items.{is_item, all_items}
use Rattle.image.specs.Byte.{Bytes}

-- ---- all of some items can stand in an image

-- the first of items that can stand in an image can
pub all_first : (x : Item) (xs : List Item) → all_items (x ∷ xs) ≡ true → is_item x ≡ true
unfolding all_items
all_first x xs h =
    if_case (λ (b : Bool). b ≡ true → is_item x ≡ true) (is_item x) (all_items xs) false (λ e _. e) (λ _ q. absurd (false≢true q)) h

-- so can those behind it
pub all_rest : (x : Item) (xs : List Item) → all_items (x ∷ xs) ≡ true → all_items xs ≡ true
unfolding all_items
all_rest x xs h =
    if_case (λ (b : Bool). b ≡ true → all_items xs ≡ true) (is_item x) (all_items xs) false (λ _ q. q)
    (λ _ q. absurd (false≢true q)) h

-- two rows of such items, end to end, are one
pub all_append : (xs ys : List Item) → all_items xs ≡ true → all_items ys ≡ true → all_items (xs ++ ys) ≡ true
unfolding all_items
all_append [] ys h k = k
all_append (x ∷ xs) ys h k = if_true _ _ _ (all_first x xs h) ∙ all_append xs ys (all_rest x xs h) k

-- the front of such a row is one
pub all_front : (xs ys : List Item) → all_items (xs ++ ys) ≡ true → all_items xs ≡ true
unfolding all_items
all_front [] ys h = refl
all_front (x ∷ xs) ys h = if_true _ _ _ (all_first x (xs ++ ys) h) ∙ all_front xs ys (all_rest x (xs ++ ys) h)

-- and so is what follows it
pub all_back : (xs ys : List Item) → all_items (xs ++ ys) ≡ true → all_items ys ≡ true
all_back [] ys h = h
all_back (x ∷ xs) ys h = all_back xs ys (all_rest x (xs ++ ys) h)

-- items end to end are their bytes end to end
pub by_append : (bytes : Item → List ℕ) (xs ys : List Item) → encode_by bytes (xs ++ ys) ≡ encode_by bytes xs ++ encode_by bytes ys
unfolding encode_by
by_append bytes [] ys = refl
by_append bytes (x ∷ xs) ys =
    ap (λ (l : List ℕ). bytes x ++ l) (by_append bytes xs ys)
    ∙ sym (append_assoc (bytes x) (encode_by bytes xs) (encode_by bytes ys))

-- every item has a byte, so less is left behind it
abbrev pub Less : (List ℕ → List ℕ) → Type 0
Less rest = (x : ℕ) (xs : List ℕ) → length (rest (x ∷ xs)) ≤ length xs

module _ (item : List ℕ → Item) (rest : List ℕ → List ℕ) where
  -- no bytes are no items
  pub read_none : decode_by item rest [] ≡ []
  unfolding decode_f
  read_none = refl

  module _ (less : Less rest) where
    -- any number that is large enough gives the same items
    enough : (f g : ℕ) (s : List ℕ) → length s ≤ f → length s ≤ g → decode_f item rest f s ≡ decode_f item rest g s
    unfolding decode_f
    enough zero zero s h k = refl
    enough zero (suc g) [] h k = refl
    enough zero (suc g) (x ∷ xs) h k = absurd (omega arith)
    enough (suc f) zero [] h k = refl
    enough (suc f) zero (x ∷ xs) h k = absurd (omega arith)
    enough (suc f) (suc g) [] h k = refl
    enough (suc f) (suc g) (x ∷ xs) h k =
        let fewer : length (rest (x ∷ xs)) ≤ length xs = less x xs in
        ap (λ (l : List Item). item (x ∷ xs) ∷ l) (enough f g (rest (x ∷ xs)) (omega arith) (omega arith))

    -- some bytes are the item at their head and the items behind it
    pub read_more : (s : List ℕ) → 0 < length s → decode_by item rest s ≡ item s ∷ decode_by item rest (rest s)
    unfolding decode_f
    read_more [] h = absurd (omega arith)
    read_more (x ∷ xs) h =
        ap (λ (l : List Item). item (x ∷ xs) ∷ l)
        (enough (length xs) (length (rest (x ∷ xs))) (rest (x ∷ xs)) (less x xs) (omega arith))

    by_fuel : (P : List ℕ → Type 0) → P [] → ((s : List ℕ) → 0 < length s → P (rest s) → P s) → (f : ℕ) (s : List ℕ)
        → length s ≤ f → P s
    by_fuel P none more zero [] h = none
    by_fuel P none more zero (x ∷ xs) h = absurd (omega arith)
    by_fuel P none more (suc f) [] h = none
    by_fuel P none more (suc f) (x ∷ xs) h =
        let fewer : length (rest (x ∷ xs)) ≤ length xs = less x xs in
        more (x ∷ xs) (omega arith) (by_fuel P none more f (rest (x ∷ xs)) (omega arith))

    -- induction over the items: what holds of no bytes, and of some bytes where it holds of what is left behind their first item,
    -- holds of any
    pub by_read : (P : List ℕ → Type 0) → P [] → ((s : List ℕ) → 0 < length s → P (rest s) → P s) → (s : List ℕ) → P s
    by_read P none more s = by_fuel P none more (length s) s (omega arith)

    module _ (bytes : Item → List ℕ) where
      -- bytes, their items, the bytes again: it is enough that the item at the head has the bytes at whose head it stands
      pub bytes_again : ((s : List ℕ) → Bytes s → is_item (item s) ≡ true → bytes (item s) ++ rest s ≡ s)
          → ((s : List ℕ) → Bytes s → Bytes (rest s))
          → (s : List ℕ) → Bytes s → all_items (decode_by item rest s) ≡ true → encode_by bytes (decode_by item rest s) ≡ s
      unfolding encode_by
      bytes_again again kept =
          by_read (λ (s : List ℕ). Bytes s → all_items (decode_by item rest s) ≡ true → encode_by bytes (decode_by item rest s) ≡ s)
          (λ _ _. ap (encode_by bytes) read_none)
          (λ s h left b all.
          let good : all_items (item s ∷ decode_by item rest (rest s)) ≡ true = ap all_items (sym (read_more s h)) ∙ all in
          ap (encode_by bytes) (read_more s h)
          ∙ ap (λ (l : List ℕ). bytes (item s) ++ l) (left (kept s b) (all_rest _ _ good))
          ∙ again s b (all_first _ _ good))

  module _ (bytes : Item → List ℕ)
      (back : (x : Item) (t : List ℕ) → is_item x ≡ true → decode_by item rest (bytes x ++ t) ≡ x ∷ decode_by item rest t) where
    -- items, their bytes, the items again: it is enough that each is read back; and with what follows them
    pub items_append : (xs : List Item) (t : List ℕ) → all_items xs ≡ true
        → decode_by item rest (encode_by bytes xs ++ t) ≡ xs ++ decode_by item rest t
    unfolding encode_by
    items_append [] t h = refl
    items_append (x ∷ xs) t h =
        ap (decode_by item rest) (append_assoc (bytes x) (encode_by bytes xs) t)
        ∙ back x (encode_by bytes xs ++ t) (all_first x xs h)
        ∙ ap (λ (l : List Item). x ∷ l) (items_append xs t (all_rest x xs h))

    -- the bytes of items are read as these items
    pub items_again : (xs : List Item) → all_items xs ≡ true → decode_by item rest (encode_by bytes xs) ≡ xs
    items_again xs h =
        ap (decode_by item rest) (sym (append-nil (encode_by bytes xs)))
        ∙ items_append xs [] h
        ∙ ap (λ (l : List Item). xs ++ l) read_none
        ∙ append-nil xs
