-- The judgement of one label: its first wrong field (number 4), its accessibility (5), and the lowest unequal field of two labels
-- (for 6); and the field in which a byte stands, for whoever shows a label.
-- Document 01, "Numbers given back": within one item the smallest number; for 4, 5 and 6 the place is the first BP of the lowest
-- wrong field.
use Rattle.std.specs.Prelude.{Bool, true, List, [], ◌∷◌, ℕ, ◌+◌, ◌-◌, eqb, leb, ltb}
use Rattle.base.specs.If.{if_b}
use Rattle.base.specs.Part.{part, same}
use Rattle.base.specs.Answer.{fault}
use Rattle.base.specs.declared.Fault.{Fault}
use Rattle.order.specs.Kind.{vol, hdr, eof, eov, is_kind}
use Rattle.order.specs.declared.Kind.{Kind}
use Rattle.label.specs.Field.{good}
use Rattle.label.specs.Table.{fields_of, bp_of, vol1, hdr1, trailer1, volume_access_row, access_row}

-- the BP of the first field, from place `at` on, that is not as its row of the table asks, or 0; `ok` sees the rule, the scope,
-- the place and the width
unfoldable pub first_bad : (ℕ → ℕ → ℕ → ℕ → Bool) → ℕ → List ℕ → ℕ
first_bad ok at [] = 0
first_bad ok at (w ∷ []) = 0
first_bad ok at (w ∷ r ∷ []) = 0
first_bad ok at (w ∷ r ∷ s ∷ rows) = if_b (ok r s at w) (first_bad ok (at + w) rows) (at + 1)

-- whether the field of label l suits its rule
unfoldable pub good_at : List ℕ → ℕ → ℕ → ℕ → ℕ → Bool
good_at l r s at w = good r l (part at w l)

-- whether the field is the same in two labels, where its scope is n or has n in it
unfoldable pub agree_at : ℕ → List ℕ → List ℕ → ℕ → ℕ → ℕ → ℕ → Bool
agree_at n a b r s at w = if_b (leb n s) (same (part at w a) (part at w b)) true

-- whether the field, whatever its row asks, ends before BP b
unfoldable pub ends_before : ℕ → ℕ → ℕ → ℕ → ℕ → Bool
ends_before b r s at w = ltb (at + w) b

-- the BP of the first field of a label whose rule it does not suit, or 0
abbrev pub wrong_in : List ℕ → List ℕ → ℕ
wrong_in l rows = first_bad (good_at l) 0 rows

-- the BP of the first field that is to be equal in two labels of a scope and is not, or 0
abbrev pub unequal_in : ℕ → List ℕ → List ℕ → List ℕ → ℕ
unequal_in n a b rows = first_bad (agree_at n a b) 0 rows

-- the BP of the field in which BP b stands, or 0
abbrev pub field_in : ℕ → List ℕ → ℕ
field_in b rows = first_bad (ends_before b) 0 rows

-- the first BP of the field in which BP b of such a label stands, or 0 where b is no BP or the label has no fields
unfoldable pub field_with : Kind → ℕ → ℕ
field_with k b = if_b (eqb b 0) 0 (field_in b (fields_of k))

-- the BP of the accessibility of a kind of label, or 0 where it has none
unfoldable pub access_of : Kind → ℕ
access_of k =
    if_b (is_kind k (vol 1)) (bp_of vol1 volume_access_row)
    (if_b (is_kind k (hdr 1)) (bp_of hdr1 access_row)
    (if_b (is_kind k (eov 1)) (bp_of trailer1 access_row)
    (if_b (is_kind k (eof 1)) (bp_of trailer1 access_row)
    0)))

-- accessibility at BP a: SPACE, or 5
unfoldable pub access_at : ℕ → List ℕ → Fault
access_at a l = if_b (eqb a 0) (fault 0 0) (if_b (same (part (a - 1) 1 l) (32 ∷ [])) (fault 0 0) (fault 5 a))

-- number 4 at the first wrong field, where there is one, before any other fault
unfoldable pub field_fault : ℕ → Fault → Fault
field_fault w f = if_b (eqb w 0) f (fault 4 w)

-- the fault of a label of this kind by itself: 4 at the first wrong field, else 5
unfoldable pub label_fault : Kind → List ℕ → Fault
label_fault k l = field_fault (wrong_in l (fields_of k)) (access_at (access_of k) l)
