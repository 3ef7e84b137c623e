-- The kind of a label, by its name. Document 01: a label is a block of exactly 80 bytes (house); its kind is read from BP 1-4
-- (UHL and UTL:
-- 1-3). The label number is a digit 1 to 9.
use Rattle.std.specs.Prelude.{List, [], ◌∷◌, ℕ, ◌-◌, leb, eqb, length, get_or}
use Rattle.base.specs.If.{if_b}
use Rattle.base.specs.Part.{part, same}
use Rattle.order.specs.Kind.{other, vol, uvl, hdr, uhl, eof, eov, utl, is_kind}
use Rattle.order.specs.declared.Kind.{Kind}

-- ---- the names that are compared on reading and written on writing

abbrev pub vol1_name : List ℕ
vol1_name = 86 ∷ 79 ∷ 76 ∷ 49 ∷ []

abbrev pub hdr1_name : List ℕ
hdr1_name = 72 ∷ 68 ∷ 82 ∷ 49 ∷ []

abbrev pub hdr2_name : List ℕ
hdr2_name = 72 ∷ 68 ∷ 82 ∷ 50 ∷ []

abbrev pub eov1_name : List ℕ
eov1_name = 69 ∷ 79 ∷ 86 ∷ 49 ∷ []

abbrev pub eov2_name : List ℕ
eov2_name = 69 ∷ 79 ∷ 86 ∷ 50 ∷ []

abbrev pub eof1_name : List ℕ
eof1_name = 69 ∷ 79 ∷ 70 ∷ 49 ∷ []

abbrev pub eof2_name : List ℕ
eof2_name = 69 ∷ 79 ∷ 70 ∷ 50 ∷ []

-- ---- the identifiers of the optional labels

abbrev pub vol_name : List ℕ
vol_name = 86 ∷ 79 ∷ 76 ∷ []

abbrev pub uvl_name : List ℕ
uvl_name = 85 ∷ 86 ∷ 76 ∷ []

abbrev pub hdr_name : List ℕ
hdr_name = 72 ∷ 68 ∷ 82 ∷ []

abbrev pub uhl_name : List ℕ
uhl_name = 85 ∷ 72 ∷ 76 ∷ []

abbrev pub eov_name : List ℕ
eov_name = 69 ∷ 79 ∷ 86 ∷ []

abbrev pub eof_name : List ℕ
eof_name = 69 ∷ 79 ∷ 70 ∷ []

abbrev pub utl_name : List ℕ
utl_name = 85 ∷ 84 ∷ 76 ∷ []

-- the labels that every set has, by BP 1-4
unfoldable pub required : List ℕ → Kind
required n =
    if_b (same n vol1_name) (vol 1)
    (if_b (same n hdr1_name) (hdr 1)
    (if_b (same n hdr2_name) (hdr 2)
    (if_b (same n eov1_name) (eov 1)
    (if_b (same n eov2_name) (eov 2)
    (if_b (same n eof1_name) (eof 1)
    (if_b (same n eof2_name) (eof 2)
    other))))))

-- the label number n of the family with identifier i
unfoldable pub family : List ℕ → ℕ → Kind
family i n =
    if_b (same i vol_name) (vol n)
    (if_b (same i uvl_name) (uvl n)
    (if_b (same i hdr_name) (hdr n)
    (if_b (same i eov_name) (eov n)
    (if_b (same i eof_name) (eof n)
    other))))

-- a label of identifier i whose number is the character d: a digit 1 to 9
unfoldable pub numbered : List ℕ → ℕ → Kind
numbered i d = if_b (leb 49 d) (if_b (leb d 57) (family i (d - 48)) other) other

-- the labels that a set may have, by BP 1-3 and BP 4; user labels by BP 1-3 alone
unfoldable pub optional : List ℕ → ℕ → Kind
optional i d = if_b (same i uhl_name) uhl (if_b (same i utl_name) utl (numbered i d))

-- the first of two kinds that is one
unfoldable pub or_else : Kind → Kind → Kind
or_else a b = if_b (is_kind a other) b a

unfoldable pub named : List ℕ → Kind
named l = or_else (required (part 0 4 l)) (optional (part 0 3 l) (get_or l 3 0))

-- what a block is to the order of a reel, where a label is due
unfoldable pub kind_of : List ℕ → Kind
kind_of l = if_b (eqb (length l) 80) (named l) other
