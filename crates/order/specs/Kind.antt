-- The kinds of items that the order of a reel speaks of: labels by family and number, a data block, a tape mark, the end of a
-- reel and the end of the image. UHL and UTL have no number here (document 01: their kind is read from BP 1-3).
use Rattle.std.specs.Prelude.{Bool, ◌&&◌, ℕ, eqb}
use Rattle.order.specs.declared.Kind.{Kind}

abbrev pub kind : ℕ → ℕ → Kind
kind family number = record { family = family; number = number }

-- ---- the families

abbrev pub other : Kind
other = kind 0 0

abbrev pub vol : ℕ → Kind
vol n = kind 1 n

abbrev pub uvl : ℕ → Kind
uvl n = kind 2 n

abbrev pub hdr : ℕ → Kind
hdr n = kind 3 n

abbrev pub uhl : Kind
uhl = kind 4 0

abbrev pub eof : ℕ → Kind
eof n = kind 5 n

abbrev pub eov : ℕ → Kind
eov n = kind 6 n

abbrev pub utl : Kind
utl = kind 7 0

abbrev pub data_block : Kind
data_block = kind 8 0

abbrev pub tape_mark : Kind
tape_mark = kind 9 0

abbrev pub end_of_reel : Kind
end_of_reel = kind 10 0

abbrev pub end_of_image : Kind
end_of_image = kind 11 0

unfoldable pub is_kind : Kind → Kind → Bool
is_kind a b = eqb a.family b.family && eqb a.number b.number
