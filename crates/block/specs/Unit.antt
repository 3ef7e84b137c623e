-- The unit at the head of what is left of a data block. Document 01, "Blocks and records":
-- F: a unit is R bytes, not all of them 5E.
-- D: four digits, the length with these four, then the record. R counts the control word (8.5.2.6 of ECMA-13), so the length is
-- at most R.
-- S: an indicator, four digits giving the length with these five, then the segment. Any indicator 0 to 3 will do here.
use Rattle.std.specs.Prelude.{List, ℕ, ◌+◌, ◌-◌, leb, eqb, length, take, get_or, Option, Some, None}
use Rattle.base.specs.If.{if_b}
use Rattle.base.specs.Format.{format_f, format_d, format_s}
use Rattle.base.specs.Part.{part, all_are}
use Rattle.charset.specs.Number.{number_in}
use Rattle.block.specs.declared.Unit.{Unit}

-- a unit with indicator i, a control word of w bytes and n bytes more
abbrev pub one_unit : ℕ → ℕ → ℕ → Option Unit
one_unit i w n = Some (record { indicator = i; word = w; len = n })

-- the padding byte, a circumflex
abbrev pub pad : ℕ
pad = 94

-- a fixed-length record of r bytes
unfoldable pub fixed : ℕ → List ℕ → Option Unit
fixed r s = if_b (eqb r 0) None (if_b (leb r (length s)) (if_b (all_are pad (take r s)) None (one_unit 0 0 r)) None)

-- a unit with indicator i, led by a control word of w bytes, whose length field says n; l bytes are left, and the length is at
-- most m
unfoldable pub measured : ℕ → ℕ → ℕ → ℕ → Option ℕ → Option Unit
measured i w m l None = None
measured i w m l (Some n) = if_b (leb w n) (if_b (leb n m) (if_b (leb n l) (one_unit i w (n - w)) None) None) None

-- a variable-length record: its length field is at most r
unfoldable pub variable : ℕ → List ℕ → Option Unit
variable r s = measured 0 4 r (length s) (number_in (part 0 4 s))

-- a segment: its length field, of four digits, is not bounded here
unfoldable pub segment : List ℕ → Option Unit
segment s =
    if_b (leb 48 (get_or s 0 0))
    (if_b (leb (get_or s 0 0) 51) (measured (get_or s 0 0 - 48) 5 9999 (length s) (number_in (part 1 4 s))) None) None

-- the unit at the head of s in a file of format f and record length r
unfoldable pub unit_of : ℕ → ℕ → List ℕ → Option Unit
unit_of f r s = if_b (eqb f format_f) (fixed r s) (if_b (eqb f format_d) (variable r s) (if_b (eqb f format_s) (segment s) None))

-- the bytes of a unit, its control word among them; 0 where there is none
unfoldable pub length_of : Option Unit → ℕ
length_of (Some u) = u.word + u.len
length_of None = 0

-- the bytes of a control word in a file of format f
unfoldable pub word_of : ℕ → ℕ
word_of f = if_b (eqb f format_f) 0 (if_b (eqb f format_d) 4 5)

-- the bytes, with its control word, of a unit that is a whole record of at most r bytes; 0 where it is none
unfoldable pub whole_of : ℕ → Option Unit → ℕ
whole_of r (Some u) = if_b (eqb u.indicator 0) (if_b (leb u.len r) (u.word + u.len) 0) 0
whole_of r None = 0
