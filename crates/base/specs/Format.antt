-- The record formats, as BP 5 of HDR2 has them (8.5.2.4 of ECMA-13): fixed-length, variable-length and segmented records.
use Rattle.std.specs.Prelude.{ℕ}

abbrev pub format_f : ℕ
format_f = 70

abbrev pub format_d : ℕ
format_d = 68

abbrev pub format_s : ℕ
format_s = 83
