-- A date. Document 01: SPACE or `0`, two year digits, day 001 to 366; or SPACE or `0` and five ZEROs.
use Rattle.std.specs.Prelude.{Bool, true, false, List, ℕ, leb, eqb, length, get_or, Option, Some, None}
use Rattle.base.specs.If.{if_b}
use Rattle.base.specs.Part.{part}
use Rattle.charset.specs.Number.{number_in}

-- the first character: SPACE or ZERO
unfoldable pub is_century : ℕ → Bool
is_century b = if_b (eqb b 32) true (eqb b 48)

-- the five characters behind the first, and the last three of them: all ZEROs, or digits with a day from 001 to 366
unfoldable pub is_year_day : Option ℕ → Option ℕ → Bool
is_year_day (Some all) (Some day) = if_b (eqb all 0) true (if_b (leb 1 day) (leb day 366) false)
is_year_day (Some all) None = false
is_year_day None day = false

-- a field of six characters; the year and the day stand in BP 2-6 of it, the day in BP 4-6
unfoldable pub is_date : List ℕ → Bool
is_date s =
    if_b (eqb (length s) 6) (if_b (is_century (get_or s 0 0)) (is_year_day (number_in (part 1 5 s)) (number_in (part 3 3 s))) false) false
