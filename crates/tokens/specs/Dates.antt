-- Dates: yyyy-mm-dd, year 0001 to 9999, a true Gregorian day (ISO 8601).
use Rattle.std.specs.Prelude.{Bool, ◌&&◌, Option, Some, None, List, ℕ, zero, suc, ◌+◌, ◌-◌, ◌*◌, ltb, eqb, length, get_or, if◌then◌else◌}
use Rattle.calendar.specs.declared.days.Day.{Day}
use Rattle.calendar.specs.Calendar.{dated, is_day, count}
use Rattle.tokens.specs.Text.{digit}

-- the number that two digits at a place write, and 100 where they are not both digits
abbrev pub pair : List ℕ → ℕ → ℕ
pair s i =
    if digit (get_or s i 0) && digit (get_or s (i + 1) 0)
    then (get_or s i 0 - 48) * 10 + (get_or s (i + 1) 0 - 48)
    else 100

-- ten bytes: four digits, a hyphen, two digits, a hyphen, two digits (which a true day has)
abbrev pub is_shape : List ℕ → Bool
is_shape s =
    eqb (length s) 10 && (eqb (get_or s 4 0) 45 && (eqb (get_or s 7 0) 45 && (ltb (pair s 0) 100 && ltb (pair s 2) 100)))

-- the day that they write
abbrev pub written : List ℕ → Day
written s = dated (pair s 0 * 100 + pair s 2) (pair s 5) (pair s 8)

-- a text of that shape that writes a true day
abbrev pub is_date : List ℕ → Bool
is_date s = is_shape s && is_day (written s)

-- a text's date as its day count; 0 where it is no date
unfoldable pub date : List ℕ → ℕ
date s = if is_date s then count (written s) else 0

-- a number other than 0, as the code has it
abbrev pub unless_0 : ℕ → Option ℕ
unless_0 zero = None
unless_0 (suc n) = Some (suc n)
