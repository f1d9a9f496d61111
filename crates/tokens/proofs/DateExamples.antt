-- Texts as dates, each computed by the definition.
use mathlib.Core.Path.{◌≡◌, refl}
use mathlib.Core.Bool.{Bool, true}
use mathlib.Core.List.{[], ◌∷◌}
use Prim.Native.Nat.{ℕ}
use Prim.Native.String.{String}
use lib.Dec.{eqb}
use Rattle.tokens.specs.Text.{bytes, every}
use Rattle.tokens.specs.Dates.{date}
use Rattle.tokens.specs.Computing.{computing}

-- a text's date as its day count, 0 where it is none
dated : String × ℕ → Bool
dated r = eqb (date (bytes r.0)) r.1

-- every fourth year is a leap year, but of the hundreds only every fourth
leaps : every dated
    (("2000-02-29", 730179)
    ∷ ("2000-03-01", 730180)
    ∷ ("2024-02-29", 738945)
    ∷ ("1900-02-28", 693654)
    ∷ ("1900-02-29", 0)
    ∷ ("1900-03-01", 693655)
    ∷ ("2100-02-29", 0)
    ∷ ("2023-02-29", 0)
    ∷ ("2023-02-28", 738579)
    ∷ ("2000-02-30", 0)
    ∷ ("0400-02-29", 145791)
    ∷ []) ≡ true
unfolding computing dated
leaps = refl

-- years from 0001 to 9999
years : every dated
    (("0000-01-01", 0)
    ∷ ("0001-01-01", 1)
    ∷ ("1970-01-01", 719163)
    ∷ ("9999-12-31", 3652059)
    ∷ ("10000-01-01", 0)
    ∷ ("999-01-01", 0)
    ∷ ("-001-01-01", 0)
    ∷ ("+001-01-01", 0)
    ∷ []) ≡ true
unfolding computing dated
years = refl

-- months from 01 to 12, and the last day of each
days : every dated
    (("2023-01-31", 738551)
    ∷ ("2023-01-32", 0)
    ∷ ("2023-03-31", 738610)
    ∷ ("2020-04-30", 737545)
    ∷ ("2020-04-31", 0)
    ∷ ("2020-05-31", 737576)
    ∷ ("2020-06-31", 0)
    ∷ ("2020-07-31", 737637)
    ∷ ("2020-08-31", 737668)
    ∷ ("2020-09-31", 0)
    ∷ ("2020-10-31", 737729)
    ∷ ("2020-11-31", 0)
    ∷ ("2020-12-31", 737790)
    ∷ ("2020-12-32", 0)
    ∷ ("2020-13-01", 0)
    ∷ ("2020-00-10", 0)
    ∷ ("2020-01-00", 0)
    ∷ []) ≡ true
unfolding computing dated
days = refl

-- four digits, two and two, with hyphens, and nothing more
shapes : every dated
    (("", 0)
    ∷ ("2020-1-01", 0)
    ∷ ("2020-01-1", 0)
    ∷ ("2020-1-1", 0)
    ∷ ("2020-01-01 ", 0)
    ∷ (" 2020-01-01", 0)
    ∷ ("2020-01-011", 0)
    ∷ ("2020-01- 1", 0)
    ∷ ("2020/01/01", 0)
    ∷ ("2020-01.01", 0)
    ∷ ("2020:01-01", 0)
    ∷ ("20200101", 0)
    ∷ ("2020-0101-", 0)
    ∷ ("01-01-2020", 0)
    ∷ ("2020-0a-01", 0)
    ∷ ("202O-01-01", 0)
    ∷ ("2020-01-01T", 0)
    ∷ ("----------", 0)
    ∷ []) ≡ true
unfolding computing dated
shapes = refl
