-- Days and their counts, computed by the definition both ways.
use mathlib.Core.Path.{◌≡◌, refl}
use mathlib.Core.Bool.{Bool, true, ◌&&◌}
use mathlib.Core.List.{List, [], ◌∷◌}
use Prim.Native.Nat.{ℕ}
use lib.Dec.{eqb}
use Rattle.calendar.specs.declared.days.Day.{Day}
use Rattle.calendar.specs.Calendar.{dated, total, count_of, count_off, day_of}

same : Day → Day → Bool
same a b = eqb a.year b.year && (eqb a.month b.month && eqb a.day b.day)

every : {A : Type 0} → (A → Bool) → List A → Bool
every p [] = true
every p (x ∷ xs) = p x && every p xs

-- a day has the count, and the count is that day's
is : Day × ℕ → Bool
is r = eqb (count_of r.0) r.1 && same (day_of r.1) r.0

counts : every is
    ((dated 1 1 1, 1)
    ∷ (dated 1 12 31, 365)
    ∷ (dated 2 1 1, 366)
    ∷ (dated 4 12 31, 1461)
    ∷ (dated 1900 2 28, 693654)
    ∷ (dated 1900 3 1, 693655)
    ∷ (dated 1970 1 1, 719163)
    ∷ (dated 2000 2 29, 730179)
    ∷ (dated 2000 3 1, 730180)
    ∷ (dated 2000 12 31, 730485)
    ∷ (dated 9999 12 31, 3652059)
    ∷ []) ≡ true
unfolding same every is total count_of count_off day_of
counts = refl

-- no day
uncounted : Day → Bool
uncounted d = eqb (count_of d) 0

no_days : every uncounted
    (dated 0 1 1
    ∷ dated 10000 1 1
    ∷ dated 2023 2 29
    ∷ dated 1900 2 29
    ∷ dated 2020 4 31
    ∷ dated 2020 13 1
    ∷ dated 2020 0 10
    ∷ dated 2020 1 0
    ∷ dated 0 0 0
    ∷ []) ≡ true
unfolding every uncounted total count_of
no_days = refl

-- counts that no day has
dayless : ℕ → Bool
dayless n = same (day_of n) (dated 0 0 0)

no_counts : every dayless (0 ∷ 3652060 ∷ 20240229 ∷ 0xffff_ffff ∷ []) ≡ true
unfolding same every dayless count_off day_of
no_counts = refl
