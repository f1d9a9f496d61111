-- How many days the first years have, and the first months of a year; and how far a year or a month told by a mean length is off.
use mathlib.Core.Path.{◌≡◌, refl, sym, ap, ◌∙◌}
use mathlib.Core.Bool.{Bool, true, false, ◌&&◌, ◌||◌, not, cond, true≢false}
use Prim.Native.Nat.{ℕ, zero, suc, ◌+◌, ◌-◌, ◌*◌, ◌/◌, ◌%◌, ◌≤◌, ◌<◌}
use native.Mathlib.Omega.{arith}
use lib.Dec.{leb, eqb}
use borrow.Author.Tests.{eqb-true, eqb-false, eq-eqb, ne_eqb, le-leb}
use Rattle.calendar.specs.Calendar.{leap, year_days, days_of, total, last_year, last_count}

-- ---- years

-- 365 days each, and a leap day every fourth year, but of the hundreds every fourth
abbrev by_rule : ℕ → ℕ
by_rule n = n * 365 + n / 4 - n / 100 + n / 400

-- a quotient grows with its number where the number is divisible: once for each divisor, which `omega` takes as a numeral
four : (n : ℕ) (t : Bool) → eqb (suc n % 4) 0 ≡ t → suc n / 4 ≡ n / 4 + cond t 1 0
four n true e = omega (arith, eqb-true (suc n % 4) 0 e)
four n false e = omega (arith, eqb-false (suc n % 4) 0 e)

hundred : (n : ℕ) (t : Bool) → eqb (suc n % 100) 0 ≡ t → suc n / 100 ≡ n / 100 + cond t 1 0
hundred n true e = omega (arith, eqb-true (suc n % 100) 0 e)
hundred n false e = omega (arith, eqb-false (suc n % 100) 0 e)

four_hundred : (n : ℕ) (t : Bool) → eqb (suc n % 400) 0 ≡ t → suc n / 400 ≡ n / 400 + cond t 1 0
four_hundred n true e = omega (arith, eqb-true (suc n % 400) 0 e)
four_hundred n false e = omega (arith, eqb-false (suc n % 400) 0 e)

by_four : (n : ℕ) → n % 100 ≡ 0 → n % 4 ≡ 0
by_four n e = omega arith

by_hundred : (n : ℕ) → n % 400 ≡ 0 → n % 100 ≡ 0
by_hundred n e = omega arith

next_year : (n a b c : ℕ) (p q r : Bool) → b ≤ n → (q ≡ true → p ≡ true) → (r ≡ true → q ≡ true)
    → n * 365 + a - b + c + cond (p && (not q || r)) 366 365 ≡ suc n * 365 + (a + cond p 1 0) - (b + cond q 1 0) + (c + cond r 1 0)
next_year n a b c true true true l f g = omega arith
next_year n a b c true true false l f g = omega arith
next_year n a b c true false true l f g = absurd (true≢false (sym (g refl)))
next_year n a b c true false false l f g = omega arith
next_year n a b c false true r l f g = absurd (true≢false (sym (f refl)))
next_year n a b c false false true l f g = absurd (true≢false (sym (g refl)))
next_year n a b c false false false l f g = omega arith

rule_next : (n : ℕ) → by_rule n + year_days (suc n) ≡ by_rule (suc n)
rule_next n =
    simp (four n _ refl, hundred n _ refl, four_hundred n _ refl) (next_year n (n / 4) (n / 100) (n / 400) (eqb (suc n % 4) 0) (eqb (suc n % 100) 0) (eqb (suc n % 400) 0)
    (omega arith)
    (λ e. eq-eqb (suc n % 4) 0 (by_four (suc n) (eqb-true (suc n % 100) 0 e)))
    (λ e. eq-eqb (suc n % 100) 0 (by_hundred (suc n) (eqb-true (suc n % 400) 0 e))))

pub years_by_rule : (n : ℕ) → total year_days n ≡ n * 365 + n / 4 - n / 100 + n / 400
unfolding total
years_by_rule zero = refl
years_by_rule (suc n) = ap (λ (k : ℕ). k + year_days (suc n)) (years_by_rule n) ∙ rule_next n

pub years_last : total year_days last_year ≡ last_count
years_last = years_by_rule last_year

pub year_most : (y : ℕ) → year_days y ≤ 366
year_most y = go (leap y)
  where
    go : (t : Bool) → cond t 366 365 ≤ 366
    go true = omega arith
    go false = omega arith

-- by the measure of 146097 days in 400 years, a day falls into its own year or into the year before
pub year_low : (n : ℕ) → 1 ≤ n → total year_days ((n - 1) * 400 / 146097) < n
year_low n l = low n ((n - 1) * 400 / 146097) (omega arith) l
  where
    low : (n g : ℕ) → 146097 * g ≤ (n - 1) * 400 → 1 ≤ n → total year_days g < n
    low n g h l = omega (arith, years_by_rule g)

pub year_high : (n : ℕ) → n ≤ total year_days ((n - 1) * 400 / 146097 + 2)
year_high n = high n ((n - 1) * 400 / 146097) (omega arith)
  where
    high : (n g : ℕ) → (n - 1) * 400 < 146097 * (g + 1) → n ≤ total year_days (g + 2)
    high n g h = omega (arith, years_by_rule (g + 2))

-- ---- months

pub months_of_year : (y : ℕ) → total (days_of y) 12 ≡ year_days y
unfolding total
months_of_year y = go (leap y) refl
  where
    go : (t : Bool) → leap y ≡ t → total (days_of y) 12 ≡ cond t 366 365
    go true e = simp e
    go false e = simp e

-- February alone differs from year to year, and year 1 is no leap year
other_month : (y m : ℕ) → (m ≡ 2 → ⊥) → days_of y m ≡ days_of 1 m
other_month y m h = simp (ne_eqb m 2 h)

-- the leap days of the first n months of the year y
abbrev pub leap_days : ℕ → ℕ → ℕ
leap_days y n = cond (leb 2 n && leap y) 1 0

pub months_of : (y n : ℕ) → total (days_of y) n ≡ total (days_of 1) n + leap_days y n
unfolding total
months_of y zero = refl
months_of y (suc zero) = refl
months_of y (suc (suc zero)) = go (leap y) refl
  where
    go : (t : Bool) → leap y ≡ t → 31 + cond t 29 28 ≡ 59 + cond t 1 0
    go true e = refl
    go false e = refl
months_of y (suc (suc (suc n))) =
    omega (
      arith,
      months_of y (suc (suc n)),
      other_month y (suc (suc (suc n))) (omega arith),
      past (suc (suc n)) (omega arith),
      past (suc (suc (suc n))) (omega arith),
    )
  where
    past : (k : ℕ) → 2 ≤ k → leap_days y k ≡ cond (leap y) 1 0
    past k h = simp (le-leb 2 k h)

-- no month has more than 31 days, and all but February have 30
days_most : (y m : ℕ) → days_of y m ≤ 31
days_most y m = go (eqb m 2) (leap y) (eqb m 4 || (eqb m 6 || (eqb m 9 || eqb m 11)))
  where
    go : (a b c : Bool) → cond a (cond b 29 28) (cond c 30 31) ≤ 31
    go true true c = omega arith
    go true false c = omega arith
    go false b true = omega arith
    go false b false = omega arith

days_least : (y m : ℕ) → (m ≡ 2 → ⊥) → 30 ≤ days_of y m
days_least y m h = simp (ne_eqb m 2 h) (go (eqb m 4 || (eqb m 6 || (eqb m 9 || eqb m 11))))
  where
    go : (c : Bool) → 30 ≤ cond c 30 31
    go true = omega arith
    go false = omega arith

pub months_most : (y n : ℕ) → total (days_of y) n ≤ 31 * n
unfolding total
months_most y zero = omega arith
months_most y (suc n) = omega (arith, months_most y n, days_most y (suc n))

months_least : (y n : ℕ) → 30 * n ≤ total (days_of y) n + 2
unfolding total
months_least y zero = omega arith
months_least y (suc zero) = omega arith
months_least y (suc (suc zero)) = omega (arith, months_of y 2)
months_least y (suc (suc (suc n))) = omega (arith, months_least y (suc (suc n)), days_least y (suc (suc (suc n))) (omega arith))

-- by the measure of 31 days in a month, a day falls into its own month or into the month before
pub month_low : (y n : ℕ) → 1 ≤ n → total (days_of y) ((n - 1) / 31) < n
month_low y n l = omega (arith, months_most y ((n - 1) / 31))

pub month_high : (y n : ℕ) → n ≤ 366 → n ≤ total (days_of y) ((n - 1) / 31 + 2)
month_high y n l = omega (arith, months_least y ((n - 1) / 31 + 2))
