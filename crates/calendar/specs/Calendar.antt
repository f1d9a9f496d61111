-- The Gregorian calendar, and the count of its days: 0001-01-01 is 1.
use Rattle.std.specs.Prelude.{Bool, ◌&&◌, ◌||◌, not, cond, ◌≡◌, ◌⊎◌, ℕ, zero, suc, ◌+◌, ◌-◌, ◌%◌, ◌<◌, ltb, leb, eqb}
use Rattle.calendar.specs.declared.days.Day.{Day}

-- a leap year: divisible by four, and not by a hundred unless by four hundred
abbrev pub leap : ℕ → Bool
leap y = eqb (y % 4) 0 && (not (eqb (y % 100) 0) || eqb (y % 400) 0)

-- the days of a year
abbrev pub year_days : ℕ → ℕ
year_days y = cond (leap y) 366 365

-- the days of a month
abbrev pub days_of : ℕ → ℕ → ℕ
days_of y m =
    cond (eqb m 2)
    (cond (leap y) 29 28)
    (cond (eqb m 4 || (eqb m 6 || (eqb m 9 || eqb m 11))) 30 31)

abbrev pub last_year : ℕ
last_year = 9999

-- the day d of the month m of the year y
abbrev pub dated : ℕ → ℕ → ℕ → Day
dated y m d = record { year = y; month = m; day = d }

-- a true day, of the years 1 to 9999
abbrev pub is_day : Day → Bool
is_day d =
    leb 1 d.year
    && (leb d.year last_year
    && (leb 1 d.month && (leb d.month 12 && (leb 1 d.day && leb d.day (days_of d.year d.month)))))

-- ---- from a day to its count

-- what the first n have together: f 1, f 2 and so on to f n
unfoldable pub total : (ℕ → ℕ) → ℕ → ℕ
total f zero = 0
total f (suc n) = total f n + f (suc n)

-- the days of the years before, of the months before in that year, and the day
abbrev pub count : Day → ℕ
count d = total year_days (d.year - 1) + total (days_of d.year) (d.month - 1) + d.day

-- 0 is no day's count
unfoldable pub count_of : Day → ℕ
count_of d = cond (is_day d) (count d) 0

-- ---- and back

-- the count of 9999-12-31, and the greatest (`CalendarLaws.count_most`)
abbrev pub last_count : ℕ
last_count = 3652059

-- where i has f i days, i + 1 the next f (i + 1), and so on: which of them the n-th day falls into, and the day of it. The
-- first k are counted off, while n goes beyond them
unfoldable pub count_off : (ℕ → ℕ) → ℕ → ℕ → ℕ → ℕ × ℕ
count_off f zero i n = (i, n)
count_off f (suc k) i n = cond (leb n (f i)) (i, n) (count_off f k (suc i) (n - f i))

-- the year of the n-th day, and the day of that year
abbrev pub year_from : ℕ → ℕ × ℕ
year_from n = count_off year_days (last_year - 1) 1 n

-- the month of the n-th day of the year y, and the day of that month
abbrev pub month_from : ℕ → ℕ → ℕ × ℕ
month_from y n = count_off (days_of y) 11 1 n

abbrev pub day_from : ℕ → Day
day_from n =
    let y = year_from n in
    let m = month_from y.0 y.1 in
    dated y.0 m.0 m.1

abbrev pub no_day : Day
no_day = dated 0 0 0

-- no day has the count 0 or one behind the last
unfoldable pub day_of : ℕ → Day
day_of n = cond (eqb n 0 || ltb last_count n) no_day (day_from n)

-- ---- the order of days

-- a is before b: by the year, then by the month, then by the day
abbrev pub Before : Day → Day → Type 0
Before a b =
    (a.year < b.year) ⊎ ((a.year ≡ b.year) × ((a.month < b.month) ⊎ ((a.month ≡ b.month) × (a.day < b.day))))
