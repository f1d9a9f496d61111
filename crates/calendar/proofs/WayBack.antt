-- The way back: each count up to the last is the count of one day, which the definition finds, and the code too.
use mathlib.Core.Path.{◌≡◌, refl, sym, ap, ◌∙◌, subst}
use mathlib.Core.Bool.{Bool, true, false, not, cond}
use mathlib.Core.Logic.{◌⊎◌, inl, inr}
use Prim.Native.Nat.{ℕ, zero, suc, ◌+◌, ◌-◌, ◌≤◌, ◌<◌}
use native.Mathlib.Omega.{arith}
use lib.Dec.{leb, eqb}
use borrow.Author.Tests.{leb-true, leb-false, eqb-true, eqb-false, eq-eqb, ne_eqb, lt-ltb, le-ltb}
use Rattle.calendar.specs.declared.days.Day.{Day}
use Rattle.calendar.specs.Calendar.{year_days, days_of, is_day, total, count, count_of, last_year, last_count, count_off, no_day, year_from, month_from, day_from, day_of}
use Rattle.calendar.proofs.YearLaws.{years_last, months_of_year}
use Rattle.calendar.proofs.CalendarLaws.{TrueDay, day_true, count_is, count_none, count_most, one_day}

-- which of the k + 1 behind the first i the n-th day behind those falls into, and the day of it
record Falls (f : ℕ → ℕ) (i k n : ℕ) (r : ℕ × ℕ) : Type 0 where
  pub from : suc i ≤ r.0
  pub to : r.0 ≤ suc i + k
  pub some : 1 ≤ r.1
  pub within : r.1 ≤ f r.0
  pub sum : total f (r.0 - 1) + r.1 ≡ total f i + n

-- the next, where it has the day
falls_here : (f : ℕ → ℕ) (k i n : ℕ) → 1 ≤ n → n ≤ f (suc i) → Falls f i k n (suc i, n)
falls_here f k i n l m =
    record { from = omega arith; to = omega arith; some = l; within = m; sum = ap (λ (j : ℕ). total f j + n) less }
  where
    less : suc i - 1 ≡ i
    less = omega arith

-- and where it has not, one of those behind it
falls_later : (f : ℕ → ℕ) (k i n : ℕ) (r : ℕ × ℕ) → f (suc i) < n → Falls f (suc i) k (n - f (suc i)) r → Falls f i (suc k) n r
unfolding total
falls_later f k i n r l h =
    record {
      from = omega (arith, h.from);
      to = omega (arith, h.to);
      some = h.some;
      within = h.within;
      sum = omega (arith, h.sum);
    }

falls : (f : ℕ → ℕ) (k i n : ℕ) → 1 ≤ n → total f i + n ≤ total f (suc i + k) → Falls f i k n (count_off f k (suc i) n)
unfolding count_off total
falls f zero i n l m = falls_here f 0 i n l (omega (arith, subst (λ (e : ℕ). total f i + n ≤ total f e) last m))
  where
    last : suc i + 0 ≡ suc i
    last = omega arith
falls f (suc k) i n l m = go (leb n (f (suc i))) refl (falls f k (suc i) (n - f (suc i)))
  where
    last : suc i + suc k ≡ suc (suc i) + k
    last = omega arith

    go : (t : Bool) → leb n (f (suc i)) ≡ t
        → (1 ≤ n - f (suc i) → total f (suc i) + (n - f (suc i)) ≤ total f (suc (suc i) + k) → Falls f (suc i) k (n - f (suc i)) (count_off f k (suc (suc i)) (n - f (suc i))))
        → Falls f i (suc k) n (cond t (suc i, n) (count_off f k (suc (suc i)) (n - f (suc i))))
    go true e next = falls_here f (suc k) i n l (leb-true n (f (suc i)) e)
    go false e next =
        falls_later f k i n (count_off f k (suc (suc i)) (n - f (suc i))) (leb-false n (f (suc i)) e)
        (next (omega (arith, leb-false n (f (suc i)) e)) (omega (arith, leb-false n (f (suc i)) e, subst (λ (e : ℕ). total f i + n ≤ total f e) last m)))

-- counting off from the first on
falls_first : (f : ℕ → ℕ) (k n : ℕ) → 1 ≤ n → n ≤ total f (suc k) → Falls f 0 k n (count_off f k 1 n)
unfolding total
falls_first f k n l m = falls f k 0 n l (omega (arith, subst (λ (e : ℕ). n ≤ total f e) first m))
  where
    first : suc k ≡ 1 + k
    first = omega arith

falls_sum : (f : ℕ → ℕ) (k n : ℕ) (r : ℕ × ℕ) → Falls f 0 k n r → total f (r.0 - 1) + r.1 ≡ n
unfolding total
falls_sum f k n r h = omega (arith, h.sum)

year_falls : (n : ℕ) → 1 ≤ n → n ≤ last_count → Falls year_days 0 (last_year - 1) n (year_from n)
year_falls n l m = falls_first year_days (last_year - 1) n l (omega (arith, years_last))

month_falls : (y n : ℕ) → 1 ≤ n → n ≤ year_days y → Falls (days_of y) 0 11 n (month_from y n)
month_falls y n l m = falls_first (days_of y) 11 n l (omega (arith, months_of_year y))

-- a day that is counted off is a true day, and has that count
from_true : (n : ℕ) → 1 ≤ n → n ≤ last_count → TrueDay (day_from n)
from_true n l m = made (year_falls n l m) (month_falls (year_from n).0 (year_from n).1 (year_falls n l m).some (year_falls n l m).within)
  where
    made : Falls year_days 0 (last_year - 1) n (year_from n) → Falls (days_of (year_from n).0) 0 11 (year_from n).1 (month_from (year_from n).0 (year_from n).1)
        → TrueDay (day_from n)
    made y d =
        record {
          year_from = y.from;
          year_to = omega (arith, y.to);
          month_from = d.from;
          month_to = omega (arith, d.to);
          day_from = d.some;
          day_to = d.within;
        }

from_counted : (n : ℕ) → 1 ≤ n → n ≤ last_count → count (day_from n) ≡ n
from_counted n l m =
    omega (
      arith,
      falls_sum year_days (last_year - 1) n (year_from n) (year_falls n l m),
      falls_sum (days_of (year_from n).0) 11 (year_from n).1 (month_from (year_from n).0 (year_from n).1)
          (month_falls (year_from n).0 (year_from n).1 (year_falls n l m).some (year_falls n l m).within),
    )

day_is : (n : ℕ) → 1 ≤ n → n ≤ last_count → day_of n ≡ day_from n
unfolding day_of
day_is n l m = simp (ne_eqb n 0 (omega arith), le-ltb last_count n m)

-- no day where the count is 0 or behind the last
pub day_none : (n : ℕ) → (n ≡ 0) ⊎ (last_count < n) → day_of n ≡ no_day
unfolding day_of
day_none n (inl e) = simp (eq-eqb n 0 e)
day_none n (inr l) = simp (ne_eqb n 0 (omega arith), lt-ltb last_count n l)

day_true_of : (n : ℕ) → 1 ≤ n → n ≤ last_count → is_day (day_of n) ≡ true
day_true_of n l m = ap is_day (day_is n l m) ∙ day_true (day_from n) (from_true n l m)

-- from a count to its day and back: every count up to the last is a day's, but 0
pub day_counted : (n : ℕ) → n ≤ last_count → count_of (day_of n) ≡ n
unfolding count_of
day_counted n m = go (eqb n 0) refl
  where
    some : eqb n 0 ≡ false → 1 ≤ n
    some e = omega (arith, eqb-false n 0 e)

    go : (t : Bool) → eqb n 0 ≡ t → count_of (day_of n) ≡ n
    go true e = ap count_of (day_none n (inl (eqb-true n 0 e))) ∙ sym (eqb-true n 0 e)
    go false e = ap count_of (day_is n (some e) m) ∙ count_is (day_from n) (day_true (day_from n) (from_true n (some e) m)) ∙ from_counted n (some e) m

-- from a day to its count and back
pub counted_day : (d : Day) → is_day d ≡ true → day_of (count_of d) ≡ d
counted_day d e = one_day (day_of (count_of d)) d (day_true_of (count_of d) some (count_most d)) e (day_counted (count_of d) (count_most d))
  where
    some : 1 ≤ count_of d
    some = omega (arith, eqb-false (count_of d) 0 (count_none d ∙ ap not e))

-- a true day with the count n is the day of n
pub day_found : (n : ℕ) (d : Day) → TrueDay d → count d ≡ n → d ≡ day_of n
day_found n d h e = sym (counted_day d (day_true d h)) ∙ ap day_of (count_is d (day_true d h) ∙ e)
