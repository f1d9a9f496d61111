-- Laws of counts: none is 0, none is greater than the last, and they follow the order of days.
use mathlib.Core.Path.{◌≡◌, refl, sym, subst}
use mathlib.Core.Bool.{Bool, true, false, not, cond, and-eq-true_iff}
use mathlib.Core.Logic.{◌⊎◌, inl, inr, ⊎_elim}
use Prim.Native.Nat.{ℕ, ◌+◌, ◌-◌, ◌≤◌, ◌<◌}
use native.Mathlib.Omega.{arith}
use lib.Dec.{leb, eqb}
use borrow.Author.Tests.{leb-true, leb-false, ne_eqb, le-leb}
use Rattle.calendar.specs.declared.days.Day.{Day}
use Rattle.calendar.specs.Calendar.{year_days, days_of, is_day, total, count, count_of, last_year, last_count, Before}
use Rattle.calendar.proofs.Sums.{total_next, total_up}
use Rattle.calendar.proofs.YearLaws.{years_last, months_of_year}

-- ---- true days

pub record TrueDay (d : Day) : Type 0 where
  pub year_from : 1 ≤ d.year
  pub year_to : d.year ≤ last_year
  pub month_from : 1 ≤ d.month
  pub month_to : d.month ≤ 12
  pub day_from : 1 ≤ d.day
  pub day_to : d.day ≤ days_of d.year d.month

pub day_true : (d : Day) → TrueDay d → is_day d ≡ true
day_true d h =
    simp (
      le-leb 1 d.year h.year_from,
      le-leb d.year last_year h.year_to,
      le-leb 1 d.month h.month_from,
      le-leb d.month 12 h.month_to,
      le-leb 1 d.day h.day_from,
      le-leb d.day (days_of d.year d.month) h.day_to,
    )

pub true_day : (d : Day) → is_day d ≡ true → TrueDay d
true_day d e =
    let a = (and-eq-true_iff _ _).0 e in
    let b = (and-eq-true_iff _ _).0 a.1 in
    let c = (and-eq-true_iff _ _).0 b.1 in
    let f = (and-eq-true_iff _ _).0 c.1 in
    let g = (and-eq-true_iff _ _).0 f.1 in
    record {
      year_from = leb-true _ _ a.0;
      year_to = leb-true _ _ b.0;
      month_from = leb-true _ _ c.0;
      month_to = leb-true _ _ f.0;
      day_from = leb-true _ _ g.0;
      day_to = leb-true _ _ g.1;
    }

-- ---- counts

pub count_is : (d : Day) → is_day d ≡ true → count_of d ≡ count d
unfolding count_of
count_is d e = simp e

-- no day has the count 0
pub count_none : (d : Day) → eqb (count_of d) 0 ≡ not (is_day d)
unfolding count_of
count_none d = go (is_day d) refl
  where
    some : is_day d ≡ true → count d ≡ 0 → ⊥
    some e z = omega (arith, (true_day d e).day_from)

    go : (t : Bool) → is_day d ≡ t → eqb (cond t (count d) 0) 0 ≡ not t
    go true e = ne_eqb (count d) 0 (some e)
    go false e = refl

-- within its year, and within its month
month_within : (d : Day) → TrueDay d → total (days_of d.year) (d.month - 1) + d.day ≤ total (days_of d.year) d.month
month_within d h = omega (arith, h.day_to, total_next (days_of d.year) d.month h.month_from)

year_within : (d : Day) → TrueDay d → count d ≤ total year_days d.year
year_within d h =
    omega (
      arith,
      month_within d h,
      total_up (days_of d.year) d.month 12 h.month_to,
      months_of_year d.year,
      total_next year_days d.year h.year_from,
    )

-- no count is greater than that of 9999-12-31
pub count_most : (d : Day) → count_of d ≤ last_count
unfolding count_of
count_most d = go (is_day d) refl
  where
    go : (t : Bool) → is_day d ≡ t → cond t (count d) 0 ≤ last_count
    go true e = omega (arith, year_within d (true_day d e), total_up year_days d.year last_year (true_day d e).year_to, years_last)
    go false e = omega arith

-- ---- the order of days

earlier : (a b : Day) → TrueDay a → TrueDay b → Before a b → count a < count b
earlier a b h k (inl l) =
    omega (arith, year_within a h, total_up year_days a.year (b.year - 1) (omega arith), k.day_from)
earlier a b h k (inr (e, inl l)) = subst (λ (y : ℕ). count a < total year_days (y - 1) + total (days_of y) (b.month - 1) + b.day) e later
  where
    later : count a < total year_days (a.year - 1) + total (days_of a.year) (b.month - 1) + b.day
    later = omega (arith, month_within a h, total_up (days_of a.year) a.month (b.month - 1) (omega arith), k.day_from)
earlier a b h k (inr (e, inr (f, l))) =
    subst (λ (y : ℕ). count a < total year_days (y - 1) + total (days_of y) (b.month - 1) + b.day) e
    (subst (λ (m : ℕ). count a < total year_days (a.year - 1) + total (days_of a.year) (m - 1) + b.day) f (omega arith))

-- a day before another has the lesser count
pub increasing : (a b : Day) → is_day a ≡ true → is_day b ≡ true → Before a b → count_of a < count_of b
increasing a b p q l = simp (count_is a p, count_is b q) (earlier a b (true_day a p) (true_day b q) l)

same_day : (a b : Day) → a.year ≡ b.year → a.month ≡ b.month → a.day ≡ b.day → a ≡ b
same_day a b p q r = λ i. record { year = p i; month = q i; day = r i }

three : (m n : ℕ) → (m < n) ⊎ ((m ≡ n) ⊎ (n < m))
three m n = go (leb n m) refl (leb m n) refl
  where
    go : (s : Bool) → leb n m ≡ s → (t : Bool) → leb m n ≡ t → (m < n) ⊎ ((m ≡ n) ⊎ (n < m))
    go false u t v = inl (leb-false n m u)
    go true u false v = inr (inr (leb-false m n v))
    go true u true v = inr (inl (omega (arith, leb-true n m u, leb-true m n v)))

-- of two days one is before the other, or they are the same
compared : (a b : Day) → Before a b ⊎ ((a ≡ b) ⊎ Before b a)
compared a b = ⊎_elim (λ l. inl (inl l)) (⊎_elim in_year (λ l. inr (inr (inl l)))) (three a.year b.year)
  where
    in_month : a.year ≡ b.year → a.month ≡ b.month → Before a b ⊎ ((a ≡ b) ⊎ Before b a)
    in_month p q =
        ⊎_elim (λ l. inl (inr (p, inr (q, l)))) (⊎_elim (λ r. inr (inl (same_day a b p q r))) (λ l. inr (inr (inr (sym p, inr (sym q, l))))))
        (three a.day b.day)

    in_year : a.year ≡ b.year → Before a b ⊎ ((a ≡ b) ⊎ Before b a)
    in_year p =
        ⊎_elim (λ l. inl (inr (p, inl l))) (⊎_elim (in_month p) (λ l. inr (inr (inr (sym p, inl l)))))
        (three a.month b.month)

-- no two days share a count
pub one_day : (a b : Day) → is_day a ≡ true → is_day b ≡ true → count_of a ≡ count_of b → a ≡ b
one_day a b p q e = ⊎_elim (λ l. absurd (apart (increasing a b p q l))) (⊎_elim (λ s. s) (λ l. absurd (too (increasing b a q p l)))) (compared a b)
  where
    apart : count_of a < count_of b → ⊥
    apart l = omega (arith, e)

    too : count_of b < count_of a → ⊥
    too l = omega (arith, e)
