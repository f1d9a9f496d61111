-- Laws of dates: which texts are none, how their counts are ordered, and that a count gives the day back.
use Rattle.std.specs.Prelude.{Option, Some, None, if◌then◌else◌}
use mathlib.Core.Path.{◌≡◌, refl, sym, ap, ◌∙◌}
use mathlib.Core.Bool.{Bool, true, false, ◌||◌, not, cond}
use mathlib.Core.List.{List}
use Prim.Native.Nat.{ℕ, ◌+◌, ◌*◌, ◌≤◌, ◌<◌}
use native.Mathlib.Omega.{arith}
use lib.Dec.{eqb, ltb}
use lib.ListN.{length, get_or}
use borrow.Author.Tests.{eqb-true, ltb-true, ltb-false}
use Rattle.calendar.specs.Calendar.{leap, days_of, is_day, count, count_of, last_count, day_of, Before}
use Rattle.calendar.proofs.CalendarLaws.{count_none, count_most, increasing, true_day as day_holds}
use Rattle.calendar.proofs.WayBack.{counted_day}
use Rattle.tokens.specs.Dates.{pair, is_shape, written, is_date, date, unless_0}
use Rattle.tokens.proofs.NameLaws.{and_true_both}

shaped : (s : List ℕ) → is_date s ≡ true → is_shape s ≡ true
shaped s p = (and_true_both (is_shape s) (is_day (written s)) p).0

true_day : (s : List ℕ) → is_date s ≡ true → is_day (written s) ≡ true
true_day s p = (and_true_both (is_shape s) (is_day (written s)) p).1

-- of a text that has the shape, it is the count of the day that is written
pub date_shaped : (s : List ℕ) → is_shape s ≡ true → date s ≡ count_of (written s)
unfolding date count_of
date_shaped s h = simp h (go (is_day (written s)))
  where
    go : (t : Bool) → (if t then count (written s) else 0) ≡ cond t (count (written s)) 0
    go true = refl
    go false = refl

-- 0 stands for the texts that are no dates, and for no other
pub date_none : (s : List ℕ) → eqb (date s) 0 ≡ not (is_date s)
unfolding date
date_none s = go (is_shape s) refl
  where
    go : (t : Bool) → is_shape s ≡ t → eqb (date s) 0 ≡ not (is_date s)
    go true h = ap (λ (n : ℕ). eqb n 0) (date_shaped s h) ∙ count_none (written s) ∙ simp h
    go false h = simp h

-- the greatest is that of 9999-12-31
pub date_most : (s : List ℕ) → date s ≤ last_count
unfolding date
date_most s = go (is_shape s) refl
  where
    go : (t : Bool) → is_shape s ≡ t → date s ≤ last_count
    go true h = omega (arith, date_shaped s h, count_most (written s))
    go false h = simp h (omega arith)

-- of two dates the earlier has the lesser count
pub date_increasing : (s t : List ℕ) → is_date s ≡ true → is_date t ≡ true → Before (written s) (written t) → date s < date t
date_increasing s t p q l =
    simp (date_shaped s (shaped s p), date_shaped t (shaped t q)) (increasing (written s) (written t) (true_day s p) (true_day t q) l)

-- a date's count is that of the day which the text writes
pub date_day : (s : List ℕ) → is_date s ≡ true → day_of (date s) ≡ written s
date_day s p = ap day_of (date_shaped s (shaped s p)) ∙ counted_day (written s) (true_day s p)

-- ---- what the code reads of a text

-- the number of two digits where they stand, and none where they do not
abbrev pub digits_read : ℕ → Option ℕ
digits_read n = if ltb n 100 then Some n else None

pub digits_some : {r : ℕ} (n : ℕ) → Some r ≡ digits_read n → (r ≡ n) × (n < 100)
digits_some {r} n e = go (ltb n 100) refl e
  where
    go : (t : Bool) → ltb n 100 ≡ t → ◌≡◌ {A = Option ℕ} (Some r) (if t then Some n else None) → (r ≡ n) × (n < 100)
    go true p q = (cc, ltb-true n 100 p)
    go false p q = absurd (cc)

pub digits_none : (n : ℕ) → ◌≡◌ {A = Option ℕ} None (digits_read n) → 100 ≤ n
digits_none n e = go (ltb n 100) refl e
  where
    go : (t : Bool) → ltb n 100 ≡ t → ◌≡◌ {A = Option ℕ} None (if t then Some n else None) → 100 ≤ n
    go true p q = absurd (cc)
    go false p q = ltb-false n 100 p

days_most : (y m : ℕ) → days_of y m ≤ 31
days_most y m = go (eqb m 2) (leap y) (eqb m 4 || (eqb m 6 || (eqb m 9 || eqb m 11)))
  where
    go : (a b c : Bool) → cond a (cond b 29 28) (cond c 30 31) ≤ 31
    go true true c = omega arith
    go true false c = omega arith
    go false b true = omega arith
    go false b false = omega arith

-- what holds of each text that is a date
pub record Written (s : List ℕ) : Type 0 where
  pub long : length s ≡ 10
  pub first_hyphen : get_or s 4 0 ≡ 45
  pub second_hyphen : get_or s 7 0 ≡ 45
  pub century : pair s 0 < 100
  pub year : pair s 2 < 100
  pub month : pair s 5 < 100
  pub day : pair s 8 < 100

pub is_written : (s : List ℕ) → is_date s ≡ true → Written s
is_written s e =
    let a = and_true_both _ _ (shaped s e) in
    let b = and_true_both _ _ a.1 in
    let c = and_true_both _ _ b.1 in
    let d = and_true_both _ _ c.1 in
    let t = day_holds (written s) (true_day s e) in
    record {
      long = eqb-true _ _ a.0;
      first_hyphen = eqb-true _ _ b.0;
      second_hyphen = eqb-true _ _ c.0;
      century = ltb-true _ _ d.0;
      year = ltb-true _ _ d.1;
      month = omega (arith, t.month_to);
      day = omega (arith, t.day_to, days_most (pair s 0 * 100 + pair s 2) (pair s 5));
    }

-- a text of which one of them does not hold is no date
pub unwritten : (s : List ℕ) → (Written s → ⊥) → ◌≡◌ {A = Option ℕ} None (unless_0 (date s))
unwritten s h = go (is_date s) refl
  where
    go : (t : Bool) → is_date s ≡ t → ◌≡◌ {A = Option ℕ} None (unless_0 (date s))
    go true e = absurd (h (is_written s e))
    go false e = ap unless_0 (sym (eqb-true (date s) 0 (date_none s ∙ simp e)))
