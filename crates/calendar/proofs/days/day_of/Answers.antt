-- `day_of` finds the day that has a count.
use mathlib.Core.Path.{sym}
use mathlib.Core.Logic.{inl, inr, ⊎_elim}
use native.Mathlib.Omega.{arith}
use Rattle.calendar.specs.Calendar.{year_days, days_of}
use Rattle.calendar.proofs.Sums.{total_next}
use Rattle.calendar.proofs.WayBack.{day_none, day_found}
use Rattle.calendar.proofs.days.day_of.Goals as goal

pub returns-then-n-eq0 : goal.returns-then-n-eq0
returns-then-n-eq0 c = sym (day_none c.args.n (⊎_elim (λ x. inl x) (λ x. inr x.1) c.then-n-eq0.either))

pub month_of-month-requires : goal.month_of-month-requires
month_of-month-requires c =
    let year = c.year_of-year in
    omega (arith, c.days_of_years.ensures, year.ensures, total_next year_days year.result year.ensures.0)

pub returns : goal.returns
returns c =
    let months = c.days_of_months in
    let month = c.month_of-month in
    let years = c.days_of_years in
    let year = c.year_of-year in
    let n = c.args.n in
    day_found n _ (record {
      year_from = year.ensures.0;
      year_to = year.ensures.1;
      month_from = month.ensures.0;
      month_to = month.ensures.1;
      day_from = omega (arith, months.ensures, month.ensures);
      day_to = omega (arith, months.ensures, month.ensures, total_next (days_of year.result) month.result month.ensures.0);
    }) (omega (arith, months.ensures, month.ensures, years.ensures, year.ensures))
