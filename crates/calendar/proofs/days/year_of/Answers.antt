-- `year_of` finds the year of a day.
use mathlib.Core.Path.{refl}
use Prim.Native.Nat.{◌+◌, ◌-◌, ◌*◌, ◌/◌}
use native.Mathlib.Omega.{arith}
use Rattle.calendar.specs.Calendar.{year_days, last_year}
use Rattle.calendar.proofs.Sums.{behind}
use Rattle.calendar.proofs.YearLaws.{years_last, year_low, year_high}
use Rattle.calendar.proofs.days.year_of.Goals as goal

pub returns-then-n-days_of_years : goal.returns-then-n-days_of_years
returns-then-n-days_of_years c =
    let n = c.args.n in
    let before = (n - 1) * 400 / 146097 in
    behind year_days last_year n before (before + 1) refl (omega (arith, c.requires, years_last)) (year_low n c.requires.0)
    (omega (arith, c.days_of_years.ensures, c.if-n-days_of_years.true))

pub returns-else-n-days_of_years : goal.returns-else-n-days_of_years
returns-else-n-days_of_years c =
    let n = c.args.n in
    let before = (n - 1) * 400 / 146097 in
    behind year_days last_year n (before + 1) (before + 2) (omega arith) (omega (arith, c.requires, years_last))
    (omega (arith, c.days_of_years.ensures, c.if-n-days_of_years.false)) (year_high n)
