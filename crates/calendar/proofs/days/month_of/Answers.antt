-- `month_of` finds the month of a day.
use mathlib.Core.Path.{refl}
use Prim.Native.Nat.{◌+◌, ◌-◌, ◌/◌}
use native.Mathlib.Omega.{arith}
use Rattle.calendar.specs.Calendar.{days_of}
use Rattle.calendar.proofs.Sums.{behind}
use Rattle.calendar.proofs.YearLaws.{year_most, months_of_year, month_low, month_high}
use Rattle.calendar.proofs.days.month_of.Goals as goal

pub returns-then-n-days_of_months : goal.returns-then-n-days_of_months
returns-then-n-days_of_months c =
    let y = c.args.y in
    let n = c.args.n in
    let before = (n - 1) / 31 in
    behind (days_of y) 12 n before (before + 1) refl (omega (arith, c.requires, months_of_year y)) (month_low y n c.requires.0)
    (omega (arith, c.days_of_months.ensures, c.if-n-days_of_months.true))

pub returns-else-n-days_of_months : goal.returns-else-n-days_of_months
returns-else-n-days_of_months c =
    let y = c.args.y in
    let n = c.args.n in
    let before = (n - 1) / 31 in
    behind (days_of y) 12 n (before + 1) (before + 2) (omega arith) (omega (arith, c.requires, months_of_year y))
    (omega (arith, c.days_of_months.ensures, c.if-n-days_of_months.false)) (month_high y n (omega (arith, c.requires, year_most y)))
