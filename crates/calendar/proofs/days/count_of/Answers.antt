-- `count_of` counts a day.
use mathlib.Core.Path.{sym, ◌∙◌}
use native.Mathlib.Omega.{arith}
use Rattle.calendar.specs.Calendar.{dated}
use Rattle.calendar.proofs.CalendarLaws.{count_is, count_most}
use Rattle.calendar.proofs.days.count_of.Goals as goal

pub overflow_add-result : goal.overflow_add-result
overflow_add-result c =
    let d = dated c.args.y c.args.m c.args.d in
    omega (arith, c.days_of_months.ensures, c.days_of_years.ensures, count_is d (sym c.is_day.ensures ∙ c.if-not-is_day.false), count_most d)

pub overflow_add-result-2 : goal.overflow_add-result-2
overflow_add-result-2 c =
    let d = dated c.args.y c.args.m c.args.d in
    omega (arith, c.days_of_months.ensures, c.days_of_years.ensures, count_is d (sym c.is_day.ensures ∙ c.if-not-is_day.false), count_most d)
