-- Df: its sign, a date, a curve or none, and the closing sign.
use mathlib.Core.Path.{ap, ◌∙◌}
use Rattle.std.proofs.lemmas.Result.{err_from_is_err_and}
use Rattle.grammar.specs.Readers.{bind}
use Rattle.reading.specs.Calls.{ending}
use Rattle.reading.proofs.CallLaws.{leaf_as, df_no, df_date, df_is}
use Rattle.reading.proofs.calls.df_at.Goals as goal

pub returns-in_err-d : goal.returns-in_err-d
returns-in_err-d c =
    let p = err_from_is_err_and c.from_residual.result c.from_residual.ensures.1 in
    rw (p.1, p.2) (df_no c.args.s.now c.args.place c.args.c c.in_err-d.ensures)

pub returns-in_err-day : goal.returns-in_err-day
returns-in_err-day c =
    let p = err_from_is_err_and c.from_residual-in_err-day.result c.from_residual-in_err-day.ensures.1 in
    rw (p.1, p.2) (df_date c.args.s.now c.args.place c.args.c c.in_ok-d.ensures c.in_err-day.ensures)

pub returns-in_err-curve_at : goal.returns-in_err-curve_at
returns-in_err-curve_at c =
    let p = err_from_is_err_and c.from_residual-in_err-curve_at.result c.from_residual-in_err-curve_at.ensures.1 in
    rw (p.1, p.2) (df_is c.args.s.now c.args.place c.args.c c.in_ok-d.ensures c.in_ok-day.ensures ∙ ap (bind ending) c.in_err-curve_at.ensures)

pub returns : goal.returns
returns c = leaf_as c.args.s.now c.closed.result (df_is c.args.s.now c.args.place c.args.c c.in_ok-d.ensures c.in_ok-day.ensures) (c.closed.ensures _ c.in_ok-curve_at.ensures)
