-- A string token is a date where its content is one.
use mathlib.Core.Path.{sym, ◌∙◌}
use Rattle.std.proofs.lemmas.Result.{err_from_is_err_and}
use Rattle.reading.proofs.CallLaws.{date_not, date_bad, date_is}
use Rattle.reading.proofs.calls.date.Goals as goal

pub returns-in_err-at : goal.returns-in_err-at
returns-in_err-at c =
    let p = err_from_is_err_and c.from_residual.result c.from_residual.ensures.1 in
    rw (p.1, p.2) (date_not _ c.in_err-at.ensures)

pub returns-in_default : goal.returns-in_default
returns-in_default c = rw c.at.ensures (date_bad c.requires c.in_ok-at.ensures (sym c.date_in.ensures ∙ c.in_default.is))

pub returns : goal.returns
returns c = (c.in_ok-at.ensures.0.holds, date_is c.requires c.in_ok-at.ensures (sym c.date_in.ensures ∙ c.in-Some.is))
