-- The date, then the currency, then the record of the parts before it.
use Rattle.std.proofs.lemmas.Result.{err_from_is_err_and}
use Rattle.reading.proofs.CallingLaws.{pays_no_date, pays_no_money, pays_reads}
use Rattle.reading.proofs.calling.payday_at.Goals as goal

pub returns-in_err-day : goal.returns-in_err-day
returns-in_err-day c =
    let p = err_from_is_err_and c.from_residual.result c.from_residual.ensures.1 in
    λ es o b v. rw (p.1, p.2) (pays_no_date _ _ c.args.place es _ c.in_err-day.ensures)

pub returns-in_err-money : goal.returns-in_err-money
returns-in_err-money c =
    let p = err_from_is_err_and c.from_residual-in_err-money.result c.from_residual-in_err-money.ensures.1 in
    λ es o b v. rw (p.1, p.2) (pays_no_money _ _ c.args.place es _ _ _ c.in_ok-day.ensures.1 c.in_err-money.ensures)

pub returns : goal.returns
returns c = λ es o b v. pays_reads _ _ c.args.place es _ _ _ c.in_ok-day.ensures.1 _ _ c.in_ok-money.ensures.0 c.in_ok-money.ensures.1 b v c.put.ensures
