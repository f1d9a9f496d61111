-- RateIndex: three strings behind their signs, and the closing sign.
use Rattle.std.proofs.lemmas.Result.{err_from_is_err_and}
use Rattle.reading.proofs.CallLaws.{leaf_as, index_name, index_from, index_to, index_close, index_is}
use Rattle.reading.proofs.calls.rate_index_at.Goals as goal

pub returns-in_err-name : goal.returns-in_err-name
returns-in_err-name c =
    let p = err_from_is_err_and c.from_residual.result c.from_residual.ensures.1 in
    rw (p.1, p.2) (index_name c.args.s.now c.args.place c.args.c _ c.in_err-name.ensures)

pub returns-in_err-from : goal.returns-in_err-from
returns-in_err-from c =
    let p = err_from_is_err_and c.from_residual-in_err-from.result c.from_residual-in_err-from.ensures.1 in
    rw (p.1, p.2) (index_from c.args.s.now c.args.place c.args.c c.in_ok-name.ensures c.next.ensures _ c.in_err-from.ensures)

pub returns-in_err-to : goal.returns-in_err-to
returns-in_err-to c =
    let p = err_from_is_err_and c.from_residual-in_err-to.result c.from_residual-in_err-to.ensures.1 in
    rw (p.1, p.2) (index_to c.args.s.now c.args.place c.args.c c.in_ok-name.ensures c.next.ensures c.in_ok-from.ensures c.next-2.ensures _ c.in_err-to.ensures)

pub returns-in_err-d : goal.returns-in_err-d
returns-in_err-d c =
    let p = err_from_is_err_and c.from_residual-in_err-d.result c.from_residual-in_err-d.ensures.1 in
    rw (p.1, p.2) (index_close c.args.s.now c.args.place c.args.c c.in_ok-name.ensures c.next.ensures c.in_ok-from.ensures c.next-2.ensures c.in_ok-to.ensures c.next-3.ensures c.in_err-d.ensures)

pub returns : goal.returns
returns c = leaf_as c.args.s.now c.rate.result (index_is c.args.s.now c.args.place c.args.c c.in_ok-name.ensures c.next.ensures c.in_ok-from.ensures c.next-2.ensures c.in_ok-to.ensures c.next-3.ensures c.in_ok-d.ensures) c.rate.ensures
