-- The closing sign is read behind a leaf.
use Rattle.std.proofs.lemmas.Result.{err_from_is_err_and}
use Rattle.reading.proofs.CallLaws.{closed_not, closed_is}
use Rattle.reading.proofs.calls.closed.Goals as goal

pub returns-in_err-at : goal.returns-in_err-at
returns-in_err-at c =
    let p = err_from_is_err_and c.from_residual.result c.from_residual.ensures.1 in
    λ R m. rw (p.1, p.2) (closed_not c.args.s.now c.args.leaf R m c.in_err-at.ensures)

pub returns : goal.returns
returns c = λ R m. closed_is c.args.s.now c.args.leaf R m c.in_ok-at.ensures
