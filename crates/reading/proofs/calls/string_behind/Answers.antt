-- A sign and the string token behind it.
use Rattle.std.proofs.lemmas.Result.{err_from_is_err_and}
use Rattle.reading.proofs.CallLaws.{lead_none, lead_other, lead_is}
use Rattle.reading.proofs.calls.string_behind.Goals as goal

pub returns-in_err-d : goal.returns-in_err-d
returns-in_err-d c =
    let p = err_from_is_err_and c.from_residual.result c.from_residual.ensures.1 in
    rw (p.1, p.2) (lead_none c.args.s.now c.args.sign c.args.c _ c.in_err-d.ensures)

pub returns-then-d-ne-STRING : goal.returns-then-d-ne-STRING
returns-then-d-ne-STRING c = rw c.at.ensures (lead_other c.args.s.now c.args.sign c.args.c c.in_ok-d.ensures c.if-d-ne-STRING.true)

pub returns : goal.returns
returns c = lead_is c.args.s.now c.args.sign c.args.c c.in_ok-d.ensures c.if-d-ne-STRING.false
