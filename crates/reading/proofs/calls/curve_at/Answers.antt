-- The curve of a Df, or none.
use native.Mathlib.Omega.{arith}
use Rattle.std.proofs.lemmas.Result.{err_from_is_err_and}
use Rattle.reading.proofs.CallLaws.{took_wide, curve_none, curve_no, curve_is}
use Rattle.reading.proofs.calls.curve_at.Goals as goal

pub returns-then-c-ne-COMMA : goal.returns-then-c-ne-COMMA
returns-then-c-ne-COMMA c = curve_none c.requires c.args.place c.args.day c.if-c-ne-COMMA.true c.leaf.result c.leaf.ensures

pub returns-in_err-at : goal.returns-in_err-at
returns-in_err-at c =
    let p = err_from_is_err_and c.from_residual.result c.from_residual.ensures.1 in
    rw (p.1, p.2) (curve_no c.requires c.args.place c.args.day c.next-name.ensures c.if-c-ne-COMMA.false c.in_err-at.ensures)

pub overflow_sub-size : goal.overflow_sub-size
overflow_sub-size c = omega (arith, took_wide c.next-name.ensures.holds c.in_ok-at.ensures)

pub overflow_sub-size-2 : goal.overflow_sub-size-2
overflow_sub-size-2 c = omega (arith, took_wide c.next-name.ensures.holds c.in_ok-at.ensures)

pub returns : goal.returns
returns c = curve_is c.requires c.args.place c.args.day c.next-name.ensures c.if-c-ne-COMMA.false c.in_ok-at.ensures c.leaf-2.result c.leaf-2.ensures
