-- What was counted, with what stands ahead, is the count of the whole text.
use mathlib.Core.Path.{refl, sym, ◌∙◌}
use native.Mathlib.Omega.{arith}
use Rattle.std.proofs.lemmas.Result.{err_from_is_err_and}
use Rattle.tokens.proofs.ScanLaws.{summary_refused, summary_token, mark_progress}
use Rattle.tokens.proofs.scanning.scan.Goals as goal

pub returns-in_err-m : goal.returns-in_err-m
returns-in_err-m c =
    let l = c.loop-m in
    let p = err_from_is_err_and c.from_residual.result c.from_residual.ensures.1 in
    rw (p.1, p.2) (summary_refused c.args.s.now l.at l.count l.last _ refl _ c.in_err-m.ensures ∙ l.invariant.2)

pub loop-m-preserved-then-m-ne-NEWLINE : goal.loop-m-preserved-then-m-ne-NEWLINE
loop-m-preserved-then-m-ne-NEWLINE c =
    let l = c.loop-m in
    let p = mark_progress c.args.s.now l.at l.count l.last c.in_ok-m.m c.in_ok-m.ensures.0 c.if-m-eq-EOF.false c.in_ok-m.ensures.1 in
    (p.1, omega arith, sym (summary_token c.args.s.now l.at l.count l.last c.in_ok-m.m c.in_ok-m.ensures.0 c.if-m-eq-EOF.false c.in_ok-m.ensures.1 c.if-m-ne-NEWLINE.true) ∙ l.invariant.2)
