-- The mark says what the token is, or why the text is refused there.
use mathlib.Core.Path.{refl}
use Rattle.std.proofs.lemmas.Result.{err_from_is_err_and}
use Rattle.tokens.proofs.ScanLaws.{step_refused}
use Rattle.tokens.proofs.scanning.step.Goals as goal

pub returns-in_err-m : goal.returns-in_err-m
returns-in_err-m c =
    let p = err_from_is_err_and c.from_residual.result c.from_residual.ensures.1 in
    rw (p.1, p.2) (step_refused c.args.s.now c.args.at _ refl _ c.in_err-m.ensures)
