-- An equity: its name, and a date where there is one.
use native.Mathlib.Omega.{arith}
use mathlib.Core.List.{[]}
use Rattle.std.proofs.lemmas.Result.{err_from_is_err_and}
use Rattle.reading.specs.Meets.{words_in}
use Rattle.reading.proofs.AtomLaws.{string_wide}
use Rattle.reading.proofs.CallLaws.{equity_no, equity_is}
use Rattle.reading.proofs.calls.equity_at.Goals as goal

pub returns-in_err-day : goal.returns-in_err-day
returns-in_err-day c =
    let p = err_from_is_err_and c.from_residual.result c.from_residual.ensures.1 in
    rw (p.1, p.2) (equity_no (words_in [] [] []) c.args.place _ _ c.in_err-day.ensures)

pub overflow_sub-size : goal.overflow_sub-size
overflow_sub-size c = omega (arith, string_wide c.requires.0 c.requires.2)

pub overflow_sub-size-2 : goal.overflow_sub-size-2
overflow_sub-size-2 c = omega (arith, string_wide c.requires.0 c.requires.2)

pub returns : goal.returns
returns c = equity_is c.requires.0 c.requires.2 (words_in [] [] []) c.args.place _ c.in_ok-day.ensures c.leaf.result c.leaf.ensures
