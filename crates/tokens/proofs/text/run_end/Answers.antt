use mathlib.Core.Path.{sym, ◌∙◌}
use Rattle.tokens.proofs.Leading.{end_stop}
use Rattle.tokens.proofs.text.run_end.Goals as goal

pub returns-then-not-goes_on-clause-run : goal.returns-then-not-goes_on-clause-run
returns-then-not-goes_on-clause-run g c = λ f k. end_stop f _ _ c.loop-i-test.true (sym (k _ _ c.goes_on.ensures) ∙ c.if-not-goes_on.true) (c.loop-i.invariant f k)
