-- The dates of a RateIndex are judged when all of it is read.
use native.Mathlib.Omega.{arith}
use mathlib.Core.Path.{sym, ◌∙◌}
use Rattle.reading.specs.Meets.{toks_at, token_at}
use Rattle.reading.proofs.AtomLaws.{string_wide}
use Rattle.reading.proofs.CallLaws.{rate_first, rate_second, rate_is}
use Rattle.reading.proofs.calls.rate.Goals as goal

pub returns-in_default : goal.returns-in_default
returns-in_default c = rw c.at.ensures (rate_first c.args.place (token_at c.args.s.now c.args.a) (token_at c.args.s.now c.args.b) (token_at c.args.s.now c.args.c) (toks_at c.args.s.now c.args.d.start) (sym c.date_in.ensures ∙ c.in_default.is))

pub returns-in_default-date_in : goal.returns-in_default-date_in
returns-in_default-date_in c = rw c.at-in_default-date_in.ensures (rate_second c.args.place (token_at c.args.s.now c.args.a) (token_at c.args.s.now c.args.b) (token_at c.args.s.now c.args.c) (toks_at c.args.s.now c.args.d.start) (sym c.date_in.ensures ∙ c.in-Some.is) (sym c.date_in-2.ensures ∙ c.in_default-date_in.is))

pub overflow_sub-size : goal.overflow_sub-size
overflow_sub-size c = omega (arith, string_wide c.requires.0 c.requires.4)

pub overflow_sub-size-2 : goal.overflow_sub-size-2
overflow_sub-size-2 c = omega (arith, string_wide c.requires.0 c.requires.4)

pub returns : goal.returns
returns c =
    let pre = c.requires in
    rate_is pre.0 pre.4 pre.3 c.args.place _ _ (sym c.date_in.ensures ∙ c.in-Some.is) (sym c.date_in-2.ensures ∙ c.in-Some-date_in.is) c.leaf.result c.leaf.ensures
