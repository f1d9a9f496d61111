-- The judgement of a script: its end, its lists, its text.
use native.Mathlib.Omega.{arith}
use mathlib.Core.Path.{sym, ◌∙◌}
use lib.Seq.{length-take-le}
use Rattle.std.proofs.lemmas.Result.{err_from_is_err_and}
use Rattle.tokens.specs.LentLists.{lists_of}
use Rattle.reading.specs.Editions.{edition_of}
use Rattle.reading.proofs.JudgeLaws.{end_short, judge_long, judge_lists, judge_rest, lists_few}
use Rattle.reading.proofs.judging.judge.Goals as goal

pub returns-in_err-n : goal.returns-in_err-n
returns-in_err-n c =
    let p = err_from_is_err_and c.from_residual.result c.from_residual.ensures.1 in
    rw (p.1, p.2) (sym (judge_long c.args.script.now (edition_of c.args.edition) (lists_of c.args.lists.now) (sym c.in_err-n.ensures)))

pub returns-then-not-are_well_formed : goal.returns-then-not-are_well_formed
returns-then-not-are_well_formed c =
    sym (judge_lists c.args.script.now (edition_of c.args.edition) (lists_of c.args.lists.now) (sym c.in_ok-n.ensures) (sym c.are_well_formed.ensures ∙ c.if-not-are_well_formed.true))

pub slice_bounds-judge_text-end : goal.slice_bounds-judge_text-end
slice_bounds-judge_text-end c = sym (length-take-le _ c.args.script.now (end_short c.args.script.now (sym c.in_ok-n.ensures)).1)

pub judge_text-requires : goal.judge_text-requires
judge_text-requires c =
    let short = end_short c.args.script.now (sym c.in_ok-n.ensures) in
    omega (arith, length-take-le _ c.args.script.now short.1, short.0)

pub invariant_of-language : goal.invariant_of-language
invariant_of-language c = record { few = lists_few (lists_of c.args.lists.now) (sym c.are_well_formed.ensures ∙ c.if-not-are_well_formed.false) }

pub returns : goal.returns
returns c =
    c.judge_text.ensures ∙ rw c.is_second.ensures (sym (judge_rest c.args.script.now (edition_of c.args.edition) (lists_of c.args.lists.now) (sym c.in_ok-n.ensures) (sym c.are_well_formed.ensures ∙ c.if-not-are_well_formed.false)))
