-- The name, which may not be reserved, and `in` behind it.
use mathlib.Core.Path.{sym, ap, ◌∙◌}
use mathlib.Core.List.{[]}
use native.Mathlib.Omega.{arith}
use Rattle.std.specs.Option.{is_some}
use Rattle.std.proofs.lemmas.Result.{err_from_is_err_and}
use Rattle.reading.specs.Meets.{words_in}
use Rattle.reading.proofs.HoldLaws.{start_in, end_in}
use Rattle.reading.proofs.AssignLaws.{head_not, head_reserved, head_meets}
use Rattle.reading.proofs.bodies.loop_head.Goals as goal

pub returns-in_err-d : goal.returns-in_err-d
returns-in_err-d c =
    let p = err_from_is_err_and c.from_residual.result c.from_residual.ensures.1 in
    rw (p.1, p.2) (head_not (words_in c.args.reserved.now [] []) c.args.s.now c.args.c c.requires _ c.in_err-d.ensures)

pub slice_bounds-place_in-count : goal.slice_bounds-place_in-count
slice_bounds-place_in-count c = omega (arith, start_in c.requires)

pub slice_bounds-place_in-start : goal.slice_bounds-place_in-start
slice_bounds-place_in-start c = omega (arith, start_in c.requires, end_in c.requires)

pub slice_bounds-place_in-end : goal.slice_bounds-place_in-end
slice_bounds-place_in-end c = omega (arith, start_in c.requires, end_in c.requires)

pub returns-then-is_some : goal.returns-then-is_some
returns-then-is_some c =
    rw c.at.ensures (head_reserved (words_in c.args.reserved.now [] []) c.args.s.now c.args.c c.requires _ c.in_ok-d.ensures (ap is_some (sym c.place_in.ensures) ∙ (sym c.is_some.ensures ∙ c.if-is_some.true)))

pub returns : goal.returns
returns c =
    head_meets (words_in c.args.reserved.now [] []) c.args.s.now c.args.c c.requires _ c.in_ok-d.ensures (ap is_some (sym c.place_in.ensures) ∙ (sym c.is_some.ensures ∙ c.if-is_some.false)) c.take-2.result c.take-2.ensures
