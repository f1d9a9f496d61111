-- A string token is a currency where its content is one.
use native.Mathlib.Omega.{arith}
use mathlib.Core.List.{[]}
use Rattle.std.proofs.lemmas.Result.{err_from_is_err_and}
use Rattle.reading.specs.Meets.{words_in}
use Rattle.reading.proofs.CallLaws.{took_wide, currency_not, currency_bad, currency_is, place_fits}
use Rattle.reading.proofs.calls.currency.Goals as goal

pub returns-in_err-at : goal.returns-in_err-at
returns-in_err-at c =
    let p = err_from_is_err_and c.from_residual.result c.from_residual.ensures.1 in
    rw (p.1, p.2) (currency_not (words_in [] c.args.language.now.lists.currencies.now []) _ c.in_err-at.ensures)

pub overflow_sub-e : goal.overflow_sub-e
overflow_sub-e c = omega (arith, took_wide c.requires c.in_ok-at.ensures)

pub slice_bounds-place_in-count : goal.slice_bounds-place_in-count
slice_bounds-place_in-count c = omega (arith, took_wide c.requires c.in_ok-at.ensures)

pub slice_bounds-place_in-start : goal.slice_bounds-place_in-start
slice_bounds-place_in-start c = omega (arith, took_wide c.requires c.in_ok-at.ensures)

pub slice_bounds-place_in-end : goal.slice_bounds-place_in-end
slice_bounds-place_in-end c = omega (arith, took_wide c.requires c.in_ok-at.ensures)

pub returns-in_default : goal.returns-in_default
returns-in_default c = rw c.at.ensures (currency_bad c.requires c.in_ok-at.ensures (words_in [] c.args.language.now.lists.currencies.now []) c.place_in.ensures c.in_default.is)

pub overflow_cast-result : goal.overflow_cast-result
overflow_cast-result c = omega (arith, place_fits c.args.language.now.lists.currencies.now c.args.language.now.few _ c.place_in.ensures c.in-Some.is)

pub overflow_add-result : goal.overflow_add-result
overflow_add-result c = omega (arith, place_fits c.args.language.now.lists.currencies.now c.args.language.now.few _ c.place_in.ensures c.in-Some.is)

pub returns : goal.returns
returns c = (c.in_ok-at.ensures.0.holds, currency_is c.requires c.in_ok-at.ensures (words_in [] c.args.language.now.lists.currencies.now []) c.place_in.ensures c.in-Some.is)
