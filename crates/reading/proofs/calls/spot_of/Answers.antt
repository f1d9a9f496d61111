-- The first string of a Spot decides: an equity, or a currency.
use native.Mathlib.Omega.{arith}
use mathlib.Core.List.{[]}
use Rattle.reading.specs.Meets.{words_in}
use Rattle.reading.proofs.HoldLaws.{end_in}
use Rattle.reading.proofs.AtomLaws.{string_wide}
use Rattle.reading.proofs.CallLaws.{place_fits, leaf_as, spot_equity, spot_pair}
use Rattle.reading.proofs.calls.spot_of.Goals as goal

pub overflow_sub-e : goal.overflow_sub-e
overflow_sub-e c = omega (arith, string_wide c.requires.0 c.requires.2, end_in c.requires.0)

pub slice_bounds-place_in-count : goal.slice_bounds-place_in-count
slice_bounds-place_in-count c = omega (arith, string_wide c.requires.0 c.requires.2, end_in c.requires.0)

pub slice_bounds-place_in-start : goal.slice_bounds-place_in-start
slice_bounds-place_in-start c = omega (arith, string_wide c.requires.0 c.requires.2, end_in c.requires.0)

pub slice_bounds-place_in-end : goal.slice_bounds-place_in-end
slice_bounds-place_in-end c = omega (arith, string_wide c.requires.0 c.requires.2, end_in c.requires.0)

pub overflow_cast-number : goal.overflow_cast-number
overflow_cast-number c = omega (arith, place_fits c.args.language.now.lists.currencies.now c.args.language.now.few _ c.place_in.ensures c.in-Some.is)

pub overflow_add-number : goal.overflow_add-number
overflow_add-number c = omega (arith, place_fits c.args.language.now.lists.currencies.now c.args.language.now.few _ c.place_in.ensures c.in-Some.is)

pub returns-in-None : goal.returns-in-None
returns-in-None c = leaf_as c.args.s.now c.equity_at.result (spot_equity c.requires.0 c.requires.2 (words_in [] c.args.language.now.lists.currencies.now []) c.args.place c.place_in.ensures _ (words_in [] [] []) c.in-None.is) c.equity_at.ensures

pub returns-in-Some : goal.returns-in-Some
returns-in-Some c = leaf_as c.args.s.now c.pair_at.result (spot_pair c.requires.0 c.requires.2 (words_in [] c.args.language.now.lists.currencies.now []) c.args.place c.place_in.ensures _ c.in-Some.is) c.pair_at.ensures
