-- The date in the content of a string token.
use native.Mathlib.Omega.{arith}
use Rattle.reading.proofs.HoldLaws.{end_in}
use Rattle.reading.proofs.AtomLaws.{string_wide}
use Rattle.reading.proofs.CallLaws.{date_in}
use Rattle.reading.proofs.calls.date_in.Goals as goal

pub overflow_sub-e : goal.overflow_sub-e
overflow_sub-e c = omega (arith, string_wide c.requires.0 c.requires.1, end_in c.requires.0)

pub slice_bounds-date_of-count : goal.slice_bounds-date_of-count
slice_bounds-date_of-count c = omega (arith, string_wide c.requires.0 c.requires.1, end_in c.requires.0)

pub slice_bounds-date_of-start : goal.slice_bounds-date_of-start
slice_bounds-date_of-start c = omega (arith, string_wide c.requires.0 c.requires.1, end_in c.requires.0)

pub slice_bounds-date_of-end : goal.slice_bounds-date_of-end
slice_bounds-date_of-end c = omega (arith, string_wide c.requires.0 c.requires.1, end_in c.requires.0)

pub returns : goal.returns
returns c = date_in c.requires.0 c.requires.1 c.date_of.ensures
