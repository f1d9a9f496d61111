-- A name that is not reserved is a variable.
use mathlib.Core.Path.{sym}
use native.Mathlib.Omega.{arith}
use Rattle.reading.proofs.HoldLaws.{start_in, end_in}
use Rattle.reading.proofs.AtomLaws.{named_not, variable_reads}
use Rattle.reading.proofs.atoms.variable_at.Goals as goal

pub slice_bounds-place_in-count : goal.slice_bounds-place_in-count
slice_bounds-place_in-count c = omega (arith, start_in c.requires.0.0)

pub slice_bounds-place_in-start : goal.slice_bounds-place_in-start
slice_bounds-place_in-start c = omega (arith, start_in c.requires.0.0, end_in c.requires.0.0)

pub slice_bounds-place_in-end : goal.slice_bounds-place_in-end
slice_bounds-place_in-end c = omega (arith, start_in c.requires.0.0, end_in c.requires.0.0)

pub returns-then-is_some : goal.returns-then-is_some
returns-then-is_some c = rw c.at.ensures (named_not _ c.requires.0.0 c.place_in.ensures (sym c.if-is_some.ensures) _)

pub named_node-requires : goal.named_node-requires
named_node-requires c = start_in c.requires.0.0

pub returns : goal.returns
returns c = variable_reads _ c.requires.0.0 c.requires.1 c.place_in.ensures (sym c.if-is_some.ensures) (rw c.named_node.ensures at c.put.ensures)
