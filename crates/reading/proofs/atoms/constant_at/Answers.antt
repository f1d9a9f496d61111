-- A number's record has the bits of its value, its place and its length.
use native.Mathlib.Omega.{arith}
use Rattle.reading.proofs.HoldLaws.{start_in, end_in}
use Rattle.reading.proofs.AtomLaws.{constant_reads}
use Rattle.reading.proofs.atoms.constant_at.Goals as goal

pub slice_bounds-bits_of-count : goal.slice_bounds-bits_of-count
slice_bounds-bits_of-count c = omega (arith, start_in c.requires.0.0)

pub slice_bounds-bits_of-start : goal.slice_bounds-bits_of-start
slice_bounds-bits_of-start c = omega (arith, start_in c.requires.0.0, end_in c.requires.0.0)

pub slice_bounds-bits_of-end : goal.slice_bounds-bits_of-end
slice_bounds-bits_of-end c = omega (arith, start_in c.requires.0.0, end_in c.requires.0.0)

pub overflow_sub-size : goal.overflow_sub-size
overflow_sub-size c = omega (arith, start_in c.requires.0.0)

pub returns : goal.returns
returns c =
    let pre = c.requires in
    constant_reads pre.0.0 pre.1 c.args.place c.args.minus pre.2 _ c.bits_of-bits.ensures (rw c.leaf-node.ensures at c.put.ensures)
