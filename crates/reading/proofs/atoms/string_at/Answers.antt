-- A string's record has the place and the length of what stands between its quotes.
use native.Mathlib.Omega.{arith}
use Rattle.reading.proofs.AtomLaws.{string_wide, string_reads}
use Rattle.reading.proofs.atoms.string_at.Goals as goal

pub overflow_sub-size : goal.overflow_sub-size
overflow_sub-size c = omega (arith, string_wide c.requires.0.0 c.requires.2)

pub overflow_sub-size-2 : goal.overflow_sub-size-2
overflow_sub-size-2 c = omega (arith, string_wide c.requires.0.0 c.requires.2)

pub returns : goal.returns
returns c =
    let pre = c.requires in
    string_reads pre.0.0 pre.1 pre.2 (rw c.leaf.ensures at c.put.ensures)
