-- A number, a string or a truth value is read, and anything else is refused.
use native.Mathlib.Omega.{arith}
use Rattle.reading.proofs.AtomLaws.{atom_number, atom_not, true_reads, false_reads}
use Rattle.reading.proofs.atoms.atom_at.Goals.{in-3, in-4}
use Rattle.reading.proofs.atoms.atom_at.Goals as goal

pub returns-in-2 : goal.returns-in-2
returns-in-2 c = rw (atom_number c.requires.0.0 c.in-2.is) c.constant_at.ensures

pub returns-in_default : goal.returns-in_default
returns-in_default c = rw c.at.ensures (atom_not c.requires.0.0 (λ e. omega arith) (λ e. omega arith) (λ e. omega arith) (λ e. omega arith))

pub returns : goal.returns
returns c =
    elim c.match-c.branch [
      | in-3 w ↦ true_reads c.requires.0.0 c.requires.1 w.in-3.is (rw (c.plain.ensures, w.kind-is) at c.put.ensures)
      | in-4 w ↦ false_reads c.requires.0.0 c.requires.1 w.in-4.is (rw (c.plain.ensures, w.kind-is) at c.put.ensures)
    ]
