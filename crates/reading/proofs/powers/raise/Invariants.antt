-- `raise` writes the Pow records of a chain, from the right.
use mathlib.Core.Path.{◌≡◌}
use Prim.Native.Nat.{◌+◌, ◌≤◌}
use lib.ListN.{length}
use Rattle.reading.proofs.RaiseLaws.{Walks}
use Rattle.reading.proofs.powers.raise.Given as goal

abbrev pub invariant-loop-e : goal.invariant-loop-e
invariant-loop-e l = (length l.out ≡ length l.initial.out) × (l.e ≤ l.j) × (l.j + l.e ≤ 100000) × Walks l.initial.out l.n l.initial.e l.initial.j l.out l.e l.j

abbrev pub decreases-loop-e : goal.decreases-loop-e
decreases-loop-e l = l.e
