-- What was passed is equal, so that the words differ first where what is ahead does.
use mathlib.Core.Path.{◌≡◌}
use Prim.Native.Nat.{◌+◌}
use lib.ListN.{drop}
use Rattle.vectors.specs.Comparing.{common}
use Rattle.vectors.proofs.comparing.common.Given as goal

abbrev pub invariant-loop-i : goal.invariant-loop-i
invariant-loop-i l = l.i + common (drop l.i l.a) (drop l.i l.b) ≡ common l.a l.b
