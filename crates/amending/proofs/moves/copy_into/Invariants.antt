use mathlib.Core.Path.{◌≡◌}
use lib.ListN.{length}
use lib.Seq.{paste}
use Rattle.amending.proofs.moves.copy_into.Given as goal

abbrev pub invariant-loop-i : goal.invariant-loop-i
invariant-loop-i l = (length l.script ≡ length l.initial.script) × (l.script ≡ paste l.initial.script l.at l.text l.i)
