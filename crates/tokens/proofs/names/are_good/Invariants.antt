-- `are_good` meets its contract. What the walk keeps stands in `Passed`, and the measure is how many bytes are left.
use Prim.Native.Nat.{◌-◌, ◌+◌}
use lib.ListN.{length}
use Rattle.tokens.proofs.SlotLaws.{Passed}
use Rattle.tokens.proofs.names.are_good.Given as goal

abbrev pub invariant-loop-at : goal.invariant-loop-at
invariant-loop-at l = Passed l.money l.list l.slots l.at l.k

abbrev pub decreases-loop-at : goal.decreases-loop-at
decreases-loop-at l = length l.list + 1 - l.at
