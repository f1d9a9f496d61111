-- `walked` meets its contract. The name's place is that among the names ahead, after those passed, and the measure is how many bytes are left.
use Prim.Native.Nat.{◌≤◌, ◌-◌, ◌+◌}
use mathlib.Core.Path.{◌≡◌}
use lib.ListN.{length, drop}
use Rattle.tokens.specs.Names.{names, place}
use Rattle.tokens.proofs.NameLaws.{after}
use Rattle.tokens.proofs.names.walked.Given as goal

abbrev pub invariant-loop-at : goal.invariant-loop-at
invariant-loop-at l = (l.k ≤ l.at) × (after l.k (place (names (drop l.at l.list)) l.name) ≡ place (names l.list) l.name)

abbrev pub decreases-loop-at : goal.decreases-loop-at
decreases-loop-at l = length l.list + 1 - l.at
