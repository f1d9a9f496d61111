-- The loop passes Newlines: from each place that it reaches the same token comes first.
use mathlib.Core.Path.{◌≡◌}
use mathlib.Core.Bool.{false}
use Prim.Native.Nat.{◌-◌, ◌≤◌}
use lib.ListN.{length, drop}
use Rattle.tokens.specs.Lexing.{settle_from}
use Rattle.tokens.proofs.cursor.Cursor.at_place.Given as goal

abbrev pub invariant-loop-text : goal.invariant-loop-text
invariant-loop-text l = (length l.text ≤ 16384) × (l.i ≤ 65535) × (settle_from l.broken 0 l.i (drop l.i l.text) ≡ settle_from false 0 l.at (drop l.at l.text))

abbrev pub decreases-loop-text : goal.decreases-loop-text
decreases-loop-text l = length l.text - l.i
