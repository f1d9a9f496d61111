-- What was counted, with what stands ahead, is the count of the whole text.
use mathlib.Core.Path.{◌≡◌}
use Prim.Native.Nat.{◌-◌, ◌≤◌}
use lib.ListN.{length, drop}
use Rattle.tokens.specs.Tokens.{scan}
use Rattle.tokens.specs.Lexing.{summary, scan_of}
use Rattle.tokens.proofs.scanning.scan.Given as goal

abbrev pub invariant-loop-m : goal.invariant-loop-m
invariant-loop-m l = (l.at ≤ length l.s) × (l.count ≤ l.at) × (summary l.count l.last (length l.s) (scan 0 l.at (drop l.at l.s)) ≡ scan_of l.s)

abbrev pub decreases-loop-m : goal.decreases-loop-m
decreases-loop-m l = length l.s - l.at
