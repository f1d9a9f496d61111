-- The loop over the records. What is found so far, and what is still to be found, are together what all have.
use mathlib.Core.Path.{◌≡◌}
use Prim.Native.Nat.{◌-◌, ◌*◌, ◌≤◌, max}
use lib.ListN.{length, drop}
use Rattle.grammar.specs.Sizes.{record_width}
use Rattle.grammar.specs.Latest.{latest_in}
use Rattle.reading.proofs.latest.latest_of.Given as goal

abbrev pub invariant-loop-i : goal.invariant-loop-i
invariant-loop-i l = (record_width * l.m ≤ length l.records) × (max l.latest (latest_in (l.m - l.i) (drop (record_width * l.i) l.records)) ≡ latest_in (l.m - l.n) (drop (record_width * l.n) l.records))
