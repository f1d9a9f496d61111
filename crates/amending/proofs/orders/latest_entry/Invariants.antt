use mathlib.Core.Path.{◌≡◌}
use Prim.Native.Nat.{◌-◌, ◌*◌, max}
use lib.ListN.{drop}
use Rattle.grammar.specs.Sizes.{entry_width}
use Rattle.grammar.specs.Words.{latest_of}
use Rattle.amending.specs.Entries.{rows_from}
use Rattle.amending.proofs.orders.latest_entry.Given as goal

abbrev pub invariant-loop-k : goal.invariant-loop-k
invariant-loop-k l = latest_of (rows_from l.number l.directory) ≡ max l.latest (latest_of (rows_from (l.number - l.k) (drop (entry_width * l.k) l.directory)))
