use mathlib.Core.Path.{◌≡◌}
use Prim.Native.Nat.{◌+◌, ◌-◌, ◌*◌}
use lib.ListN.{drop}
use Rattle.grammar.specs.Sizes.{entry_width}
use Rattle.amending.specs.Lent.{sum_records}
use Rattle.amending.specs.Entries.{rows_from}
use Rattle.amending.proofs.orders.records_before.Given as goal

abbrev pub invariant-loop-k : goal.invariant-loop-k
invariant-loop-k l = sum_records (rows_from l.number l.directory) ≡ l.sum + sum_records (rows_from (l.number - l.k) (drop (entry_width * l.k) l.directory))
