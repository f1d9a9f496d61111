-- what the entries that were read leave of the test
use mathlib.Core.Path.{◌≡◌}
use Prim.Native.Nat.{◌-◌, ◌*◌}
use lib.ListN.{drop}
use Rattle.grammar.specs.Sizes.{entry_width}
use Rattle.amending.specs.Entries.{rows_from}
use Rattle.amending.proofs.OrderLaws.{told, counted}
use Rattle.amending.proofs.orders.in_order.Given as goal

abbrev pub invariant-loop-number : goal.invariant-loop-number
invariant-loop-number l =
    told l.held.bytes l.held.records l.held.tokens l.held.latest (rows_from l.held.statements l.directory)
    ≡ counted l.rest.after l.held.bytes l.rest.records l.rest.tokens l.held.latest l.rest.latest (rows_from (l.held.statements - l.number) (drop (entry_width * l.number) l.directory))
