-- `slot_of` meets its contract: what is ahead leads from the slot so far to that of the name.
use mathlib.Core.Path.{◌≡◌}
use Prim.Native.Nat.{◌<◌}
use lib.ListN.{drop}
use Rattle.tokens.specs.Slots.{slot_from, slot_of}
use Rattle.tokens.proofs.names.slot_of.Given as goal

abbrev pub invariant-loop-b : goal.invariant-loop-b
invariant-loop-b l = (slot_from l.h (drop l.b-index l.name) ≡ slot_of l.name) × (l.h < 2048)
