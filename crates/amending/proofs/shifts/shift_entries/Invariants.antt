use mathlib.Core.Path.{◌≡◌}
use mathlib.Core.List.{◌++◌}
use Prim.Native.Nat.{◌-◌, ◌*◌}
use lib.ListN.{length, take, drop}
use Rattle.grammar.specs.Sizes.{entry_width}
use Rattle.amending.specs.Entries.{moved_words, moved_from}
use Rattle.amending.proofs.shifts.shift_entries.Given as goal

abbrev pub invariant-loop-number : goal.invariant-loop-number
invariant-loop-number l =
    (length l.directory ≡ length l.initial.directory)
    × (moved_from l.initial.directory l.from l.to l.old l.new ≡ take (entry_width * l.number) l.directory ++ moved_words l.old l.new (l.to - l.number) (drop (entry_width * l.number) l.directory))
