-- What stands in memory and the rest of the line make the whole line.
use lib.ListN.{drop}
use Rattle.listing.specs.Lines.{line}
use Rattle.listing.proofs.LineLaws.{Going}
use Rattle.listing.proofs.lines.put_line.Given as goal

abbrev pub invariant-loop-i : goal.invariant-loop-i
invariant-loop-i l = Going l.initial.out l.at (line l.words) l.k l.out (line (drop l.i l.words))
