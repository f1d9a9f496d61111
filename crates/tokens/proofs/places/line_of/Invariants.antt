-- `line_of` counts line feeds: so far it has the line of the place that it has come to.
use mathlib.Core.Path.{◌≡◌}
use Rattle.tokens.specs.Places.{line as line_at}
use Rattle.tokens.proofs.places.line_of.Given as goal

abbrev pub invariant-loop-b : goal.invariant-loop-b
invariant-loop-b l = l.line ≡ line_at l.b-items l.b-index
