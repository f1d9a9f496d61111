-- `place_after` walks a step at a time: where it has got, the rest of the tokens leads where all of them lead from the start.
use mathlib.Core.Path.{◌≡◌}
use Prim.Native.Nat.{◌-◌}
use Rattle.tokens.specs.Views.{place_after}
use Rattle.tokens.proofs.views.place_after.Given as goal

abbrev pub invariant-loop : goal.invariant-loop
invariant-loop l = place_after l.s l.i (l.tokens - l.counter) ≡ place_after l.s l.at l.tokens
