-- `lowest` meets its contract: the places passed are sifted.
use Prim.Native.Nat.{◌≤◌}
use Rattle.tokens.specs.Sieve.{Sifts}
use Rattle.tokens.proofs.names.lowest.Given as goal

abbrev pub invariant-loop-i : goal.invariant-loop-i
invariant-loop-i l = (l.low ≤ 3) × Sifts l.list l.n l.first l.last l.i l.low
