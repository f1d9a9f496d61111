-- `may_hold` meets its contract: what is sifted out stands nowhere in the list.
use Prim.Native.Nat.{◌-◌}
use native.Mathlib.Omega.{arith}
use borrow.Author.Tests.{eqb-false}
use lib.ListN.{length}
use Rattle.tokens.proofs.SieveLaws.{sifted}
use Rattle.tokens.proofs.names.may_hold.Goals as goal

pub returns : goal.returns
returns c =
    let a = c.args in
    λ z. sifted a.list.now a.name.now (omega arith) (length a.list.now - 1) (omega arith) (omega (arith, c.if-list-ne10.false)) c.lowest.result (eqb-false _ _ z) c.lowest.ensures
