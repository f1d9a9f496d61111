-- `value_of` meets its contract: where the bytes are taken, what is kept is within the limits, so the division is of exact floats.
use mathlib.Core.Path.{sym}
use native.Mathlib.Omega.{arith}
use lib.Dec.{le→leb}
use lib.Ieee.{in_float}
use Rattle.tokens.proofs.NumberLaws.{fault_none}
use Rattle.tokens.proofs.TableLaws.{tens_small}
use Rattle.tokens.proofs.numbers.value_of.Goals as goal

pub int_to_float-result-in-Ok : goal.int_to_float-result-in-Ok
unfolding in_float
int_to_float-result-in-Ok c =
    let m = c.measured-run.result in
    let l = fault_none m.dots m.digits m.decimals (sym c.in-Ok.ensures) in
    rw c.ten_to.ensures (le→leb _ _ (tens_small m.decimals (omega arith)))
