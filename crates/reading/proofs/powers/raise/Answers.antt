-- `raise` writes the Pow records of a chain, from the right.
use mathlib.Core.Path.{refl, ◌∙◌}
use Prim.Native.Nat.{◌-◌, ◌*◌, ◌%◌}
use native.Mathlib.Omega.{arith}
use lib.ListN.{length-set, get_or}
use Rattle.reading.proofs.RaiseLaws.{walk_in, walk_more, walk_done}
use Rattle.reading.proofs.powers.raise.Goals as goal

pub returns-then-out-i : goal.returns-then-out-i
returns-then-out-i c goal o h R = absurd (omega (arith, (walk_in c.loop-e.invariant.3 c.loop-e-test.true goal o h R).0, c.if-out-i.true, c.loop-e-test.true))

pub returns-then-size-eq0 : goal.returns-then-size-eq0
returns-then-size-eq0 c goal o h R = absurd (omega (arith, (walk_in c.loop-e.invariant.3 c.loop-e-test.true goal o h R).1, c.if-size-eq0.true))

pub returns-then-e-n : goal.returns-then-e-n
returns-then-e-n c goal o h R = absurd (omega (arith, (walk_in c.loop-e.invariant.3 c.loop-e-test.true goal o h R).2, c.if-e-n.true))

pub loop-e-preserved : goal.loop-e-preserved
loop-e-preserved c = (
  c.put.auto.out ∙ (length-set c.loop-e.out (8 * (c.loop-e.e - 1)) (get_or c.loop-e.out (8 * (c.loop-e.e - 1)) 0 % 64) ∙ c.loop-e.invariant.0),
  omega (arith, c.loop-e.invariant.1, c.if-size-eq0.false),
  omega (arith, c.loop-e.invariant.2, c.if-size-eq0.false, c.if-e-n.false, c.loop-e-test.true),
  walk_more _ _ _ c.loop-e.invariant.3 c.loop-e-test.true refl refl c.put.ensures,
)

pub returns : goal.returns
returns c goal o h R = walk_done c.loop-e.invariant.3 (omega (arith, c.loop-e-test.false)) goal o h R
