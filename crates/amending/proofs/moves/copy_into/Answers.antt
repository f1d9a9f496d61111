use lib.ListN.{length-set}
use native.Mathlib.Omega.{arith}
use Rattle.amending.proofs.MoveLaws.{copy_turn}
use Rattle.amending.proofs.moves.copy_into.Goals as goal

pub loop-i-preserved : goal.loop-i-preserved
loop-i-preserved c =
    let a = c.args in
    let l = c.loop-i in
    (simp length-set l.invariant.0, copy_turn a.script.now l.script a.text.now a.at l.i (omega arith) (omega arith) l.invariant.1)
