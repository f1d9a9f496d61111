use mathlib.Core.Path.{◌∙◌}
use native.Mathlib.Omega.{arith}
use lib.ListN.{length-set}
use Rattle.amending.proofs.ShiftLaws.{shift_turn}
use Rattle.amending.proofs.shifts.shift_entries.Goals as goal

pub loop-number-preserved : goal.loop-number-preserved
loop-number-preserved c =
    let l = c.loop-number in
    let a = c.args in (
      simp length-set l.invariant.0,
      l.invariant.1 ∙ shift_turn l.directory l.number a.to a.old a.new c.moved_place.result c.moved_place-in-loop-number.result (omega arith) (omega arith) c.moved_place.ensures c.moved_place-in-loop-number.ensures,
    )
