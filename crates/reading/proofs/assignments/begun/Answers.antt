-- The sign behind the name decides; in the first edition none does behind a line break.
use native.Mathlib.Omega.{arith}
use Rattle.reading.proofs.StepLaws.{meets_as}
use Rattle.reading.proofs.AssignLaws.{first_assign, first_compound, first_paid, first_ended}
use Rattle.reading.proofs.assignments.begun.Goals.{in_default-via-then-this-lt28, in_default-via-else-this-lt28+else-this-lt32}
use Rattle.reading.proofs.assignments.begun.Goals as goal

pub returns-in-37 : goal.returns-in-37
returns-in-37 c =
    let args = c.args in
    meets_as _ _ _ _ _ c.assign.result _ (first_assign args.language.now args.depth _ _ _ c.next-d.ensures c.requires.1 _ c.sign_behind.ensures c.in-37.is) c.assign.ensures

pub returns-in-28 : goal.returns-in-28
returns-in-28 c =
    let args = c.args in
    meets_as _ _ _ _ _ c.compound.result _ (first_compound args.language.now args.depth _ _ _ c.next-d.ensures c.requires.1 _ c.sign_behind.ensures (omega arith) (omega arith)) c.compound.ensures

pub returns-in-36 : goal.returns-in-36
returns-in-36 c =
    let args = c.args in
    meets_as _ _ _ _ _ c.assign_paid.result _ (first_paid args.language.now args.depth _ _ _ c.next-d.ensures c.requires.1 _ c.sign_behind.ensures c.in-36.is) c.assign_paid.ensures

pub returns-in_default : goal.returns-in_default
returns-in_default c =
    let args = c.args in
    let other = first_ended args.language.now args.depth _ _ _ c.next-d.ensures c.requires.1 _ c.sign_behind.ensures in
    meets_as _ _ _ _ _ c.ended.result _ (elim c.in_default.branch [ in_default-via-then-this-lt28 w ↦ other (λ z. omega arith) (λ l h. omega arith) (λ z. omega arith) | in_default-via-else-this-lt28+else-this-lt32 w ↦ other (λ z. omega arith) (λ l h. omega arith) (λ z. omega arith) ]) c.ended.ensures
