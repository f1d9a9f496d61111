-- The variable twice, the sign, an expression and its `;`; the records of the sign and of the assignment behind them.
use Prim.Native.Nat.{◌≤◌}
use native.Mathlib.Omega.{arith}
use Rattle.grammar.specs.Grammar.{primary}
use Rattle.reading.specs.Meets.{language_of}
use Rattle.grammar.proofs.SizeLaws.{primary_size}
use Rattle.reading.proofs.StepLaws.{put_fields}
use Rattle.reading.proofs.AssignLaws.{meets_err, compound_unnamed, compound_wrong, compound_numbers, compound_reads}
use Rattle.reading.proofs.assignments.compound.Goals.{In_ok-r}
use Rattle.reading.proofs.assignments.compound.Goals as goal

pub returns-in_err-v : goal.returns-in_err-v
returns-in_err-v c =
    let args = c.args in
    let pre = c.requires in
    let words = language_of args.language.now in
    meets_err _ _ _ _ _ _ _ c.from_residual.ensures.1 (compound_unnamed args.language.now _ _ _ _ args.out.now pre.0 pre.1 pre.2 (primary words args.depth) _ _ c.in_err-v.ensures)

pub returns-in_err-r : goal.returns-in_err-r
returns-in_err-r c =
    let args = c.args in
    let pre = c.requires in
    let words = language_of args.language.now in
    meets_err _ _ _ _ _ _ _ c.from_residual-in_err-r.ensures.1 (compound_wrong args.language.now _ _ _ _ _ pre.0 pre.1 pre.2 _ _ _ c.in_ok-v.ensures (λ z. omega (arith, z, pre.3)) _ c.next.ensures (primary words args.depth) (primary_size words args.depth) _ _ c.in_err-r.ensures)

numbers : (c : In_ok-r) → (c.args.n ≤ c.in_ok-r.r.records) × (c.in_ok-r.r.records ≤ 50000)
numbers c =
    let args = c.args in
    let pre = c.requires in
    let words = language_of args.language.now in
    compound_numbers args.language.now _ _ _ _ _ pre.0 pre.1 pre.2 _ _ _ c.in_ok-v.ensures (λ z. omega (arith, z, pre.3)) _ c.next.ensures (primary words args.depth) (primary_size words args.depth) _ _ _ _ c.in_ok-r.ensures

pub overflow_add-k : goal.overflow_add-k
overflow_add-k c = omega (arith, numbers (goal.at.overflow_add-k c).In_ok-r)

pub overflow_add-k-2 : goal.overflow_add-k-2
overflow_add-k-2 c = omega (arith, numbers (goal.at.overflow_add-k-2 c).In_ok-r)

pub overflow_add-result : goal.overflow_add-result
overflow_add-result c = omega (arith, numbers (goal.at.overflow_add-result c).In_ok-r)

pub returns : goal.returns
returns c =
    let args = c.args in
    let pre = c.requires in
    let words = language_of args.language.now in
    compound_reads args.language.now _ _ _ _ _ pre.0 pre.1 pre.2 _ _ _ c.in_ok-v.ensures (λ z. omega (arith, z, pre.3)) _ c.next.ensures (primary words args.depth) (primary_size words args.depth) _ _ _ _ c.in_ok-r.ensures _ _ (put_fields _ _ _ _ _ _ _ _ _ _ c.plain.ensures c.put.ensures) (put_fields _ _ _ _ _ _ _ _ _ _ c.plain-2.ensures c.put-2.ensures)
