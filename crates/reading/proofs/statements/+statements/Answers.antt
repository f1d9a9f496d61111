-- The readers of statements and blocks, which call one another.
use Prim.Native.Nat.{ℕ, ◌+◌, ◌≤◌}
use native.Mathlib.Omega.{arith}
use mathlib.Core.Path.{refl, ◌∙◌}
use Rattle.grammar.specs.Grammar as G
use Rattle.reading.specs.Meets.{language_of}
use Rattle.grammar.proofs.SizeLaws.{statement_size}
use Rattle.reading.proofs.HoldLaws.{start_in}
use Rattle.reading.proofs.StepLaws.{meets_as, put_fields}
use Rattle.reading.proofs.AssignLaws.{meets_err}
use Rattle.reading.proofs.BodyLaws.{block_err, statement_law, stat_name, stat_if, stat_for, stat_pays, stat_ended, block_unopened, block_opened, block_start, block_exit, block_wrong, block_numbers, block_less, block_next, if_0, if_refused, if_body_ready, if_body_refused, if_numbers, if_done, else_ready, else_refused, else_numbers, else_done, for_0, for_head_refused, for_ready, for_refused, for_body_ready, for_body_refused, for_numbers, for_done}
use Rattle.reading.proofs.statements.+statements.Goals.{conditional-In_ok-body, conditional-In_ok-other, repetition-In_ok-body}
use Rattle.reading.proofs.statements.+statements.Goals as goal

pub block-returns-in_err-at : goal.block-returns-in_err-at
block-returns-in_err-at t c =
    let words = language_of c.args.language.now in
    block_err _ _ _ _ _ _ _ c.from_residual.ensures.1 (block_unopened (G.statement words c.args.depth) (statement_law words c.args.depth) (statement_size words c.args.depth) c.args.s.now c.args.c _ c.in_err-at.ensures)

pub block-loop-at-init : goal.block-loop-at-init
block-loop-at-init t c =
    let words = language_of c.args.language.now in
    (refl, block_start (G.statement words c.args.depth) (statement_law words c.args.depth) (statement_size words c.args.depth) c.args.s.now c.args.c c.requires.0 c.in_ok-at.at c.in_ok-at.ensures _ _ c.requires.1)

pub block-returns-in_err-r : goal.block-returns-in_err-r
block-returns-in_err-r t c =
    let words = language_of c.args.language.now in
    let reader = G.statement words c.args.depth in
    let reader-sized = statement_size words c.args.depth in
    let reader-law = statement_law words c.args.depth in
    block_err _ _ _ _ _ _ _ c.from_residual-in_err-r.ensures.1 (block_wrong reader reader-law reader-sized c.args.s.now _ _ _ _ _ _ _ c.loop-at.invariant.1 c.loop-at-test.true _ _ _ (block_opened reader reader-law reader-sized c.args.s.now c.args.c c.requires.0 _ c.in_ok-at.ensures) c.in_err-r.ensures)

pub block-overflow_add-count : goal.block-overflow_add-count
block-overflow_add-count t c =
    let words = language_of c.args.language.now in
    omega (arith, block_numbers (G.statement words c.args.depth) (statement_law words c.args.depth) (statement_size words c.args.depth) c.args.s.now _ _ _ _ _ _ _ c.loop-at.invariant.1 c.loop-at-test.true _ _ _ _ c.in_ok-r.ensures)

pub block-loop-at-smaller : goal.block-loop-at-smaller
block-loop-at-smaller t c =
    let words = language_of c.args.language.now in
    block_less (G.statement words c.args.depth) (statement_law words c.args.depth) (statement_size words c.args.depth) c.args.s.now _ _ _ _ _ _ _ c.loop-at.invariant.1 c.loop-at-test.true _ _ _ _ c.in_ok-r.ensures

pub block-loop-at-preserved : goal.block-loop-at-preserved
block-loop-at-preserved t c =
    let words = language_of c.args.language.now in
    (c.statement.auto.out ∙ c.loop-at.invariant.0, block_next (G.statement words c.args.depth) (statement_law words c.args.depth) (statement_size words c.args.depth) c.args.s.now _ _ _ _ _ _ _ c.loop-at.invariant.1 c.loop-at-test.true _ _ _ _ c.in_ok-r.ensures)

pub block-returns : goal.block-returns
block-returns t c =
    let words = language_of c.args.language.now in
    let reader = G.statement words c.args.depth in
    let reader-sized = statement_size words c.args.depth in
    let reader-law = statement_law words c.args.depth in
    block_exit reader reader-law reader-sized c.args.s.now _ _ _ _ _ _ _ c.loop-at.invariant.1 c.loop-at-test.false _ c.next.ensures _ (block_opened reader reader-law reader-sized c.args.s.now c.args.c c.requires.0 _ c.in_ok-at.ensures)

pub conditional-returns-then-depth-eq0 : goal.conditional-returns-then-depth-eq0
conditional-returns-then-depth-eq0 t c = rw c.at.ensures (if_0 (language_of c.args.language.now) c.args.depth _ _ _ c.next-d.ensures c.requires.1 c.if-depth-eq0.true)

pub conditional-returns-in_err-r : goal.conditional-returns-in_err-r
conditional-returns-in_err-r t c =
    let args = c.args in
    meets_err _ _ _ _ _ _ _ c.from_residual.ensures.1 (if_refused (language_of args.language.now) args.depth _ _ _ c.next-d.ensures c.requires.1 c.if-depth-eq0.false _ _ c.in_err-r.ensures)

pub conditional-block-requires : goal.conditional-block-requires
conditional-block-requires t c =
    let args = c.args in
    (omega arith, (if_body_ready (language_of args.language.now) args.depth _ _ _ c.next-d.ensures c.requires.1 c.if-depth-eq0.false _ c.requires.0.1 _ _ _ _ _ c.in_ok-r.ensures))

pub conditional-returns-in_err-body : goal.conditional-returns-in_err-body
conditional-returns-in_err-body t c =
    let args = c.args in
    meets_err _ _ _ _ _ _ _ c.from_residual-in_err-body.ensures.1 (if_body_refused (language_of args.language.now) args.depth _ _ _ c.next-d.ensures c.requires.1 c.if-depth-eq0.false _ c.requires.0.1 _ _ _ _ _ c.in_ok-r.ensures _ _ c.in_err-body.ensures)

-- the numbers behind the block
if_few : (t : ℕ) (c : conditional-In_ok-body t) → (c.args.n ≤ c.in_ok-body.body.records) × (c.in_ok-body.body.records ≤ 50000) × (c.in_ok-body.body.count ≤ 50000)
if_few t c =
    let args = c.args in
    if_numbers (language_of args.language.now) args.depth _ _ _ c.next-d.ensures c.requires.1 c.if-depth-eq0.false _ c.requires.0.1 _ _ _ _ _ c.in_ok-r.ensures _ _ _ _ c.in_ok-body.ensures

pub conditional-overflow_add-k : goal.conditional-overflow_add-k
conditional-overflow_add-k t c = omega (arith, if_few t (goal.at.conditional-overflow_add-k t c).In_ok-body)

pub conditional-overflow_add-body : goal.conditional-overflow_add-body
conditional-overflow_add-body t c = omega (arith, if_few t (goal.at.conditional-overflow_add-body t c).In_ok-body)

pub conditional-overflow_add-result : goal.conditional-overflow_add-result
conditional-overflow_add-result t c = omega (arith, if_few t (goal.at.conditional-overflow_add-result t c).In_ok-body)

pub conditional-returns-then-body-ne-ELSE : goal.conditional-returns-then-body-ne-ELSE
conditional-returns-then-body-ne-ELSE t c =
    let args = c.args in
    if_done (language_of args.language.now) args.depth _ _ _ c.next-d.ensures c.requires.1 c.if-depth-eq0.false _ c.requires.0.1 _ _ _ _ _ c.in_ok-r.ensures _ _ _ _ c.in_ok-body.ensures c.if-body-ne-ELSE.true _ (put_fields _ _ _ _ _ _ _ _ _ _ c.branch-c.ensures c.put.ensures)

pub conditional-block-requires-2 : goal.conditional-block-requires-2
conditional-block-requires-2 t c =
    let args = c.args in
    (omega arith, (else_ready (language_of args.language.now) args.depth _ _ _ c.next-d.ensures c.requires.1 c.if-depth-eq0.false _ c.requires.0.1 _ _ _ _ _ c.in_ok-r.ensures _ _ _ _ c.in_ok-body.ensures c.if-body-ne-ELSE.false _ c.next.ensures))

pub conditional-returns-in_err-other : goal.conditional-returns-in_err-other
conditional-returns-in_err-other t c =
    let args = c.args in
    meets_err _ _ _ _ _ _ _ c.from_residual-in_err-other.ensures.1 (else_refused (language_of args.language.now) args.depth _ _ _ c.next-d.ensures c.requires.1 c.if-depth-eq0.false _ c.requires.0.1 _ _ _ _ _ c.in_ok-r.ensures _ _ _ _ c.in_ok-body.ensures c.if-body-ne-ELSE.false _ c.next.ensures _ _ c.in_err-other.ensures)

-- the numbers behind the second block
else_few : (t : ℕ) (c : conditional-In_ok-other t) → (c.in_ok-other.other.records ≤ 50000) × (c.in_ok-body.body.count + c.in_ok-other.other.count ≤ 50000)
else_few t c =
    let args = c.args in
    let x = else_numbers (language_of args.language.now) args.depth _ _ _ c.next-d.ensures c.requires.1 c.if-depth-eq0.false _ c.requires.0.1 _ _ _ _ _ c.in_ok-r.ensures _ _ _ _ c.in_ok-body.ensures c.if-body-ne-ELSE.false _ c.next.ensures _ _ _ _ c.in_ok-other.ensures in
    (x.1, x.2)

pub conditional-overflow_add-parts : goal.conditional-overflow_add-parts
conditional-overflow_add-parts t c = omega (arith, else_few t (goal.at.conditional-overflow_add-parts t c).In_ok-other)

pub conditional-overflow_add-parts-2 : goal.conditional-overflow_add-parts-2
conditional-overflow_add-parts-2 t c = omega (arith, else_few t (goal.at.conditional-overflow_add-parts-2 t c).In_ok-other)

pub conditional-overflow_add-j : goal.conditional-overflow_add-j
conditional-overflow_add-j t c = omega (arith, else_few t (goal.at.conditional-overflow_add-j t c).In_ok-other)

pub conditional-overflow_add-body-2 : goal.conditional-overflow_add-body-2
conditional-overflow_add-body-2 t c = omega (arith, else_few t (goal.at.conditional-overflow_add-body-2 t c).In_ok-other)

pub conditional-overflow_add-result-2 : goal.conditional-overflow_add-result-2
conditional-overflow_add-result-2 t c = omega (arith, else_few t (goal.at.conditional-overflow_add-result-2 t c).In_ok-other)

pub conditional-returns : goal.conditional-returns
conditional-returns t c =
    let args = c.args in
    else_done (language_of args.language.now) args.depth _ _ _ c.next-d.ensures c.requires.1 c.if-depth-eq0.false _ c.requires.0.1 _ _ _ _ _ c.in_ok-r.ensures _ _ _ _ c.in_ok-body.ensures c.if-body-ne-ELSE.false _ c.next.ensures _ _ _ _ c.in_ok-other.ensures _ (put_fields _ _ _ _ _ _ _ _ _ _ c.branch-c-2.ensures c.put-2.ensures)

pub repetition-returns-then-depth-eq0 : goal.repetition-returns-then-depth-eq0
repetition-returns-then-depth-eq0 t c = rw c.at.ensures (for_0 c.args.language.now c.args.depth _ _ _ c.next-d.ensures c.requires.1 c.if-depth-eq0.true)

pub repetition-returns-in_err-e : goal.repetition-returns-in_err-e
repetition-returns-in_err-e t c =
    let args = c.args in
    meets_err _ _ _ _ _ _ _ c.from_residual.ensures.1 (for_head_refused args.language.now args.depth _ _ _ c.next-d.ensures c.requires.1 c.if-depth-eq0.false _ _ c.in_err-e.ensures)

pub repetition-expression-requires : goal.repetition-expression-requires
repetition-expression-requires t c =
    let args = c.args in
    (for_ready args.language.now args.depth _ _ _ c.next-d.ensures c.requires.1 c.if-depth-eq0.false _ c.in_ok-e.ensures _ c.requires.0.1)

pub repetition-returns-in_err-r : goal.repetition-returns-in_err-r
repetition-returns-in_err-r t c =
    let args = c.args in
    meets_err _ _ _ _ _ _ _ c.from_residual-in_err-r.ensures.1 (for_refused args.language.now args.depth _ _ _ c.next-d.ensures c.requires.1 c.if-depth-eq0.false _ c.in_ok-e.ensures _ _ c.in_err-r.ensures)

pub repetition-block-requires : goal.repetition-block-requires
repetition-block-requires t c =
    let args = c.args in
    (omega arith, (for_body_ready args.language.now args.depth _ _ _ c.next-d.ensures c.requires.1 c.if-depth-eq0.false _ c.in_ok-e.ensures _ c.requires.0.1 _ _ _ _ _ c.in_ok-r.ensures))

pub repetition-returns-in_err-body : goal.repetition-returns-in_err-body
repetition-returns-in_err-body t c =
    let args = c.args in
    meets_err _ _ _ _ _ _ _ c.from_residual-in_err-body.ensures.1 (for_body_refused args.language.now args.depth _ _ _ c.next-d.ensures c.requires.1 c.if-depth-eq0.false _ c.in_ok-e.ensures _ c.requires.0.1 _ _ _ _ _ c.in_ok-r.ensures _ _ c.in_err-body.ensures)

-- the numbers behind the block
for_few : (t : ℕ) (c : repetition-In_ok-body t) → (c.args.n ≤ c.in_ok-body.body.records) × (c.in_ok-body.body.records ≤ 50000) × (c.in_ok-body.body.count ≤ 50000)
for_few t c =
    let args = c.args in
    for_numbers args.language.now args.depth _ _ _ c.next-d.ensures c.requires.1 c.if-depth-eq0.false _ c.in_ok-e.ensures _ c.requires.0.1 _ _ _ _ _ c.in_ok-r.ensures _ _ _ _ c.in_ok-body.ensures

pub repetition-overflow_add-k : goal.repetition-overflow_add-k
repetition-overflow_add-k t c = omega (arith, for_few t (goal.at.repetition-overflow_add-k t c).In_ok-body)

pub repetition-overflow_add-body : goal.repetition-overflow_add-body
repetition-overflow_add-body t c = omega (arith, for_few t (goal.at.repetition-overflow_add-body t c).In_ok-body)

pub repetition-overflow_add-result : goal.repetition-overflow_add-result
repetition-overflow_add-result t c = omega (arith, for_few t (goal.at.repetition-overflow_add-result t c).In_ok-body)

pub repetition-named_node-requires : goal.repetition-named_node-requires
repetition-named_node-requires t c = start_in c.next-d.ensures.holds

pub repetition-returns : goal.repetition-returns
repetition-returns t c =
    let args = c.args in
    for_done args.language.now args.depth _ _ _ c.next-d.ensures c.requires.1 c.if-depth-eq0.false _ c.in_ok-e.ensures _ c.requires.0.1 _ _ _ _ _ c.in_ok-r.ensures _ _ _ _ c.in_ok-body.ensures _ (put_fields _ _ _ _ _ _ _ _ _ _ c.named_node.ensures c.put.ensures)

pub statement-returns-in-1 : goal.statement-returns-in-1
statement-returns-in-1 t c = meets_as _ _ _ _ _ c.begun.result _ (stat_name (language_of c.args.language.now) _ _ c.requires.0 c.args.depth c.in-1.is) c.begun.ensures

pub statement-returns-in-38 : goal.statement-returns-in-38
statement-returns-in-38 t c = meets_as _ _ _ _ _ c.conditional.result _ (stat_if (language_of c.args.language.now) _ _ c.requires.0 c.args.depth c.in-38.is) c.conditional.ensures

pub statement-returns-in-39 : goal.statement-returns-in-39
statement-returns-in-39 t c = meets_as _ _ _ _ _ c.repetition.result _ (stat_for (language_of c.args.language.now) _ _ c.requires.0 c.args.depth c.in-39.is) c.repetition.ensures

pub statement-returns-in-36 : goal.statement-returns-in-36
statement-returns-in-36 t c = meets_as _ _ _ _ _ c.paid.result _ (stat_pays (language_of c.args.language.now) _ _ c.requires.0 c.args.depth c.in-36.is) c.paid.ensures

pub statement-returns-in_default : goal.statement-returns-in_default
statement-returns-in_default t c =
    meets_as _ _ _ _ _ c.ended.result _ (stat_ended (language_of c.args.language.now) _ _ c.requires.0 c.args.depth (λ z. omega arith) (λ z. omega arith) (λ z. omega arith) (λ z. omega arith)) c.ended.ensures
