-- The readers of expressions, which call one another: each meets the reader of its level.
use Prim.Native.Nat.{◌-◌}
use native.Mathlib.Omega.{arith}
use mathlib.Core.Path.{refl, sym, ap, ◌∙◌, ◌≡◌}
use Rattle.std.specs.Prelude.{Ok}
use Rattle.std.proofs.lemmas.Result.{err_from_is_err_and}
use Rattle.grammar.specs.Trees.{Tree}
use Rattle.grammar.specs.Readers.{Reader, refused}
use Rattle.grammar.specs.Grammar as G
use Rattle.grammar.specs.Grammar.{primary, call_of, calls}
use Rattle.grammar.proofs.GrammarLaws.{primary_law}
use Rattle.grammar.proofs.KindLaws.{primary_low}
use Rattle.grammar.proofs.SizeLaws.{primary_size, signed_size}
use Rattle.reading.specs.Meets.{language_of, toks_at, token_at}
use Rattle.reading.specs.Turns.{inner, postfix_turn_at, method_at, index_at, call_at}
use Rattle.std.proofs.Common.{rules}
use Rattle.tokens.specs.Refusals.{number_of}
use Rattle.reading.proofs.MapLaws.{ok_was, err_was}
use Rattle.reading.proofs.HoldLaws.{start_in, end_in}
use Rattle.reading.proofs.KindLaws.{kind_some}
use Rattle.reading.proofs.ChainLaws.{sign_not_0, power_level, product_level, sum_level, product_gates, sum_gates, sum_short, tighter_level, looser_level, tighter_some, looser_some, nests_as, nest_refused, nest_numbers, nest_less, nest_tighter, nest_whole_numbers, nest_exit, nest_looser, chain_exit, pend_as, pend_next, pend_refused, pend_numbers, pend_chain, pend_less}
use Rattle.reading.proofs.PowerLaws.{signed_right, powers_first, powers_refused, powers_numbers, powers_exit, powers_less, powers_next}
use Rattle.reading.proofs.StepLaws.{sign_there, sign_none, meets_err, closed_err, turns_err, meets_as, follow_ready, put_fields, behind_read, raisable_two, minus_lone, minus_deep, reads_as, comparison_gates, compare_ready, compare_refused, compare_numbers, compare_last, compare_none, parenthesis_deep, parenthesis_open, parenthesis_closed}
use Rattle.reading.proofs.ItemLaws.{items_start, items_exit, items_refused, items_numbers, items_wrong, items_less, items_next, shown_inside, arguments_done, arguments_within, call_faulty, call_done, list_0, list_numbers, list_after, list_done, list_tops, pay_start, pay_refused, pay_numbers, pay_less, pay_next, pays_0, pays_ready, pays_refused, pays_done}
use Rattle.reading.proofs.PostfixLaws.{turns_as, ready_behind, each_inner, index_refuses, index_open, index_numbers, index_reads, method_unnamed, method_refuses, method_none, method_numbers, method_reads, postfix_dot, postfix_low, postfix_index, postfix_fewer, post_enter, post_exit, post_refused, post_more, call_kind_low, name_numbers, name_call}
use Rattle.reading.proofs.expressions.+expressions.Goals as goal

pub arguments-returns : goal.arguments-returns
arguments-returns t c = arguments_done _ _ _ _ c.requires.0 c.if-c-ne-OPEN_PAREN.false c.if-depth-eq0.false _ c.next-d.ensures c.in_ok-r.ensures.0 c.in_ok-r.ensures.1 c.next.ensures

pub call-call_fault-requires : goal.call-call_fault-requires
call-call_fault-requires t c = shown_inside _ _ _ c.in_ok-r.ensures.shown

pub call-returns-in_err-map_err : goal.call-returns-in_err-map_err
call-returns-in_err-map_err t c =
    let e = err_was _ c.call_fault.result c.map_err.result c.in_err-map_err.field-0.0 c.map_err.ensures.cases (c.in_err-map_err.was {u = tt}) in
    let y = token_at c.args.s.now c.args.c in
    let h : call_at (language_of c.args.language.now) c.args.depth y (call_of y.text calls) (toks_at c.args.s.now c.args.d.start) ≡ refused (number_of e.0) y.from
    = call_faulty _ _ _ _ c.requires.3 c.requires.4 _ c.args.d c.in_ok-r.ensures e.0 (rw e.1 at c.call_fault.ensures) in
    search (rules, meets_err)

pub call-overflow_add-m : goal.call-overflow_add-m
call-overflow_add-m t c = omega (arith, arguments_within _ _ _ c.args.d c.in_ok-r.ensures c.requires.0.1)

pub call-overflow_add-result : goal.call-overflow_add-result
call-overflow_add-result t c = omega (arith, arguments_within _ _ _ c.args.d c.in_ok-r.ensures c.requires.0.1)

pub call-returns : goal.call-returns
call-returns t c = call_done _ _ _ _ c.requires.3 c.requires.4 _ c.args.d c.in_ok-r.ensures (rw (ok_was _ c.call_fault.result c.map_err.result _ c.map_err.ensures.cases (c.in_ok-map_err.was {u = tt})) at c.call_fault.ensures) (put_fields _ _ _ _ _ _ _ _ _ _ (rw c.number.ensures at c.plain.ensures) c.put.ensures)

pub comparison-sum-requires : goal.comparison-sum-requires
comparison-sum-requires t c = (omega (arith, c.decreases), (compare_ready _ _ (sum_short _ _ _) _ _ _ _ c.requires _ _ _ _ c.loop-r.invariant.1))

pub comparison-returns-in_err-r : goal.comparison-returns-in_err-r
comparison-returns-in_err-r t c = meets_err _ _ _ _ _ _ _ c.from_residual.ensures.1 (ap (λ (q : Reader Tree). q (toks_at c.args.s.now c.args.c.start)) (comparison_gates _ _ _) ∙ compare_refused _ _ (sum_short _ _ _) _ _ _ _ c.requires _ _ _ _ c.loop-r.invariant.1 _ _ c.in_err-r.ensures)

pub comparison-join-j-requires : goal.comparison-join-j-requires
comparison-join-j-requires t c =
    let h = compare_numbers _ _ (sum_short _ _ _) _ _ _ _ c.requires _ _ _ _ c.loop-r.invariant.1 c.in_ok-r.ensures in
    (h.0, h.1, c.loop-r.invariant.2)

pub comparison-returns-then-is_some : goal.comparison-returns-then-is_some
comparison-returns-then-is_some t c = reads_as _ _ _ _ _ _ _ _ _ (ap (λ (q : Reader Tree). q (toks_at c.args.s.now c.args.c.start)) (comparison_gates _ _ _)) (compare_last _ _ (sum_short _ _ _) _ _ _ _ c.requires _ _ _ _ c.loop-r.invariant.1 c.in_ok-r.ensures _ _ c.join-j.ensures (sign_there _ (sym c.if-is_some.ensures) c.loop-r.invariant.2))

pub comparison-returns-then-not-is_comparator : goal.comparison-returns-then-not-is_comparator
comparison-returns-then-not-is_comparator t c = reads_as _ _ _ _ _ _ _ _ _ (ap (λ (q : Reader Tree). q (toks_at c.args.s.now c.args.c.start)) (comparison_gates _ _ _)) (compare_none _ _ (sum_short _ _ _) _ _ _ _ c.requires _ _ _ _ c.loop-r.invariant.1 c.in_ok-r.ensures _ _ c.join-j.ensures (sign_none _ (sym c.if-is_some.ensures)) (sym c.is_comparator.ensures ∙ c.if-not-is_comparator.true))

pub expression-loop-r-init : goal.expression-loop-r-init
expression-loop-r-init t c = (refl, nests_as _ _ _ _ _ _ _ _ _ _ c.requires, λ z. cc, λ z. cc)

pub expression-returns-in_err-r : goal.expression-returns-in_err-r
expression-returns-in_err-r t c = meets_err _ _ _ _ _ _ _ c.from_residual.ensures.1 (nest_refused (looser_level _ _ _ _) (tighter_level _ _ _ _) _ c.loop-r.invariant.1 _ _ c.in_err-r.ensures)

pub expression-join-i-requires : goal.expression-join-i-requires
expression-join-i-requires t c =
    let h = nest_numbers (looser_level _ _ _ _) (tighter_level _ _ _ _) _ c.loop-r.invariant.1 c.in_ok-r.ensures in
    (h.0, h.1, c.loop-r.invariant.3)

pub expression-loop-r-smaller-then-is_tighter : goal.expression-loop-r-smaller-then-is_tighter
expression-loop-r-smaller-then-is_tighter t c = nest_less (looser_level (language_of c.args.language.now) c.args.depth _ _) (tighter_level (language_of c.args.language.now) c.args.depth _ _) _ c.loop-r.invariant.1 c.in_ok-r.ensures (tighter_some (language_of c.args.language.now) c.args.depth _ _ _ (sym c.is_tighter.ensures ∙ c.if-is_tighter.true)) c.next-at.result c.next-at.ensures

pub expression-loop-r-preserved-then-is_tighter : goal.expression-loop-r-preserved-then-is_tighter
expression-loop-r-preserved-then-is_tighter t c = (c.join-i.auto.out ∙ (c.comparison.auto.out ∙ c.loop-r.invariant.0), nest_tighter (looser_level _ _ _ _) (tighter_level _ _ _ _) _ c.loop-r.invariant.1 c.in_ok-r.ensures _ _ c.join-i.ensures (sym c.is_tighter.ensures ∙ c.if-is_tighter.true) _ c.next-at.ensures, c.loop-r.invariant.2, sign_not_0 (tighter_level (language_of c.args.language.now) c.args.depth _ _) (sym c.is_tighter.ensures ∙ c.if-is_tighter.true))

pub expression-join-j-requires : goal.expression-join-j-requires
expression-join-j-requires t c =
    let h = nest_whole_numbers (looser_level _ _ _ _) (tighter_level _ _ _ _) _ c.loop-r.invariant.1 c.in_ok-r.ensures _ _ c.join-i.ensures (sym c.is_tighter.ensures ∙ c.if-is_tighter.false) in
    (h.0, h.1, c.loop-r.invariant.2)

pub expression-returns-then-not-is_looser : goal.expression-returns-then-not-is_looser
expression-returns-then-not-is_looser t c = nest_exit (looser_level _ _ _ _) (tighter_level _ _ _ _) _ c.loop-r.invariant.1 c.in_ok-r.ensures _ _ c.join-i.ensures (sym c.is_tighter.ensures ∙ c.if-is_tighter.false) _ _ c.join-j.ensures (sym c.is_looser.ensures ∙ c.if-not-is_looser.true)

pub expression-loop-r-smaller : goal.expression-loop-r-smaller
expression-loop-r-smaller t c = nest_less (looser_level (language_of c.args.language.now) c.args.depth _ _) (tighter_level (language_of c.args.language.now) c.args.depth _ _) _ c.loop-r.invariant.1 c.in_ok-r.ensures (looser_some (language_of c.args.language.now) c.args.depth _ _ _ (sym c.is_looser.ensures ∙ c.if-not-is_looser.false)) c.next-at-in-loop-r.result c.next-at-in-loop-r.ensures

pub expression-loop-r-preserved : goal.expression-loop-r-preserved
expression-loop-r-preserved t c = (c.join-j.auto.out ∙ (c.join-i.auto.out ∙ (c.comparison.auto.out ∙ c.loop-r.invariant.0)), nest_looser (looser_level _ _ _ _) (tighter_level _ _ _ _) _ c.loop-r.invariant.1 c.in_ok-r.ensures _ _ c.join-i.ensures (sym c.is_tighter.ensures ∙ c.if-is_tighter.false) _ _ c.join-j.ensures (sym c.is_looser.ensures ∙ c.if-not-is_looser.false) _ c.next-at-in-loop-r.ensures, sign_not_0 (looser_level (language_of c.args.language.now) c.args.depth _ _) (sym c.is_looser.ensures ∙ c.if-not-is_looser.false), λ z. cc)

pub index-returns-in_err-r : goal.index-returns-in_err-r
index-returns-in_err-r t c = turns_err _ _ _ _ _ _ c.args.c _ _ c.from_residual.ensures.1 (index_refuses _ _ _ _ c.args.c _ c.in_err-r.ensures)

pub index-returns-in_err-at : goal.index-returns-in_err-at
index-returns-in_err-at t c = turns_err _ _ _ _ _ _ c.args.c _ _ c.from_residual-in_err-at.ensures.1 (index_open _ _ _ _ c.args.c c.in_ok-r.ensures _ c.in_err-at.ensures)

pub index-overflow_add-k : goal.index-overflow_add-k
index-overflow_add-k t c = omega (arith, index_numbers (language_of c.args.language.now) c.args.depth c.args.place c.args.s.now c.args.c c.in_ok-r.ensures c.requires.0.1 _ c.requires.1 _ c.in_ok-at.ensures)

pub index-overflow_add-result : goal.index-overflow_add-result
index-overflow_add-result t c = omega (arith, index_numbers (language_of c.args.language.now) c.args.depth c.args.place c.args.s.now c.args.c c.in_ok-r.ensures c.requires.0.1 _ c.requires.1 _ c.in_ok-at.ensures)

pub index-returns : goal.index-returns
index-returns t c = index_reads _ _ _ _ c.args.c c.in_ok-r.ensures c.requires.0.1 _ c.requires.1 _ c.in_ok-at.ensures (put_fields _ _ _ _ _ _ _ _ _ _ c.plain.ensures c.put.ensures)

pub items-loop-at-init : goal.items-loop-at-init
items-loop-at-init t c = (refl, items_start _ _ _ (primary_law _ _) (primary_size _ _) _ _ _ _ c.requires.0)

pub items-returns-in_err-r : goal.items-returns-in_err-r
items-returns-in_err-r t c = closed_err _ _ _ _ _ _ _ _ c.from_residual.ensures.1 (items_refused c.loop-at.invariant.1 c.loop-at-test.true c.in_err-r.ensures)

pub items-returns-in_err-at : goal.items-returns-in_err-at
items-returns-in_err-at t c = closed_err _ _ _ _ _ _ _ _ c.from_residual-in_err-at.ensures.1 (items_wrong c.loop-at.invariant.1 c.loop-at-test.true c.in_ok-r.ensures _ c.in_err-at.ensures)

pub items-overflow_add-count : goal.items-overflow_add-count
items-overflow_add-count t c = omega (arith, items_numbers c.loop-at.invariant.1 c.loop-at-test.true c.in_ok-r.ensures)

pub items-loop-at-smaller : goal.items-loop-at-smaller
items-loop-at-smaller t c = items_less c.loop-at.invariant.1 c.loop-at-test.true c.in_ok-r.ensures _ c.in_ok-at.ensures

pub items-loop-at-preserved : goal.items-loop-at-preserved
items-loop-at-preserved t c = (c.expression.auto.out ∙ c.loop-at.invariant.0, items_next c.loop-at.invariant.1 c.loop-at-test.true c.in_ok-r.ensures _ c.in_ok-at.ensures c.shown-texts.ensures)

pub items-returns : goal.items-returns
items-returns t c = (items_exit c.loop-at.invariant.1 c.loop-at-test.false, c.loop-at-test.false)

pub list-returns-then-depth-eq0 : goal.list-returns-then-depth-eq0
list-returns-then-depth-eq0 t c = rw c.at.ensures (list_0 _ _ _ _ _ c.requires.1 c.requires.2 c.if-depth-eq0.true)

pub list-overflow_add-m : goal.list-overflow_add-m
list-overflow_add-m t c = omega (arith, list_numbers _ _ _ _ _ c.requires.1 c.requires.2 c.if-depth-eq0.false c.requires.0.1 c.in_ok-r.ensures.0)

pub list-overflow_add-m-2 : goal.list-overflow_add-m-2
list-overflow_add-m-2 t c = omega (arith, list_numbers _ _ _ _ _ c.requires.1 c.requires.2 c.if-depth-eq0.false c.requires.0.1 c.in_ok-r.ensures.0)

pub list-postfixes-requires : goal.list-postfixes-requires
list-postfixes-requires t c = (omega (arith, c.decreases), (list_after _ _ _ _ _ c.requires.1 c.requires.2 c.if-depth-eq0.false c.requires.0.1 c.in_ok-r.ensures.0 c.in_ok-r.ensures.1 c.next-f.ensures, omega (arith, list_numbers _ _ _ _ _ c.requires.1 c.requires.2 c.if-depth-eq0.false c.requires.0.1 c.in_ok-r.ensures.0)))

pub list-returns : goal.list-returns
list-returns t c = meets_as _ _ _ _ _ _ _ (list_done _ _ _ _ _ c.requires.1 c.requires.2 c.if-depth-eq0.false c.requires.0.1 c.in_ok-r.ensures.0 c.in_ok-r.ensures.1 c.next-f.ensures) (c.postfixes.ensures _ _ (list_tops _ _ _ _ _ c.requires.1 c.requires.2 c.if-depth-eq0.false c.requires.0.1 c.in_ok-r.ensures.0 (put_fields _ _ _ _ _ _ _ _ _ _ c.plain.ensures c.put.ensures)))

pub method-returns-in_err-d : goal.method-returns-in_err-d
method-returns-in_err-d t c = turns_err _ _ _ _ _ _ c.args.c _ _ c.from_residual.ensures.1 (method_unnamed _ _ _ _ c.args.c c.requires.0.0 _ c.in_err-d.ensures)

pub method-returns-in_err-r : goal.method-returns-in_err-r
method-returns-in_err-r t c = turns_err _ _ _ _ _ _ c.args.c _ _ c.from_residual-in_err-r.ensures.1 (method_refuses _ _ _ _ c.args.c c.requires.0.0 _ c.in_ok-d.ensures _ c.in_err-r.ensures)

pub method-slice_bounds-method_of-count : goal.method-slice_bounds-method_of-count
method-slice_bounds-method_of-count t c = omega (arith, start_in c.requires.0.0, end_in c.requires.0.0)

pub method-slice_bounds-method_of-start : goal.method-slice_bounds-method_of-start
method-slice_bounds-method_of-start t c = omega (arith, start_in c.requires.0.0, end_in c.requires.0.0)

pub method-slice_bounds-method_of-end : goal.method-slice_bounds-method_of-end
method-slice_bounds-method_of-end t c = omega (arith, start_in c.requires.0.0, end_in c.requires.0.0)

pub method-returns-in_default : goal.method-returns-in_default
method-returns-in_default t c = rw c.at.ensures (λ x o h. method_none (language_of c.args.language.now) c.args.depth c.args.place c.args.s.now c.args.c c.requires.0.0 _ c.in_ok-d.ensures c.in_ok-r.ensures c.in_default.ensures x, tt)

pub method-overflow_add-k : goal.method-overflow_add-k
method-overflow_add-k t c = omega (arith, method_numbers (language_of c.args.language.now) c.args.depth c.args.place c.args.s.now c.args.c c.requires.0.0 _ c.in_ok-d.ensures c.in_ok-r.ensures c.requires.0.1 _ c.requires.1)

pub method-overflow_add-r : goal.method-overflow_add-r
method-overflow_add-r t c = omega (arith, method_numbers (language_of c.args.language.now) c.args.depth c.args.place c.args.s.now c.args.c c.requires.0.0 _ c.in_ok-d.ensures c.in_ok-r.ensures c.requires.0.1 _ c.requires.1)

pub method-overflow_add-result : goal.method-overflow_add-result
method-overflow_add-result t c = omega (arith, method_numbers (language_of c.args.language.now) c.args.depth c.args.place c.args.s.now c.args.c c.requires.0.0 _ c.in_ok-d.ensures c.in_ok-r.ensures c.requires.0.1 _ c.requires.1)

pub method-returns : goal.method-returns
method-returns t c = method_reads _ _ _ _ _ c.requires.0.0 _ c.in_ok-d.ensures c.in_ok-r.ensures c.requires.0.1 _ c.requires.1 (c.number.ensures ∙ c.in-Some.ensures) (λ z. omega (arith, z, c.number.ensures, kind_some c.in-Some.kind)) (put_fields _ _ _ _ _ _ _ _ _ _ c.plain.ensures c.put.ensures)

pub minus-returns-in-Some : goal.minus-returns-in-Some
minus-returns-in-Some t c = meets_as _ _ _ _ _ (Ok c.constant_at.result) _ (minus_lone _ _ c.args.c c.args.d _ _ c.requires.1.holds c.in-Some.ensures.0 c.in-Some.ensures.1 c.in-Some.ensures.2) c.constant_at.ensures

pub minus-negative-requires : goal.minus-negative-requires
minus-negative-requires t c = behind_read _ (G.signed _ _) (signed_size _ _ (primary_size _ (c.args.depth - 1))) c.args.d _ _ _ _ _ _ (follow_ready _ c.args.c c.args.d _ (λ z. omega (arith, z, c.requires.2)) c.requires.1 c.requires.0).1 c.in_ok-r.ensures

pub minus-returns : goal.minus-returns
minus-returns t c = meets_as _ _ _ _ _ (Ok c.negative.result) _ (minus_deep _ _ c.args.c c.args.d _ c.in_default.ensures c.if-depth-eq0.false) (c.negative.ensures _ _ _ c.in_ok-r.ensures)

pub name-slice_bounds-call_of-count : goal.name-slice_bounds-call_of-count
name-slice_bounds-call_of-count t c = omega (arith, start_in c.requires.0.0, end_in c.requires.0.0)

pub name-slice_bounds-call_of-start : goal.name-slice_bounds-call_of-start
name-slice_bounds-call_of-start t c = omega (arith, start_in c.requires.0.0, end_in c.requires.0.0)

pub name-slice_bounds-call_of-end : goal.name-slice_bounds-call_of-end
name-slice_bounds-call_of-end t c = omega (arith, start_in c.requires.0.0, end_in c.requires.0.0)

pub name-postfixes-requires : goal.name-postfixes-requires
name-postfixes-requires t c =
    let g = name_numbers c.args.language.now.two c.args.language.now.lists.reserved.now c.args.language.now.lists.currencies.now c.args.language.now.lists.counters.now (inner (language_of c.args.language.now) c.args.depth) c.args.s.now c.args.c c.args.d c.args.n c.args.out.now 0 c.in_default.ensures c.in_ok-r.ensures c.requires.0.1 c.requires.1 c.requires.2 in
    (omega (arith, c.decreases), (g.0, g.1))

pub name-call-requires : goal.name-call-requires
name-call-requires t c = (omega (arith, c.decreases), (ready_behind _ _ _ _ 0 c.requires.0.1 c.requires.1 c.requires.2, c.requires.0.0, c.requires.2, c.in-Some.ensures, call_kind_low c.in-Some.kind _ c.in-Some.ensures c.in_default-kind.not-Spot c.in_default-kind.not-Df c.in_default-kind.not-RateIndex))

pub name-returns-in_default-kind : goal.name-returns-in_default-kind
name-returns-in_default-kind t c = name_call _ _ _ _ _ _ c.args.c c.args.d _ _ _ c.in-Some.ensures (kind_some c.in-Some.kind) (call_kind_low c.in-Some.kind _ c.in-Some.ensures c.in_default-kind.not-Spot c.in_default-kind.not-Df c.in_default-kind.not-RateIndex) c.call.result _ c.call.ensures

pub parenthesis-returns-then-depth-eq0 : goal.parenthesis-returns-then-depth-eq0
parenthesis-returns-then-depth-eq0 t c = rw c.at.ensures (parenthesis_deep (language_of c.args.language.now) c.args.s.now c.args.c c.args.d c.args.n c.args.out.now c.args.depth c.requires.1 c.requires.2 c.if-depth-eq0.true)

pub parenthesis-returns-in_err-at : goal.parenthesis-returns-in_err-at
parenthesis-returns-in_err-at t c = meets_err _ _ _ _ _ _ _ c.from_residual-in_err-at.ensures.1 (parenthesis_open _ _ _ _ _ _ _ c.requires.1 c.requires.2 c.if-depth-eq0.false c.in_ok-r.ensures _ c.in_err-at.ensures)

pub parenthesis-returns : goal.parenthesis-returns
parenthesis-returns t c = parenthesis_closed _ _ _ _ _ _ _ c.requires.1 c.requires.2 c.if-depth-eq0.false c.in_ok-r.ensures _ c.in_ok-at.ensures

pub pays-returns-then-depth-eq0 : goal.pays-returns-then-depth-eq0
pays-returns-then-depth-eq0 t c = rw c.at.ensures (pays_0 _ _ _ _ _ c.requires.0.0 c.requires.1 c.requires.2 c.if-depth-eq0.true)

pub pays-loop-out-init : goal.pays-loop-out-init
pays-loop-out-init t c = (refl, pay_start (language_of c.args.language.now) (primary (language_of c.args.language.now) (c.args.depth - 1)) (primary_law (language_of c.args.language.now) (c.args.depth - 1)) (primary_size (language_of c.args.language.now) (c.args.depth - 1)) _ _ _ _ (pays_ready (language_of c.args.language.now) c.args.depth _ c.args.c c.args.d c.requires.0.0 c.requires.1 c.requires.2 _ c.requires.0.1))

pub pays-returns-in_err-r : goal.pays-returns-in_err-r
pays-returns-in_err-r t c = meets_err _ _ _ _ _ _ _ c.from_residual.ensures.1 (pays_refused _ _ _ _ _ c.requires.0.0 c.requires.1 c.requires.2 c.if-depth-eq0.false _ _ (pay_refused c.loop-out.invariant.1 (sym c.stops_pays.ensures ∙ c.loop-out-test.true) c.in_err-r.ensures))

pub pays-overflow_add-count : goal.pays-overflow_add-count
pays-overflow_add-count t c = omega (arith, pay_numbers c.loop-out.invariant.1 (sym c.stops_pays.ensures ∙ c.loop-out-test.true) c.in_ok-r.ensures)

pub pays-loop-out-smaller : goal.pays-loop-out-smaller
pays-loop-out-smaller t c = pay_less c.loop-out.invariant.1 (sym c.stops_pays.ensures ∙ c.loop-out-test.true) c.in_ok-r.ensures

pub pays-loop-out-preserved : goal.pays-loop-out-preserved
pays-loop-out-preserved t c = (c.expression.auto.out ∙ c.loop-out.invariant.0, pay_next c.loop-out.invariant.1 (sym c.stops_pays.ensures ∙ c.loop-out-test.true) c.in_ok-r.ensures)

pub pays-returns : goal.pays-returns
pays-returns t c = pays_done _ _ _ _ _ _ _ _ c.requires.0.0 c.requires.1 c.requires.2 c.if-depth-eq0.false _ _ _ _ _ _ c.loop-out.invariant.1 (sym c.stops_pays.ensures ∙ c.loop-out-test.false) _ _ c.payday_at.ensures

pub postfix-returns-then-c-eq-DOT : goal.postfix-returns-then-c-eq-DOT
postfix-returns-then-c-eq-DOT t c = turns_as c.args.s.now (λ x. postfix_turn_at (language_of c.args.language.now) c.args.depth c.args.place x (toks_at c.args.s.now c.args.c.start)) (λ x. method_at (language_of c.args.language.now) c.args.depth c.args.place x (toks_at c.args.s.now c.next-d.result.start)) _ _ _ _ c.args.c c.next-d.result c.method.result (postfix_dot (language_of c.args.language.now) c.args.depth c.args.place c.args.s.now c.args.c c.next-d.result c.requires.0.0 c.next-d.ensures c.if-c-eq-DOT.true) (omega (arith, postfix_fewer (language_of c.args.language.now) c.args.depth c.args.place c.args.s.now c.args.c c.next-d.result c.requires.0.0 c.next-d.ensures c.requires.2)) c.method.ensures

pub postfix-returns-then-depth-eq0 : goal.postfix-returns-then-depth-eq0
postfix-returns-then-depth-eq0 t c = rw c.at.ensures (λ x o h. postfix_low (language_of c.args.language.now) c.args.depth c.args.place c.args.s.now c.args.c c.next-d.result c.requires.0.0 c.next-d.ensures c.requires.2 c.if-c-eq-DOT.false c.if-depth-eq0.true x, tt)

pub postfix-returns : goal.postfix-returns
postfix-returns t c = turns_as c.args.s.now (λ x. postfix_turn_at (language_of c.args.language.now) c.args.depth c.args.place x (toks_at c.args.s.now c.args.c.start)) (λ x. index_at (language_of c.args.language.now) (c.args.depth - 1) c.args.place x (toks_at c.args.s.now c.next-d.result.start)) _ _ _ _ c.args.c c.next-d.result c.index.result (postfix_index (language_of c.args.language.now) c.args.depth c.args.place c.args.s.now c.args.c c.next-d.result c.requires.0.0 c.next-d.ensures c.requires.2 c.if-c-eq-DOT.false c.if-depth-eq0.false) (omega (arith, postfix_fewer (language_of c.args.language.now) c.args.depth c.args.place c.args.s.now c.args.c c.next-d.result c.requires.0.0 c.next-d.ensures c.requires.2)) c.index.ensures

pub postfixes-returns-in_err-r : goal.postfixes-returns-in_err-r
postfixes-returns-in_err-r t c =
    let p = err_from_is_err_and c.from_residual.result c.from_residual.ensures.1 in
    rw (p.1, p.2) (λ x o h. post_refused (c.loop-out.invariant.3 _ o (post_enter _ _ (each_inner _ _) _ _ x c.args.c h)) _ c.in_err-r.ensures.0)

pub postfixes-loop-out-preserved : goal.postfixes-loop-out-preserved
postfixes-loop-out-preserved t c = (c.postfix.auto.out ∙ c.loop-out.invariant.0, c.in_ok-r.ensures.1.0, c.in_ok-r.ensures.1.1, λ R o h. post_more (c.loop-out.invariant.3 R o h) c.in_ok-r.r _ c.in_ok-r.ensures)

pub postfixes-returns : goal.postfixes-returns
postfixes-returns t c = λ x o h. post_exit (c.loop-out.invariant.3 _ o (post_enter _ _ (each_inner _ _) _ _ x _ h)) c.loop-out.invariant.1.0 (sym c.is_postfix.ensures ∙ c.loop-out-test.false)

pub power-loop-r-init : goal.power-loop-r-init
power-loop-r-init t c = (refl, powers_first (power_level _ _) (primary_low _ _) _ _ _ _ _ _ _ _ c.requires)

pub power-returns-in_err-r : goal.power-returns-in_err-r
power-returns-in_err-r t c = meets_err _ _ _ _ _ _ _ c.from_residual.ensures.1 (powers_refused (power_level _ _) (primary_low _ _) _ _ _ _ _ _ _ _ _ _ _ c.loop-r.invariant.1 _ _ c.in_err-r.ensures)

pub power-step-j-requires : goal.power-step-j-requires
power-step-j-requires t c = powers_numbers (power_level _ _) (primary_low _ _) _ _ _ _ _ _ _ _ _ _ _ c.loop-r.invariant.1 _ _ _ _ c.in_ok-r.ensures

pub power-returns-then-not-more : goal.power-returns-then-not-more
power-returns-then-not-more t c = powers_exit (power_level _ _) (primary_low _ _) _ _ _ _ _ _ _ _ _ _ _ c.loop-r.invariant.1 _ _ _ _ c.in_ok-r.ensures _ c.is_power-more.ensures _ _ c.step-j.ensures c.if-not-more.true

pub power-loop-r-smaller : goal.power-loop-r-smaller
power-loop-r-smaller t c = powers_less (power_level _ _) (primary_low _ _) _ _ _ _ _ _ _ _ _ _ _ c.loop-r.invariant.1 _ _ _ _ c.in_ok-r.ensures _ c.is_power-more.ensures _ _ c.step-j.ensures c.if-not-more.false _ c.next-at.ensures

pub power-loop-r-preserved : goal.power-loop-r-preserved
power-loop-r-preserved t c = (c.step-j.auto.out ∙ (c.primary.auto.out ∙ c.loop-r.invariant.0), powers_next (power_level _ _) (primary_low _ _) _ _ _ _ _ _ _ _ _ _ _ c.loop-r.invariant.1 _ _ _ _ c.in_ok-r.ensures _ c.is_power-more.ensures _ _ c.step-j.ensures c.if-not-more.false _ c.next-at.ensures)

pub product-loop-r-init : goal.product-loop-r-init
product-loop-r-init t c = (refl, pend_as (product_level _ _ _) _ _ (product_gates _ _ _) _ _ _ c.requires, λ z. cc)

pub product-returns-in_err-r : goal.product-returns-in_err-r
product-returns-in_err-r t c = meets_err _ _ _ _ _ _ _ c.from_residual.ensures.1 (pend_refused (product_level _ _ _) _ c.loop-r.invariant.1 _ _ c.in_err-r.ensures)

pub product-join-j-requires : goal.product-join-j-requires
product-join-j-requires t c =
    let h = pend_numbers (product_level _ _ _) _ c.loop-r.invariant.1 c.in_ok-r.ensures in
    (h.0, h.1, c.loop-r.invariant.2)

pub product-returns-then-not-is_product : goal.product-returns-then-not-is_product
product-returns-then-not-is_product t c = chain_exit (product_level _ _ _) _ (pend_chain (product_level _ _ _) _ c.loop-r.invariant.1 c.in_ok-r.ensures _ _ c.join-j.ensures) (sym c.is_product.ensures ∙ c.if-not-is_product.true)

pub product-loop-r-smaller : goal.product-loop-r-smaller
product-loop-r-smaller t c = pend_less (product_level _ _ _) _ c.loop-r.invariant.1 c.in_ok-r.ensures (sym c.is_product.ensures ∙ c.if-not-is_product.false) _ c.next-at.ensures

pub product-loop-r-preserved : goal.product-loop-r-preserved
product-loop-r-preserved t c = (c.join-j.auto.out ∙ (c.power.auto.out ∙ c.loop-r.invariant.0), pend_next (product_level _ _ _) _ (pend_chain (product_level _ _ _) _ c.loop-r.invariant.1 c.in_ok-r.ensures _ _ c.join-j.ensures) (sym c.is_product.ensures ∙ c.if-not-is_product.false) _ c.next-at.ensures, sign_not_0 (product_level (language_of c.args.language.now) c.args.depth _) (sym c.is_product.ensures ∙ c.if-not-is_product.false))

pub sum-loop-r-init : goal.sum-loop-r-init
sum-loop-r-init t c = (refl, pend_as (sum_level _ _ _) _ _ (sum_gates _ _ _) _ _ _ c.requires, λ z. cc)

pub sum-returns-in_err-r : goal.sum-returns-in_err-r
sum-returns-in_err-r t c = meets_err _ _ _ _ _ _ _ c.from_residual.ensures.1 (pend_refused (sum_level _ _ _) _ c.loop-r.invariant.1 _ _ c.in_err-r.ensures)

pub sum-join-j-requires : goal.sum-join-j-requires
sum-join-j-requires t c =
    let h = pend_numbers (sum_level _ _ _) _ c.loop-r.invariant.1 c.in_ok-r.ensures in
    (h.0, h.1, c.loop-r.invariant.2)

pub sum-returns-then-not-is_sum : goal.sum-returns-then-not-is_sum
sum-returns-then-not-is_sum t c = chain_exit (sum_level _ _ _) _ (pend_chain (sum_level _ _ _) _ c.loop-r.invariant.1 c.in_ok-r.ensures _ _ c.join-j.ensures) (sym c.is_sum.ensures ∙ c.if-not-is_sum.true)

pub sum-loop-r-smaller : goal.sum-loop-r-smaller
sum-loop-r-smaller t c = pend_less (sum_level _ _ _) _ c.loop-r.invariant.1 c.in_ok-r.ensures (sym c.is_sum.ensures ∙ c.if-not-is_sum.false) _ c.next-at.ensures

pub sum-loop-r-preserved : goal.sum-loop-r-preserved
sum-loop-r-preserved t c = (c.join-j.auto.out ∙ (c.product.auto.out ∙ c.loop-r.invariant.0), pend_next (sum_level _ _ _) _ (pend_chain (sum_level _ _ _) _ c.loop-r.invariant.1 c.in_ok-r.ensures _ _ c.join-j.ensures) (sym c.is_sum.ensures ∙ c.if-not-is_sum.false) _ c.next-at.ensures, sign_not_0 (sum_level (language_of c.args.language.now) c.args.depth _) (sym c.is_sum.ensures ∙ c.if-not-is_sum.false))

pub signed-returns-then-is_raised : goal.signed-returns-then-is_raised
signed-returns-then-is_raised t c = meets_as _ _ _ _ _ _ _ (ap (λ (q : Reader Tree). q (toks_at c.args.s.now c.args.c.start)) (signed_right _ _ _ _ _ (raisable_two _ c.args.c.code (sym c.is_raised.ensures ∙ c.if-is_raised.true)))) c.expression.ensures
