-- The loop passes Newlines: from each place that it reaches the same token comes first.
use mathlib.Core.Path.{refl}
use native.Mathlib.Omega.{arith}
use Rattle.tokens.proofs.CursorLaws.{script_short, cursor_fits, cursor_here, cursor_line, cursor_less}
use Rattle.tokens.proofs.cursor.Cursor.at_place.Goals as goal

pub loop-text-init : goal.loop-text-init
loop-text-init c = (script_short c.args.s.now _ c.script_of-text.ensures, omega arith, refl)

pub overflow_cast-result : goal.overflow_cast-result
overflow_cast-result c = omega (arith, (cursor_fits c.args.s.now c.script_of-text.result.now c.script_of-text.ensures c.args.at c.loop-text.i c.loop-text.broken c.mark_at-m.result c.mark_at-m.ensures c.loop-text.invariant.1 c.loop-text.invariant.2).0)

pub overflow_cast-result-then-m-ne-NEWLINE : goal.overflow_cast-result-then-m-ne-NEWLINE
overflow_cast-result-then-m-ne-NEWLINE c = omega (arith, (cursor_fits c.args.s.now c.script_of-text.result.now c.script_of-text.ensures c.args.at c.loop-text.i c.loop-text.broken c.mark_at-m.result c.mark_at-m.ensures c.loop-text.invariant.1 c.loop-text.invariant.2).1)

pub returns-then-m-ne-NEWLINE : goal.returns-then-m-ne-NEWLINE
returns-then-m-ne-NEWLINE c = cursor_here c.args.s.now c.script_of-text.result.now c.script_of-text.ensures c.args.at c.loop-text.i c.loop-text.broken c.mark_at-m.result c.mark_at-m.ensures c.loop-text.invariant.1 c.loop-text.invariant.2 c.if-m-ne-NEWLINE.true c.args.taken c.args.last

pub loop-text-smaller : goal.loop-text-smaller
loop-text-smaller c = omega (arith, cursor_less c.args.s.now c.script_of-text.result.now c.script_of-text.ensures c.args.at c.loop-text.i c.loop-text.broken c.mark_at-m.result c.mark_at-m.ensures c.loop-text.invariant.1 c.loop-text.invariant.2 c.if-m-ne-NEWLINE.false)

pub loop-text-preserved : goal.loop-text-preserved
loop-text-preserved c =
    let p = cursor_less c.args.s.now c.script_of-text.result.now c.script_of-text.ensures c.args.at c.loop-text.i c.loop-text.broken c.mark_at-m.result c.mark_at-m.ensures c.loop-text.invariant.1 c.loop-text.invariant.2 c.if-m-ne-NEWLINE.false in
    (c.loop-text.invariant.0, omega arith, cursor_line c.args.s.now c.script_of-text.result.now c.script_of-text.ensures c.args.at c.loop-text.i c.loop-text.broken c.mark_at-m.result c.mark_at-m.ensures c.loop-text.invariant.1 c.loop-text.invariant.2 c.if-m-ne-NEWLINE.false)
