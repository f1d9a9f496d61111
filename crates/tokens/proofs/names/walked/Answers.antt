-- `walked` meets its contract. The name's place is that among the names ahead, after those passed, and the measure is how many bytes are left.
use Prim.Native.Nat.{ℕ, suc, ◌+◌}
use mathlib.Core.Path.{◌≡◌, sym, ap, ◌∙◌}
use Rattle.tokens.specs.Names.{index_of}
use native.Mathlib.Omega.{arith}
use Rattle.tokens.proofs.NameLaws.{line_fits, after_zero, place_turn, place_found, place_end}
use Rattle.tokens.proofs.names.walked.Goals as goal

one_up : (k : ℕ) → suc k ≡ k + 1
one_up k = omega arith

pub loop-at-init : goal.loop-at-init
loop-at-init c = (omega arith, after_zero _)

pub slice_bounds-equal-end : goal.slice_bounds-equal-end
slice_bounds-equal-end c = omega (arith, line_fits c.args.list.now c.loop-at.at c.find-e.result (omega arith) c.find-e.ensures)

pub returns-then-equal : goal.returns-then-equal
returns-then-equal c = ap index_of (one_up c.loop-at.k ∙ place_found c.args.list.now c.loop-at.at c.find-e.result c.loop-at.k c.args.name.now (omega arith) c.find-e.ensures (sym c.equal.ensures ∙ c.if-equal.true) ∙ c.loop-at.invariant.1)

pub loop-at-preserved : goal.loop-at-preserved
loop-at-preserved c = (omega arith, place_turn c.args.list.now c.loop-at.at c.find-e.result c.loop-at.k c.args.name.now (omega arith) c.find-e.ensures (sym c.equal.ensures ∙ c.if-equal.false) ∙ c.loop-at.invariant.1)

pub returns : goal.returns
returns c = ap index_of (place_end c.args.list.now c.loop-at.at c.loop-at.k c.args.name.now (omega arith) ∙ c.loop-at.invariant.1)
