-- `are_good` meets its contract. What the walk keeps stands in `Passed`, and the measure is how many bytes are left.
use mathlib.Core.Path.{refl, sym, ◌∙◌}
use mathlib.Core.Bool.{false}
use native.Mathlib.Omega.{arith}
use lib.ListN.{get_or}
use Rattle.tokens.proofs.NameLaws.{line_fits}
use Rattle.tokens.proofs.SlotLaws.{passed_first, passed_many, passed_bad, passed_double, passed_turn, passed_all}
use Rattle.tokens.proofs.names.are_good.Goals as goal

pub loop-at-init : goal.loop-at-init
loop-at-init c = passed_first _ _ _ refl

pub returns-then-k-eq-MOST_NAMES : goal.returns-then-k-eq-MOST_NAMES
returns-then-k-eq-MOST_NAMES c = sym (passed_many c.args.money c.args.list.now c.loop-at.slots c.loop-at.at _ c.loop-at.k (omega arith) refl c.loop-at.invariant c.if-k-eq-MOST_NAMES.true)

pub slice_bounds-is_good_name-end : goal.slice_bounds-is_good_name-end
slice_bounds-is_good_name-end c = omega (arith, line_fits c.args.list.now c.loop-at.at c.find-e.result (omega arith) c.find-e.ensures)

pub returns-then-not-is_good_name : goal.returns-then-not-is_good_name
returns-then-not-is_good_name c = sym (passed_bad c.args.money c.args.list.now c.loop-at.slots c.loop-at.at c.find-e.result c.loop-at.k (omega arith) c.find-e.ensures c.loop-at.invariant (sym c.is_good_name.ensures ∙ c.if-not-is_good_name.true))

pub returns-then-is_double : goal.returns-then-is_double
returns-then-is_double c = sym (passed_double c.args.money c.args.list.now c.loop-at.slots c.loop-at.at c.find-e.result c.loop-at.k (omega arith) c.find-e.ensures c.loop-at.invariant (get_or c.loop-at.slots c.slot_of-h.result false) (sym c.is_double.ensures ∙ c.if-is_double.true))

pub loop-at-preserved : goal.loop-at-preserved
loop-at-preserved c = passed_turn c.args.money c.args.list.now c.loop-at.slots c.loop-at.at c.find-e.result c.loop-at.k (omega arith) c.find-e.ensures c.loop-at.invariant c.slot_of-h.result c.slot_of-h.ensures.0 c.slot_of-h.ensures.1 c.if-k-eq-MOST_NAMES.false (sym c.is_good_name.ensures ∙ c.if-not-is_good_name.false) (sym c.is_double.ensures ∙ c.if-is_double.false)

pub returns : goal.returns
returns c = sym (passed_all c.args.money c.args.list.now c.loop-at.slots c.loop-at.at c.loop-at.k (omega arith) c.loop-at.invariant)
