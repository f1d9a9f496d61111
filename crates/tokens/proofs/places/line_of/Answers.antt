-- `line_of` counts line feeds: so far it has the line of the place that it has come to.
use mathlib.Core.Path.{ap, ◌∙◌}
use Prim.Native.Nat.{ℕ, ◌+◌}
use native.Mathlib.Omega.{arith}
use lib.ListN.{take, length-take}
use borrow.Author.Rules.{rules}
use Rattle.tokens.proofs.PlaceLaws.{line_first, line_fed, line_on, line_whole, line_within}
use Rattle.tokens.proofs.places.line_of.Goals as goal
use Rattle.tokens.proofs.places.line_of.Goals.{then-b-eq10, else-b-eq10}

pub loop-b-init : goal.loop-b-init
loop-b-init c = line_first _

pub overflow_add-line : goal.overflow_add-line
overflow_add-line c = grind (arith, line_within (take c.min.result c.args.s.now) c.loop-b.b-index, length-take c.min.result c.args.s.now)

pub loop-b-preserved : goal.loop-b-preserved
loop-b-preserved c =
    let l = c.loop-b in
    let t = take c.min.result c.args.s.now in
    elim c.if-b-eq10.branch [
      | then-b-eq10 w ↦ w.line-is ∙ ap (λ (n : ℕ). n + 1) l.invariant ∙ line_fed t l.b-index c.loop-b-test.true w.if-b-eq10.true
      | else-b-eq10 w ↦ w.line-is ∙ l.invariant ∙ line_on t l.b-index c.loop-b-test.true w.if-b-eq10.false
    ]

pub returns : goal.returns
returns c =
    let l = c.loop-b in
    l.invariant ∙ line_whole c.args.s.now c.args.at c.min.result l.b-index c.min.ensures (search rules)
