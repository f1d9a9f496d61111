-- From the place reached, what is left of the tokens leads to where all of them lead from the first place.
use mathlib.Core.Path.{◌≡◌, ap, ◌∙◌}
use native.Mathlib.Omega.{arith}
use Prim.Native.Nat.{ℕ, ◌+◌, ◌-◌}
use Rattle.tokens.specs.Views.{place_after}
use Rattle.tokens.proofs.ViewLaws.{after_more}
use Rattle.tokens.proofs.views.place_after.Goals as goal

pub loop-preserved : goal.loop-preserved
loop-preserved c =
    let s = c.args.s.now in
    let l = c.loop in
    let e : c.args.tokens - (l.counter + 1) ≡ c.args.tokens - l.counter - 1 = omega arith in
    ap (λ (k : ℕ). place_after s c.behind-next.result k) e ∙ after_more s l.i _ (c.args.tokens - l.counter) c.behind-next.ensures (omega arith) ∙ l.invariant
