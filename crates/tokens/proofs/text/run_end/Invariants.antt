-- Whatever test the closure decides, the run from the place reached ends where that from the first place does.
use Rattle.std.proofs.Common.{◌≡◌, ℕ, Bool, ◌+◌, drop}
use Rattle.tokens.specs.Text.{leading}
use Rattle.tokens.proofs.text.run_end.Given as goal

abbrev pub invariant-loop-i : goal.invariant-loop-i
invariant-loop-i g l =
    (f : ℕ → Bool) → ((b : ℕ) (r : Bool) → goal.F-post g l.goes_on b r → r ≡ f b) → l.i + leading f (drop l.i l.s) ≡ l.at + leading f (drop l.at l.s)
