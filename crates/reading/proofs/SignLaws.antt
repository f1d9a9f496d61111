-- A number and one that is known: the test of the code and that of the definition.
use mathlib.Core.Path.{◌≡◌, refl, sym}
use mathlib.Core.Bool.{Bool, true, false}
use Prim.Native.Nat.{ℕ}
use lib.Dec.{eqb}
use borrow.Author.Tests.{eq-eqb, ne_eqb, eqb-true, eqb-false}

pub is_it : (a k : ℕ) → k ≡ a → eqb a k ≡ true
is_it a k e = eq-eqb a k (sym e)

pub is_other : (a k : ℕ) → (k ≡ a → ⊥) → eqb a k ≡ false
is_other a k z = ne_eqb a k (λ e. z (sym e))

-- either way round
pub turned : (k a : ℕ) → eqb k a ≡ eqb a k
turned k a = go (eqb a k) refl
  where
    go : (b : Bool) → eqb a k ≡ b → eqb k a ≡ b
    go true e = is_it k a (eqb-true a k e)
    go false e = is_other k a (eqb-false a k e)
