-- Sums of the days that months or years have, one after the other.
use mathlib.Core.Path.{◌≡◌, refl, ap, subst}
use mathlib.Core.Bool.{Bool, true, false}
use Prim.Native.Nat.{ℕ, zero, suc, ◌+◌, ◌-◌, ◌≤◌, ◌<◌}
use native.Mathlib.Omega.{arith}
use lib.Dec.{leb}
use borrow.Author.Tests.{leb-true, leb-false}
use Rattle.calendar.specs.Calendar.{total}

-- with the next one
pub total_next : (f : ℕ → ℕ) (n : ℕ) → 1 ≤ n → total f (n - 1) + f n ≡ total f n
unfolding total
total_next f zero h = omega arith
total_next f (suc n) h = ap (λ (k : ℕ). total f k + f (suc n)) less
  where
    less : suc n - 1 ≡ n
    less = omega arith

pub total_up : (f : ℕ → ℕ) (a b : ℕ) → a ≤ b → total f a ≤ total f b
unfolding total
total_up f a zero h = subst (λ (k : ℕ). total f k ≤ 0) none (omega arith)
  where
    none : 0 ≡ a
    none = omega arith
total_up f a (suc b) h = go (leb a b) refl (total_up f a b)
  where
    same : b < a → suc b ≡ a
    same l = omega arith

    go : (t : Bool) → leb a b ≡ t → (a ≤ b → total f a ≤ total f b) → total f a ≤ total f b + f (suc b)
    go true e before = omega (arith, before (leb-true a b e))
    go false e before = subst (λ (k : ℕ). total f k ≤ total f b + f (suc b)) (same (leb-false a b e)) (omega arith)

-- a sum that is passed before the end is not the end's
before_end : (f : ℕ → ℕ) (k e n : ℕ) → n ≤ total f e → total f k < n → k < e
before_end f k e n l m = go (leb e k) refl
  where
    go : (t : Bool) → leb e k ≡ t → k < e
    go true h = absurd (omega (arith, total_up f e k (leb-true e k h)))
    go false h = leb-false e k h

-- where n is behind the first g, and not behind the next
pub behind : (f : ℕ → ℕ) (e n g r : ℕ) → r ≡ g + 1 → n ≤ total f e → total f g < n → n ≤ total f r
    → (1 ≤ r) × (r ≤ e) × (total f (r - 1) < n) × (n ≤ total f r)
behind f e n g r h l m o = (omega arith, omega (arith, before_end f g e n l m), subst (λ (k : ℕ). total f k < n) less m, o)
  where
    less : g ≡ r - 1
    less = omega arith
