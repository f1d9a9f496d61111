-- The table of powers of ten, by one test that antt computes at each of its places.
use mathlib.Core.Path.{◌≡◌, refl, subst}
use mathlib.Core.Bool.{Bool, true, false, ◌&&◌}
use mathlib.Core.List.{List, [], ◌∷◌}
use Prim.Native.Nat.{ℕ, zero, suc, ◌^◌, ◌≤◌, ◌<◌}
use native.Mathlib.Omega.{arith}
use lib.Dec.{T, leb, ltb, eqb, eqb→eq, leb→le}
use lib.IntN.{pos}
use lib.ListN.{get_or}
use lib.Ieee.{Float, nan, inf, fin, binary64, of_int}
use lib.Ieee.Fits.{and_l, and_r}
use borrow.Author.Tests.{ltb-true, ltb-false}
use Rattle.tokens.specs.Limits.{most_digits}

-- the test passes at each place below n
below : (ℕ → Bool) → ℕ → Bool
below f zero = true
below f (suc n) = f n && below f n

at : (f : ℕ → Bool) (n : ℕ) → T (below f n) → (k : ℕ) → k < n → T (f k)
unfolding below
at f zero t k h = absurd (omega arith)
at f (suc n) t k h = go (ltb k n) refl (at f n (and_r (f n) (below f n) t) k)
  where
    go : (b : Bool) → ltb k n ≡ b → (k < n → T (f k)) → T (f k)
    go true e i = i (ltb-true k n e)
    go false e i =
        let s : n ≡ k = omega (arith, ltb-false k n e) in
        subst (λ (m : ℕ). T (f m)) s (and_l (f n) (below f n) t)

abbrev pub tens : List ℕ
tens = 1 ∷ 10 ∷ 100 ∷ 1000 ∷ 10000 ∷ 100000 ∷ 1000000 ∷ 10000000 ∷ 100000000 ∷ 1000000000 ∷ 10000000000 ∷ 100000000000 ∷ 1000000000000 ∷ 10000000000000 ∷ 100000000000000 ∷ 1000000000000000 ∷ []

-- finite and not zero
unfoldable pub divides : Float → Bool
divides nan = false
divides (inf s) = false
divides (fin s zero e) = false
divides (fin s (suc m) e) = true

-- the entry is the power, within the limit of a literal's digits, and one may divide by it
right : ℕ → Bool
right k = eqb (get_or tens k 0) (10 ^ k) && (leb (10 ^ k) most_digits && divides (of_int binary64 (pos (10 ^ k))))

module _ (k : ℕ) (h : k < 16) where
  checked : T (right k)
  unfolding below right divides of_int
  checked = at right 16 tt k h

  pub tens_is : get_or tens k 0 ≡ 10 ^ k
  unfolding right
  tens_is = eqb→eq _ _ (and_l (eqb (get_or tens k 0) (10 ^ k)) _ checked)

  pub tens_small : 10 ^ k ≤ most_digits
  unfolding right
  tens_small = leb→le _ _ (and_l (leb (10 ^ k) most_digits) _ (and_r (eqb (get_or tens k 0) (10 ^ k)) _ checked))

  pub tens_divides : T (divides (of_int binary64 (pos (10 ^ k))))
  unfolding right
  tens_divides = and_r (leb (10 ^ k) most_digits) _ (and_r (eqb (get_or tens k 0) (10 ^ k)) _ checked)
