-- How far the bytes at a place of a text pass a test, one byte at a time.
use mathlib.Core.Path.{◌≡◌, refl}
use mathlib.Core.Bool.{Bool, true, false}
use mathlib.Core.List.{List, [], ◌∷◌}
use Prim.Native.Nat.{ℕ, zero, suc, ◌+◌, ◌≤◌, ◌<◌, min, max}
use native.Mathlib.Numerals.{add-one}
use native.Mathlib.Omega.{arith}
use lib.Dec.{leb}
use borrow.Author.Tests.{leb-true, leb-false}
use lib.ListN.{length, get_or, take, drop, drop_of_length-le}
use lib.Seq.{drop-cons}
use Rattle.tokens.specs.Text.{leading}

module _ (f : ℕ → Bool) where
  leading_cons : (b : ℕ) (bs : List ℕ) → f b ≡ true → leading f (b ∷ bs) ≡ suc (leading f bs)
  unfolding leading
  leading_cons b bs e = rw (e, leading)

  leading_none : (b : ℕ) (bs : List ℕ) → f b ≡ false → leading f (b ∷ bs) ≡ 0
  unfolding leading
  leading_none b bs e = rw (e, leading)

  leading_nil : leading f [] ≡ 0
  unfolding leading
  leading_nil = refl

  module _ (s : List ℕ) (i : ℕ) where
    pub leading_on : i < length s → f (get_or s i 0) ≡ true → leading f (drop i s) ≡ suc (leading f (drop (i + 1) s))
    leading_on h e = rw (add-one, drop-cons s i 0 h) (leading_cons _ _ e)

    pub leading_stop : i < length s → f (get_or s i 0) ≡ false → leading f (drop i s) ≡ 0
    leading_stop h e = rw (drop-cons s i 0 h) (leading_none _ _ e)

    pub leading_over : length s ≤ i → leading f (drop i s) ≡ 0
    leading_over h = rw (drop_of_length-le s h) leading_nil

    -- the same of where the run ends, which x says of the whole
    pub end_on : {x : ℕ} → i < length s → f (get_or s i 0) ≡ true → i + leading f (drop i s) ≡ x → i + 1 + leading f (drop (i + 1) s) ≡ x
    end_on h e p = omega (arith, leading_on h e)

    pub end_stop : {x : ℕ} → i < length s → f (get_or s i 0) ≡ false → i + leading f (drop i s) ≡ x → i ≡ x
    end_stop h e p = omega (arith, leading_stop h e)

    pub end_over : (at : ℕ) → length s ≤ i → (at ≤ length s → i ≤ length s) → i + leading f (drop i s) ≡ at + leading f (drop at s)
        → max at (length s) ≡ at + leading f (drop at s)
    end_over at h g p = go (leb at (length s)) refl
      where
        go : (t : Bool) → leb at (length s) ≡ t → max at (length s) ≡ at + leading f (drop at s)
        go true e = let k = g (leb-true at (length s) e) in omega (arith, leb-true at (length s) e, leading_over h)
        go false e = let k = leb-false at (length s) e in let z : leading f (drop at s) ≡ 0 = rw (drop_of_length-le s {i = at} (omega arith)) leading_nil in omega arith

-- the same of the first bytes of a text
pub leading_take : (f : ℕ → Bool) (n : ℕ) (s : List ℕ) → leading f (take n s) ≡ min n (leading f s)
unfolding leading
leading_take f zero s = omega arith
leading_take f (suc n) [] = omega arith
leading_take f (suc n) (b ∷ bs) = go (f b) (leading_take f n bs)
  where
    go : (t : Bool) → leading f (take n bs) ≡ min n (leading f bs)
        → (elim t as (λ _. ℕ) [ true ↦ suc (leading f (take n bs)) | false ↦ 0 ]) ≡ min (suc n) (elim t as (λ _. ℕ) [ true ↦ suc (leading f bs) | false ↦ 0 ])
    go true h = omega arith
    go false h = omega arith
