-- Counts, equal bytes, one byte at a time, and where a script ends.
use Rattle.std.specs.Prelude.{if◌then◌else◌}
use mathlib.Core.Path.{◌≡◌, refl}
use mathlib.Core.Bool.{Bool, true, false, ◌&&◌}
use mathlib.Core.List.{List, [], ◌∷◌, ◌++◌}
use Prim.Native.Nat.{ℕ, suc, ◌+◌, ◌≤◌, ◌<◌}
use native.Mathlib.Omega.{arith}
use lib.Dec.{eqb}
use lib.Pointwise.{pointwise}
use lib.ListN.{length}
use lib.Seq.{length-take-le}
use borrow.Author.Tests.{lt-ltb, le-ltb}
use Rattle.tokens.specs.Limits.{most_bytes}
use Rattle.tokens.specs.Text.{leading, other, same, count, script}
use Rattle.tokens.specs.Lexing.{script_end}
use Rattle.tokens.specs.ScriptEnd as ends
use Rattle.tokens.proofs.Shapes.{leading_le}

-- ---- counts

-- no more pass a test than there are
pub count_few : {A : Type 0} (f : A → Bool) (l : List A) → count f l ≤ length l
unfolding count
count_few f [] = omega arith
count_few f (a ∷ l) = go (f a) (count_few f l)
  where
    go : (t : Bool) → count f l ≤ length l → (if t then 1 else 0) + count f l ≤ suc (length l)
    go true h = omega arith
    go false h = omega arith

pub count_join : {A : Type 0} (f : A → Bool) (xs ys : List A) → count f (xs ++ ys) ≡ count f xs + count f ys
unfolding count
count_join f [] ys = omega arith
count_join f (a ∷ xs) ys = omega (arith, count_join f xs ys)

-- ---- equal bytes

-- what `==` answers at two slices
pub pointwise_is : (a b : List ℕ) → pointwise eqb a b ≡ same a b
unfolding same
pointwise_is [] [] = refl
pointwise_is [] (y ∷ b) = refl
pointwise_is (x ∷ a) [] = refl
pointwise_is (x ∷ a) (y ∷ b) = go (eqb x y) (pointwise_is a b)
  where
    go : (t : Bool) → pointwise eqb a b ≡ same a b → ◌≡◌ {A = Bool} (t && pointwise eqb a b) (elim t [ true ↦ same a b | false ↦ false ])
    go true e = e
    go false e = refl

-- ---- where a script ends

module _ (s : List ℕ) where
  pub script_length : length (script s) ≡ leading (other 0) s
  unfolding script
  script_length = length-take-le _ s (leading_le (other 0) s)

  pub script_at : (n : ℕ) → n ≡ leading (other 0) s → n ≤ most_bytes → ends.At n ≡ script_end s
  unfolding script_end
  script_at n e h = rw (script_length, ← e, le-ltb most_bytes n h)

  pub script_long : most_bytes < leading (other 0) s → ends.Refused 1 0 ≡ script_end s
  unfolding script_end
  script_long h = rw (script_length, lt-ltb most_bytes _ h)
