-- The definitions' counts, tests and walks, in the words in which std says what a chain of an iterator answers.
use Rattle.std.specs.Prelude.{if◌then◌else◌}
use mathlib.Core.Path.{◌≡◌, refl}
use mathlib.Core.Bool.{Bool, true, false, cond, ◌&&◌}
use mathlib.Core.List.{List, [], ◌∷◌}
use Prim.Native.Nat.{ℕ, ◌+◌}
use native.Mathlib.Omega.{arith}
use Rattle.std.specs.List.{count_by, list_all, fold}
use Rattle.std.proofs.lemmas.List.Recursion.{is_count_by}
use Rattle.tokens.specs.Text.{count, every}
use Rattle.tokens.specs.Runs.{feed, feed_all}
use Rattle.tokens.specs.declared.numbers.Run.{Run}

module _ {A : Type 0} (f : A → Bool) where
  pub count_is : (xs : List A) → count f xs ≡ count_by f xs
  unfolding count
  count_is = is_count_by (count f) f refl (λ x xs. each (f x) (count f xs))
    where
      each : (t : Bool) (n : ℕ) → (if t then 1 else 0) + n ≡ cond t (1 + n) n
      each true n = refl
      each false n = omega arith

  pub every_is : (xs : List A) → every f xs ≡ list_all f xs
  unfolding every
  every_is [] = refl
  every_is (a ∷ xs) = go (f a) (every_is xs)
    where
      go : (t : Bool) → every f xs ≡ list_all f xs → ◌≡◌ {A = Bool} (elim t [ true ↦ every f xs | false ↦ false ]) (t && list_all f xs)
      go true e = e
      go false e = refl

pub feed_all_is : (xs : List ℕ) (r : Run) → feed_all xs r ≡ fold feed r xs
unfolding feed_all
feed_all_is [] r = refl
feed_all_is (b ∷ xs) r = feed_all_is xs (feed r b)
