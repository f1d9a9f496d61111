-- That two slices are the same, where two differ first, one word at a time, and when a part is the stored one.
use mathlib.Core.Path.{◌≡◌, refl, ap, ◌∙◌}
use mathlib.Core.Bool.{Bool, true, false}
use mathlib.Core.List.{List, [], ◌∷◌}
use Prim.Native.Nat.{ℕ, suc, ◌+◌, ◌-◌, ◌≤◌, ◌<◌, min}
use native.Mathlib.Numerals.{add-one}
use native.Mathlib.Omega.{arith}
use lib.Dec.{eqb}
use lib.ListN.{length, get_or, take, drop, length-drop}
use lib.Seq.{drop-cons, take_all}
use lib.Pointwise.{pointwise}
use borrow.Author.Tests.{eq-eqb, ne_eqb, le-leb}
use Rattle.tokens.specs.Text.{same}
use Rattle.vectors.specs.Comparing.{common, part_stored}

-- ---- memory

-- `==` on slices tells what `same` does
pub pointwise_same : (a b : List ℕ) → pointwise eqb a b ≡ same a b
unfolding same
pointwise_same [] [] = refl
pointwise_same [] (y ∷ b) = refl
pointwise_same (x ∷ a) [] = refl
pointwise_same (x ∷ a) (y ∷ b) = go (eqb x y) refl (pointwise_same a b)
  where
    go : (t : Bool) → eqb x y ≡ t → pointwise eqb a b ≡ same a b → pointwise eqb (x ∷ a) (y ∷ b) ≡ same (x ∷ a) (y ∷ b)
    go true e k = rw (same, e) k
    go false e k = rw (same, e)

module _ (x y : ℕ) (a b : List ℕ) where
  common_cons : x ≡ y → common (x ∷ a) (y ∷ b) ≡ suc (common a b)
  unfolding common
  common_cons e = rw (common, eq-eqb x y e)

  common_other : (x ≡ y → ⊥) → common (x ∷ a) (y ∷ b) ≡ 0
  unfolding common
  common_other e = rw (common, ne_eqb x y e)

module _ (a b : List ℕ) (i : ℕ) (long : i < length a) (wide : i < length b) where
  pub common_on : get_or a i 0 ≡ get_or b i 0 → i + 1 + common (drop (i + 1) a) (drop (i + 1) b) ≡ i + common (drop i a) (drop i b)
  common_on e =
      rw (add-one, drop-cons a i 0 long, drop-cons b i 0 wide)
      (omega (arith, common_cons (get_or a i 0) (get_or b i 0) (drop (suc i) a) (drop (suc i) b) e))

  pub common_stop : (get_or a i 0 ≡ get_or b i 0 → ⊥) → i ≡ i + common (drop i a) (drop i b)
  common_stop e =
      rw (drop-cons a i 0 long, drop-cons b i 0 wide)
      (omega (arith, common_other (get_or a i 0) (get_or b i 0) (drop (suc i) a) (drop (suc i) b) e))

common_end : (a b : List ℕ) → min (length a) (length b) ≡ 0 → common a b ≡ 0
unfolding common
common_end [] b h = refl
common_end (x ∷ a) [] h = refl
common_end (x ∷ a) (y ∷ b) h = absurd (omega arith)

pub common_over : (n : ℕ) (a b : List ℕ) → min (length a) (length b) ≤ n → n ≡ n + common (drop n a) (drop n b)
common_over n a b h = omega (arith, common_end (drop n a) (drop n b) (omega (arith, length-drop n a, length-drop n b)))

-- ---- lookups

-- a part of what is left of a source from p on
pub part_bytes : (g s f : List ℕ) (p n : ℕ) → length g ≡ n → p ≤ length s → f ≡ take n (take (length s - p) (drop p s)) → same g f ≡ part_stored g s p n
unfolding part_stored
part_bytes g s f p n e h k =
    let rest : take (length s - p) (drop p s) ≡ drop p s = take_all (length s - p) (drop p s) (omega (arith, length-drop p s)) in
    ap (same g) (k ∙ ap (take n) rest)
    ∙ rw (eq-eqb (length g) n e, le-leb p (length s) h)
