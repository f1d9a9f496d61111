-- Kinds and their numbers.
use mathlib.Core.Path.{◌≡◌, refl, sym, ap, ◌∙◌}
use mathlib.Core.Bool.{false}
use Prim.Native.Nat.{ℕ, zero, suc, ◌≤◌}
use native.Mathlib.Omega.{arith}
use lib.Dec.{eqb}
use borrow.Author.Tests.{ne_eqb}
use Rattle.std.specs.Prelude.{Some}
use Rattle.reading.specs.Rows.{kind_number, kind_at}
use Rattle.reading.specs.declared.records.Kind.{Kind}
use Rattle.reading.specs.declared.records.Kind.TheVariants as kind

-- a number tells its kind
pub kind_back : (k : Kind) → kind_at (kind_number k) ≡ Some k
unfolding kind_at
kind_back kind.Variable = refl
kind_back kind.Constant = refl
kind_back kind.True = refl
kind_back kind.False = refl
kind_back kind.String = refl
kind_back kind.List = refl
kind_back kind.UnaryMinus = refl
kind_back kind.Add = refl
kind_back kind.Subtract = refl
kind_back kind.Multiply = refl
kind_back kind.Divide = refl
kind_back kind.Pow = refl
kind_back kind.Equal = refl
kind_back kind.NotEqual = refl
kind_back kind.Superior = refl
kind_back kind.Inferior = refl
kind_back kind.SuperiorOrEqual = refl
kind_back kind.InferiorOrEqual = refl
kind_back kind.And = refl
kind_back kind.Or = refl
kind_back kind.Ln = refl
kind_back kind.Exp = refl
kind_back kind.Min = refl
kind_back kind.Max = refl
kind_back kind.Cvg = refl
kind_back kind.Fif = refl
kind_back kind.Range = refl
kind_back kind.Index = refl
kind_back kind.Append = refl
kind_back kind.Mean = refl
kind_back kind.Std = refl
kind_back kind.Spot = refl
kind_back kind.EquitySpot = refl
kind_back kind.Df = refl
kind_back kind.RateIndex = refl
kind_back kind.Pays = refl
kind_back kind.Assign = refl
kind_back kind.If = refl
kind_back kind.ForEach = refl

pub kind_other : (k j : Kind) → (k ≡ j → ⊥) → eqb (kind_number k) (kind_number j) ≡ false
kind_other k j z = ne_eqb (kind_number k) (kind_number j) (λ e. z (let p : Some k ≡ Some j = sym (kind_back k) ∙ (ap kind_at e ∙ kind_back j) in cc))

pub kind_some : (k : Kind) → 1 ≤ kind_number k
unfolding kind_at
kind_some k = go (kind_number k) (kind_back k)
  where
    go : (n : ℕ) → kind_at n ≡ Some k → 1 ≤ n
    go zero p = absurd (let z : ◌≡◌ {A = ℕ} 0 1 = cc in omega arith)
    go (suc n) p = omega arith
