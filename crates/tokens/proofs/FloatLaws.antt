-- A literal's value is a number, never NaN: its divisor is a power of ten, a finite float that is not zero.
use Rattle.std.specs.Prelude.{if◌then◌else◌}
use mathlib.Core.Path.{◌≡◌, refl, subst⁻¹}
use mathlib.Core.Bool.{Bool, true, false, not, cond}
use mathlib.Core.List.{List}
use Prim.Native.Nat.{ℕ, zero, suc, ◌+◌, ◌*◌, ◌^◌}
use native.Mathlib.Omega.{arith}
use lib.Dec.{T, ltb, eqb, eqb-suc-zero}
use lib.IntN.{pos}
use lib.Ieee.{Float, nan, inf, fin, Format, binary64, low, emax, prec, odd, units, round, of_int, div, neg, is_nan, of_bits, unlike, up, down}
use lib.Ieee.Fits.{round_is}
use borrow.Author.Tests.{eqb-true}
use Rattle.tokens.specs.Text.{count}
use Rattle.tokens.specs.Numbers.{digits, decimals, number_fault, value, value_of}
use Rattle.tokens.proofs.TableLaws.{divides, tens_divides}
use Rattle.tokens.proofs.NumberLaws.{fault_none}

odd_number : (d : ℕ) (s : Bool) (q k l : ℕ) → T (not (is_nan (odd d s q k l)))
unfolding odd is_nan
odd_number d s zero k l = tt
odd_number d s (suc q) k l = tt

cond_number : (b : Bool) (x : Float) (s : Bool) → T (not (is_nan x)) → T (not (is_nan (cond b x (inf s))))
unfolding is_nan
cond_number true x s h = h
cond_number false x s h = tt

module _ (f : Format) where
  units_number : (s : Bool) (q k : ℕ) → T (not (is_nan (units f s q k)))
  unfolding units
  units_number s q k = cond_number (ltb (q * 2 ^ k) (2 ^ (low f + suc (emax f)))) (odd (suc (prec f)) s q k (low f)) s (odd_number (suc (prec f)) s q k (low f))

  round_number : (s : Bool) (a b : ℕ) → T (not (is_nan (round f s a b)))
  round_number s a b = subst⁻¹ (λ (x : Float). T (not (is_nan x))) (round_is f s a b) (units_number s _ _)

  int_number : (n : ℕ) → T (not (is_nan (of_int f (pos n))))
  unfolding of_int
  int_number n = round_number false n 1

  div_number : (x y : Float) → T (not (is_nan x)) → T (divides y) → T (not (is_nan (div f x y)))
  unfolding div is_nan divides
  div_number nan y p q = absurd p
  div_number (inf s) nan p q = absurd q
  div_number (inf s) (inf t) p q = absurd q
  div_number (inf s) (fin t n e) p q = tt
  div_number (fin s m e) nan p q = absurd q
  div_number (fin s m e) (inf t) p q = absurd q
  div_number (fin s m e) (fin t zero d) p q = absurd q
  div_number (fin s m e) (fin t (suc n) d) p q = rw (eqb-suc-zero n) (round_number (unlike s t) (m * up e * down d) (suc n * up d * down e))

pub value_number : (w : List ℕ) → T (not (is_nan (value_of w)))
unfolding value_of value number_fault
value_number w = go (eqb (number_fault w) 0) refl
  where
    go : (t : Bool) → eqb (number_fault w) 0 ≡ t → T (not (is_nan (if t then value w else of_int binary64 (pos 0))))
    go true e =
        let l = fault_none (count (eqb 46) w) (digits 0 w) (decimals false w) (eqb-true (number_fault w) 0 e) in
        div_number binary64 _ _ (int_number binary64 (digits 0 w)) (tens_divides (decimals false w) (omega arith))
    go false e = int_number binary64 0

pub neg_number : (x : Float) → T (not (is_nan x)) → T (not (is_nan (neg x)))
unfolding neg is_nan
neg_number nan h = h
neg_number (inf s) h = tt
neg_number (fin s m e) h = tt

pub zero_is : of_bits binary64 0 ≡ of_int binary64 (pos 0)
unfolding of_bits of_int
zero_is = refl
