-- A result whose refusal was handed on as another.
use Rattle.std.specs.Prelude.{Result, Ok, Err}
use Rattle.std.specs.Result.{MatchResult, IsErrAnd}
use mathlib.Core.Path.{◌≡◌, refl, sym, ◌∙◌}

module _ {A E D : Type 0} (post : E → D → Type 0) where
  pub ok_was : (r : Result A E) (m : Result A D) (x : A) → MatchResult r (λ y. m ≡ Ok y) (λ e. IsErrAnd m (post e)) → m ≡ Ok x → r ≡ Ok x
  ok_was (Ok y) m x c o = cc
  ok_was (Err e) m x c o = absurd (rw o at c)

  pub err_was : (r : Result A E) (m : Result A D) (d : D) → MatchResult r (λ y. m ≡ Ok y) (λ e. IsErrAnd m (post e)) → m ≡ Err d → (e : E) × (r ≡ Err e) × post e d
  err_was (Ok y) m d c o = absurd (let z : ◌≡◌ {A = Result A D} (Ok y) (Err d) = sym c ∙ o in cc)
  err_was (Err e) m d c o = (e, refl, rw o at c)
