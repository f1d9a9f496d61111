-- A number ends where its bytes do, and these are judged.
use Rattle.std.proofs.Common.{Ok, Err, rules}
use Rattle.std.specs.Prelude.{Result, ⊤}
use Rattle.std.specs.Result.{MatchResult, IsErrAnd, is_ok}
use mathlib.Core.Path.{◌≡◌, refl, sym, ap, ◌∙◌, subst}
use mathlib.Core.Bool.{true, true≢false}
use native.Mathlib.Omega.{arith}
use Rattle.tokens.specs.Text.{number_byte}
use Rattle.tokens.specs.Numbers.{as_fault}
use Rattle.tokens.specs.Lexing.{mark_of, number_at, refused_mark, Tells}
use Rattle.tokens.specs.declared.refusals.Ground.{Ground}
use Rattle.tokens.specs.declared.refusals.Refusal.{Refusal}
use Rattle.tokens.proofs.RefusalLaws.{number_in}
use Rattle.tokens.proofs.LexLaws.{number_is, number_faulty}
use Rattle.tokens.proofs.lexing.number_at.Goals as goal

module _ {A E D : Type 0} (post : E → D → Type 0) where
  err_was : (r : Result A E) (m : Result A D) (d : D) → MatchResult r (λ y. m ≡ Ok y) (λ e. IsErrAnd m (post e)) → m ≡ Err d → (e : E) × (r ≡ Err e) × post e d
  err_was (Ok y) m d c o = absurd (let z : ◌≡◌ {A = Result A D} (Ok y) (Err d) = sym c ∙ o in cc)
  err_was (Err e) m d c o = (e, refl, rw o at c)

taken : (r : Result ⊤ Ground) → true ≡ is_ok r → as_fault r ≡ 0
taken (Ok u) h = refl
taken (Err g) h = absurd (true≢false h)

pub returns : goal.returns
returns c = (number_is c.args.s.now c.args.at c.requires c.run_end-end.result (c.run_end-end.ensures.run number_byte (λ b r p. p)) (sym c.number_fault.ensures ∙ taken _ c.in_ok-map_err.ensures.variant), omega arith)

pub returns-in_err-map_err : goal.returns-in_err-map_err
returns-in_err-map_err c =
    let w = err_was _ c.number_fault.result c.map_err.result c.in_err-map_err.field-0.0 c.map_err.ensures.cases (c.in_err-map_err.was {u = tt}) in
    let told : ◌≡◌ {A = Refusal} c.in_err-map_err.field-0.0 (record { cause = w.0; byte = c.args.at }) = search rules in
    let gave : c.from_residual.result ≡ Err c.in_err-map_err.field-0.0 = search rules in
    let faulty = number_faulty c.args.s.now c.args.at c.requires c.run_end-end.result (c.run_end-end.ensures.run number_byte (λ b r p. p)) _ (sym (ap as_fault w.1) ∙ c.number_fault.ensures) (number_in w.0).0 in
    subst (Tells (mark_of c.args.at (number_at c.args.s.now c.args.at))) (sym gave) (ap refused_mark told ∙ faulty)
