-- Two outcomes of one call: where a contract is an equation, both are the value that it names; where it is one of what a view makes
-- of the outcome, they are the same too, since each view gives no value twice.
use Prim.Native.Nat.{ℕ}
use native.Mathlib.Omega.{arith}
use mathlib.Core.Path.{◌≡◌, refl, sym, ap, ◌∙◌}
use Rattle.std.specs.Prelude.{Result, Ok, Err, ⊤}
use Rattle.tokens.specs.Refusals.{number_of}
use Rattle.tokens.specs.ScriptEnd.{as_end}
use Rattle.tokens.specs.Found.{as_found}
use Rattle.tokens.specs.Scanned.{as_scanned}
use Rattle.tokens.specs.Numbers.{as_fault}
use Rattle.tokens.specs.Lexing.{refused_mark, Tells}
use Rattle.tokens.specs.declared.lexing.Mark.{Mark}
use Rattle.tokens.specs.declared.refusals.Ground.{Ground}
use Rattle.tokens.specs.declared.refusals.Refusal.{Refusal}
use Rattle.tokens.specs.declared.scanning.Token.{Token}
use Rattle.tokens.specs.declared.scanning.Summary.{Summary}
use Rattle.tokens.proofs.RefusalLaws.{number_in, number_once}

pub one_outcome : {A : Type 0} {x r₁ r₂ : A} → r₁ ≡ x → r₂ ≡ x → r₁ ≡ r₂
one_outcome p q = p ∙ sym q

-- a refusal is told by its number and its byte
pub one_refusal : (a b : Refusal) → number_of a.cause ≡ number_of b.cause → a.byte ≡ b.byte → a ≡ b
one_refusal a b p q = λ i. record { cause = number_once p i; byte = q i }

pub one_end : (a b : Result ℕ Refusal) → as_end a ≡ as_end b → a ≡ b
one_end (Ok m) (Ok n) e = let p : m ≡ n = cc in ap (λ (x : ℕ). Ok x) p
one_end (Ok m) (Err y) e = absurd (cc)
one_end (Err x) (Ok n) e = absurd (cc)
one_end (Err x) (Err y) e = ap (λ (z : Refusal). Err z) (one_refusal x y (cc) (cc))

pub one_found : (a b : Result Token Refusal) → as_found a ≡ as_found b → a ≡ b
one_found (Ok m) (Ok n) e = let p : m ≡ n = cc in ap (λ (x : Token). Ok x) p
one_found (Ok m) (Err y) e = absurd (cc)
one_found (Err x) (Ok n) e = absurd (cc)
one_found (Err x) (Err y) e = ap (λ (z : Refusal). Err z) (one_refusal x y (cc) (cc))

pub one_scanned : (a b : Result Summary Refusal) → as_scanned a ≡ as_scanned b → a ≡ b
one_scanned (Ok m) (Ok n) e =
    let p : m.tokens ≡ n.tokens = cc in
    let q : m.last ≡ n.last = cc in
    λ i. Ok (record { tokens = p i; last = q i })
one_scanned (Ok m) (Err y) e = absurd (cc)
one_scanned (Err x) (Ok n) e = absurd (cc)
one_scanned (Err x) (Err y) e = ap (λ (z : Refusal). Err z) (one_refusal x y (cc) (cc))

pub one_fault : (a b : Result ⊤ Ground) → as_fault a ≡ as_fault b → a ≡ b
one_fault (Ok u) (Ok v) e = refl
one_fault (Ok u) (Err h) e = absurd (omega (arith, number_in h, e))
one_fault (Err g) (Ok u) e = absurd (omega (arith, number_in g, e))
one_fault (Err g) (Err h) e = ap (λ (z : Ground). Err z) (number_once e)

-- a mark of the text's, or a refusal, whose code is 100 and more
pub one_mark : (m : Mark) (a b : Result Mark Refusal) → Tells m a → Tells m b → a ≡ b
one_mark m (Ok s) (Ok t) p q = ap (λ (x : Mark). Ok x) (p.0 ∙ sym q.0)
one_mark m (Ok s) (Err y) p q = absurd (omega (arith, p.1, ap (λ (x : Mark). x.code) (p.0 ∙ sym q)))
one_mark m (Err x) (Ok t) p q = absurd (omega (arith, q.1, ap (λ (x : Mark). x.code) (q.0 ∙ sym p)))
one_mark m (Err x) (Err y) p q =
    let e : refused_mark x ≡ refused_mark y = p ∙ sym q in
    ap (λ (z : Refusal). Err z) (one_refusal x y (omega (arith, ap (λ (m : Mark). m.code) e)) (ap (λ (m : Mark). m.start) e))
