-- The code of the longer sign is asked for first.
use mathlib.Core.Path.{refl, sym, ap, ◌∙◌, subst}
use native.Mathlib.Omega.{arith}
use Rattle.tokens.specs.Keys.{pair_by}
use Rattle.tokens.specs.Lexing.{mark_of}
use Rattle.tokens.proofs.KeyLaws.{known_some, known_none, sign_two, sign_one, sign_none}
use Rattle.tokens.proofs.ScanLaws.{Low, sign_low}
use Rattle.tokens.proofs.lexing.sign_at.Goals as goal

pub returns-in-Some : goal.returns-in-Some
returns-in-Some c =
    let s = c.args.s.now in
    let k = known_some c.in-Some.ensures in
    let e = sign_two s c.args.at c.requires (λ i. (c.type_inv.s i).fits) _ (k.0 ∙ ap pair_by (c.pair_key.ensures ∙ (rw c.byte_at.ensures))) k.1 in
    (sym (ap (mark_of c.args.at) e), omega (arith, subst Low e (sign_low _)))

pub returns-in-Some-lone_sign : goal.returns-in-Some-lone_sign
returns-in-Some-lone_sign c =
    let s = c.args.s.now in
    let k = known_some c.in-Some-lone_sign.ensures in
    let e = sign_one s c.args.at c.requires (λ i. (c.type_inv.s i).fits) _ (ap pair_by (c.pair_key.ensures ∙ (rw c.byte_at.ensures))) _ k.0 (known_none c.in_default.ensures) k.1 in
    (sym (ap (mark_of c.args.at) e), omega (arith, subst Low e (sign_low _)))

pub returns : goal.returns
returns c =
    let s = c.args.s.now in
    let e = sign_none s c.args.at c.requires (λ i. (c.type_inv.s i).fits) _ (ap pair_by (c.pair_key.ensures ∙ (rw c.byte_at.ensures))) _ refl (known_none c.in_default.ensures) (known_none c.in_default-lone_sign.ensures) in
    sym (ap (mark_of c.args.at) e)
