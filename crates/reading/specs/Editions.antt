-- The editions as the code has them, and the edition that a number names.
use Rattle.std.specs.Prelude.{◌≡◌, Bool, true, false, Result, MatchResult, ℕ}
use Rattle.tokens.specs.declared.refusals.Ground.{Ground}
use Rattle.tokens.specs.declared.refusals.Ground.TheVariants as ground
use Rattle.grammar.specs.Grammar.{Edition}
use Rattle.grammar.specs.Script.{number_of}
use Rattle.reading.specs.Meets.{edition_by}
use Rattle.reading.specs.declared.editions.Edition.{Edition as Lent}
use Rattle.reading.specs.declared.editions.Edition.TheVariants as lent

-- whether it is the second
abbrev pub second_of : Lent → Bool
second_of lent.One = false
second_of lent.Two = true

-- the definition's edition
abbrev pub edition_of : Lent → Edition
edition_of e = edition_by (second_of e)

-- the edition of this number; or 26, where the number is neither 1 nor 2
abbrev pub Named : ℕ → Result Lent Ground → Type 0
Named n r = MatchResult r (λ e. n ≡ number_of (edition_of e)) (λ g. (g ≡ ground.Edition) × (n ≡ 1 → ⊥) × (n ≡ 2 → ⊥))
