-- An operand joined to those before it by the record of the sign between them, at the place b. The first has no sign before it, which counts as 0.
use Rattle.std.specs.Prelude.{◌≡◌, Option, Some, None, List, ℕ, ◌+◌, ◌-◌}
use Rattle.grammar.specs.Trees.{none as unused, row}
use Rattle.reading.specs.Rows.{put_row}
use Rattle.reading.specs.declared.records.Joined.{Joined}

-- the code of the sign
abbrev pub sign_or_0 : Option ℕ → ℕ
sign_or_0 None = 0
sign_or_0 (Some k) = k

abbrev pub Joins : List ℕ → ℕ → ℕ → ℕ → Option ℕ → ℕ → Joined → List ℕ → Type 0
Joins o sign n m p b r o' =
    (sign ≡ 0 → (r.records ≡ m) × (r.string ≡ p) × (o' ≡ o))
    × ((sign ≡ 0 → ⊥) → (r.records ≡ m + 1) × (r.string ≡ None) × (o' ≡ put_row o m (row sign (m - n + 1) 2 unused b)))
