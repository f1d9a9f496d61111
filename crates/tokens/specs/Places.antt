-- Where a byte stands, as people count.
use Rattle.std.specs.Prelude.{List, [], ◌∷◌, ℕ, suc, eqb, take, if◌then◌else◌}
use Rattle.tokens.specs.Text.{count, continuation}
use Rattle.tokens.specs.declared.places.Place.{Place}

-- line is 1 plus the line feeds before
unfoldable pub line : List ℕ → ℕ → ℕ
line bs at = suc (count (eqb 10) (take at bs))

-- how many characters begin behind the last line feed, k of them counted so far: a continuation byte begins none
unfoldable pub since : ℕ → List ℕ → ℕ
since k [] = k
since k (b ∷ bs) = since (if eqb 10 b then 0 else (if continuation b then k else suc k)) bs

-- column is 1 plus the characters since the last line feed
unfoldable pub column : List ℕ → ℕ → ℕ
column bs at = suc (since 0 (take at bs))

abbrev pub place_of : List ℕ → ℕ → Place
place_of bs at = record { line = line bs at; column = column bs at }
