-- Views of a script: where a walk from token to token gets.
use Rattle.std.specs.Prelude.{List, ℕ, zero, suc}
use Rattle.std.specs.Borrow.{Bor}
use Rattle.tokens.specs.Lexing.{step_at}
use Rattle.tokens.specs.Found.{Found}
use Rattle.tokens.specs.Found as found
use Rattle.tokens.specs.declared.views.View.{View}

-- the place behind what the token step found. The end ends where it starts, and a refused place is not passed
abbrev pub passed : Found → ℕ
passed (found.Token t) = t.end
passed (found.Refused f p) = p

-- the place behind so many tokens from a place on
unfoldable pub place_after : List ℕ → ℕ → ℕ → ℕ
place_after s at zero = at
place_after s at (suc k) = place_after s (passed (step_at s at)) k

-- the token behind so many from the start
abbrev pub token_after : List ℕ → ℕ → Found
token_after s k = step_at s (place_after s 0 k)

-- ---- views: the slice is the one that was lent

abbrev pub view_at : Bor (List ℕ) → ℕ → View
view_at s at = record { script = s; at = at }

abbrev pub moved : View → ℕ → View
moved v k = view_at v.script (place_after v.script.now v.at k)
