-- What the scan of a whole text finds, and what the code answers of it.
use Rattle.std.specs.Prelude.{ℕ, Result, Ok, Err}
use Rattle.tokens.specs.Refusals.{number_of}
use Rattle.tokens.specs.declared.refusals.Refusal.{Refusal}
use Rattle.tokens.specs.declared.scanning.Summary.{Summary}

-- how many tokens there are and the last one's end, or the number of the ground of the first refusal, and the place
pub data Scanned : Type 0 where
  Counted : ℕ → ℕ → Scanned
  Refused : ℕ → ℕ → Scanned

abbrev pub as_scanned : Result Summary Refusal → Scanned
as_scanned (Ok n) = Counted n.tokens n.last
as_scanned (Err e) = Refused (number_of e.cause) e.byte
