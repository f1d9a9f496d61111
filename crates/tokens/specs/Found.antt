-- What the token step finds, and what the code answers of it.
use Rattle.std.specs.Prelude.{ℕ, Result, Ok, Err}
use Rattle.tokens.specs.Refusals.{number_of}
use Rattle.tokens.specs.declared.refusals.Refusal.{Refusal}
use Rattle.tokens.specs.declared.scanning.Token.{Token as Piece}

-- a token, or the number of the ground on which the text is refused, and the place
pub data Found : Type 0 where
  Token : Piece → Found
  Refused : ℕ → ℕ → Found

abbrev pub as_found : Result Piece Refusal → Found
as_found (Ok t) = Token t
as_found (Err e) = Refused (number_of e.cause) e.byte
