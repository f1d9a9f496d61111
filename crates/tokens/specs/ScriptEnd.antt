-- Where a script ends, and what the code answers of it.
use Rattle.std.specs.Prelude.{ℕ, Result, Ok, Err}
use Rattle.tokens.specs.Refusals.{number_of}
use Rattle.tokens.specs.declared.refusals.Refusal.{Refusal}

-- how many bytes the script has, or the number of the ground on which it is refused, and the byte
pub data ScriptEnd : Type 0 where
  At : ℕ → ScriptEnd
  Refused : ℕ → ℕ → ScriptEnd

abbrev pub as_end : Result ℕ Refusal → ScriptEnd
as_end (Ok n) = At n
as_end (Err e) = Refused (number_of e.cause) e.byte
