-- The verdict on an amendment.
use Rattle.std.specs.Prelude.{Result, Ok, Err, ℕ}
use Rattle.tokens.specs.Refusals.{number_of}
use Rattle.tokens.specs.declared.refusals.Ground.{Ground}
use Rattle.tokens.specs.declared.refusals.Refusal.{Refusal}
use Rattle.reading.specs.declared.judging.Counts.{Counts}
use Rattle.amending.specs.declared.held.Held.{Held}
use Rattle.amending.specs.declared.grounds.Fit.{Fit}

-- what the new text holds, and what is used with it in place, but for the latest date; or a refusal: its number, and its byte in the new text
pub data Verdict : Type 0 where
  Fits : Counts → Held → Verdict
  Refused : ℕ → ℕ → Verdict

-- as the code answers it
abbrev pub as_verdict : Result Fit Refusal → Verdict
as_verdict (Ok f) = Fits f.counts f.whole
as_verdict (Err e) = Refused (number_of e.cause) e.byte

-- as the code answers it of a text that holds c, all of whose refusals lie at its end
abbrev pub as_fitting : Counts → Result Held Ground → Verdict
as_fitting c (Ok w) = Fits c w
as_fitting c (Err g) = Refused (number_of g) c.bytes
