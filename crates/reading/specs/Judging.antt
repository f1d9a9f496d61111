-- What judging a script answers: its counts, or a refusal.
use Rattle.std.specs.Prelude.{Result, Ok, Err, List, ℕ, length}
use Rattle.tokens.specs.Text.{script}
use Rattle.tokens.specs.Names.{Lists}
use Rattle.tokens.specs.Tokens.{scan, tokens, end_of}
use Rattle.reading.specs.Meets.{listed}
use Rattle.grammar.specs.Grammar.{Edition}
use Rattle.grammar.specs.Script.{Outcome, accepted, refused, of_tokens, read_script, nodes, tokens_of}
use Rattle.tokens.specs.Refusals.{number_of}
use Rattle.tokens.specs.declared.refusals.Refusal.{Refusal}
use Rattle.reading.specs.declared.judging.Counts.{Counts}

abbrev pub lists_in : List ℕ → List ℕ → List ℕ → Lists
lists_in reserved currencies counters = record { reserved = reserved; currencies = currencies; counters = counters }

-- what a reading holds, or a refusal: its number and its byte
pub data Judged : Type 0 where
  good : Counts → Judged
  rejected : ℕ → ℕ → Judged

-- as the code answers it
abbrev pub judged : Result Counts Refusal → Judged
judged (Ok c) = good c
judged (Err e) = rejected (number_of e.cause) e.byte

-- a text of n bytes, whose last token ends at e
abbrev pub judged_of : ℕ → ℕ → Outcome → Judged
judged_of n e (accepted es) =
    good (record { bytes = n; statements = length es; records = nodes es; tokens = tokens_of es; last = e })
judged_of n e (refused k p) = rejected k p

-- where the last token of a text ends
abbrev pub last_end : List ℕ → ℕ
last_end s = end_of 0 (listed (scan 0 0 s))

-- of a script: 1 to 15
unfoldable pub judgement : Edition → Lists → List ℕ → Judged
judgement E l bs = judged_of (length (script bs)) (last_end (script bs)) (read_script E l bs)

-- of a text that is no longer than a script, with lists that are well formed: 3 to 15
unfoldable pub text_judgement : Edition → Lists → List ℕ → Judged
text_judgement E l s = judged_of (length s) (last_end s) (of_tokens E l (length s) (tokens s))
