-- What the reader of a whole script answers, in terms of the definition.
use Rattle.std.specs.Prelude.{◌≡◌, false, Result, Ok, Err, List, [], ◌∷◌, ◌++◌, map, ℕ, ◌-◌, ◌*◌, ◌≤◌, length}
use Rattle.tokens.specs.Limits.{most_bytes}
use Rattle.tokens.specs.Tokens.{Token, lexed, scan}
use Rattle.tokens.specs.Refusals.{number_of}
use Rattle.tokens.specs.declared.cursor.Cursor.{Cursor}
use Rattle.tokens.specs.declared.refusals.Refusal.{Refusal}
use Rattle.grammar.specs.Sizes.{record_width}
use Rattle.grammar.specs.Script.{Entry, Outcome, accepted, refused, nodes}
use Rattle.grammar.specs.Words.{row_of, row_words, latest_of}
use Rattle.reading.specs.Rows.{rows, put_rows, put_entries}
use Rattle.reading.specs.declared.answers.All.{All}

-- a text that is no longer than a script and has no fault
pub record Clean (t : List ℕ) : Type 0 where
  pub short : length t ≤ most_bytes
  pub tokens : List Token
  pub scanned : scan 0 0 t ≡ lexed tokens

-- the same token, with places from its own first byte
abbrev pub rebase : Cursor → Cursor
rebase c = record { start = 0; end = c.end - c.start; taken = 0; last = 0; code = c.code; broken = false }

-- the records of all statements, and the words of their entries
abbrev pub rows_in : List Entry → List (List ℕ)
rows_in [] = []
rows_in (e ∷ es) = rows e.tree ++ rows_in es

abbrev pub entries_in : List Entry → List (List ℕ)
entries_in es = map (λ e. row_words (row_of e)) es

-- k statements with n records, whose latest date is x. Dates are found in the records that were written, so that only where all of these have room the entries
-- and x are known
pub record ReadsAll (R : Outcome) (o d : List ℕ) (k n x : ℕ) (o' d' : List ℕ) : Type 0 where
  pub entries : List Entry
  pub is : R ≡ accepted entries
  pub statements_are : k ≡ length entries
  pub records_are : n ≡ nodes entries
  pub records : o' ≡ put_rows o 0 (rows_in entries)
  pub directory : record_width * n ≤ length o → d' ≡ put_entries d 0 (entries_in entries)
  pub latest : record_width * n ≤ length o → x ≡ latest_of (map row_of entries)

abbrev pub MeetsAll : Outcome → List ℕ → List ℕ → Result All Refusal → List ℕ → List ℕ → Type 0
MeetsAll R o d (Ok a) o' d' = ReadsAll R o d a.statements a.records a.latest o' d'
MeetsAll R o d (Err e) o' d' = R ≡ refused (number_of e.cause) e.byte
