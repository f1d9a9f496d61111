-- The listing of a script.
use Rattle.std.specs.Prelude.{List, [], ◌∷◌, ◌++◌, ℕ, ◌+◌, ◌*◌, eqb, if◌then◌else◌}
use Rattle.tokens.specs.Names.{Lists}
use Rattle.grammar.specs.Sizes.{most_records, most_statements}
use Rattle.grammar.specs.Grammar.{one}
use Rattle.grammar.specs.Script.{Outcome, accepted, refused, reading_in, number_of}
use Rattle.grammar.specs.Words.{words_of}
use Rattle.reading.specs.Judging.{lists_in}
use Rattle.reading.specs.Reading.{answer_to}
use Rattle.reading.specs.declared.reading.Answer.{Answer}
use Rattle.listing.specs.Lines.{word_bytes, record_bytes, line, record_lines}

-- "no reserved words; USD, EUR; no day counters"
abbrev pub own_lists : Lists
own_lists = lists_in [] (85 ∷ 83 ∷ 68 ∷ 10 ∷ 69 ∷ 85 ∷ 82 ∷ 10 ∷ []) []

-- "statements, records, tokens; then a record a line"
unfoldable pub accepted_lines : Answer → List ℕ → List ℕ
accepted_lines a ws = line (a.statements ∷ a.records ∷ a.tokens ∷ []) ++ record_lines a.records ws

-- "Refused: one line, number, byte, line, column."
unfoldable pub refused_line : Answer → List ℕ
refused_line a = line (a.number ∷ a.byte ∷ a.line ∷ a.column ∷ [])

-- of an answer and the words of its records
abbrev pub answer_lines : Answer → List ℕ → List ℕ
answer_lines a ws = if eqb a.number 0 then accepted_lines a ws else refused_line a

-- the words of what was read; a refusal has none
abbrev pub words_read : Outcome → List ℕ
words_read (accepted es) = words_of es
words_read (refused k p) = []

-- of a reading of the bytes bs, in the first edition
abbrev pub reading_lines : List ℕ → Outcome → List ℕ
reading_lines bs R = answer_lines (answer_to (number_of one) bs R) (words_read R)

-- of a script of the first edition, with room for all that the capacities allow
unfoldable pub listing : List ℕ → List ℕ
listing bs = reading_lines bs (reading_in one own_lists most_records most_statements bs)

-- how long a listing can be: the line of three words, and one for each record that there may be
abbrev pub longest : ℕ
longest = word_bytes * 3 + record_bytes * most_records
