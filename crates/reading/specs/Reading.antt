-- What reading a script into lent memory answers, and what it leaves there.
use Rattle.std.specs.Prelude.{◌≡◌, Result, Ok, Err, List, ◌++◌, map, ℕ, length, drop}
use Rattle.tokens.specs.Text.{script}
use Rattle.tokens.specs.Names.{Lists}
use Rattle.tokens.specs.Places.{line, column}
use Rattle.grammar.specs.Sizes.{record_room, statement_room}
use Rattle.grammar.specs.Grammar.{Edition}
use Rattle.grammar.specs.Script.{Entry, Outcome, accepted, refused, reading_in, number_of, reading}
use Rattle.grammar.specs.Words.{words_of, row_of, directory_of, latest_of}
use Rattle.reading.specs.Judging.{Judged, good, rejected, judged_of, last_end}
use Rattle.tokens.specs.Refusals.{number_of as ground_number}
use Rattle.tokens.specs.declared.refusals.Refusal.{Refusal}
use Rattle.reading.specs.declared.judging.Counts.{Counts}
use Rattle.reading.specs.declared.reading.Answer.{Answer}

-- Accepted: 0, 0, 1, 1, the counts, the script's latest date, and the number of its edition
abbrev pub accepted_with : ℕ → Counts → ℕ → Answer
accepted_with e c x = record {
  number = 0;
  byte = 0;
  line = 1;
  column = 1;
  bytes = c.bytes;
  statements = c.statements;
  records = c.records;
  tokens = c.tokens;
  latest = x;
  edition = e;
}

-- a refusal: number, byte, line, column; the counts are 0, and so are the latest date and the edition
abbrev pub refused_at : List ℕ → ℕ → ℕ → Answer
refused_at bs k p = record {
  number = k;
  byte = p;
  line = line bs p;
  column = column bs p;
  bytes = 0;
  statements = 0;
  records = 0;
  tokens = 0;
  latest = 0;
  edition = 0;
}

-- the numbers of a judgement, the latest date, and the edition
abbrev pub answer_of : ℕ → List ℕ → ℕ → Judged → Answer
answer_of e bs x (good c) = accepted_with e c x
answer_of e bs x (rejected k p) = refused_at bs k p

-- the latest date of what is read: the greatest of the entries'
abbrev pub latest_by : Outcome → ℕ
latest_by (accepted es) = latest_of (map row_of es)
latest_by (refused k p) = 0

-- what is answered of the script bs, of the edition e, read as x
abbrev pub answer_to : ℕ → List ℕ → Outcome → Answer
answer_to e bs x = answer_of e bs (latest_by x) (judged_of (length (script bs)) (last_end (script bs)) x)

-- what the code answers of a script that it accepts or refuses
abbrev pub answered : List ℕ → Result Answer Refusal → Answer
answered bs (Ok a) = a
answered bs (Err e) = refused_at bs (ground_number e.cause) e.byte

-- words at the front of lent memory: those past them are unchanged
abbrev pub over : List ℕ → List ℕ → List ℕ
over ws o = ws ++ drop (length ws) o

-- lent memory after a reading: a refusal changes none of it
abbrev pub left_by : (List Entry → List ℕ) → List ℕ → Outcome → List ℕ
left_by words o (accepted es) = over (words es) o
left_by words o (refused k p) = o

-- the answer, the records o' and the directory d' where the script bs, of the edition e, is read as x, over the records o and the directory d
pub record LeavesBy (e : ℕ) (x : Outcome) (bs o d : List ℕ) (r : Answer) (o' d' : List ℕ) : Type 0 where
  pub answer : r ≡ answer_to e bs x
  pub records : o' ≡ left_by words_of o x
  pub directory : d' ≡ left_by directory_of d x

-- a script read in an edition, with room for what the lent words hold
abbrev pub LeavesIn : Edition → Lists → List ℕ → List ℕ → List ℕ → Answer → List ℕ → List ℕ → Type 0
LeavesIn E l bs o d = LeavesBy (number_of E) (reading_in E l (record_room (length o)) (statement_room (length d)) bs) bs o d

-- by the edition's number
abbrev pub read_into : ℕ → Lists → List ℕ → List ℕ → List ℕ → Outcome
read_into e l bs o d = reading e l (record_room (length o)) (statement_room (length d)) bs

abbrev pub Leaves : ℕ → Lists → List ℕ → List ℕ → List ℕ → Answer → List ℕ → List ℕ → Type 0
Leaves e l bs o d = LeavesBy e (read_into e l bs o d) bs o d
