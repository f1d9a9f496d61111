-- Answers, places and days as words of 32 bits, and what each exported call leaves of all that it is lent.
use Rattle.std.specs.Prelude.{◌≡◌, cond, List, [], ◌∷◌, ℕ, ◌%◌, ◌^◌, ◌<◌, get_or}
use Rattle.calendar.specs.declared.days.Day.{Day}
use Rattle.tokens.specs.Names.{Lists}
use Rattle.reading.specs.Reading.{Leaves}
use Rattle.reading.specs.declared.reading.Answer.{Answer}
use Rattle.reading.specs.declared.parts.Place.{Place}
use Rattle.amending.specs.Memory.{Memory, Amends}
use Rattle.amending.specs.declared.held.Held.{Held}

-- the low word of a number. No number of an answer is lost by it (`Linked.read_words`, `Linked.amend_words`)
abbrev pub word : ℕ → ℕ
word n = n % 2 ^ 32

-- number, byte, line, column, bytes, statements, records, tokens, latest date, edition
unfoldable pub answer_words : Answer → List ℕ
answer_words a =
    a.number ∷ word a.byte ∷ word a.line ∷ word a.column ∷ word a.bytes ∷ word a.statements ∷ word a.records ∷ word a.tokens ∷ word a.latest ∷ a.edition ∷ []

-- the number of an answer: 0 where the call was accepted
abbrev pub number_in : List ℕ → ℕ
number_in ws = get_or ws 0 0

-- how much of the memory is used, the script's latest date, and its edition: the last six words of an answer
unfoldable pub held_in : List ℕ → Held
held_in ws =
    record { bytes = get_or ws 4 0; statements = get_or ws 5 0; records = get_or ws 6 0; tokens = get_or ws 7 0; latest = get_or ws 8 0; edition = get_or ws 9 0 }

-- of the script (0) or of the list of currencies (1), first byte, length
unfoldable pub place_words : Place → List ℕ
place_words p = cond p.in_list 1 0 ∷ word p.from ∷ word p.size ∷ []

-- year, month, day
unfoldable pub day_words : Day → List ℕ
day_words d = d.year ∷ d.month ∷ d.day ∷ []

-- the day that such words are
unfoldable pub day_in : List ℕ → Day
day_in ws = record { year = get_or ws 0 0; month = get_or ws 1 0; day = get_or ws 2 0 }

-- a script bs read in the edition of the number e into the records o and the directory d: the words of the answer, and what is left in both
pub record Reads (e : ℕ) (l : Lists) (bs o d ws o' d' : List ℕ) : Type 0 where
  pub answer : Answer
  pub leaves : Leaves e l bs o d answer o' d'
  pub words : ws ≡ answer_words answer

-- the statement k of the memory M, of which the words vs say how much is used and in what edition, replaced by the text n
pub record Replaces (l : Lists) (M : Memory) (vs : List ℕ) (k : ℕ) (n ws : List ℕ) (M' : Memory) : Type 0 where
  pub answer : Answer
  pub amends : Amends l M (held_in vs) k n answer M'
  pub words : ws ≡ answer_words answer

-- ---- what is said of calls

-- words of 32 bits, as those of a lent array are
abbrev pub AreWords : List ℕ → Type 0
AreWords vs = (i : ℕ) → get_or vs i 0 < 2 ^ 32

-- the numbers of an answer, whole
abbrev pub numbers : Answer → List ℕ
numbers a = a.number ∷ a.byte ∷ a.line ∷ a.column ∷ a.bytes ∷ a.statements ∷ a.records ∷ a.tokens ∷ a.latest ∷ a.edition ∷ []

-- calls of `script_amend` one after the other, each lent the words that the one before it answered; refused ones among them
pub data Runs (l : Lists) : Memory → List ℕ → List (ℕ × List ℕ) → Memory → List ℕ → Type 0 where
  none : {M : Memory} {vs : List ℕ} → Runs l M vs [] M vs
  call : {M M₁ M₂ : Memory} {vs ws xs n : List ℕ} {k : ℕ} {cs : List (ℕ × List ℕ)} → Replaces l M vs k n ws M₁ → Runs l M₁ ws cs M₂ xs → Runs l M vs ((k, n) ∷ cs) M₂ xs
