-- The call on lent memory: three slices, the counts that say how much of each is used, the script's latest date, and the number of its edition.
use Rattle.std.specs.Prelude.{◌≡◌, Bool, ◌&&◌, ◌||◌, not, List, ℕ, ◌*◌, min, leb, eqb, length, take, if◌then◌else◌}
use Rattle.tokens.specs.Limits.{most_bytes, most_tokens}
use Rattle.tokens.specs.Names.{Lists}
use Rattle.tokens.specs.Places.{line, column}
use Rattle.grammar.specs.Sizes.{record_width, entry_width, record_room, statement_room}
use Rattle.grammar.specs.Script.{numbered}
use Rattle.grammar.specs.Words.{rows_words}
use Rattle.reading.specs.declared.reading.Answer.{Answer}
use Rattle.amending.specs.Amending.{Rooms}
use Rattle.amending.specs.Lent.{Lent, Handed, handed, unchanged, sum_records, amend_lent}
use Rattle.amending.specs.Moves.{leave}
use Rattle.amending.specs.Entries.{rows_from}
use Rattle.amending.specs.declared.held.Held.{Held}
use Rattle.amending.specs.declared.memory.Memory.{Memory as Slices}
use Rattle.amending.specs.declared.rooms.Rooms.{Rooms as Most}

-- what is lent, whole
pub record Memory : Type 0 where
  pub script : List ℕ
  pub records : List ℕ
  pub directory : List ℕ

abbrev pub memory : List ℕ → List ℕ → List ℕ → Memory
memory s r d = record { script = s; records = r; directory = d }

-- as the code is lent it
abbrev pub as_memory : Slices → Memory
as_memory m = memory m.script.now m.records.now m.directory.now

-- the slices are the same ones, whatever they hold
pub record SameSlices (m m' : Slices) : Type 0 where
  pub script : m'.script.ghost_name ≡ m.script.ghost_name
  pub records : m'.records.ghost_name ≡ m.records.ghost_name
  pub directory : m'.directory.ghost_name ≡ m.directory.ghost_name

-- capacity or lent room, of slices of so many bytes and words
abbrev pub rooms_of : ℕ → ℕ → ℕ → Rooms
rooms_of s r d = record { bytes = min most_bytes s; tokens = most_tokens; records = record_room r; statements = statement_room d }

abbrev pub rooms_in : Memory → Rooms
rooms_in M = rooms_of (length M.script) (length M.records) (length M.directory)

-- the rooms as the code has them
abbrev pub as_rooms : Most → Rooms
as_rooms r = record { bytes = r.bytes; tokens = r.tokens; records = r.records; statements = r.statements }

-- what is used of it
abbrev pub used_in : Memory → Held → Lent
used_in M h = record {
  script = take h.bytes M.script;
  rows = rows_from h.statements M.directory;
  words = take (record_width * h.records) M.records;
  tokens = h.tokens;
  latest = h.latest;
}

-- 20: bytes and counts within capacity and the lent slices
unfoldable pub within : Rooms → Held → Bool
within R h = leb h.bytes R.bytes && (leb h.tokens R.tokens && (leb h.records R.records && leb h.statements R.statements))

-- 26: there is an edition of this number
abbrev pub is_edition : ℕ → Bool
is_edition e = eqb e 1 || eqb e 2

-- The call: the k-th statement's text is replaced by n. The script keeps its edition: the new text is read in the one whose number was lent with the counts.
-- 26, at byte 0, where there is none of this number, before all others
unfoldable pub amend_in : Lists → Memory → Held → ℕ → List ℕ → Handed
amend_in l M h k n =
    numbered h.edition (unchanged 26 0) λ E. if not (within (rooms_in M) h) then unchanged 20 0 else amend_lent E l (rooms_in M) (used_in M h) k n

-- ---- what the call answers and leaves

-- accepted: 0, 0, 1, 1, the counts of the whole, its latest date, and its edition
abbrev pub accepted_with : Held → Answer
accepted_with w = record {
  number = 0;
  byte = 0;
  line = 1;
  column = 1;
  bytes = w.bytes;
  statements = w.statements;
  records = w.records;
  tokens = w.tokens;
  latest = w.latest;
  edition = w.edition;
}

-- a refusal: number, byte, line and column in the new text; the old counts, the old date, and the edition as it was lent, whatever it is
abbrev pub refused_at : Held → List ℕ → ℕ → ℕ → Answer
refused_at h n k p = record {
  number = k;
  byte = p;
  line = line n p;
  column = column n p;
  bytes = h.bytes;
  statements = h.statements;
  records = h.records;
  tokens = h.tokens;
  latest = h.latest;
  edition = h.edition;
}

-- how much is used, the latest date, and the edition e
abbrev pub held_by : ℕ → Lent → Held
held_by e L =
    record { bytes = length L.script; statements = length L.rows; records = sum_records L.rows; tokens = L.tokens; latest = L.latest; edition = e }

-- the same with another latest date
abbrev pub dated : ℕ → Held → Held
dated x h = record { bytes = h.bytes; statements = h.statements; records = h.records; tokens = h.tokens; latest = x; edition = h.edition }

-- the edition of an answer is the one that was lent, whatever comes of the call
abbrev pub answered : Held → List ℕ → Handed → Answer
answered h n (handed L) = accepted_with (held_by h.edition L)
answered h n (unchanged k p) = refused_at h n k p

-- lent memory after the call: a refusal changes none of it
abbrev pub left_in : Memory → Held → Handed → Memory
left_in M h (handed L) = record {
  script = leave L.script h.bytes M.script;
  records = leave L.words (record_width * h.records) M.records;
  directory = leave (rows_words L.rows) (entry_width * h.statements) M.directory;
}
left_in M h (unchanged k p) = M

-- the answer and the memory after the call
pub record Amends (l : Lists) (M : Memory) (h : Held) (k : ℕ) (n : List ℕ) (r : Answer) (M' : Memory) : Type 0 where
  pub answer : r ≡ answered h n (amend_in l M h k n)
  pub memory : M' ≡ left_in M h (amend_in l M h k n)
