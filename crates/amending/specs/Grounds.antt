-- What the verdict of the code on an amendment means.
use Rattle.std.specs.Prelude.{◌≡◌, Result, Ok, Err, Bool, true, ◌&&◌, ◌||◌, not, List, ℕ, ◌+◌, ◌-◌, ◌*◌, ◌≤◌, ◌<◌, T, leb, eqb, length, get_or, if◌then◌else◌}
use Rattle.tokens.specs.Limits.{most_bytes, most_tokens}
use Rattle.tokens.specs.Names.{Lists}
use Rattle.grammar.specs.Sizes.{record_width, entry_width, most_records, most_statements}
use Rattle.grammar.specs.Grammar.{Edition}
use Rattle.grammar.specs.Script.{Entry, accepted, read_script, no_zero, nodes, number_of}
use Rattle.grammar.specs.Words.{latest_of}
use Rattle.tokens.specs.Refusals.{number_of as number}
use Rattle.tokens.specs.declared.refusals.Ground.{Ground}
use Rattle.reading.specs.Editions.{edition_of}
use Rattle.reading.specs.declared.judging.Counts.{Counts}
use Rattle.reading.specs.declared.reading.Answer.{Answer}
use Rattle.amending.specs.Amending.{Rooms}
use Rattle.amending.specs.Lent.{Handed, handed, unchanged, ascending, sum_records, sum_tokens, swapped}
use Rattle.amending.specs.Memory.{Memory, rooms_in, used_in, within, amend_in, is_edition, held_by, dated, left_in, accepted_with, refused_at}
use Rattle.amending.specs.Entries.{rows_from, pick_at}
use Rattle.amending.specs.declared.held.Held.{Held}
use Rattle.amending.specs.declared.rows.Row.{Row}
use Rattle.amending.specs.declared.grounds.Chosen.{Chosen}
use Rattle.amending.specs.Verdict.{Verdict}
use Rattle.amending.specs.Verdict as verdict

-- 18 of a text with c tokens, whose last ends at the byte e: its last byte, and the byte before that end, tell
abbrev pub ends_whole : List ℕ → ℕ → Bool
ends_whole n e = eqb (length n) 0 || eqb (get_or n (length n - 1) 0) 10 || eqb e (length n)

abbrev pub ends_shut : List ℕ → ℕ → ℕ → Bool
ends_shut n e c = eqb c 0 || (eqb 59 (get_or n (e - 1) 0) || eqb 125 (get_or n (e - 1) 0))

abbrev pub ends_at : List ℕ → ℕ → ℕ → Bool
ends_at n e c = ends_whole n e && ends_shut n e c

-- the entry at an index, as the code has it
abbrev pub words_at : List ℕ → ℕ → Row
words_at d i =
    record { start = get_or d i 0; end = get_or d (i + 1) 0; records = get_or d (i + 2) 0; tokens = get_or d (i + 3) 0; latest = get_or d (i + 4) 0 }

-- 20 of a directory: it has as many entries as are held, in order, with these totals and this latest date
abbrev pub has_order : List ℕ → Held → Bool
has_order d h =
    leb (entry_width * h.statements) (length d)
    && (ascending 0 h.bytes (rows_from h.statements d)
    && (eqb h.records (sum_records (rows_from h.statements d))
    && (eqb h.tokens (sum_tokens (rows_from h.statements d))
    && eqb h.latest (latest_of (rows_from h.statements d)))))

-- an entry of what is used: it lies inside, and its records and tokens are among those that are counted
pub record Stands (h : Held) (e : Row) : Type 0 where
  pub starts : e.start ≤ e.end
  pub ends : e.end ≤ h.bytes
  pub some : 1 ≤ h.statements
  pub records : e.records ≤ h.records
  pub tokens : e.tokens ≤ h.tokens
  pub bounded : (h.bytes ≤ most_bytes) × (h.statements ≤ most_statements) × (h.records ≤ most_records) × (h.tokens ≤ most_tokens)

-- a text that is within the capacities
abbrev pub Few : Counts → Type 0
Few c = (c.bytes ≤ most_bytes) × (c.statements ≤ most_statements) × (c.records ≤ most_records) × (c.tokens ≤ most_tokens)

-- where the last token of a text ends
abbrev pub Ends : List ℕ → Counts → Type 0
Ends n c = (c.last ≤ length n) × ((c.tokens ≡ 0 → ⊥) → 1 ≤ c.last)

-- what is used of memory that holds the new text alone; its latest date and its edition are not asked for
abbrev pub alone : Counts → Held
alone c = record { bytes = c.bytes; statements = c.statements; records = c.records; tokens = c.tokens; latest = 0; edition = 0 }

-- what is used with the new text in place of an entry; the latest date is told by the entries, once they are there
abbrev pub totals : Held → Row → Counts → Held
totals h e c = record {
  bytes = h.bytes - (e.end - e.start) + c.bytes;
  statements = h.statements - 1 + c.statements;
  records = h.records - e.records + c.records;
  tokens = h.tokens - e.tokens + c.tokens;
  latest = 0;
  edition = h.edition;
}

-- 18, and 16 over the totals
unfoldable pub fitting_by : Rooms → Held → Row → List ℕ → Counts → Verdict
fitting_by R h e n c =
    if not (ends_at n c.last c.tokens) then verdict.Refused 18 c.bytes
    else if not (within R (alone c)) then verdict.Refused 16 c.bytes
    else if not (within R (totals h e c)) then verdict.Refused 16 c.bytes
    else verdict.Fits c (totals h e c)

-- the latest date of what a call hands back
abbrev pub latest_then : Handed → ℕ
latest_then (handed L) = L.latest
latest_then (unchanged f p) = 0

-- an amendment that is made: the new text is read in the edition whose number was lent, and w is used then, with the latest date of the entries
pub record Fits (l : Lists) (M : Memory) (h : Held) (k : ℕ) (n : List ℕ) (c : Counts) (w : Held) : Type 0 where
  pub edition : Edition
  pub named : h.edition ≡ number_of edition
  pub entries : List Entry
  pub there : k < h.statements
  pub clear : T (no_zero n)
  pub reads : read_script edition l n ≡ accepted entries
  pub bytes_are : c.bytes ≡ length n
  pub statements_are : c.statements ≡ length entries
  pub records_are : c.records ≡ nodes entries
  pub holds : within (rooms_in M) h ≡ true
  pub ordered : ascending 0 h.bytes (rows_from h.statements M.directory) ≡ true
  pub records_sum : h.records ≡ sum_records (rows_from h.statements M.directory)
  pub tokens_sum : h.tokens ≡ sum_tokens (rows_from h.statements M.directory)
  pub latest_is : h.latest ≡ latest_of (rows_from h.statements M.directory)
  pub whole : w ≡ totals h (words_at M.directory (entry_width * k)) c
  pub held_then : dated (latest_then (amend_in l M h k n)) w ≡ held_by h.edition (swapped (used_in M h) (pick_at k h.statements M.directory) n entries)
  pub fits : within (rooms_in M) w ≡ true
  pub is : amend_in l M h k n ≡ handed (swapped (used_in M h) (pick_at k h.statements M.directory) n entries)

-- the same in numbers: each part lies in what is used, and what is used then has room
pub record Ready (s o d : List ℕ) (h : Held) (k : ℕ) (n : List ℕ) (c : Counts) : Type 0 where
  pub there : k < h.statements
  pub directory : entry_width * h.statements ≤ length d
  pub records : record_width * h.records ≤ length o
  pub bytes : h.bytes ≤ length s
  pub starts : get_or d (entry_width * k) 0 ≤ get_or d (entry_width * k + 1) 0
  pub ends : get_or d (entry_width * k + 1) 0 ≤ h.bytes
  pub among : sum_records (rows_from k d) + get_or d (entry_width * k + 2) 0 ≤ h.records
  pub bounded : (h.bytes ≤ most_bytes) × (h.statements ≤ most_statements) × (h.records ≤ most_records)
  pub few : (length n ≤ most_bytes) × (c.statements ≤ most_statements) × (c.records ≤ most_records)
  pub script_room : get_or d (entry_width * k) 0 + length n + (h.bytes - get_or d (entry_width * k + 1) 0) ≤ length s
  pub record_room : record_width * (sum_records (rows_from k d) + c.records + (h.records - (sum_records (rows_from k d) + get_or d (entry_width * k + 2) 0))) ≤ length o
  pub entry_room : entry_width * (k + c.statements + (h.statements - (k + 1))) ≤ length d

-- an amendment x that was made: its latest date r, and the memory M' that it left of M
pub record Left (h : Held) (x : Handed) (M : Memory) (r : ℕ) (M' : Memory) : Type 0 where
  pub latest : r ≡ latest_then x
  pub memory : M' ≡ left_in M h x

-- the answer that a verdict stands for: 0 and what is used then, with the latest date x; or its number, at its byte of the new text, and the old counts, date and edition
abbrev pub answer_by : Held → List ℕ → ℕ → Verdict → Answer
answer_by h n x (verdict.Fits c w) = accepted_with (dated x w)
answer_by h n x (verdict.Refused f p) = refused_at h n f p

-- what is asked before the new text is read
pub record Admits (M : Memory) (h : Held) (k : ℕ) (n : List ℕ) : Type 0 where
  pub edition : is_edition h.edition ≡ true
  pub holds : within (rooms_in M) h ≡ true
  pub ordered : has_order M.directory h ≡ true
  pub there : k < h.statements
  pub clear : no_zero n ≡ true

-- the edition that is held and the entry that is replaced; or a refusal at byte 0, whatever lists are lent
abbrev pub MeetsGround : Memory → Held → ℕ → List ℕ → Result Chosen Ground → Type 0
MeetsGround M h k n (Ok a) = Admits M h k n × (a.row ≡ words_at M.directory (entry_width * k)) × (h.edition ≡ number_of (edition_of a.edition))
MeetsGround M h k n (Err g) = (l : Lists) → amend_in l M h k n ≡ unchanged (number g) 0

-- what each case says of the call
abbrev pub MeetsVerdict : Lists → Memory → Held → ℕ → List ℕ → Verdict → Type 0
MeetsVerdict l M h k n (verdict.Fits c w) = Fits l M h k n c w
MeetsVerdict l M h k n (verdict.Refused f p) = amend_in l M h k n ≡ unchanged f p
