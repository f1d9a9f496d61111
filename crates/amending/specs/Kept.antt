-- What a caller sees of memory that holds a script: each statement's text, each statement's records and their latest date, as the directory has them;
-- and what it means that an amendment keeps all but one.
use Rattle.std.specs.Prelude.{◌≡◌, List, [], ◌∷◌, ◌++◌, map, ℕ, suc, ◌*◌, ◌/◌, ◌<◌, length, take, drop}
use Rattle.std.proofs.Math.Seq.{slice}
use Rattle.tokens.specs.Names.{Lists}
use Rattle.grammar.specs.Sizes.{record_width, entry_width}
use Rattle.grammar.specs.Trees.{records}
use Rattle.grammar.specs.Grammar.{Edition}
use Rattle.grammar.specs.Script.{Entry, accepted, read_script}
use Rattle.grammar.specs.Latest.{latest_in}
use Rattle.grammar.specs.Words.{Row, row_of, latest_of}
use Rattle.amending.specs.Entries.{row_at, rows_from}
use Rattle.amending.specs.Memory.{Memory}
use Rattle.amending.specs.declared.held.Held.{Held}

-- ---- statement by statement

-- the text of each entry: the bytes from its start up to, not including, its end
abbrev pub texts_at : List ℕ → List Row → List (List ℕ)
texts_at s [] = []
texts_at s (r ∷ rs) = slice r.start r.end s ∷ texts_at s rs

-- the words of each entry's records: so many records for the first, behind them so many for the second, and so on
abbrev pub records_at : List ℕ → List Row → List (List ℕ)
records_at ws [] = []
records_at ws (r ∷ rs) = take (record_width * r.records) ws ∷ records_at (drop (record_width * r.records) ws) rs

-- of memory of which h is used, as its directory says
abbrev pub texts_in : Memory → Held → List (List ℕ)
texts_in M h = texts_at (take h.bytes M.script) (rows_from h.statements M.directory)

abbrev pub records_in : Memory → Held → List (List ℕ)
records_in M h = records_at (take (record_width * h.records) M.records) (rows_from h.statements M.directory)

-- the latest date of each statement's records, found in their words
abbrev pub dates_of : List (List ℕ) → List ℕ
dates_of xs = map (λ (ws : List ℕ). latest_in (length ws / record_width) ws) xs

-- each entry's latest date is that of its records, and the script's is the greatest of the entries'
pub record DatesTrue (M : Memory) (h : Held) : Type 0 where
  pub entries : map (λ (r : Row). r.latest) (rows_from h.statements M.directory) ≡ dates_of (records_in M h)
  pub script : h.latest ≡ latest_of (rows_from h.statements M.directory)

-- of a script s with the statements es
abbrev pub texts_of : List ℕ → List Entry → List (List ℕ)
texts_of s es = texts_at s (map row_of es)

abbrev pub records_of : List Entry → List (List ℕ)
records_of es = map (λ (e : Entry). records e.tree) es

-- ---- what is kept

-- the k-th (from 0) is replaced by those of ys, and the others stay in their order
abbrev pub exchanged : {A : Type 0} → ℕ → List A → List A → List A
exchanged k ys xs = take k xs ++ (ys ++ drop (suc k) xs)

-- The records of every statement but the k-th are the same words in the same order, and in its place stand those of the text n read alone, in the script's edition;
-- so for the texts. M, of which h is used, is the memory before the call, and M', of which h' is used, that behind it.
pub record KeepsRecords (E : Edition) (l : Lists) (M : Memory) (h : Held) (k : ℕ) (n : List ℕ) (M' : Memory) (h' : Held) : Type 0 where
  pub new : List Entry
  pub reads : read_script E l n ≡ accepted new
  pub there : k < h.statements
  pub records : records_in M' h' ≡ exchanged k (records_of new) (records_in M h)

pub record KeepsTexts (E : Edition) (l : Lists) (M : Memory) (h : Held) (k : ℕ) (n : List ℕ) (M' : Memory) (h' : Held) : Type 0 where
  pub new : List Entry
  pub reads : read_script E l n ≡ accepted new
  pub there : k < h.statements
  pub texts : texts_in M' h' ≡ exchanged k (texts_of n new) (texts_in M h)

-- exactly the bytes of the k-th statement, from its start to its end as the directory of M has them, are replaced by n: all others stay, those between statements too
pub record KeepsBytes (M : Memory) (h : Held) (k : ℕ) (n : List ℕ) (M' : Memory) (h' : Held) : Type 0 where
  pub there : k < h.statements
  pub script : take h'.bytes M'.script ≡ take (row_at M.directory (entry_width * k)).start M.script ++ (n ++ slice (row_at M.directory (entry_width * k)).end h.bytes M.script)
