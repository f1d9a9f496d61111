-- The words of a reading in lent memory: its records and its directory.
use Rattle.std.specs.Prelude.{List, [], ◌∷◌, ◌++◌, map, ℕ, max}
use Rattle.grammar.specs.Trees.{size, records}
use Rattle.grammar.specs.Script.{Entry}
use Rattle.grammar.specs.Latest.{latest_in}

-- the records of all statements, one statement after the other
abbrev pub words_of : List Entry → List ℕ
words_of [] = []
words_of (e ∷ es) = records e.tree ++ words_of es

-- Directory, per top-level statement: start byte, end byte (past its last token), records, tokens, and the latest date of its records
pub record Row : Type 0 where
  pub start : ℕ
  pub end : ℕ
  pub records : ℕ
  pub tokens : ℕ
  pub latest : ℕ

abbrev pub row_of : Entry → Row
row_of e = record {
  start = e.start;
  end = e.end;
  records = size e.tree;
  tokens = e.tokens;
  latest = latest_in (size e.tree) (records e.tree);
}

-- its five words
abbrev pub row_words : Row → List ℕ
row_words r = r.start ∷ r.end ∷ r.records ∷ r.tokens ∷ r.latest ∷ []

abbrev pub rows_words : List Row → List ℕ
rows_words [] = []
rows_words (r ∷ rs) = row_words r ++ rows_words rs

-- the directory of all statements
abbrev pub directory_of : List Entry → List ℕ
directory_of es = rows_words (map row_of es)

-- the script's latest date is the greatest of its entries', 0 where there is none
unfoldable pub latest_of : List Row → ℕ
latest_of [] = 0
latest_of (r ∷ rs) = max r.latest (latest_of rs)
