-- The latest date of records, over their words as they stand in memory. Dates are day counts, and 0 is none.
use Rattle.std.specs.Prelude.{◌||◌, List, ℕ, zero, suc, max, eqb, drop, get_or, if◌then◌else◌}
use Rattle.grammar.specs.Sizes.{record_width}
use Rattle.grammar.specs.Trees.{Tree, Trees, node, ◌▹◌, Fields, fields}

-- Dates in records of kind 32 to 36 count: of Spot and equity spot f3, of Df and Pays f1, of RateIndex the later of f3 and f4. Those of cvg are strings, and do not
abbrev pub date_of : ℕ → ℕ → ℕ → ℕ → ℕ
date_of kind f1 f3 f4 =
    if eqb kind 32 || eqb kind 33 then f3
    else if eqb kind 34 || eqb kind 36 then f1
    else if eqb kind 35 then max f3 f4 else 0

-- of the record that stands first: its kind is the first word, f1, f3 and f4 are the fourth, the sixth and the seventh
abbrev pub date_at : List ℕ → ℕ
date_at ws = date_of (get_or ws 0 0) (get_or ws 3 0) (get_or ws 5 0) (get_or ws 6 0)

-- the latest of the first n records
unfoldable pub latest_in : ℕ → List ℕ → ℕ
latest_in zero ws = 0
latest_in (suc n) ws = max (date_at ws) (latest_in n (drop record_width ws))

-- ---- what is said of it: dates in trees

-- a date of a node, by its kind
pub data Date : ℕ → Fields → ℕ → Type 0 where
  spot : {a b c d : ℕ} → Date 32 (fields a b c d) c
  equity : {a b c d : ℕ} → Date 33 (fields a b c d) c
  df : {a b c d : ℕ} → Date 34 (fields a b c d) a
  from : {a b c d : ℕ} → Date 35 (fields a b c d) c
  to : {a b c d : ℕ} → Date 35 (fields a b c d) d
  pays : {a b c d : ℕ} → Date 36 (fields a b c d) a

-- a date of a tree: of its node, or of one of its parts
mutual
  pub data Has (x : ℕ) : Tree → Type 0 where
    here : {k p : ℕ} {s : List ℕ} {f : Fields} {ts : Trees} → Date k f x → Has x (node k p s f ts)
    below : {k p : ℕ} {s : List ℕ} {f : Fields} {ts : Trees} → HasPart x ts → Has x (node k p s f ts)

  pub data HasPart (x : ℕ) : Trees → Type 0 where
    this : {t : Tree} {ts : Trees} → Has x t → HasPart x (t ▹ ts)
    other : {t : Tree} {ts : Trees} → HasPart x ts → HasPart x (t ▹ ts)
