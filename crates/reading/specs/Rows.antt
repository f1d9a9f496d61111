-- Records and entries one after the other in lent memory: each is written where it fits whole.
use Rattle.std.specs.Prelude.{Option, Some, None, List, [], ◌∷◌, ◌++◌, map, get_or, ℕ, zero, suc, ◌+◌, ◌-◌, ◌*◌, ◌/◌, leb, ltb, length, set, drop, if◌then◌else◌}
use Rattle.grammar.specs.Sizes.{record_width, entry_width}
use Rattle.grammar.specs.Trees.{Tree, Trees, node, nil, ◌▹◌, fields, parts, sizes, row}
use Rattle.grammar.specs.Latest.{latest_in}
use Rattle.reading.specs.declared.records.Kind.{Kind}
use Rattle.reading.specs.declared.records.Kind.TheVariants as kind
use Rattle.reading.specs.declared.records.Node.{Node}
use Rattle.reading.specs.declared.records.Entry.{Entry}

-- the records of a tree, in order
unfoldable mutual
  pub rows : Tree → List (List ℕ)
  rows (node k p s f ts) = rows_of ts ++ (row k (suc (sizes ts)) (parts ts) f p ∷ [])

  pub rows_of : Trees → List (List ℕ)
  rows_of nil = []
  rows_of (t ▹ ts) = rows t ++ rows_of ts

-- the numbers of the kinds of records
abbrev pub kind_number : Kind → ℕ
kind_number kind.Variable = 1
kind_number kind.Constant = 2
kind_number kind.True = 3
kind_number kind.False = 4
kind_number kind.String = 5
kind_number kind.List = 6
kind_number kind.UnaryMinus = 7
kind_number kind.Add = 8
kind_number kind.Subtract = 9
kind_number kind.Multiply = 10
kind_number kind.Divide = 11
kind_number kind.Pow = 12
kind_number kind.Equal = 13
kind_number kind.NotEqual = 14
kind_number kind.Superior = 15
kind_number kind.Inferior = 16
kind_number kind.SuperiorOrEqual = 17
kind_number kind.InferiorOrEqual = 18
kind_number kind.And = 19
kind_number kind.Or = 20
kind_number kind.Ln = 21
kind_number kind.Exp = 22
kind_number kind.Min = 23
kind_number kind.Max = 24
kind_number kind.Cvg = 25
kind_number kind.Fif = 26
kind_number kind.Range = 27
kind_number kind.Index = 28
kind_number kind.Append = 29
kind_number kind.Mean = 30
kind_number kind.Std = 31
kind_number kind.Spot = 32
kind_number kind.EquitySpot = 33
kind_number kind.Df = 34
kind_number kind.RateIndex = 35
kind_number kind.Pays = 36
kind_number kind.Assign = 37
kind_number kind.If = 38
kind_number kind.ForEach = 39

-- in the order of their numbers
abbrev pub kinds : List Kind
kinds =
    kind.Variable ∷ kind.Constant ∷ kind.True ∷ kind.False ∷ kind.String ∷ kind.List ∷ kind.UnaryMinus ∷ kind.Add
    ∷ kind.Subtract ∷ kind.Multiply ∷ kind.Divide ∷ kind.Pow ∷ kind.Equal ∷ kind.NotEqual ∷ kind.Superior ∷ kind.Inferior
    ∷ kind.SuperiorOrEqual ∷ kind.InferiorOrEqual ∷ kind.And ∷ kind.Or ∷ kind.Ln ∷ kind.Exp ∷ kind.Min ∷ kind.Max
    ∷ kind.Cvg ∷ kind.Fif ∷ kind.Range ∷ kind.Index ∷ kind.Append ∷ kind.Mean ∷ kind.Std ∷ kind.Spot ∷ kind.EquitySpot
    ∷ kind.Df ∷ kind.RateIndex ∷ kind.Pays ∷ kind.Assign ∷ kind.If ∷ kind.ForEach ∷ []

-- the kind that has this number, where one has it
unfoldable pub kind_at : ℕ → Option Kind
kind_at zero = None
kind_at (suc n) = get_or (map (λ k. Some k) kinds) n None

-- the words of a node as the code has it
abbrev pub node_row : Node → List ℕ
node_row x = row x.kind x.nodes x.parts (fields x.f1 x.f2 x.f3 x.f4) x.place

-- the words of an entry as the code has it
abbrev pub entry_row : Entry → List ℕ
entry_row e = e.start ∷ e.end ∷ e.records ∷ e.tokens ∷ e.latest ∷ []

-- words from the place i on
unfoldable pub put_words : List ℕ → ℕ → List ℕ → List ℕ
put_words o i [] = o
put_words o i (w ∷ ws) = put_words (set o i w) (i + 1) ws

-- the n-th of a width, where the memory holds it whole
unfoldable pub put_at : ℕ → List ℕ → ℕ → List ℕ → List ℕ
put_at w o n r = if ltb n (length o / w) then put_words o (w * n) r else o

unfoldable pub put_all : ℕ → List ℕ → ℕ → List (List ℕ) → List ℕ
put_all w o n [] = o
put_all w o n (r ∷ rs) = put_all w (put_at w o n r) (n + 1) rs

-- how many records fit whole
abbrev pub room : List ℕ → ℕ
room o = length o / record_width

-- records
abbrev pub put_row : List ℕ → ℕ → List ℕ → List ℕ
put_row o n r = put_at record_width o n r

abbrev pub put_rows : List ℕ → ℕ → List (List ℕ) → List ℕ
put_rows o n rs = put_all record_width o n rs

-- entries of the directory
abbrev pub put_entry : List ℕ → ℕ → List ℕ → List ℕ
put_entry o k r = put_at entry_width o k r

abbrev pub put_entries : List ℕ → ℕ → List (List ℕ) → List ℕ
put_entries o k rs = put_all entry_width o k rs

-- the latest date of the records from number n up to, not including, number m, where the memory holds them all
abbrev pub latest_between : List ℕ → ℕ → ℕ → ℕ
latest_between o n m = if leb (record_width * m) (length o) then latest_in (m - n) (drop (record_width * n) o) else 0
