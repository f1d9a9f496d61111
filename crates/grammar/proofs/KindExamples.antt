-- The 39 kinds of records, each computed: a script whose last record is of that kind, and that record's eight words.
use mathlib.Core.Path.{◌≡◌, refl}
use mathlib.Core.Bool.{Bool, true, false, ◌&&◌}
use mathlib.Core.List.{List, [], ◌∷◌, map}
use Prim.Native.Nat.{ℕ, ◌-◌}
use Prim.Native.String.{String}
use lib.Dec.{T}
use lib.ListN.{length, get_or, drop}
use Rattle.tokens.specs.Text.{bytes, same}
use Rattle.grammar.specs.Sizes.{record_width}
use Rattle.grammar.specs.Grammar.{one}
use Rattle.grammar.specs.Script.{read_script}
use Rattle.grammar.specs.Words.{words_of}
use Rattle.grammar.specs.Computing.{computing}
use Rattle.grammar.proofs.Examples.{kind_names, nth, entries, lists}

-- a kind's name, a script, and words: kind, nodes in subtree, direct parts, f1 to f4, place
abbrev Row : Type 0
Row = String × String × List ℕ

kind_of : Row → ℕ
kind_of r = get_or r.2 0 0

-- all words of a script's records; with one day counter
words : String → List ℕ
unfolding computing entries lists
words s = words_of (entries (read_script one (lists "" "USD\nEUR\n" "ACT/365\n") (bytes s)))

-- those of the last record, which is that of the last statement as a whole
last : String → List ℕ
unfolding words
last s = let ws = words s in drop (length ws - record_width) ws

-- each script of a table ends in the record of its row, which is of the kind that the row names
check : List Row → Bool
unfolding computing last kind_of nth
check [] = true
check (r ∷ rs) =
    elim (same (last r.1) r.2 && same (bytes (nth kind_names (kind_of r))) (bytes r.0)) [ true ↦ check rs | false ↦ false ]

-- one row for each kind, nothing of it absent
abbrev kinds : List Row
kinds =
    -- start, length: the sign `+` vanishes, its byte does not
    ("Variable", "+ab;", 1 ∷ 1 ∷ 0 ∷ 1 ∷ 2 ∷ 0 ∷ 0 ∷ 1 ∷ [])
    -- f64 bits high, low, literal start, length without sign
    ∷ ("Constant", "-0.1;", 2 ∷ 1 ∷ 0 ∷ 0xbfb99999 ∷ 0x9999999a ∷ 1 ∷ 3 ∷ 0 ∷ [])
    ∷ ("True", "true;", 3 ∷ 1 ∷ 0 ∷ 0 ∷ 0 ∷ 0 ∷ 0 ∷ 0 ∷ [])
    ∷ ("False", "false;", 4 ∷ 1 ∷ 0 ∷ 0 ∷ 0 ∷ 0 ∷ 0 ∷ 0 ∷ [])
    -- start, length of what stands between the quotes
    ∷ ("String", "\"abc\";", 5 ∷ 1 ∷ 0 ∷ 1 ∷ 3 ∷ 0 ∷ 0 ∷ 0 ∷ [])
    ∷ ("List", "[a, b, 1 + 2];", 6 ∷ 6 ∷ 3 ∷ 0 ∷ 0 ∷ 0 ∷ 0 ∷ 0 ∷ [])
    ∷ ("UnaryMinus", "-a;", 7 ∷ 2 ∷ 1 ∷ 0 ∷ 0 ∷ 0 ∷ 0 ∷ 0 ∷ [])
    ∷ ("Add", "a + b;", 8 ∷ 3 ∷ 2 ∷ 0 ∷ 0 ∷ 0 ∷ 0 ∷ 0 ∷ [])
    ∷ ("Subtract", "a - b;", 9 ∷ 3 ∷ 2 ∷ 0 ∷ 0 ∷ 0 ∷ 0 ∷ 0 ∷ [])
    ∷ ("Multiply", "a * b;", 10 ∷ 3 ∷ 2 ∷ 0 ∷ 0 ∷ 0 ∷ 0 ∷ 0 ∷ [])
    ∷ ("Divide", "a / b;", 11 ∷ 3 ∷ 2 ∷ 0 ∷ 0 ∷ 0 ∷ 0 ∷ 0 ∷ [])
    ∷ ("Pow", "a ** b;", 12 ∷ 3 ∷ 2 ∷ 0 ∷ 0 ∷ 0 ∷ 0 ∷ 0 ∷ [])
    ∷ ("Equal", "a == b;", 13 ∷ 3 ∷ 2 ∷ 0 ∷ 0 ∷ 0 ∷ 0 ∷ 0 ∷ [])
    ∷ ("NotEqual", "a != b;", 14 ∷ 3 ∷ 2 ∷ 0 ∷ 0 ∷ 0 ∷ 0 ∷ 0 ∷ [])
    ∷ ("Superior", "a > b;", 15 ∷ 3 ∷ 2 ∷ 0 ∷ 0 ∷ 0 ∷ 0 ∷ 0 ∷ [])
    ∷ ("Inferior", "a < b;", 16 ∷ 3 ∷ 2 ∷ 0 ∷ 0 ∷ 0 ∷ 0 ∷ 0 ∷ [])
    ∷ ("SuperiorOrEqual", "a >= b;", 17 ∷ 3 ∷ 2 ∷ 0 ∷ 0 ∷ 0 ∷ 0 ∷ 0 ∷ [])
    ∷ ("InferiorOrEqual", "a <= b;", 18 ∷ 3 ∷ 2 ∷ 0 ∷ 0 ∷ 0 ∷ 0 ∷ 0 ∷ [])
    ∷ ("And", "a and b;", 19 ∷ 3 ∷ 2 ∷ 0 ∷ 0 ∷ 0 ∷ 0 ∷ 0 ∷ [])
    ∷ ("Or", "a or b;", 20 ∷ 3 ∷ 2 ∷ 0 ∷ 0 ∷ 0 ∷ 0 ∷ 0 ∷ [])
    ∷ ("Ln", "ln(a);", 21 ∷ 2 ∷ 1 ∷ 0 ∷ 0 ∷ 0 ∷ 0 ∷ 0 ∷ [])
    ∷ ("Exp", "exp(a);", 22 ∷ 2 ∷ 1 ∷ 0 ∷ 0 ∷ 0 ∷ 0 ∷ 0 ∷ [])
    ∷ ("Min", "min(a, b, c);", 23 ∷ 4 ∷ 3 ∷ 0 ∷ 0 ∷ 0 ∷ 0 ∷ 0 ∷ [])
    ∷ ("Max", "max(a, b);", 24 ∷ 3 ∷ 2 ∷ 0 ∷ 0 ∷ 0 ∷ 0 ∷ 0 ∷ [])
    ∷ ("Cvg", "cvg(\"2024-01-01\", \"2024-02-01\", \"ACT/365\");", 25 ∷ 4 ∷ 3 ∷ 0 ∷ 0 ∷ 0 ∷ 0 ∷ 0 ∷ [])
    ∷ ("Fif", "fif(a, b, c, d);", 26 ∷ 5 ∷ 4 ∷ 0 ∷ 0 ∷ 0 ∷ 0 ∷ 0 ∷ [])
    ∷ ("Range", "range(a, b);", 27 ∷ 3 ∷ 2 ∷ 0 ∷ 0 ∷ 0 ∷ 0 ∷ 0 ∷ [])
    ∷ ("Index", "a[b];", 28 ∷ 3 ∷ 2 ∷ 0 ∷ 0 ∷ 0 ∷ 0 ∷ 0 ∷ [])
    ∷ ("Append", "a.append(b);", 29 ∷ 3 ∷ 2 ∷ 0 ∷ 0 ∷ 0 ∷ 0 ∷ 0 ∷ [])
    ∷ ("Mean", "a.mean();", 30 ∷ 2 ∷ 1 ∷ 0 ∷ 0 ∷ 0 ∷ 0 ∷ 0 ∷ [])
    ∷ ("Std", "a.std();", 31 ∷ 2 ∷ 1 ∷ 0 ∷ 0 ∷ 0 ∷ 0 ∷ 0 ∷ [])
    -- two currencies, date
    ∷ ("Spot", "Spot(\"USD\",\"EUR\",\"2024-02-29\");", 32 ∷ 1 ∷ 0 ∷ 1 ∷ 2 ∷ 738945 ∷ 0 ∷ 0 ∷ [])
    -- start, length, date
    ∷ ("EquitySpot", "Spot(\"AA\",\"2024-02-29\");", 33 ∷ 1 ∷ 0 ∷ 6 ∷ 2 ∷ 738945 ∷ 0 ∷ 0 ∷ [])
    -- date, curve start, length
    ∷ ("Df", "Df(\"2024-02-29\",\"c\");", 34 ∷ 1 ∷ 0 ∷ 738945 ∷ 17 ∷ 1 ∷ 0 ∷ 0 ∷ [])
    -- start, length, two dates
    ∷ ("RateIndex", "RateIndex(\"ab\",\"2024-02-29\",\"2024-03-01\");", 35 ∷ 1 ∷ 0 ∷ 11 ∷ 2 ∷ 738945 ∷ 738946 ∷ 0 ∷ [])
    -- date, currency
    ∷ ("Pays", "pays a b on \"2024-02-29\" in \"EUR\"", 36 ∷ 3 ∷ 2 ∷ 738945 ∷ 2 ∷ 0 ∷ 0 ∷ 0 ∷ [])
    ∷ ("Assign", "a = b;", 37 ∷ 3 ∷ 2 ∷ 0 ∷ 0 ∷ 0 ∷ 0 ∷ 0 ∷ [])
    -- first_else is 1 plus the length of the first body: the parts are a, b, c, and d is number 3
    ∷ ("If", "if a { b; c; } else { d; }", 38 ∷ 5 ∷ 4 ∷ 3 ∷ 0 ∷ 0 ∷ 0 ∷ 0 ∷ [])
    -- start, length of the loop variable
    ∷ ("ForEach", "for ab in c { d; e; }", 39 ∷ 4 ∷ 3 ∷ 4 ∷ 2 ∷ 0 ∷ 0 ∷ 0 ∷ [])
    ∷ []

each_kind : T (check kinds)
unfolding check
each_kind = tt

-- each kind has its row
all_kinds : map kind_of kinds
    ≡ 1 ∷ 2 ∷ 3 ∷ 4 ∷ 5 ∷ 6 ∷ 7 ∷ 8 ∷ 9 ∷ 10 ∷ 11 ∷ 12 ∷ 13 ∷ 14 ∷ 15 ∷ 16 ∷ 17 ∷ 18 ∷ 19 ∷ 20 ∷ 21 ∷ 22 ∷ 23 ∷ 24 ∷ 25 ∷ 26 ∷ 27 ∷ 28 ∷ 29 ∷ 30 ∷ 31 ∷ 32 ∷ 33 ∷ 34 ∷ 35
    ∷ 36 ∷ 37 ∷ 38 ∷ 39 ∷ []
unfolding kind_of
all_kinds = refl

-- what is absent is 0, but for a Spot's second currency, which is USD; other ways to the same kind
abbrev absent : List Row
absent =
    ("Constant", "2;", 2 ∷ 1 ∷ 0 ∷ 0x40000000 ∷ 0 ∷ 0 ∷ 1 ∷ 0 ∷ [])
    ∷ ("List", "[];", 6 ∷ 1 ∷ 0 ∷ 0 ∷ 0 ∷ 0 ∷ 0 ∷ 0 ∷ [])
    ∷ ("Pow", "pow(a, b);", 12 ∷ 3 ∷ 2 ∷ 0 ∷ 0 ∷ 0 ∷ 0 ∷ 0 ∷ [])
    ∷ ("Spot", "Spot(\"EUR\");", 32 ∷ 1 ∷ 0 ∷ 2 ∷ 1 ∷ 0 ∷ 0 ∷ 0 ∷ [])
    ∷ ("Spot", "Spot(\"USD\",\"EUR\");", 32 ∷ 1 ∷ 0 ∷ 1 ∷ 2 ∷ 0 ∷ 0 ∷ 0 ∷ [])
    ∷ ("EquitySpot", "Spot(\"AA\");", 33 ∷ 1 ∷ 0 ∷ 6 ∷ 2 ∷ 0 ∷ 0 ∷ 0 ∷ [])
    ∷ ("Df", "Df(\"2024-02-29\");", 34 ∷ 1 ∷ 0 ∷ 738945 ∷ 0 ∷ 0 ∷ 0 ∷ 0 ∷ [])
    ∷ ("Pays", "pays a;", 36 ∷ 2 ∷ 1 ∷ 0 ∷ 0 ∷ 0 ∷ 0 ∷ 0 ∷ [])
    ∷ ("Pays", "pays a on \"2024-02-29\"", 36 ∷ 2 ∷ 1 ∷ 738945 ∷ 0 ∷ 0 ∷ 0 ∷ 0 ∷ [])
    ∷ ("Pays", "pays a in \"USD\"", 36 ∷ 2 ∷ 1 ∷ 0 ∷ 1 ∷ 0 ∷ 0 ∷ 0 ∷ [])
    ∷ ("If", "if a { b; }", 38 ∷ 3 ∷ 2 ∷ 0 ∷ 0 ∷ 0 ∷ 0 ∷ 0 ∷ [])
    ∷ ("If", "if a { } else { b; }", 38 ∷ 3 ∷ 2 ∷ 1 ∷ 0 ∷ 0 ∷ 0 ∷ 0 ∷ [])
    ∷ ("ForEach", "for v in a { }", 39 ∷ 2 ∷ 1 ∷ 4 ∷ 1 ∷ 0 ∷ 0 ∷ 0 ∷ [])
    ∷ []

each_absent : T (check absent)
unfolding check
each_absent = tt

-- a loop's iterator first, then its body; the name that `*=` assigns is written twice
in_order : (words "for v in a { b; }"
    ≡ 1 ∷ 1 ∷ 0 ∷ 9 ∷ 1 ∷ 0 ∷ 0 ∷ 9
    ∷ 1 ∷ 1 ∷ 0 ∷ 13 ∷ 1 ∷ 0 ∷ 0 ∷ 13
    ∷ 39 ∷ 3 ∷ 2 ∷ 4 ∷ 1 ∷ 0 ∷ 0 ∷ 0 ∷ [])
    × (words "a *= b;"
    ≡ 1 ∷ 1 ∷ 0 ∷ 0 ∷ 1 ∷ 0 ∷ 0 ∷ 0
    ∷ 1 ∷ 1 ∷ 0 ∷ 0 ∷ 1 ∷ 0 ∷ 0 ∷ 0
    ∷ 1 ∷ 1 ∷ 0 ∷ 5 ∷ 1 ∷ 0 ∷ 0 ∷ 5
    ∷ 10 ∷ 3 ∷ 2 ∷ 0 ∷ 0 ∷ 0 ∷ 0 ∷ 0
    ∷ 37 ∷ 5 ∷ 2 ∷ 0 ∷ 0 ∷ 0 ∷ 0 ∷ 0 ∷ [])
unfolding computing words
in_order = (refl, refl)
