-- The latest date, computed: scripts with the latest date of each statement, and that of the script.
use mathlib.Core.Bool.{Bool, true, false, ◌&&◌}
use mathlib.Core.List.{List, [], ◌∷◌, map}
use Prim.Native.Nat.{ℕ}
use Prim.Native.String.{String}
use lib.Dec.{T, eqb}
use Rattle.tokens.specs.Text.{bytes, same}
use Rattle.grammar.specs.Grammar.{one}
use Rattle.grammar.specs.Script.{read_script}
use Rattle.grammar.specs.Words.{Row, row_of, latest_of}
use Rattle.grammar.specs.Computing.{computing}
use Rattle.grammar.proofs.Examples.{entries, lists}

-- the counts of 2020-01-01 and 2030-01-01
abbrev early : ℕ
early = 737425

abbrev late : ℕ
late = 741078

-- the rows of a script's directory; with one day counter
rows : String → List Row
unfolding computing entries lists
rows s = map row_of (entries (read_script one (lists "" "USD\nEUR\n" "ACT/365\n") (bytes s)))

-- each script of a table has the dates that are said, and the greatest of them
check : List (String × List ℕ × ℕ) → Bool
unfolding computing rows
check [] = true
check (r ∷ rs) =
    elim (same (map (λ e. e.latest) (rows r.0)) r.1 && eqb (latest_of (rows r.0)) r.2) [ true ↦ check rs | false ↦ false ]

-- the five kinds, each with its date and without one where it may lack
abbrev kinds : List (String × List ℕ × ℕ)
kinds =
    ("Spot(\"EUR\",\"USD\",\"2030-01-01\"); Spot(\"EUR\",\"USD\"); Spot(\"EUR\");", late ∷ 0 ∷ 0 ∷ [], late)
    ∷ ("Spot(\"AA\",\"2030-01-01\"); Spot(\"AA\");", late ∷ 0 ∷ [], late)
    ∷ ("Df(\"2030-01-01\"); Df(\"2020-01-01\");", late ∷ early ∷ [], late)
    ∷ ("Df(\"2030-01-01\",\"c\");", late ∷ [], late)
    -- the later of two, first or last
    ∷ ("RateIndex(\"n\",\"2030-01-01\",\"2020-01-01\"); RateIndex(\"n\",\"2020-01-01\",\"2030-01-01\");", late ∷ late ∷ [], late)
    ∷ ("pays a on \"2030-01-01\"; pays a in \"EUR\"; pays;", late ∷ 0 ∷ 0 ∷ [], late)
    -- the first day and the last
    ∷ ("Df(\"0001-01-01\"); Df(\"9999-12-31\");", 1 ∷ 3652059 ∷ [], 3652059)
    ∷ []

each_kind : T (check kinds)
unfolding check
each_kind = tt

-- wherever in the statement the date stands
abbrev nested : List (String × List ℕ × ℕ)
nested =
    ("x = a + -Df(\"2030-01-01\") * [b, Df(\"2020-01-01\")][0];", late ∷ [], late)
    ∷ ("x += a.append(Df(\"2030-01-01\"));", late ∷ [], late)
    ∷ ("x = min(Df(\"2020-01-01\"), Df(\"2030-01-01\"), 1);", late ∷ [], late)
    -- in a condition, in a body, in an else's body; in each of the three, the latest in the last
    ∷ ("if Df(\"2030-01-01\") { x = 1; }", late ∷ [], late)
    ∷ ("if a { x = Df(\"2030-01-01\"); } else { x = 1; }", late ∷ [], late)
    ∷ ("if a { x = 1; } else { x = Df(\"2030-01-01\"); }", late ∷ [], late)
    ∷ ("if Df(\"2020-01-01\") { pays a on \"2020-01-01\"; } else { x = 1; if b { pays a on \"2030-01-01\"; } }", late ∷ [], late)
    -- in what a loop goes over, in its body
    ∷ ("for v in [Df(\"2030-01-01\")] { x = v; }", late ∷ [], late)
    ∷ ("for v in a { if b { x = 1; } else { x pays Df(\"2030-01-01\"); } }", late ∷ [], late)
    -- a pays' own, a part's, and both
    ∷ ("x pays a on \"2030-01-01\";", late ∷ [], late)
    ∷ ("pays a + Df(\"2030-01-01\") b;", late ∷ [], late)
    ∷ ("pays Df(\"2030-01-01\") on \"2020-01-01\"; pays Df(\"2020-01-01\") on \"2030-01-01\";", late ∷ late ∷ [], late)
    ∷ []

each_place : T (check nested)
unfolding check
each_place = tt

-- a string is no date, nor is a cvg's; nor is any other number of a record
abbrev without : List (String × List ℕ × ℕ)
without =
    ("\"2030-01-01\";", 0 ∷ [], 0)
    ∷ ("cvg(\"2020-01-01\",\"2030-01-01\",\"ACT/365\");", 0 ∷ [], 0)
    ∷ ("x = Df(\"2020-01-01\") * cvg(\"2020-01-01\",\"2030-01-01\",\"ACT/365\");", early ∷ [], early)
    ∷ ("x = 741078; for v in a { b; } if a { b; } else { c; }", 0 ∷ 0 ∷ 0 ∷ [], 0)
    ∷ ("x = 1; Df(\"2020-01-01\"); y = 1; Df(\"2030-01-01\"); z = 1;", 0 ∷ early ∷ 0 ∷ late ∷ 0 ∷ [], late)
    ∷ []

each_without : T (check without)
unfolding check
each_without = tt
