-- The lookup, computed.
use mathlib.Core.Path.{◌≡◌, refl}
use mathlib.Core.Bool.{Bool, true, false}
use mathlib.Core.List.{List, [], ◌∷◌, map}
use Prim.Native.Nat.{ℕ}
use Prim.Native.String.{String}
use Rattle.tokens.specs.Text.{bytes}
use Rattle.grammar.specs.Trees.{fields, none, row}
use Rattle.reading.specs.Parts.{Part, of_script, of_list, span, empty, part_named}
use Rattle.reading.specs.Computing.{computing}

-- a script of 33 bytes, whose second statement starts at 2
abbrev script : String
script = "x;ab = Df(\"2024-02-29\",\"c\") + \"\";"

-- ---- records of the second statement, and what is handed back

-- every record of a table names its part
Names : String → Bool → List (List ℕ × Part) → Type 0
Names list second table = map (λ x. part_named (bytes script) (bytes list) x.0 2 second) table ≡ map (λ x. x.1) table

first_names : Names "USD\nEUR\n" false
    -- Variable, String and ForEach
    ((row 1 1 0 (fields 0 2 0 0) 0, of_script (span 2 2))
    ∷ (row 5 1 0 (fields 9 10 0 0) 8, of_script (span 11 10))
    ∷ (row 39 2 1 (fields 0 2 0 0) 0, of_script (span 2 2))
    -- an empty string stands at its own place
    ∷ (row 5 1 0 (fields 29 0 0 0) 28, of_script (span 31 0))
    -- equity spot and RateIndex
    ∷ (row 33 1 0 (fields 22 1 738945 0) 7, of_script (span 24 1))
    ∷ (row 35 1 0 (fields 22 1 738945 738946) 7, of_script (span 24 1))
    -- Df, with a curve and without: then its length says nothing
    ∷ (row 34 1 0 (fields 738945 22 1 0) 7, of_script (span 24 1))
    ∷ (row 34 1 0 (fields 738945 0 5 0) 7, of_script empty)
    -- Spot and Pays; absent, and not in the list
    ∷ (row 32 1 0 (fields 2 1 0 0) 7, of_list (span 4 3))
    ∷ (row 36 1 0 (fields 738945 1 0 0) 7, of_list (span 0 3))
    ∷ (row 36 1 0 (fields 738945 0 0 0) 7, of_script empty)
    ∷ (row 32 1 0 (fields 3 1 0 0) 7, of_script empty)
    -- up to the script's end, and past it
    ∷ (row 1 1 0 (fields 30 1 0 0) 30, of_script (span 32 1))
    ∷ (row 1 1 0 (fields 31 0 0 0) 31, of_script (span 33 0))
    ∷ (row 1 1 0 (fields 30 2 0 0) 30, of_script empty)
    ∷ (row 1 1 0 (fields 32 0 0 0) 32, of_script empty)
    ∷ (row 1 1 0 (fields 4294967295 4294967295 0 0) 4294967295, of_script empty)
    -- whatever the place is
    ∷ (row 1 1 0 (fields 0 2 0 0) 4294967295, of_script (span 2 2))
    -- a kind that has none, no kind at all, and too few words
    ∷ (row 2 1 0 (fields 1 2 0 0) 0, of_script empty)
    ∷ (row 0 1 0 none 0, of_script empty)
    ∷ (1 ∷ 1 ∷ 0 ∷ 0 ∷ 2 ∷ 0 ∷ 0 ∷ [], of_script empty)
    ∷ [])
unfolding Names computing
first_names = refl

second_names : Names "USD\nEUR\n" true
    ((row 32 1 0 (fields 2 1 0 0) 7, of_list (span 0 3))
    ∷ (row 32 1 0 (fields 1 2 0 0) 7, of_list (span 4 3))
    ∷ (row 33 1 0 (fields 22 1 738945 0) 7, of_script empty)
    ∷ (row 36 1 0 (fields 738945 1 0 0) 7, of_script empty)
    ∷ (row 1 1 0 (fields 0 2 0 0) 0, of_script empty)
    ∷ [])
unfolding Names computing
second_names = refl

-- none of a malformed list: here USD is not first. The names of the script are answered all the same
no_list : Names "EUR\nUSD\n" false
    ((row 32 1 0 (fields 1 2 0 0) 7, of_script empty)
    ∷ (row 36 1 0 (fields 738945 1 0 0) 7, of_script empty)
    ∷ (row 1 1 0 (fields 0 2 0 0) 0, of_script (span 2 2))
    ∷ [])
unfolding Names computing
no_list = refl
