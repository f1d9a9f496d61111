-- Calls and methods by numbers, as the code tells them.
use Rattle.std.specs.Prelude.{Bool, false, ◌&&◌, Option, Some, None, List, [], ◌∷◌, ℕ, leb, eqb, if◌then◌else◌}
use Prim.Native.String.{String}
use Rattle.tokens.specs.Text.{bytes, same, within}
use Rattle.tokens.specs.Dates.{date}
use Rattle.tokens.specs.Tokens.{Token}
use Rattle.tokens.specs.Keys.{pack, lookup, keyed}
use Rattle.grammar.specs.Trees.{Tree}
use Rattle.grammar.specs.Readers.{Reader, ◌>>◌, ask, give, the}
use Rattle.grammar.specs.Grammar.{calls, call_of, content}
use Rattle.reading.specs.Rows.{kind_number}
use Rattle.reading.specs.Meets.{the_by}
use Rattle.reading.specs.declared.records.Kind.{Kind}

-- the kind of record that a call of this name makes, 0 where the name is no call's
unfoldable pub call_kind : List ℕ → ℕ
call_kind w =
    let c = call_of w calls in
    if leb 1 c.0 then c.0
    else if same (bytes "Spot") w then 32
    else if same (bytes "Df") w then 34
    else if same (bytes "RateIndex") w then 35
    else 0

-- the names of at most six bytes
abbrev pub short_calls : List (String × ℕ)
short_calls =
    ("ln", 21) ∷ ("exp", 22) ∷ ("pow", 12) ∷ ("min", 23) ∷ ("max", 24) ∷ ("cvg", 25) ∷ ("fif", 26) ∷ ("range", 27)
    ∷ ("Spot", 32) ∷ ("Df", 34) ∷ []

-- the number of a kind, 0 where there is none
abbrev pub kind_or_none : Option Kind → ℕ
kind_or_none None = 0
kind_or_none (Some k) = kind_number k

unfoldable pub call_by : ℕ → ℕ
call_by k = lookup 0 k (keyed pack short_calls)

-- whether the call that makes records of this kind takes so many arguments
unfoldable pub right_count : ℕ → ℕ → Bool
right_count k n =
    if eqb k 21 then eqb n 1
    else if eqb k 22 then eqb n 1
    else if eqb k 12 then eqb n 2
    else if eqb k 27 then eqb n 2
    else if eqb k 23 then within 2 100 n
    else if eqb k 24 then within 2 100 n
    else if eqb k 25 then eqb n 3
    else if eqb k 26 then eqb n 4
    else false

-- the kind of record that a method of this name makes with so many arguments, 0 where there is none
unfoldable pub method_kind : List ℕ → ℕ → ℕ
method_kind w n =
    if same (bytes "append") w && eqb n 1 then 29
    else if same (bytes "mean") w && eqb n 0 then 30
    else if same (bytes "std") w && eqb n 0 then 31
    else 0

-- `optional` with the sign's number
abbrev pub optional_by : {A : Type 0} → ℕ → A → Reader A → Reader A
optional_by k a m = ask (λ t. eqb k t.kind) (the_by k >> m) (give a)

-- a closing sign behind a leaf
abbrev pub ending : Tree → Reader Tree
ending e = the ")" >> give e

-- the date in a string token
abbrev pub date_in : Token → ℕ
date_in t = date (content t)
