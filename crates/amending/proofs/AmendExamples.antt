-- Amending, computed: a run of calls, the grounds, what 18 is for, and an instance of the law.
use mathlib.Core.Path.{◌≡◌, refl}
use mathlib.Core.List.{List, [], ◌∷◌, ◌++◌}
use Prim.Native.Nat.{ℕ, zero, suc}
use Prim.Native.String.{String}
use lib.ListN.{length, take, drop}
use lib.Dec.{T}
use Rattle.tokens.specs.Text.{bytes}
use Rattle.tokens.specs.Names.{Lists}
use Rattle.grammar.specs.Grammar.{one, two}
use Rattle.grammar.specs.Trees.{node, fields, nil}
use Rattle.grammar.specs.Script.{Entry, Outcome, accepted, refused, read_script}
use Rattle.grammar.specs.Words.{Row}
use Rattle.grammar.specs.Computing.{computing}
use Rattle.amending.specs.Amend.{ends_well, replaced, amended_list}
use Rattle.amending.specs.Amending.{State, Rooms, Answer, done, refusal, pick, over, fitting, put, amend_at, amend, after}
use Rattle.amending.specs.Entries.{rows_from}
use Rattle.amending.specs.Memory.{memory, within, amend_in, answered}
use Rattle.amending.specs.declared.held.Held.{Held}
use Rattle.amending.specs.Lent.{Lent, over_rows, ascending, in_order, swapped, Handed, handed, unchanged, fitting_lent, put_lent, lent_at, amend_lent}

usd : Lists
usd = record { reserved = []; currencies = bytes "USD\nEUR\n"; counters = [] }

rooms : Rooms
rooms = record { bytes = 40; tokens = 20; records = 30; statements = 4 }

list : Outcome → List Entry
list (accepted es) = es
list (refused n p) = []

state : String → State
state s = record { script = bytes s; entries = list (read_script one usd (bytes s)) }

number : Answer → ℕ
number (done st) = 0
number (refusal f p) = f

-- the state after some calls is that of the script that they leave, read anew
calls : after one usd rooms (state "a = 1;\nb = 2; pays 3;") (
    (1, bytes "x = 4;\ny = 5;\n")
    ∷ (4, bytes "a;")
    ∷ (0, bytes "pays 1")
    ∷ (2, [])
    ∷ (0, bytes "if a { } # ")
    ∷ (0, bytes "a = 1; a = 1; a = 1;")
    ∷ (2, bytes "pays 4 in \"EUR\";")
    ∷ []
    ) ≡ state "a = 1;\nx = 4;\n\n pays 4 in \"EUR\";"
unfolding computing usd rooms list state amend amend_at put fitting over pick ends_well
calls = refl

-- so too in edition two, where a line break after a name does not matter
state_two : String → State
state_two s = record { script = bytes s; entries = list (read_script two usd (bytes s)) }

calls_two : after two usd rooms (state_two "a\n= 1;\nb = -2**2;") (
    (1, bytes "x = 2**3**-4;\n")
    ∷ (0, bytes "y\n= 1")
    ∷ (0, bytes "y\npays a or b and c;")
    ∷ []
    ) ≡ state_two "y\npays a or b and c;\nx = 2**3**-4;\n"
unfolding computing usd rooms list state_two amend amend_at put fitting over pick ends_well
calls_two = refl

-- the numbers that calls can return
grounds : (number (amend one usd rooms (state "a = 1;") 1 (bytes "a;")) ≡ 17) × (number (amend one usd rooms (state "a = 1;") 0 (0 ∷ [])) ≡ 19) × (number (amend one usd rooms (state "a = 1;") 0 (bytes "a")) ≡ 8)
    × (number (amend one usd rooms (state "a = 1;") 0 (bytes "pays 1")) ≡ 18) × (number (amend one usd rooms (state "a = 1;") 0 (bytes "a; ")) ≡ 18)
    × (number (amend one usd rooms (state "a = 1;") 0 (bytes "a;a;a;a;a;")) ≡ 16) × (number (amend one usd rooms (state "a = 1;") 0 (bytes "")) ≡ 0)
unfolding computing usd rooms list state number amend amend_at put fitting over pick ends_well
grounds = (refl, refl, refl, refl, refl, refl, refl)

-- without 18 a comment would swallow what stands behind, and pays would read on
first_of : String → Entry
first_of s = go (list (read_script one usd (bytes s)))
  where
    go : List Entry → Entry
    go [] = record { start = 0; end = 0; tree = node 0 0 [] (fields 0 0 0 0) nil; tokens = 0 }
    go (e ∷ es) = e

needed : (length (list (read_script one usd (bytes "x = 1; # c"))) ≡ 1) × (length (list (read_script one usd (bytes "a = 1; b = 2;"))) ≡ 2)
    × (length (list (read_script one usd (replaced (bytes "a = 1; b = 2;") (first_of "a = 1; b = 2;") (bytes "x = 1; # c")))) ≡ 1)
    × (length (list (read_script one usd (bytes "pays 1"))) ≡ 1) × (read_script one usd (replaced (bytes "a = 1; b = 2;") (first_of "a = 1; b = 2;") (bytes "pays 1")) ≡ refused 8 9)
unfolding computing usd list first_of
needed = (refl, refl, refl, refl, refl)

-- ---- how the halves of 18 join, and that it comes before 16

-- the number that a call on the first statement of `a = 1;` returns
answer : String → ℕ
answer n = number (amend one usd rooms (state "a = 1;") 0 (bytes n))

halves : (answer " " ≡ 18) × (answer "\n" ≡ 0) × (answer "# c\n" ≡ 0) × (answer "# c" ≡ 18) × (answer "x=1; " ≡ 18) × (answer "x=1;\n " ≡ 18) × (answer "x=1;\n" ≡ 0)
    × (answer "pays 1\n" ≡ 18) × (answer "pays 1 on \"2020-01-01\"" ≡ 18) × (answer "a;a;a;a;a; " ≡ 18)
unfolding computing usd rooms list state number answer amend amend_at put fitting over pick ends_well
halves = (refl, refl, refl, refl, refl, refl, refl, refl, refl, refl)

-- ---- lent words: 20 is weaker than to be left by a reading

row : ℕ → ℕ → ℕ → ℕ → Row
row s e r t = record { start = s; end = e; records = r; tokens = t; latest = 0 }

-- the script `x;` and the words of a record, with any directory and count of tokens
lent : List Row → List ℕ → ℕ → Lent
lent rs ws t = record { script = bytes "x;"; rows = rs; words = ws; tokens = t; latest = 0 }

-- the words of its record
of_x : List ℕ
of_x = 1 ∷ 1 ∷ 0 ∷ 0 ∷ 1 ∷ 0 ∷ 0 ∷ 0 ∷ []

-- the number of a call on the first statement, and the bytes that it leaves
handed_of : Lent → Handed → ℕ × List ℕ
handed_of L (handed L') = (0, L'.script)
handed_of L (unchanged f p) = (f, L.script)

call : Lent → ℕ × List ℕ
call L = handed_of L (amend_lent one usd rooms L 0 (bytes "y;"))

-- an entry that is too short is in order, and what stands behind it stays; an empty one, one over another, one past the script, one without
-- a token or a record, and sums that are not the counts are not; to have no entries is in order, and any number is then 17
orders : (call (lent (row 0 2 1 2 ∷ []) of_x 2) ≡ (0, bytes "y;")) × (call (lent (row 0 1 1 2 ∷ []) of_x 2) ≡ (0, bytes "y;;"))
    × (call (lent (row 0 1 1 1 ∷ row 1 2 1 1 ∷ []) (of_x ++ of_x) 2) ≡ (0, bytes "y;;"))
    × (call (lent (row 1 1 1 2 ∷ []) of_x 2) ≡ (20, bytes "x;")) × (call (lent (row 0 2 1 1 ∷ row 1 2 1 1 ∷ []) (of_x ++ of_x) 2) ≡ (20, bytes "x;"))
    × (call (lent (row 0 3 1 2 ∷ []) of_x 2) ≡ (20, bytes "x;")) × (call (lent (row 0 1 1 2 ∷ row 1 2 1 0 ∷ []) (of_x ++ of_x) 2) ≡ (20, bytes "x;"))
    × (call (lent (row 0 1 2 1 ∷ row 1 2 0 1 ∷ []) (of_x ++ of_x) 2) ≡ (20, bytes "x;")) × (call (lent (row 0 2 1 2 ∷ []) of_x 3) ≡ (20, bytes "x;"))
    × (call (lent (row 0 2 1 2 ∷ []) [] 2) ≡ (20, bytes "x;")) × (call (lent [] of_x 0) ≡ (20, bytes "x;")) × (call (lent [] [] 0) ≡ (17, bytes "x;"))
unfolding computing usd rooms row lent of_x handed_of call amend_lent lent_at put_lent fitting_lent swapped in_order ascending over_rows pick ends_well
orders = (refl, refl, refl, refl, refl, refl, refl, refl, refl, refl, refl, refl)

-- ---- the latest date

-- the same entries with dates, in the words of a script of that latest date; two statements
dated : ℕ → ℕ → ℕ → Lent
dated a b x = record {
  script = bytes "x;";
  rows = record { start = 0; end = 1; records = 1; tokens = 1; latest = a } ∷ record { start = 1; end = 2; records = 1; tokens = 1; latest = b } ∷ [];
  words = of_x ++ of_x;
  tokens = 2;
  latest = x;
}

-- the number of a call on the first statement, and the latest date then
latest_of : ℕ → Lent → String → ℕ × ℕ
latest_of k L n = go (amend_lent one usd rooms L k (bytes n))
  where
    go : Handed → ℕ × ℕ
    go (handed L') = (0, L'.latest)
    go (unchanged f p) = (f, L.latest)

-- 20 where the script's is not the greatest of the entries', without entries where it is not 0; else it is the greatest of those that are there then:
-- the one that goes takes its own along, one that stays keeps it, and that of the new text is its own
latest : (latest_of 0 (dated 5 3 5) "y;" ≡ (0, 3)) × (latest_of 1 (dated 5 3 5) "y;" ≡ (0, 5)) × (latest_of 0 (dated 5 5 5) "y;" ≡ (0, 5)) × (latest_of 0 (dated 0 0 0) "y;" ≡ (0, 0))
    × (latest_of 0 (dated 5 3 5) "Df(\"0001-01-04\");" ≡ (0, 4)) × (latest_of 1 (dated 5 3 5) "Df(\"0001-01-04\");" ≡ (0, 5)) × (latest_of 0 (dated 5 3 5) "" ≡ (0, 3))
    × (latest_of 0 (dated 5 3 4) "y;" ≡ (20, 4)) × (latest_of 0 (dated 5 3 6) "y;" ≡ (20, 6)) × (latest_of 0 (dated 3 5 3) "y;" ≡ (20, 3)) × (latest_of 7 (dated 5 3 0) "" ≡ (20, 0))
    × (latest_of 0 (record { script = []; rows = []; words = []; tokens = 0; latest = 1 }) "y;" ≡ (20, 1))
unfolding computing usd rooms of_x dated latest_of amend_lent lent_at put_lent fitting_lent swapped in_order ascending over_rows pick ends_well
latest = (refl, refl, refl, refl, refl, refl, refl, refl, refl, refl, refl, refl)

-- ---- the place of a refusal

-- number, byte, line and column of a call that puts a text in the place of the k-th statement of `x;`, lent with the edition e
placed_in : ℕ → ℕ → List ℕ → List ℕ
placed_in e k n =
    let h : Held = record { bytes = 2; statements = 1; records = 1; tokens = 2; latest = 0; edition = e } in
    let a = answered h n (amend_in usd (memory (bytes "x;") of_x (0 ∷ 2 ∷ 1 ∷ 2 ∷ 0 ∷ [])) h k n) in
    a.number ∷ a.byte ∷ a.line ∷ a.column ∷ []

placed : List ℕ → List ℕ
placed n = placed_in 1 0 n

-- it is a place in the text, and columns count its characters: `"éè"$`; `#é`, a line feed, `"è"; `
places : (placed (34 ∷ 0xC3 ∷ 0xA9 ∷ 0xC3 ∷ 0xA8 ∷ 34 ∷ 36 ∷ []) ≡ 3 ∷ 6 ∷ 1 ∷ 5 ∷ []) × (placed (35 ∷ 0xC3 ∷ 0xA9 ∷ 10 ∷ 34 ∷ 0xC3 ∷ 0xA8 ∷ 34 ∷ 59 ∷ 32 ∷ []) ≡ 18 ∷ 10 ∷ 2 ∷ 6 ∷ [])
unfolding computing usd of_x placed_in placed ends_well pick over_rows ascending in_order swapped fitting_lent put_lent lent_at amend_lent rows_from within amend_in
places = (refl, refl)

-- ---- the edition

-- an edition that is neither 1 nor 2 is 26 at byte 0, before 17, before 19 and where a text could be read; the new text is read in the edition that was lent:
-- what the first refuses at the `=`, the second refuses only since there is no room for it
editions : (placed_in 0 0 (bytes "y;") ≡ 26 ∷ 0 ∷ 1 ∷ 1 ∷ []) × (placed_in 3 7 (bytes "y;") ≡ 26 ∷ 0 ∷ 1 ∷ 1 ∷ []) × (placed_in 4 0 (0 ∷ []) ≡ 26 ∷ 0 ∷ 1 ∷ 1 ∷ [])
    × (placed_in 1 0 (bytes "y\n= 1;") ≡ 8 ∷ 2 ∷ 2 ∷ 1 ∷ []) × (placed_in 2 0 (bytes "y\n= 1;") ≡ 16 ∷ 6 ∷ 2 ∷ 5 ∷ []) × (placed_in 2 0 (bytes "y;") ≡ 0 ∷ 0 ∷ 1 ∷ 1 ∷ [])
unfolding computing usd of_x placed_in ends_well pick over_rows ascending in_order swapped fitting_lent put_lent lent_at amend_lent rows_from within amend_in
editions = (refl, refl, refl, refl, refl, refl)

-- ---- an instance of the law

script : List ℕ
script = bytes "x = 1; pays 2 on \"2024-02-29\"\n y = 2; # c\nif a { z = 3; }"

new : List ℕ
new = bytes "# n\na = 4;\nif b { } \n"

at : List Entry → ℕ → Entry
at [] n = record { start = 0; end = 0; tree = node 0 0 [] (fields 0 0 0 0) nil; tokens = 0 }
at (e ∷ es) zero = e
at (e ∷ es) (suc n) = at es n

-- the third statement, y = 2;, is replaced
instance : read_script one usd (replaced script (at (list (read_script one usd script)) 2) new)
    ≡ accepted (amended_list (take 2 (list (read_script one usd script))) (at (list (read_script one usd script)) 2) (drop 3 (list (read_script one usd script))) (length new) (list (read_script one usd new)))
unfolding computing usd script new at list
instance = refl

well : T (ends_well new)
unfolding computing ends_well new
well = tt
